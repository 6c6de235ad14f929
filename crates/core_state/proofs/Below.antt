-- The devices out stay below a width, call by call.
use Rattle.std.proofs.Common.{◌≡◌, ⊎_elim, ℕ, ◌^◌, ◌<◌, true, false, Option, None, List, Result, Ok, Err, refl, sym}
use Rattle.std.proofs.Common.{◌∙◌, subst, arith}
use Rattle.std.specs.Int.{bit_at}
use Rattle.std.proofs.lemmas.Bool.{cases_Bool}
use Rattle.std.proofs.lemmas.Bool.Decides.{nat_tests}
use Rattle.std.proofs.lemmas.Nat.Bits.{bit_at-lt, same_from_bits}
use Rattle.bank_trait.specs.declared.Failed.{Failed}
use Rattle.uberblock_ring.specs.Devices.{has_device, with_device}
use Rattle.uberblock_ring.proofs.DeviceSets.{has_bit, with_below}
use Rattle.core_state.specs.Committing.{Point, Called}
use Rattle.core_state.specs.declared.spot.Spot.{Spot}
use Rattle.core_state.specs.SpotReads.{IsRead, IsPassedOrRead}
use Rattle.core_state.proofs.Outs.{none_lost, one_lost}

no_bit : (devices device : ℕ) → has_device devices device ≡ false → bit_at devices device ≡ 0
no_bit devices device none =
    let low : bit_at devices device < 2 = bit_at-lt devices device in grind (arith, nat_tests, low, none)

-- Sets that have the same devices are one.
same_set : (devices others : ℕ) → ((device : ℕ) → has_device devices device ≡ has_device others device) → devices ≡ others
same_set devices others same = same_from_bits devices others (λ device. ⊎_elim
    (λ (has : has_device devices device ≡ true).
    has_bit devices device has ∙ sym (has_bit others device (sym (same device) ∙ has)))
    (λ (none : has_device devices device ≡ false).
    no_bit devices device none ∙ sym (no_bit others device (sym (same device) ∙ none)))
    (cases_Bool (has_device devices device)))

-- A call on a device below the width puts none out that isn't.
pub below_by_call : (device : ℕ) (result : Result (Unit {0}) Failed) (before after : Point) (width : ℕ) → Called device result before after
    → device < width → before.out < 2 ^ width → after.out < 2 ^ width
below_by_call device (Ok value) before after width called inside below =
    let same : after.out ≡ before.out =
    same_set after.out before.out (λ other. called.out other ∙ sym (none_lost device (Ok value) refl before.out other)) in
    subst (λ (out : ℕ). out < 2 ^ width) (sym same) below
below_by_call device (Err why) before after width called inside below =
    let same : after.out ≡ with_device before.out device =
    same_set after.out (with_device before.out device)
    (λ other. called.out other ∙ sym (one_lost device (Err why) refl before.out other)) in
    subst (λ (out : ℕ). out < 2 ^ width) (sym same) (with_below before.out device width below inside)

pub below_by_read : (spot : Spot) (given : Option (List ℕ)) (before after : Point) (width : ℕ) → IsPassedOrRead spot given before after
    → spot.device < width → before.out < 2 ^ width → after.out < 2 ^ width
below_by_read spot given before after width step inside below = ⊎_elim
    (λ (passed : (has_device before.out spot.device ≡ true) × (given ≡ None) × (after ≡ before)).
    subst (λ (p : Point). p.out < 2 ^ width) (sym passed.2) below)
    (λ (read : IsRead spot given before after). below_by_call spot.device read.result before after width read.called inside below)
    step
