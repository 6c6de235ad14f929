-- What one read gives.
use Rattle.std.proofs.Common.{◌≡◌, ⊎_elim, ℕ, List, Bool, true, Option, Some, None, Result, Ok, Err, refl, sym}
use Rattle.std.proofs.Common.{◌∙◌, ap, subst, arith}
use Rattle.std.specs.Prelude.{◌||◌, ◌&&◌, ◌==◌}
use Rattle.std.proofs.lemmas.Bool.Decides.{nat_tests}
use Rattle.bank_trait.specs.declared.Failed.{Failed}
use Rattle.bank_trait.specs.Disk.{Disk, Unchanged}
use Rattle.bank_trait.proofs.Moments.{later_refl}
use Rattle.uberblock_ring.specs.Devices.{has_device}
use Rattle.core_state.specs.Committing.{Point, Called}
use Rattle.core_state.specs.declared.spot.Spot.{Spot}
use Rattle.core_state.specs.Outs.{OnlyFailedGoOut}
use Rattle.core_state.specs.SpotReads.{IsGot, HasGiven, IsRead, IsPassedOrRead}
use Rattle.core_state.proofs.Outs.{outs_none, outs_called}

pub unchanged_none : (disk : Disk) → Unchanged disk disk
unchanged_none disk = record {
  goes_on = record { later = later_refl disk; present = λ t after upto d x. absurd (omega (arith, after, upto)) };
  clock = refl;
  reads = λ d x. refl;
}

-- What a step of reading gave.
given_is : (spot : Spot) (given : Option (List ℕ)) (result : Result (Unit {0}) Failed) (before after : Point)
    → HasGiven before.disk.reads spot result given → Called spot.device result before after
    → IsGot before.disk.reads before.out after.out spot given
given_is spot (Some bytes) (Ok done) before after gave called = (called.in_use, gave)
given_is spot None (Ok done) before after gave called = absurd gave
given_is spot (Some bytes) (Err why) before after gave called = absurd gave
given_is spot None (Err why) before after gave called =
    let test : (spot.device == spot.device) ≡ true = grind (arith, nat_tests) in
    called.out spot.device ∙ ap (λ (b : Bool). has_device before.out spot.device || (b && true)) test
    ∙ ap (λ (b : Bool). b || true) called.in_use

pub got_by_step : (spot : Spot) (given : Option (List ℕ)) (before after : Point) → IsPassedOrRead spot given before after
    → IsGot before.disk.reads before.out after.out spot given
got_by_step spot given before after step = ⊎_elim
    (λ (passed : (has_device before.out spot.device ≡ true) × (given ≡ None) × (after ≡ before)).
    let same : has_device after.out spot.device ≡ true = ap (λ (p : Point). has_device p.out spot.device) passed.2 ∙ passed.0 in
    subst (IsGot before.disk.reads before.out after.out spot) (sym passed.1) same)
    (λ (read : IsRead spot given before after). given_is spot given read.result before after read.gave read.called)
    step

pub unchanged_by_step : (spot : Spot) (given : Option (List ℕ)) (before after : Point) → IsPassedOrRead spot given before after
    → Unchanged before.disk after.disk
unchanged_by_step spot given before after step = ⊎_elim
    (λ (passed : (has_device before.out spot.device ≡ true) × (given ≡ None) × (after ≡ before)).
    subst (λ (p : Point). Unchanged before.disk p.disk) (sym passed.2) (unchanged_none before.disk))
    (λ (read : IsRead spot given before after). read.unchanged)
    step

pub outs_by_step : (spot : Spot) (given : Option (List ℕ)) (before after : Point) → IsPassedOrRead spot given before after
    → OnlyFailedGoOut before after
outs_by_step spot given before after step = ⊎_elim
    (λ (passed : (has_device before.out spot.device ≡ true) × (given ≡ None) × (after ≡ before)).
    subst (λ (p : Point). OnlyFailedGoOut before p) (sym passed.2) (outs_none before))
    (λ (read : IsRead spot given before after). outs_called spot.device read.result before after read.called read.failed)
    step
