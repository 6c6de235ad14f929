-- What two sets of places have together.
use Rattle.std.proofs.Common.{◌≡◌, ◌≢◌, ⊎_elim, inl, inr, ℕ, true, arith}
use Rattle.std.specs.Prelude.{◌⊎◌, ◌↔◌, bit_or}
use Rattle.std.specs.Int.{bit_at}
use Rattle.std.proofs.lemmas.Bool.{cases_eq}
use Rattle.std.proofs.lemmas.Nat.Bits.{bit_at-lt, bit_at_or}
use Rattle.uberblock_ring.specs.Devices.{has_device}
use Rattle.uberblock_ring.proofs.DeviceSets.{bit_has, has_bit}

-- The places of the one and of the other.
pub in_both : (one other place : ℕ) → has_device (bit_or one other) place ≡ true
    ↔ ((has_device one place ≡ true) ⊎ (has_device other place ≡ true))
in_both one other place = (
  (λ has. ⊎_elim
      (λ (is : bit_at one place ≡ 1). inl (bit_has one place is))
      (λ (is_not : bit_at one place ≢ 1). inr (bit_has other place (omega (
        arith,
        is_not,
        bit_at_or one other place,
        has_bit (bit_or one other) place has,
        bit_at-lt one place,
        bit_at-lt other place,
      ))))
      (cases_eq (bit_at one place) 1)),
  (λ has. ⊎_elim
      (λ (is : has_device one place ≡ true).
      bit_has (bit_or one other) place (omega (arith, bit_at_or one other place, has_bit one place is, bit_at-lt other place)))
      (λ (is : has_device other place ≡ true).
      bit_has (bit_or one other) place (omega (arith, bit_at_or one other place, has_bit other place is, bit_at-lt one place)))
      has),
)
