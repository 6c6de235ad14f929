-- Worked rows of uberblocks.
use Rattle.std.proofs.Common.{◌≡◌, ℕ, true, false, List, [], ◌∷◌, zero, suc, refl, sym, ap, ◌∙◌, arith, inl, inr}
use Rattle.std.specs.Prelude.{Contains}
use Rattle.uberblock_ring.proofs.Digest.{sha256_is_digest}
use Rattle.uberblock_ring.specs.Devices.{has_device, count_below}
use Rattle.uberblock_ring.specs.Uberblock.{Uber, first_uber, slot_of, area_sector}
use Rattle.uberblock_ring.specs.Valid.{IsRightUber}
use Rattle.uberblock_ring.specs.Choice.{Shown, IsAtLeast, IsChoice}

-- pool 9, parity 1, width 3, 64 data rows, group 1: a new pool's uberblock is right
first_of_pool_9 : IsRightUber (first_uber 9 1 3 64)
first_of_pool_9 = record {
  pool = omega arith;
  group = (omega arith, omega arith);
  parity = (omega arith, omega arith);
  widths = (omega arith, omega arith);
  rows = (omega arith, omega arith);
  reflow = inl (refl, refl, refl);
  area = omega arith;
  out = (omega arith, omega arith);
  count = omega arith;
  digest = sha256_is_digest [];
  births = record { growing = (refl, tt); few = omega arith; wide = omega arith; last = refl; begun = (omega arith, tt) };
}

-- groups 1, 4 and 36 have slots 1, 4 and 4
slots : (slot_of 1 ≡ 1) × (slot_of 4 ≡ 4) × (slot_of 36 ≡ 4)
slots = (refl, refl, refl)

areas : (area_sector 0 ≡ 64) × (area_sector 1 ≡ 128)
areas = (refl, refl)

-- devices 0, 2 and 3 as a set
set_of_three : (has_device 13 0 ≡ true) × (has_device 13 1 ≡ false) × (has_device 13 3 ≡ true) × (count_below 13 4 ≡ 3)
set_of_three = (refl, refl, refl, refl)

-- The greater group goes first on whatever device, and of one group the lower device.
greater_group_first : (older newer : Shown) → older.uber.group ≡ 3 → newer.uber.group ≡ 4 → IsAtLeast newer older
greater_group_first older newer three four = inl (omega (arith, three, four))

-- A commit that was stopped after its first uberblock: device 0 shows group 4, the others group 3 still.
torn : (three four : Uber) → List Shown
torn three four = record { device = 0; uber = four; whole = true } ∷ record { device = 1; uber = three; whole = true }
    ∷ record { device = 2; uber = three; whole = true } ∷ record { device = 3; uber = three; whole = true } ∷ []

-- Where all answer, group 4 is chosen,
chosen_of_torn : (three four : Uber) → three.group ≡ 3 → four.group ≡ 4
    → IsChoice (torn three four) (record { device = 0; uber = four; whole = true })
unfolding torn
chosen_of_torn three four old new = record { listed = (0, omega arith, refl); whole = refl; first = λ other listed whole. first other listed }
  where
    group_of : (shown : Shown) (uber : Uber) (device n : ℕ) → record { device = device; uber = uber; whole = true } ≡ shown → uber.group ≡ n → shown.uber.group ≡ n
    group_of shown uber device n same is = sym (ap (λ (s : Shown). s.uber.group) same) ∙ is

    first : (other : Shown) → Contains (torn three four) other → IsAtLeast (record { device = 0; uber = four; whole = true }) other
    first other (zero, low, is) = inr (new ∙ sym (group_of other four 0 4 is new), omega arith)
    first other (suc zero, low, is) = inl (omega (arith, new, group_of other three 1 3 is old))
    first other (suc (suc zero), low, is) = inl (omega (arith, new, group_of other three 2 3 is old))
    first other (suc (suc (suc zero)), low, is) = inl (omega (arith, new, group_of other three 3 3 is old))
    first other (suc (suc (suc (suc k))), low, is) = absurd (omega (arith, low))

-- and where device 0 fails, group 3 on device 1.
torn_without_0 : (three : Uber) → List Shown
torn_without_0 three = record { device = 1; uber = three; whole = true } ∷ record { device = 2; uber = three; whole = true }
    ∷ record { device = 3; uber = three; whole = true } ∷ []

chosen_without_0 : (three : Uber) → IsChoice (torn_without_0 three) (record { device = 1; uber = three; whole = true })
unfolding torn_without_0
chosen_without_0 three = record { listed = (0, omega arith, refl); whole = refl; first = λ other listed whole. first other listed }
  where
    same_group : (shown : Shown) (device : ℕ) → record { device = device; uber = three; whole = true } ≡ shown
        → (three.group ≡ shown.uber.group) × (device ≡ shown.device)
    same_group shown device same = (ap (λ (s : Shown). s.uber.group) same, ap (λ (s : Shown). s.device) same)

    first : (other : Shown) → Contains (torn_without_0 three) other → IsAtLeast (record { device = 1; uber = three; whole = true }) other
    first other (zero, low, is) = let same = same_group other 1 is in inr (same.0, omega (arith, same.1))
    first other (suc zero, low, is) = let same = same_group other 2 is in inr (same.0, omega (arith, same.1))
    first other (suc (suc zero), low, is) = let same = same_group other 3 is in inr (same.0, omega (arith, same.1))
    first other (suc (suc (suc k)), low, is) = absurd (omega (arith, low))
