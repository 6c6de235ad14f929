-- Worked rows of encoding and of suspects.
use Rattle.std.proofs.Common.{◌≡◌, ◌<◌, ℕ, zero, suc, [], ◌∷◌, ◌++◌, true, refl, arith, inl, inr}
use Rattle.std.specs.Prelude.{replicate}
use Rattle.row_layout.specs.Layout.{Layout, columns_in}
use Rattle.gf_parity.specs.Parity.{p_of, parity_column}
use Rattle.width_map.specs.Births.{first_births, births_after}
use Rattle.reconstruct.specs.Columns.{content_sector, column_bytes}
use Rattle.reconstruct.specs.declared.pair.Pair.{Pair}
use Rattle.reconstruct.specs.Suspects.{suspects_of, is_suspect, choice_reach, IsTriedBefore}
use Rattle.reconstruct.specs.Solved.{Columns, is_lost, IsPassedOver}
use Rattle.gf_solve.specs.Row.{count_lost}

-- three bytes at sector 0, parity 1, width 3: one row, parity then content, both the bytes and zeros
abc : Layout
abc = record { start = 0; sectors = 1; parity = 1; width = 3 }

content_of_abc : column_bytes abc (0x61 ∷ 0x62 ∷ 0x63 ∷ []) 0 1 ≡ (0x61 ∷ 0x62 ∷ 0x63 ∷ []) ++ replicate 509 0
unfolding abc column_bytes content_sector
content_of_abc = refl

parity_of_abc : column_bytes abc (0x61 ∷ 0x62 ∷ 0x63 ∷ []) 0 0 ≡ (0x61 ∷ 0x62 ∷ 0x63 ∷ []) ++ replicate 509 0
unfolding abc column_bytes content_sector parity_column p_of
parity_of_abc = refl

-- a pair of this width and device, and of none narrower
pair : ℕ → ℕ → Pair
pair width device = record { width = width; device = device; mark = 18446744073709551615 }

-- from 3 devices to 4, the mark at 167: those of 4 first, one narrower above the mark, then those of 3
suspects_while_widened : suspects_of (first_births 3) 4 167 ≡
    record { width = 4; device = 0; mark = 167 } ∷ record { width = 4; device = 1; mark = 167 }
    ∷ record { width = 4; device = 2; mark = 167 } ∷ record { width = 4; device = 3; mark = 167 }
    ∷ pair 3 0 ∷ pair 3 1 ∷ pair 3 2 ∷ []
unfolding pair
suspects_while_widened = refl

-- with 4 devices at rest, 3 before
suspects_at_rest : suspects_of (births_after (first_births 3) 9) 4 0
    ≡ pair 4 0 ∷ pair 4 1 ∷ pair 4 2 ∷ pair 4 3 ∷ pair 3 0 ∷ pair 3 1 ∷ pair 3 2 ∷ []
unfolding pair
suspects_at_rest = refl

-- Sector 166 stood on device 2 of 4 where its row ended at 167, and on device 1 of 3 where it ended behind.
read_at_new_place : is_suspect 167 166 (record { width = 4; device = 2; mark = 167 }) ≡ true
read_at_new_place = refl

read_at_old_place : is_suspect 168 166 (record { width = 4; device = 1; mark = 167 }) ≡ true
read_at_old_place = refl

-- Of 200 suspects a choice takes one from all, two from the first 136, three from the first 31.
reaches : (choice_reach 200 1 ≡ 200) × (choice_reach 200 2 ≡ 136) × (choice_reach 200 3 ≡ 31)
reaches = (refl, refl, refl)

-- The empty choice comes first, a pair after each single one, and pairs by their first place.
empty_first : IsTriedBefore [] (0 ∷ [])
empty_first = inl (omega arith)

single_before_pair : IsTriedBefore (6 ∷ []) (0 ∷ 1 ∷ [])
single_before_pair = inl (omega arith)

pair_by_first : IsTriedBefore (0 ∷ 6 ∷ []) (1 ∷ 2 ∷ [])
pair_by_first = inr (refl, inl (omega arith))

-- five sectors at sector 10, parity 1, width 4: columns 1 and 2 of row 0 lost are one too many
five : Layout
five = record { start = 10; sectors = 5; parity = 1; width = 4 }

two_lost : Columns
two_lost = record { read = λ row column. []; lost = λ row. 6 }

too_few : IsPassedOver five (is_lost five two_lost [] [])
unfolding five two_lost
too_few = record { row = 0; row_in = omega arith; many = omega arith }

-- Column 2 of both rows lost leaves enough.
one_lost : Columns
one_lost = record { read = λ row column. []; lost = λ row. 4 }

enough : IsPassedOver five (is_lost five one_lost [] []) → ⊥
unfolding five one_lost
enough over = few over.row over.row_in over.many
  where
    few : (row : ℕ) → row < 2 → 1 < count_lost (is_lost five one_lost [] [] row) 0 (columns_in five row) → ⊥
    few zero low many = omega (arith, many)
    few (suc zero) low many = omega (arith, many)
    few (suc (suc row)) low many = omega (arith, low)
