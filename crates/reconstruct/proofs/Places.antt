-- Places in a list of rows.
use Rattle.std.proofs.Common.{◌≡◌, ◌≢◌, ◌⊎◌, ℕ, ◌+◌, ◌*◌, ◌<◌, List, [], ◌++◌, length, sym, ◌∙◌, ap, arith, ⊎_elim}
use Rattle.std.specs.Prelude.{slice_index_or}
use Rattle.std.proofs.lemmas.Nat.{mul-add-lt, same_from_place}
use Rattle.std.proofs.lemmas.List.{get_or_append_left, get_or-append-add}
use Rattle.std.proofs.Math.Nat.{mul_comm}

-- A place of a row is below the number of all places.
pub place_below : (rows cols row column : ℕ) → row < rows → column < cols → row * cols + column < rows * cols
place_below rows cols row column row_in column_in =
    omega (arith, mul-add-lt row cols column rows row_in column_in, mul_comm cols rows)

-- Another row or column is another place.
pub places_differ : (cols row column other_row other : ℕ) → column < cols → other < cols → (other_row ≢ row) ⊎ (other ≢ column)
    → other_row * cols + other ≢ row * cols + column
places_differ cols row column other_row other column_in other_in either same =
    let both = same_from_place other_row other row column cols other_in column_in same in
    ⊎_elim (λ differs. differs both.0) (λ differs. differs both.1) either

-- What stands in a part between two others.
pub in_part : (before part after : List (List ℕ)) (first at : ℕ) → length before ≡ first → at < length part
    → slice_index_or (before ++ (part ++ after)) (first + at) [] ≡ slice_index_or part at []
in_part before part after first at long low =
    let place : first + at ≡ length before + at = omega (arith, long) in
    ap (λ (k : ℕ). slice_index_or (before ++ (part ++ after)) k []) place ∙ get_or-append-add before (part ++ after) at []
    ∙ get_or_append_left part after [] at low

-- What stands before a part doesn't change with it.
pub before_part : (old before part rest : List (List ℕ)) (at : ℕ) → old ≡ before ++ rest → at < length before
    → slice_index_or (before ++ part) at [] ≡ slice_index_or old at []
before_part old before part rest at is low =
    get_or_append_left before part [] at low ∙ sym (get_or_append_left before rest [] at low) ∙ ap (λ (k : List (List ℕ)). slice_index_or k at []) (sym is)
