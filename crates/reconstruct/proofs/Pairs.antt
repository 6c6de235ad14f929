-- The list of all suspects, width by width.
use Rattle.std.proofs.Common.{◌≡◌, ℕ, zero, suc, ◌+◌, ◌-◌, ◌<◌, List, [], ◌∷◌, ◌++◌, All, length, get_or}
use Rattle.std.proofs.Common.{refl, sym, ◌∙◌, ap, arith}
use Rattle.std.proofs.lemmas.List.{append_assoc}
use Rattle.std.proofs.lemmas.List.Elements.{All-append, All-nil, All-cons}
use Rattle.width_map.specs.declared.birth.Birth.{Birth}
use Rattle.width_map.specs.Births.{first_width, last_width_from, last_width}
use Rattle.reconstruct.specs.declared.pair.Pair.{Pair}
use Rattle.reconstruct.specs.Suspects.{mark_for, pairs_of_width, pairs_down, suspects_of, AreInside}

-- The last birth's width is the last one.
last_from : (width : ℕ) (entry : Birth) (births : List Birth) (unused : Birth)
    → (get_or (entry ∷ births) (length births) unused).width ≡ last_width_from width (entry ∷ births)
last_from width entry [] unused = refl
last_from width entry (next ∷ births) unused = last_from entry.width next births unused

pub last_of : (births : List Birth) (unused : Birth) → 0 < length births
    → (get_or births (length births - 1) unused).width ≡ last_width births
last_of [] unused some = absurd (omega (arith, some))
last_of (entry ∷ births) unused some =
    let place : length (entry ∷ births) - 1 ≡ length births = omega arith in
    ap (λ (k : ℕ). (get_or (entry ∷ births) k unused).width) place ∙ last_from 0 entry births unused

-- The pairs of one width more stand before those of narrower ones.
pub one_width_more : (mark_of : ℕ → ℕ) (lowest width : ℕ) (pairs new all : List Pair) → lowest < width
    → pairs ++ pairs_down mark_of lowest (width - lowest) ≡ all
    → new ≡ pairs ++ pairs_of_width (mark_of (width - 1 + 1)) (width - 1 + 1) (width - 1 + 1)
    → new ++ pairs_down mark_of lowest (width - 1 - lowest) ≡ all
one_width_more mark_of lowest width pairs new all wider so_far new_is =
    let down : width - lowest ≡ suc (width - 1 - lowest) = omega (arith, wider) in
    let here : width - 1 + 1 ≡ lowest + suc (width - 1 - lowest) = omega (arith, wider) in
    let wide : ℕ = lowest + suc (width - 1 - lowest) in
    ap (λ (k : List Pair). k ++ pairs_down mark_of lowest (width - 1 - lowest))
    (new_is ∙ ap (λ (k : ℕ). pairs ++ pairs_of_width (mark_of k) k k) here)
    ∙ append_assoc pairs (pairs_of_width (mark_of wide) wide wide) (pairs_down mark_of lowest (width - 1 - lowest))
    ∙ ap (λ (k : ℕ). pairs ++ pairs_down mark_of lowest k) (sym down) ∙ so_far

-- the device is one of the width's
abbrev pub IsInside : Pair → Type 0
IsInside pair = pair.device < pair.width

inside_width : (mark width devices : ℕ) → devices < width + 1 → All IsInside (pairs_of_width mark width devices)
inside_width mark width zero few = All-nil IsInside
inside_width mark width (suc device) few =
    let last : Pair = record { width = width; device = device; mark = mark } in
    All-append IsInside (pairs_of_width mark width device) (last ∷ [])
    (inside_width mark width device (omega (arith, few)))
    (All-cons IsInside last [] (omega (arith, few)) (All-nil IsInside))

inside_down : (mark_of : ℕ → ℕ) (lowest more : ℕ) → All IsInside (pairs_down mark_of lowest more)
inside_down mark_of lowest zero = inside_width (mark_of lowest) lowest lowest (omega arith)
inside_down mark_of lowest (suc more) =
    let wide : ℕ = lowest + suc more in
    All-append IsInside (pairs_of_width (mark_of wide) wide wide) (pairs_down mark_of lowest more)
    (inside_width (mark_of wide) wide wide (omega arith)) (inside_down mark_of lowest more)

-- Each suspect's device is one of its width's.
pub all_inside : (births : List Birth) (to mark : ℕ) (pairs : List Pair) → pairs ≡ suspects_of births to mark
    → AreInside pairs
all_inside births to mark pairs is =
    rw is (inside_down (mark_for births to mark) (first_width births) (to - first_width births))
