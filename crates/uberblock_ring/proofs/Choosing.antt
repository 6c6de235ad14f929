-- How a choice is kept as one more uberblock is seen.
use Rattle.std.proofs.Common.{◌≡◌, ◌<◌, ◌≤◌, true, false, List, [], ◌∷◌, ◌++◌, sym, ◌∙◌, ap, subst, arith, inl, inr}
use Rattle.std.proofs.Common.{⊎_elim, Option, None, Some}
use Rattle.std.specs.Prelude.{Contains}
use Rattle.std.proofs.lemmas.Bool.{false≢true}
use Rattle.std.proofs.lemmas.List.Elements.{Contains-append_left, Contains-push, Contains-push_cases}
use Rattle.uberblock_ring.specs.Choice.{IsAtLeast, IsChosenOf, Shown}

-- The order joins up.
at_least_trans : (one two three : Shown) → IsAtLeast one two → IsAtLeast two three → IsAtLeast one three
at_least_trans one two three first second = ⊎_elim
    (λ (above : two.uber.group < one.uber.group). inl (⊎_elim
    (λ (more : three.uber.group < two.uber.group). omega (arith, above, more))
    (λ (level : (two.uber.group ≡ three.uber.group) × (two.device ≤ three.device)). omega (arith, above, level.0))
    second))
    (λ (level : (one.uber.group ≡ two.uber.group) × (one.device ≤ two.device)). ⊎_elim
    (λ (more : three.uber.group < two.uber.group). inl (omega (arith, level.0, more)))
    (λ (equal : (two.uber.group ≡ three.uber.group) × (two.device ≤ three.device)). inr (level.0 ∙ equal.0, omega (arith, level.1, equal.1)))
    second)
    first

at_least_self : (one : Shown) → IsAtLeast one one
at_least_self one = inr (λ i. one.uber.group, omega arith)

-- Of no uberblocks there is none to choose.
pub chosen_of_none : IsChosenOf [] None
chosen_of_none other listed whole = absurd (omega (arith, listed.1))

-- One that is no candidate changes nothing.
pub chosen_past : (seen : List Shown) (choice : Option Shown) (other : Shown) → IsChosenOf seen choice → other.whole ≡ false
    → IsChosenOf (seen ++ other ∷ []) choice
chosen_past seen None other none torn = λ one listed whole. ⊎_elim
    (λ (before : Contains seen one). none one before whole)
    (λ (is : other ≡ one). false≢true (sym torn ∙ ap (λ (s : Shown). s.whole) is ∙ whole))
    (Contains-push_cases seen other one listed)
chosen_past seen (Some best) other chosen torn = record {
  listed = Contains-append_left seen (other ∷ []) best chosen.listed;
  whole = chosen.whole;
  first = λ one listed whole. ⊎_elim
      (λ (before : Contains seen one). chosen.first one before whole)
      (λ (is : other ≡ one). absurd (false≢true (sym torn ∙ ap (λ (s : Shown). s.whole) is ∙ whole)))
      (Contains-push_cases seen other one listed);
}

-- The first candidate is chosen,
pub chosen_first : (seen : List Shown) (other : Shown) → IsChosenOf seen None → other.whole ≡ true → IsChosenOf (seen ++ other ∷ []) (Some other)
chosen_first seen other none whole = record {
  listed = Contains-push seen other;
  whole = whole;
  first = λ one listed good. ⊎_elim
      (λ (before : Contains seen one). absurd (none one before good))
      (λ (is : other ≡ one). subst (λ (s : Shown). IsAtLeast other s) is (at_least_self other))
      (Contains-push_cases seen other one listed);
}

-- it is kept where it goes before the next,
pub chosen_kept : (seen : List Shown) (best other : Shown) → IsChosenOf seen (Some best) → IsAtLeast best other
    → IsChosenOf (seen ++ other ∷ []) (Some best)
chosen_kept seen best other chosen above = record {
  listed = Contains-append_left seen (other ∷ []) best chosen.listed;
  whole = chosen.whole;
  first = λ one listed good. ⊎_elim
      (λ (before : Contains seen one). chosen.first one before good)
      (λ (is : other ≡ one). subst (λ (s : Shown). IsAtLeast best s) is above)
      (Contains-push_cases seen other one listed);
}

-- and gives way where the next one goes before it.
pub chosen_new : (seen : List Shown) (best other : Shown) → IsChosenOf seen (Some best) → IsAtLeast other best → other.whole ≡ true
    → IsChosenOf (seen ++ other ∷ []) (Some other)
chosen_new seen best other chosen above whole = record {
  listed = Contains-push seen other;
  whole = whole;
  first = λ one listed good. ⊎_elim
      (λ (before : Contains seen one). at_least_trans other best one above (chosen.first one before good))
      (λ (is : other ≡ one). subst (λ (s : Shown). IsAtLeast other s) is (at_least_self other))
      (Contains-push_cases seen other one listed);
}
