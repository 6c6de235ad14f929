-- Rows of groups: which parts of the list of groups they are, and their last one.
use Rattle.std.proofs.Common.{◌≡◌, ⊎_elim, suc, ◌<◌, ◌≤◌, List, [], ◌∷◌, ◌++◌, sym, ap, subst, arith}
use Rattle.std.specs.Prelude.{Contains, AllPairs}
use Rattle.core_state.specs.Keeps.{Kept}
use Rattle.core_state.proofs.Listed.{contains_head, contains_tail, contains_cases, contains_none}

-- One group has a lower number than the other.
abbrev pub IsBefore : Kept → Kept → Type 0
IsBefore one other = one.uber.group < other.uber.group

pub contains_front : (front back : List Kept) (kept : Kept) → Contains front kept → Contains (front ++ back) kept
contains_front [] back kept has = absurd (contains_none kept has)
contains_front (first ∷ front) back kept has = ⊎_elim
    (λ same. subst (λ (k : Kept). Contains (first ∷ (front ++ back)) k) (sym same) (contains_head first (front ++ back)))
    (λ later. contains_tail first (front ++ back) kept (contains_front front back kept later))
    (contains_cases first front kept has)

pub contains_back : (front back : List Kept) (kept : Kept) → Contains back kept → Contains (front ++ back) kept
contains_back [] back kept has = has
contains_back (first ∷ front) back kept has =
    contains_tail first (front ++ back) kept (contains_back front back kept has)

-- Of groups whose numbers ascend none but the last has a number as high.
pub last_alone : (front : List Kept) (last other : Kept) → AllPairs IsBefore (front ++ last ∷ [])
    → Contains (front ++ last ∷ []) other → last.uber.group ≤ other.uber.group
    → other ≡ last
last_alone [] last other ascending has high = ⊎_elim (λ same. same) (λ none. absurd (contains_none other none))
    (contains_cases last [] other has)
last_alone (first ∷ front) last other ascending has high = ⊎_elim
    (λ same. absurd (below same))
    (λ later. last_alone front last other
    (λ one two default less low. ascending (suc one) (suc two) default (omega (arith, less)) (omega (arith, low)))
    later high)
    (contains_cases first (front ++ last ∷ []) other has)
  where
    after_first : Contains (front ++ last ∷ []) last → first.uber.group < last.uber.group
    after_first (k, low, is) =
        let less = ascending 0 (suc k) last (omega arith) (omega (arith, low)) in
        subst (λ (kept : Kept). first.uber.group < kept.uber.group) is less

    below : other ≡ first → ⊥
    below same =
        let less = after_first (contains_back front (last ∷ []) last (contains_head last [])) in
        let number : other.uber.group ≡ first.uber.group = ap (λ (kept : Kept). kept.uber.group) same in
        omega (arith, less, number, high)
