-- A sector is unused exactly where no run in use has it.
use Rattle.std.proofs.Common.{◌≡◌, ℕ, suc, ◌+◌, ◌%◌, ◌<◌, ◌≤◌, List, [], ◌∷◌, ◌++◌, refl, sym, ◌∙◌, ap, subst, arith}
use Rattle.std.proofs.Common.{⊎_elim}
use Rattle.std.specs.Prelude.{All, AllPairs}
use Rattle.std.proofs.lemmas.Bool.{cases_lt}
use Rattle.std.proofs.lemmas.Bool.Decides.{nat_tests}
use Rattle.std.proofs.lemmas.List.Elements.{All-contains}
use Rattle.range_locks.proofs.Lists.{first_listed, listed_cases, rest_listed}
use Rattle.space_alloc.specs.declared.entry.Entry.{Entry}
use Rattle.space_alloc.specs.Space.{Gains, IsIn}
use Rattle.space_alloc.specs.Entries.{entry_end, AreEntriesApart, IsApartFrom}
use Rattle.space_alloc.specs.Edges.{edges_to, ends_of, AreEdgesOf, IsFlipped, IsUnused, IsRising}
use Rattle.space_alloc.proofs.Flipping.{edges_append, edges_cons, step_of}
use Rattle.space_alloc.proofs.InUse.{Covers}

pub step_one : (sector edge : ℕ) → edge ≤ sector → step_of sector edge ≡ 1
step_one sector edge low = grind (arith, nat_tests, low)

pub step_none : (sector edge : ℕ) → sector < edge → step_of sector edge ≡ 0
step_none sector edge high = grind (arith, nat_tests, high)

both_ends : (entry : Entry) (entries : List Entry) (sector : ℕ) → edges_to (ends_of (entry ∷ entries)) sector
    ≡ step_of sector entry.start + (step_of sector (entry_end entry) + edges_to (ends_of entries) sector)
both_ends entry entries sector = edges_cons entry.start (entry_end entry ∷ ends_of entries) sector
    ∙ ap (λ (n : ℕ). step_of sector entry.start + n) (edges_cons (entry_end entry) (ends_of entries) sector)

-- Where no run covers the sector, each has both of its ends on one side.
pub uncovered_even : (entries : List Entry) (sector : ℕ) → (Covers entries sector → ⊥) → edges_to (ends_of entries) sector % 2 ≡ 0
uncovered_even [] sector none = refl
uncovered_even (entry ∷ entries) sector none =
    let rest : edges_to (ends_of entries) sector % 2 ≡ 0 = uncovered_even entries sector
    (λ covers. none (record { entry = covers.entry; listed = rest_listed entry covers.entry entries covers.listed; inside = covers.inside })) in
    let both = both_ends entry entries sector in
    ⊎_elim
    (λ below. let one = step_none sector entry.start below in
    let other = step_none sector (entry_end entry) (omega (arith, below)) in
    omega (arith, both, one, other, rest))
    (λ from. ⊎_elim
    (λ within. absurd (none (record { entry = entry; listed = first_listed entry entries; inside = (from, within) })))
    (λ behind. let one = step_one sector entry.start from in
    let other = step_one sector (entry_end entry) behind in
    omega (arith, both, one, other, rest))
    (cases_lt sector (entry_end entry)))
    (cases_lt sector entry.start)

-- Where one covers it, that one alone has an end on each side.
pub covered_odd : (entries : List Entry) (sector : ℕ) → AllPairs IsApartFrom entries → Covers entries sector → edges_to (ends_of entries) sector % 2 ≡ 1
covered_odd [] sector apart covers = absurd (omega (arith, covers.listed.1))
covered_odd (entry ∷ entries) sector apart covers =
    let both = both_ends entry entries sector in
    let later : All (IsApartFrom entry) entries = λ k default within. apart 0 (suc k) default (omega arith) (omega (arith, within)) in
    let rest_apart : AllPairs IsApartFrom entries = λ i j default order within. apart (suc i) (suc j) default (omega (arith, order)) (omega (arith, within)) in
    ⊎_elim
    (λ same. let inside : IsIn entry.start entry.len sector = subst (λ (e : Entry). IsIn e.start e.len sector) (sym same) covers.inside in
    let none : edges_to (ends_of entries) sector % 2 ≡ 0 = uncovered_even entries sector
    (λ others. ⊎_elim (λ behind. omega (arith, behind, inside, others.inside)) (λ before. omega (arith, before, inside, others.inside))
    (All-contains (IsApartFrom entry) entries others.entry later others.listed)) in
    let one = step_one sector entry.start inside.0 in
    let other = step_none sector (entry_end entry) inside.1 in
    omega (arith, both, one, other, none))
    (λ listed. let odd : edges_to (ends_of entries) sector % 2 ≡ 1 =
    covered_odd entries sector rest_apart (record { entry = covers.entry; listed = listed; inside = covers.inside }) in
    ⊎_elim
    (λ behind. let one = step_one sector entry.start (omega (arith, behind, covers.inside)) in
    let other = step_one sector (entry_end entry) (omega (arith, behind, covers.inside)) in
    omega (arith, both, one, other, odd))
    (λ before. let one = step_none sector entry.start (omega (arith, before, covers.inside)) in
    let other = step_none sector (entry_end entry) (omega (arith, before, covers.inside)) in
    omega (arith, both, one, other, odd))
    (All-contains (IsApartFrom entry) entries covers.entry later listed))
    (listed_cases entry covers.entry entries covers.listed)

pub covered_inside : (entries : List Entry) (edges : List ℕ) (sector : ℕ) → AreEntriesApart entries → AreEdgesOf entries edges → Covers entries sector
    → IsUnused edges sector → ⊥
covered_inside entries edges sector are kept covers unused =
    let odd = covered_odd entries sector are.apart covers in
    let same = kept.same sector in
    omega (arith, odd, same, unused)

pub uncovered_unused : (entries : List Entry) (edges : List ℕ) (sector : ℕ) → AreEdgesOf entries edges → (Covers entries sector → ⊥)
    → IsUnused edges sector
uncovered_unused entries edges sector kept none =
    let even = uncovered_even entries sector none in
    let same = kept.same sector in
    omega (arith, even, same)

ends_append : (entries others : List Entry) → ends_of (entries ++ others) ≡ ends_of entries ++ ends_of others
ends_append [] others = refl
ends_append (entry ∷ entries) others = ap (λ (l : List ℕ). entry.start ∷ entry_end entry ∷ l) (ends_append entries others)

ends_split : (before after : List Entry) (sector : ℕ)
    → edges_to (ends_of (before ++ after)) sector ≡ edges_to (ends_of before) sector + edges_to (ends_of after) sector
ends_split before after sector =
    ap (λ (l : List ℕ). edges_to l sector) (ends_append before after) ∙ edges_append (ends_of before) (ends_of after) sector

ends_around : (before after : List Entry) (entry : Entry) (sector : ℕ) → edges_to (ends_of (before ++ entry ∷ after)) sector
    ≡ edges_to (ends_of before) sector + (edges_to (entry.start ∷ entry_end entry ∷ []) sector + edges_to (ends_of after) sector)
ends_around before after entry sector = ends_split before (entry ∷ after) sector
    ∙ ap (λ (n : ℕ). edges_to (ends_of before) sector + n) (edges_append (entry.start ∷ entry_end entry ∷ []) (ends_of after) sector)

-- A run is put in or taken away: its ends are flipped.
pub edges_more : (before after : List Entry) (entry : Entry) (old new : List ℕ) → AreEdgesOf (before ++ after) old → IsRising new
    → IsFlipped old new (entry.start ∷ entry_end entry ∷ []) → AreEdgesOf (before ++ entry ∷ after) new
edges_more before after entry old new kept rising flipped = record {
  rising = rising;
  same = λ sector. let was = kept.same sector in
      let split = ends_split before after sector in
      let around = ends_around before after entry sector in
      let flip = flipped sector in
      omega (arith, was, split, around, flip);
}

pub edges_less : (before after : List Entry) (entry : Entry) (old new : List ℕ) → AreEdgesOf (before ++ entry ∷ after) old → IsRising new
    → IsFlipped old new (entry.start ∷ entry_end entry ∷ []) → AreEdgesOf (before ++ after) new
edges_less before after entry old new kept rising flipped = record {
  rising = rising;
  same = λ sector. let was = kept.same sector in
      let split = ends_split before after sector in
      let around = ends_around before after entry sector in
      let flip = flipped sector in
      omega (arith, was, split, around, flip);
}

pub edges_gained : (entries more : List Entry) (entry : Entry) (old new : List ℕ) → AreEdgesOf entries old → Gains entries more entry → IsRising new
    → IsFlipped old new (entry.start ∷ entry_end entry ∷ []) → AreEdgesOf more new
edges_gained entries more entry old new kept gains rising flipped =
    subst (λ (l : List Entry). AreEdgesOf l new) (sym gains.is)
    (edges_more gains.before gains.after entry old new (subst (λ (l : List Entry). AreEdgesOf l old) gains.was kept) rising flipped)

pub edges_lost : (entries less : List Entry) (entry : Entry) (old new : List ℕ) → AreEdgesOf entries old → Gains less entries entry → IsRising new
    → IsFlipped old new (entry.start ∷ entry_end entry ∷ []) → AreEdgesOf less new
edges_lost entries less entry old new kept gains rising flipped =
    subst (λ (l : List Entry). AreEdgesOf l new) (sym gains.was)
    (edges_less gains.before gains.after entry old new (subst (λ (l : List Entry). AreEdgesOf l old) gains.is kept) rising flipped)

-- Another place among the runs leaves them.
pub edges_moved : (less entries others : List Entry) (entry : Entry) (edges : List ℕ) → AreEdgesOf entries edges → Gains less entries entry
    → Gains less others entry → AreEdgesOf others edges
edges_moved less entries others entry edges kept lost gained = record {
  rising = kept.rising;
  same = λ sector. let was = kept.same sector in
      let old = ap (λ (l : List Entry). edges_to (ends_of l) sector) lost.is in
      let new = ap (λ (l : List Entry). edges_to (ends_of l) sector) gained.is in
      let left = ap (λ (l : List Entry). edges_to (ends_of l) sector) (sym lost.was ∙ gained.was) in
      let split = ends_split lost.before lost.after sector in
      let other_split = ends_split gained.before gained.after sector in
      let around = ends_around lost.before lost.after entry sector in
      let beside = ends_around gained.before gained.after entry sector in
      omega (arith, was, old, new, left, split, other_split, around, beside);
}
