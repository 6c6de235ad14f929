-- Where groups stand in the list of a run's.
use Rattle.std.proofs.Common.{List, ◌∷◌, ◌++◌, sym, subst}
use Rattle.std.proofs.lemmas.List.Elements.{Contains-append_left, Contains-append_right}
use Rattle.std.specs.Prelude.{Contains}
use Rattle.core_state.specs.Keeps.{Kept}
use Rattle.core_state.specs.Moment.{IsRowOf}

-- Groups in a row are among all.
pub row_among : {groups later : List Kept} {first : Kept} → IsRowOf groups first later
    → (kept : Kept) → Contains (first ∷ later) kept → Contains groups kept
row_among {later = later} {first = first} row kept listed = subst (λ (l : List Kept). Contains l kept) (sym row.row)
    (Contains-append_left (row.before ++ first ∷ later) row.after kept
    (Contains-append_right row.before (first ∷ later) kept listed))
