-- The births of a group that ends an expansion, or leaves the widths.
use Rattle.std.proofs.Common.{◌≡◌, ◌≢◌, ⊎_elim, ℕ, ◌+◌, ◌<◌, ◌≤◌, List, [], ◌∷◌, ◌++◌, length, refl, sym, subst, arith}
use Rattle.std.proofs.Common.{ap, ◌∙◌}
use Rattle.std.proofs.lemmas.Bool.Decides.{nat_tests}
use Rattle.std.proofs.lemmas.List.{length-append}
use Rattle.width_map.specs.declared.birth.Birth.{Birth}
use Rattle.width_map.specs.Births.{GrowFrom, IsGrowing, NoneAbove, births_after, first_width, last_width}
use Rattle.width_map.specs.Births.{last_width_from}
use Rattle.width_map.proofs.Growing.{has_room, none_above_more}
use Rattle.reflow_mark.specs.declared.reflow.Reflow.{Reflow}
use Rattle.reflow_mark.specs.Reflow.{Expands}
use Rattle.uberblock_ring.specs.Uberblock.{Uber}
use Rattle.uberblock_ring.specs.Valid.{IsBirthsOf, IsRightUber}
use Rattle.mark_choice.specs.CommitChoice.{births_of_commit, KeepsOrEnds}

-- ---- one entry more

-- An entry that is newer than all, and one device wider than the last, may be added.
grow_on : (before : Birth) (births : List Birth) (group : ℕ) → before.group ≤ group + 1 → NoneAbove (group + 1) births
    → GrowFrom before births
    → GrowFrom before (births ++ record { group = group + 2; width = last_width_from before.width births + 1 } ∷ [])
grow_on before [] group low none grow = (omega (arith, low), refl, tt)
grow_on before (entry ∷ births) group low none grow = (grow.0, grow.1, grow_on entry births group none.0 none.1 grow.2)

added_grow : (births : List Birth) (group : ℕ) → IsGrowing births → NoneAbove (group + 1) births
    → IsGrowing (births_after births group)
added_grow [] group grows none = absurd grows
added_grow (first ∷ births) group grows none = (grows.0, grow_on first births group none.0 none.1 grows.1)

-- It has the last width, and leaves the first.
last_added : (births : List Birth) (width : ℕ) (newest : Birth) → last_width_from width (births ++ newest ∷ []) ≡ newest.width
last_added [] width newest = refl
last_added (entry ∷ births) width newest = last_added births entry.width newest

first_stays : (births : List Birth) (newest : Birth) → IsGrowing births → first_width (births ++ newest ∷ []) ≡ first_width births
first_stays [] newest grows = absurd grows
first_stays (first ∷ births) newest grows = refl

none_above_added : (births : List Birth) (newest : Birth) (group : ℕ) → newest.group ≤ group → NoneAbove group births
    → NoneAbove group (births ++ newest ∷ [])
none_above_added [] newest group low none = (low, tt)
none_above_added (entry ∷ births) newest group low none = (none.0, none_above_added births newest group low none.1)

-- ---- what a commit records

-- Where the width stays so do the births,
pub births_kept : (before chosen : Reflow) (births : List Birth) (group : ℕ) → chosen.from ≡ before.from
    → births_of_commit before chosen births group ≡ births
births_kept before chosen births group same = grind (arith, nat_tests, same)

-- and where it is one device more the group adds an entry.
pub births_added : (before chosen : Reflow) (births : List Birth) (group : ℕ) → chosen.from ≡ before.from + 1
    → births_of_commit before chosen births group ≡ births_after births group
births_added before chosen births group more = grind (arith, nat_tests, more)

-- The devices and the rows stay in both cases, and the width is no smaller.
pub record HasRowsOf (before chosen : Reflow) : Type 0 where
  pub from : before.from ≤ chosen.from
  pub to : chosen.to ≡ before.to
  pub rows : chosen.rows ≡ before.rows

pub rows_of : (before chosen : Reflow) → KeepsOrEnds before chosen → HasRowsOf before chosen
rows_of before chosen widths = ⊎_elim
    (λ keeps. record { from = omega (arith, keeps.0); to = keeps.1; rows = keeps.2 })
    (λ ends. let grows = ends.0 in record {
      from = (let is = ap (λ (r : Reflow). r.from) ends.1 in omega (arith, is, grows));
      to = ap (λ (r : Reflow). r.to) ends.1;
      rows = ap (λ (r : Reflow). r.rows) ends.1;
    })
    widths

-- A commit that changes the width ends an expansion,
pub other_ends : (before chosen : Reflow) → KeepsOrEnds before chosen → chosen.from ≢ before.from → Expands before
other_ends before chosen widths other = ⊎_elim (λ keeps. absurd (other keeps.0)) (λ ends. ends.0) widths

-- which has come to one device more.
pub one_more : (before chosen : Reflow) → Expands before → chosen.from ≡ before.to → chosen.from ≡ before.from + 1
one_more before chosen grows is = omega (arith, is, grows)

-- There is room for the width that an expansion ends with.
pub room_for : (uber : Uber) → IsRightUber uber → Expands uber.reflow → length uber.births < 16
room_for uber right grows =
    let first = right.births.wide in
    let last = right.births.last in
    let narrow = right.widths.1 in
    has_room uber.births right.births.growing (omega (arith, first)) (omega (arith, last, narrow, grows))

-- The births of the next group are right.
pub right_births : (uber : Uber) (chosen : Reflow) → IsRightUber uber → KeepsOrEnds uber.reflow chosen
    → IsBirthsOf (births_of_commit uber.reflow chosen uber.births (uber.group + 1)) uber.parity chosen.from (uber.group + 1)
right_births uber chosen right widths = ⊎_elim
    (λ keeps. subst (λ (b : List Birth). IsBirthsOf b uber.parity chosen.from (uber.group + 1))
    (sym (births_kept uber.reflow chosen uber.births (uber.group + 1) keeps.0)) (kept keeps.0))
    (λ ends. let more = one_more uber.reflow chosen ends.0 (ap (λ (r : Reflow). r.from) ends.1) in
    subst (λ (b : List Birth). IsBirthsOf b uber.parity chosen.from (uber.group + 1))
    (sym (births_added uber.reflow chosen uber.births (uber.group + 1) more)) (added ends.0 more))
    widths
  where
    kept : chosen.from ≡ uber.reflow.from → IsBirthsOf uber.births uber.parity chosen.from (uber.group + 1)
    kept same = record {
      growing = right.births.growing;
      few = right.births.few;
      wide = right.births.wide;
      last = right.births.last ∙ sym same;
      begun = none_above_more (uber.group + 2) (uber.group + 1 + 2) uber.births (omega arith) right.births.begun;
    }

    newest : Birth
    newest = record { group = uber.group + 1 + 2; width = last_width uber.births + 1 }

    added : Expands uber.reflow → chosen.from ≡ uber.reflow.from + 1
        → IsBirthsOf (births_after uber.births (uber.group + 1)) uber.parity chosen.from (uber.group + 1)
    added grows more = record {
      growing = added_grow uber.births (uber.group + 1) right.births.growing
          (subst (λ (n : ℕ). NoneAbove n uber.births) (omega arith) right.births.begun);
      few = (let room = room_for uber right grows in omega (arith, length-append uber.births (newest ∷ []), room));
      wide = (let wide = right.births.wide in omega (arith, wide, first_stays uber.births newest right.births.growing));
      last = (let last = right.births.last in omega (arith, last_added uber.births 0 newest, last, more));
      begun = none_above_added uber.births newest (uber.group + 1 + 2) (omega arith)
          (none_above_more (uber.group + 2) (uber.group + 1 + 2) uber.births (omega arith) right.births.begun);
    }
