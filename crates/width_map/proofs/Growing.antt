-- What an ended expansion adds to the births.
use Rattle.std.proofs.Common.{◌≡◌, ℕ, ◌<◌, ◌≤◌, ◌+◌, List, [], ◌∷◌, ◌++◌, length, refl, arith, if◌then◌else◌}
use Rattle.std.specs.Prelude.{nat_le}
use Rattle.std.proofs.lemmas.Bool.Decides.{nat_tests}
use Rattle.width_map.specs.declared.birth.Birth.{Birth}
use Rattle.width_map.specs.Births.{width_from, width_of_birth, last_width_from, last_width, first_width, births_after}
use Rattle.width_map.specs.Births.{NoneAbove, GrowFrom, IsGrowing}

-- A last entry that is too new says nothing of a birth.
newer_adds_nothing : (births : List Birth) (width : ℕ) (newer : Birth) (birth : ℕ) → birth < newer.group
    → width_from width (births ++ newer ∷ []) birth ≡ width_from width births birth
newer_adds_nothing [] width newer birth below = grind (arith, nat_tests, below)
newer_adds_nothing (entry ∷ births) width newer birth below =
    newer_adds_nothing births (if nat_le entry.group birth then entry.width else width) newer birth below

-- What an ended expansion adds changes no earlier birth.
pub older_keep : (births : List Birth) (group birth : ℕ) → birth < group + 2
    → width_of_birth (births_after births group) birth ≡ width_of_birth births birth
older_keep births group birth below = newer_adds_nothing births 0 (record { group = group + 2; width = last_width births + 1 }) birth below

-- An entry that is newer than all, and one device wider than the last, may be added.
grow_from : (before : Birth) (births : List Birth) (group : ℕ) → before.group ≤ group → NoneAbove group births → GrowFrom before births
    → GrowFrom before (births ++ record { group = group + 2; width = last_width_from before.width births + 1 } ∷ [])
grow_from before [] group low none grow = (omega (arith, low), refl, tt)
grow_from before (entry ∷ births) group low none grow = (grow.0, grow.1, grow_from entry births group none.0 none.1 grow.2)

-- After an expansion that ended later than each earlier one, the births still grow.
pub births_after_grow : (births : List Birth) (group : ℕ) → IsGrowing births → NoneAbove group births → IsGrowing (births_after births group)
births_after_grow [] group grows none = absurd grows
births_after_grow (first ∷ births) group grows none = (grows.0, grow_from first births group none.0 none.1 grows.1)

-- Each entry is one device wider than the one before.
last_is_wider : (before : Birth) (births : List Birth) → GrowFrom before births
    → last_width_from before.width births ≡ before.width + length births
last_is_wider before [] grow = omega arith
last_is_wider before (entry ∷ births) grow = omega (arith, last_is_wider entry births grow.2, grow.1)

-- Births that grow from a width of at least one and have not come to 16 have room for one more.
pub has_room : (births : List Birth) → IsGrowing births → 0 < first_width births → last_width births < 16
    → length births < 16
has_room [] grows some narrow = omega arith
has_room (first ∷ births) grows some narrow = omega (arith, last_is_wider first births grows.1, some, narrow)

-- Births that began before a group began before each later one.
pub none_above_more : (group more : ℕ) (births : List Birth) → group ≤ more → NoneAbove group births
    → NoneAbove more births
none_above_more group more [] low none = none
none_above_more group more (entry ∷ births) low none =
    ((let one = none.0 in omega (arith, one, low)), none_above_more group more births low none.1)
