-- The width of a block follows from the group in which it was born.
use Rattle.std.specs.Prelude.{◌≡◌, ℕ, ◌+◌, ◌<◌, ◌≤◌, List, [], ◌∷◌, ◌++◌, length, ⊤, if◌then◌else◌, nat_le}
use Rattle.width_map.specs.declared.birth.Birth.{Birth}

-- the width of the last entry whose group is not above the birth, or this one where there is none
abbrev pub width_from : ℕ → List Birth → ℕ → ℕ
width_from width [] birth = width
width_from width (entry ∷ births) birth =
    width_from (if nat_le entry.group birth then entry.width else width) births birth

-- the width of a birth group
abbrev pub width_of_birth : List Birth → ℕ → ℕ
width_of_birth births birth = width_from 0 births birth

-- the births of a new pool
abbrev pub first_births : ℕ → List Birth
first_births width = record { group = 0; width = width } ∷ []

-- the width of the last entry, or this one where there is none
abbrev pub last_width_from : ℕ → List Birth → ℕ
last_width_from width [] = width
last_width_from width (entry ∷ births) = last_width_from entry.width births

-- the present width
abbrev pub last_width : List Birth → ℕ
last_width births = last_width_from 0 births

-- the width of the first entry, or none
abbrev pub first_width : List Birth → ℕ
first_width [] = 0
first_width (first ∷ births) = first.width

-- No entry is of a group above this.
abbrev pub NoneAbove : ℕ → List Birth → Type 0
NoneAbove group [] = ⊤
NoneAbove group (entry ∷ births) = (entry.group ≤ group) × NoneAbove group births

-- An expansion that ended in a group: the groups from two later on are one device wider.
abbrev pub births_after : List Birth → ℕ → List Birth
births_after births group =
    births ++ record { group = group + 2; width = last_width births + 1 } ∷ []

-- After an entry each next one has a later group, and is one device wider.
abbrev pub GrowFrom : Birth → List Birth → Type 0
GrowFrom before [] = ⊤
GrowFrom before (entry ∷ births) =
    (before.group < entry.group) × (entry.width ≡ before.width + 1) × GrowFrom entry births

-- The first entry is for all groups, and the width grows by one device with each.
abbrev pub IsGrowing : List Birth → Type 0
IsGrowing [] = ⊥
IsGrowing (first ∷ births) = (first.group ≡ 0) × GrowFrom first births

-- There is an entry, and an uberblock has room for all.
abbrev pub BirthsFit : List Birth → Type 0
BirthsFit births = (0 < length births) × (length births ≤ 16)
