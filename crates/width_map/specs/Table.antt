-- Entries in a table of fixed size.
use Rattle.std.specs.Prelude.{◌≡◌, ℕ, ◌-◌, ◌<◌, ◌≤◌, List, ◌++◌, length, take, replicate}
use Rattle.width_map.specs.declared.birth.Birth.{Birth}
use Rattle.width_map.specs.declared.births.Births.TheInside.{Inside}

-- what stands in the places that aren't used
abbrev pub unused : Birth
unused = record { group = 0; width = 0 }

-- the entries, and then unused places up to the 16th
abbrev pub padded : List Birth → List Birth
padded births = births ++ replicate (16 - length births) unused

-- the table of these entries
abbrev pub table_of : List Birth → Inside
table_of births = record { entries = padded births; used = length births }

-- The first places are used, one at least, and the others are blank.
pub record IsBirthTable (entries : List Birth) (used : ℕ) : Type 0 where
  pub some : 0 < used
  pub room : used ≤ 16
  pub counted : length (take used entries) ≡ used
  pub padded : padded (take used entries) ≡ entries
