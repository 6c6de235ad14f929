-- When a commit may be begun, and what it keeps, at each moment of it and at its end.
use Rattle.std.specs.Prelude.{◌≡◌, ◌≢◌, ◌⊎◌, ℕ, ◌+◌, ◌<◌, List, [], ◌∷◌, ◌++◌, false}
use Rattle.block_record.specs.declared.entry.IndexEntry.{IndexEntry}
use Rattle.uberblock_ring.specs.Devices.{has_device}
use Rattle.uberblock_ring.specs.Uberblock.{Uber}
use Rattle.core_state.specs.Map.{Map}
use Rattle.core_state.specs.Keeps.{Kept, Setting, SameGroup}
use Rattle.core_state.specs.Certain.{CellsOn, IsSound, IsSuccession, Knows}
use Rattle.core_state.specs.Committing.{Point, TellsHead}

-- what a commit begins with: the groups that images may show, in a row from the first that they show
-- for certain; those that join the row from the first uberblock on; and the group that is made, with
-- its map. It is the last of the row.
pub record Begun : Type 0 where
  pub setting : Setting
  pub earlier : List Kept
  pub first : Kept
  pub later : List Kept
  pub joined : List Kept
  pub kept : Kept
  pub map : Map

-- what follows the first group once the uberblock may be shown
abbrev pub row_of : Begun → List Kept
row_of begun = begun.later ++ begun.joined

-- the group as it is written
abbrev pub group_made : Begun → Uber → List IndexEntry → Kept
group_made begun uber entries = record {
  uber = uber;
  entries = entries;
  others = begun.kept.others;
  map = begun.map;
  excepted = begun.kept.excepted;
}

-- The group goes to the other index area and another slot than the first one's, and its blocks are read as
-- it asks for them on each device in use.
pub record MayCommit (begun : Begun) (uber : Uber) (entries : List IndexEntry) (point : Point) : Type 0
  where
    pub knows : Knows begun.setting begun.first begun.later point.disk
    pub row : IsSuccession begun.setting begun.first (row_of begun)
    pub same : SameGroup begun.kept (group_made begun uber entries)
    pub sound : IsSound begun.setting begun.kept
    pub front : List Kept
    pub last : begun.first ∷ row_of begun ≡ front ++ begun.kept ∷ []
    pub parity_is : uber.parity ≡ begun.first.uber.parity
    pub area : begun.first.uber.area ≢ uber.area
    pub near : (uber.group ≡ begun.first.uber.group + 1) ⊎ (uber.group ≡ begun.first.uber.group + 2)
    pub told : TellsHead (group_made begun uber entries) point
    pub cells : (device : ℕ) → device < uber.reflow.to → has_device point.out device ≡ false
        → CellsOn point.disk.reads (group_made begun uber entries) device
