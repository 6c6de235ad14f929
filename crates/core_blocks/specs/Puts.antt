-- What a put takes, and why it is refused.
use Rattle.std.specs.Prelude.{◌≡◌, ℕ, List, [], ◌∷◌, ◌++◌, Option, Some, None, ⊤}
use Rattle.std.specs.List.Sorted.{IsPermutation}
use Rattle.width_map.specs.declared.birth.Birth.{Birth}
use Rattle.width_map.specs.Births.{width_of_birth}
use Rattle.range_locks.specs.declared.hold.Hold.{Hold}
use Rattle.row_layout.specs.Layout.{Layout, allocated_of}
use Rattle.space_alloc.specs.declared.refused.TakeRefused.TheVariants as take
use Rattle.space_alloc.specs.Space.{Space, IsFirstFit, IsTaking, IsHolding, IsTakeCause}
use Rattle.block_record.specs.declared.entry.IndexEntry.{IndexEntry}
use Rattle.block_table.specs.Table.{IsFull}
use Rattle.reconstruct.specs.Rows.{sectors_for}
use Rattle.core_blocks.specs.declared.range.PutRange.{PutRange}
use Rattle.core_blocks.specs.declared.refused.PutRefused.{PutRefused}
use Rattle.core_blocks.specs.declared.refused.PutRefused.TheVariants.{Full, NoSpace, Busy, NoMemory}
use Rattle.core_blocks.specs.Blocks.{Blocks, run_of}

-- the layout of a block of so many bytes: its width is that of its birth
abbrev pub layout_at : ℕ → List Birth → ℕ → ℕ → ℕ → Layout
layout_at parity births start len birth = record {
  start = start;
  sectors = sectors_for len;
  parity = parity;
  width = width_of_birth births birth;
}

-- how many sectors it takes
abbrev pub sectors_taken : ℕ → List Birth → ℕ → ℕ → ℕ
sectors_taken parity births len birth = allocated_of (layout_at parity births 0 len birth)

-- The range is that of a put of so many bytes in this group.
pub record IsRangeFor (blocks : Blocks) (id len group : ℕ) (range : PutRange) : Type 0 where
  pub id_is : range.id ≡ id
  pub birth_is : range.birth ≡ group
  pub layout_is : range.layout
      ≡ layout_at blocks.parity blocks.births range.layout.start len group

-- A put begins: its id is reserved, and the lowest run that fits is taken.
pub record BeginsPut (old new : Blocks) (holds : List Hold) (range : PutRange) : Type 0 where
  pub parity : new.parity ≡ old.parity
  pub births : new.births ≡ old.births
  pub entries : new.table.entries ≡ old.table.entries
  pub reserved : new.table.reserved ≡ old.table.reserved ++ range.id ∷ []
  pub first : IsFirstFit old.space holds (allocated_of range.layout) range.layout.start
  pub taken : IsTaking old.space new.space range.layout.start (allocated_of range.layout)

-- Why a put is refused: the table has no room for its id, or the space no run for its sectors.
abbrev pub IsPutCause : Blocks → List Hold → ℕ → ℕ → PutRefused → Type 0
IsPutCause blocks holds id len Full = IsFull blocks.table id
IsPutCause blocks holds id len (NoSpace sectors) =
    IsTakeCause blocks.space holds len (take.NoSpace sectors)
IsPutCause blocks holds id len (Busy by) =
    IsTakeCause blocks.space holds len (take.Busy by)
IsPutCause blocks holds id len NoMemory = ⊤

-- All is as before, but for the order in which the ids are reserved.
pub record IsAsBefore (old new : Blocks) : Type 0 where
  pub parity : new.parity ≡ old.parity
  pub births : new.births ≡ old.births
  pub entries : new.table.entries ≡ old.table.entries
  pub reserved : IsPermutation old.table.reserved new.table.reserved
  pub space : new.space ≡ old.space

-- The sectors of a block that is gone, if one is, are held back until a group is answered.
abbrev pub HoldsBack : ℕ → List Birth → Space → Space → ℕ → Option IndexEntry → Type 0
HoldsBack parity births old new group None = new ≡ old
HoldsBack parity births old new group (Some gone) =
    let run = run_of parity births gone in IsHolding old new run.start run.len group
