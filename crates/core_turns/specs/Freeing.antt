-- Frees.
use Rattle.std.specs.Prelude.{◌≡◌, ℕ, ◌+◌, Some, None}
use Rattle.block_record.specs.declared.entry.IndexEntry.{IndexEntry}
use Rattle.block_table.specs.Table.{ChangesOnly, entry_of}
use Rattle.core_state.specs.declared.answer.Answer.{Answer}
use Rattle.core_state.specs.declared.answer.Answer.TheVariants as answer
use Rattle.core_state.specs.Map.{Map, with_block}
use Rattle.core_blocks.specs.Puts.{HoldsBack}
use Rattle.core_turns.specs.Core.{Core}
use Rattle.core_turns.specs.Getting.{HasTooManyOut}

-- The block of an id is gone, and its sectors are held back until the open group is answered; all else is as
-- it was.
pub record TakesAway (old new : Core) (id : ℕ) (entry : IndexEntry) : Type 0 where
  pub was : entry_of old.pool.blocks.table.entries id ≡ Some entry
  pub parity : new.pool.blocks.parity ≡ old.pool.blocks.parity
  pub births : new.pool.blocks.births ≡ old.pool.blocks.births
  pub change : ChangesOnly old.pool.blocks.table.entries new.pool.blocks.table.entries id None
  pub held : HoldsBack old.pool.blocks.parity old.pool.blocks.births old.pool.blocks.space
      new.pool.blocks.space (old.begun + 1) (Some entry)
  pub rest : new ≡ record old { pool = record old.pool { blocks = new.pool.blocks } }

-- There was no block of this id, and all is as it was.
pub record HadNone (old new : Core) (id : ℕ) : Type 0 where
  pub none : entry_of old.pool.blocks.table.entries id ≡ None
  pub parity : new.pool.blocks.parity ≡ old.pool.blocks.parity
  pub births : new.pool.blocks.births ≡ old.pool.blocks.births
  pub change : ChangesOnly old.pool.blocks.table.entries new.pool.blocks.table.entries id None
  pub space : new.pool.blocks.space ≡ old.pool.blocks.space
  pub rest : new ≡ record old { pool = record old.pool { blocks = new.pool.blocks } }

-- what a free comes to
abbrev pub FreesBlock : Core → Core → ℕ → Answer → Type 0
FreesBlock old new id answer.Freed =
    (HasTooManyOut old → ⊥) × (entry : IndexEntry) × TakesAway old new id entry
FreesBlock old new id answer.Absent = (HasTooManyOut old → ⊥) × HadNone old new id
FreesBlock old new id (answer.TooManyFailed out) =
    HasTooManyOut old × (out ≡ old.pool.out) × (new ≡ old)
FreesBlock old new id other = ⊥

-- the map that a free leaves
abbrev pub map_after_free : Map → ℕ → Answer → Map
map_after_free map id answer.Freed = with_block map (Some id) None
map_after_free map id other = map
