-- The sectors that the blocks of an index take.
use Rattle.std.specs.Prelude.{◌⊎◌, ◌<◌, ◌≤◌, List}
use Rattle.std.specs.List.Sorted.{IsNonDecreasingBy}
use Rattle.reflow_mark.specs.Reflow.{sectors_of}
use Rattle.block_record.specs.declared.entry.IndexEntry.{IndexEntry}
use Rattle.uberblock_ring.specs.Uberblock.{Uber}
use Rattle.core_state.specs.Index.{block_end}
use Rattle.core_open.specs.declared.fitting.Span.{Span}

-- the sectors that a block takes
abbrev pub span_of : Uber → IndexEntry → Span
span_of uber entry =
    record { start = entry.start; end = block_end uber.parity uber.births entry }

-- It has a sector.
abbrev pub IsFilled : Span → Type 0
IsFilled span = span.start < span.end

-- They stand in the order of their starts.
abbrev pub AreByStart : List Span → Type 0
AreByStart spans = IsNonDecreasingBy (λ (span : Span). span.start) spans

-- One of them ends where the other begins, or before.
abbrev pub AreDisjoint : Span → Span → Type 0
AreDisjoint one other = (one.end ≤ other.start) ⊎ (other.end ≤ one.start)

-- The block alone fits the uberblock: it wasn't born after its group, and doesn't end past its
-- sectors.
pub record FitsAlone (uber : Uber) (entry : IndexEntry) : Type 0 where
  pub birth : entry.birth ≤ uber.group
  pub below : block_end uber.parity uber.births entry ≤ sectors_of uber.reflow
