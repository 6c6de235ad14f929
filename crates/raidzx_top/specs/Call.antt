-- One call of the top call: what it was given, and what it left.
use Rattle.std.specs.Prelude.{◌≡◌, ◌⊎◌, ℕ, List, [], Option, Some, None, ⊤}
use Rattle.bank_trait.specs.Disk.{Disk}
use Rattle.core_state.specs.declared.item.Item.{Item}
pub use Rattle.core_open.specs.Holds.{HoldsImage, shape_of}
use Rattle.raidzx_top.specs.declared.status.Status.{Status}
use Rattle.raidzx_top.specs.declared.status.Status.TheVariants.{Done, SinkFault}
use Rattle.raidzx_top.specs.Words.{Command, Create, Run, Replay, Status as StatusCommand, Load}

-- a source or sink: its bytes, where told, and how often it has failed
pub record Stream : Type 0 where
  pub bytes : Option (List ℕ)
  pub faults : ℕ

-- words, bank, source and sink before and after, the status, the journal, and how many turns were
-- made
pub record TopCall : Type 0 where
  pub words : List (List ℕ)
  pub old : Disk
  pub new : Disk
  pub source : Stream
  pub source_after : Stream
  pub sink : Stream
  pub sink_after : Stream
  pub status : Status
  pub journal : List Item
  pub turns : ℕ

-- a call of these parts
abbrev pub call_of : List (List ℕ) → Disk → Disk → Stream → Stream → Stream → Stream → Status
    → List Item → ℕ
    → TopCall
call_of words old new source source_after sink sink_after status journal turns = record {
  words = words;
  old = old;
  new = new;
  source = source;
  source_after = source_after;
  sink = sink;
  sink_after = sink_after;
  status = status;
  journal = journal;
  turns = turns;
}

abbrev pub stream_of : Option (List ℕ) → ℕ → Stream
stream_of bytes faults = record { bytes = bytes; faults = faults }

-- A command was carried out, whether its text was written whole or not.
abbrev pub IsCarriedOut : TopCall → Type 0
IsCarriedOut call = (call.status ≡ Done) ⊎ (call.status ≡ SinkFault)

-- Nothing was read from the source, nothing answered, and no turn made.
pub record IsQuiet (call : TopCall) : Type 0 where
  pub unread : call.source_after ≡ call.source
  pub journal : call.journal ≡ []
  pub turns : call.turns ≡ 0

-- Commands that read a script from the source.
abbrev pub ReadsScript : Command → Type 0
ReadsScript (Run attach scrub) = ⊤
ReadsScript Replay = ⊤
ReadsScript other = ⊥

-- Commands that open a pool, or look at one. All others take no memory.
abbrev pub Opens : Command → Type 0
Opens (Create parity width id) = ⊥
Opens other = ⊤

-- Commands that open a pool with a group of their own.
abbrev pub MakesGroups : Command → Type 0
MakesGroups (Create parity width id) = ⊥
MakesGroups StatusCommand = ⊥
MakesGroups other = ⊤

-- the parity and the width of a new pool
abbrev pub size_of : Command → Option (ℕ × ℕ)
size_of (Create parity width id) = Some (parity, width)
size_of (Load seed blocks parity width) = Some (parity, width)
size_of other = None
