-- A scrub, turn by turn: the blocks of the table, one after the other.
use Rattle.std.specs.Prelude.{◌≡◌, ◌≢◌, ◌⊎◌, ℕ, ◌+◌, ◌≤◌, Bool, true, false, List, [], ◌∷◌, ◌++◌, length, slice_get}
use Rattle.std.specs.Prelude.{Option, Some, None, ⊤}
use Rattle.bank_trait.specs.Causes.{counted}
use Rattle.block_table.specs.Table.{ids_of}
use Rattle.core_state.specs.declared.answer.Answer.{Answer}
use Rattle.core_state.specs.declared.answer.Answer.TheVariants as answer
use Rattle.core_turns.specs.declared.block_scrub.BlockScrub.{BlockScrub}
use Rattle.core_turns.specs.declared.block_scrub.BlockStage.TheVariants.{Reads, Finds, Looks, Mends, Leaves}
use Rattle.core_turns.specs.declared.solving.Solved.{Solved}
use Rattle.core_turns.specs.declared.solving.Solved.TheVariants.{Damaged}
use Rattle.core_turns.specs.declared.turn.Turn.{Turn}
use Rattle.core_turns.specs.declared.turn.Turn.TheVariants.{More, Busy, Done}
use Rattle.core_turns.specs.Core.{Core, CoreState, at_disk}
use Rattle.core_turns.specs.Getting.{HasTooManyOut}
use Rattle.core_turns.specs.Scrubbing.{BeginsBlock, DropsBlock, FindsBlock, IsAtStage, IsScrubOf, LeavesBlock, LooksOne}
use Rattle.core_turns.specs.Scrubbing.{MendsOne, ReadsBlock}

-- whose it is, the ids that the table had when it began and how many of them were passed, the block that is in hand,
-- how many blocks were there, how many places read otherwise, and the ids of blocks that no choice of suspects gave
pub record ScrubRun : Type 0 where
  pub actor : ℕ
  pub ids : List ℕ
  pub next : ℕ
  pub block : Option BlockScrub
  pub blocks : ℕ
  pub repaired : ℕ
  pub damaged : List ℕ

-- It counts no more blocks than it has passed.
pub record IsScrubRun (run : ScrubRun) : Type 0 where
  pub few : length run.ids ≤ 512
  pub passed : run.next ≤ length run.ids
  pub counted : run.blocks ≤ run.next

-- a scrub of these ids, of which none was passed
abbrev pub begun_scrub : ℕ → List ℕ → ScrubRun
begun_scrub actor ids = record {
  actor = actor;
  ids = ids;
  next = 0;
  block = None;
  blocks = 0;
  repaired = 0;
  damaged = [];
}

-- the id that comes next
abbrev pub next_id : ScrubRun → Option ℕ
next_id run = slice_get run.ids run.next

-- The block in hand is one of this core, under the scrub that is under way.
abbrev pub IsBlockOf : Core → Option BlockScrub → Type 0
IsBlockOf core None = ⊤
IsBlockOf core (Some block) = IsScrubOf core block

-- The scrub is the one that is under way in this core.
pub record IsScrubRunOf (core : Core) (run : ScrubRun) : Type 0 where
  pub under_way : core.scrubbing ≡ Some run.actor
  pub block : IsBlockOf core run.block

abbrev pub IsMoreScrubRun : Core → Turn ScrubRun → Type 0
IsMoreScrubRun core (More run) = IsScrubRunOf core run
IsMoreScrubRun core other = ⊤

-- ---- the first turn

-- what the first turn of a scrub comes to
abbrev pub BeginsScrub : Core → Core → ℕ → Turn ScrubRun → Type 0
BeginsScrub old new actor (More run) = (HasTooManyOut old → ⊥) × (old.scrubbing ≡ None)
    × (run ≡ begun_scrub actor (ids_of old.pool.blocks.table.entries)) × (new ≡ record old { scrubbing = Some actor })
BeginsScrub old new actor (Busy by) = (HasTooManyOut old → ⊥) × (old.scrubbing ≡ Some by) × (new ≡ old)
BeginsScrub old new actor (Done (answer.TooManyFailed out)) = HasTooManyOut old × (out ≡ old.pool.out) × (new ≡ old)
BeginsScrub old new actor (Done answer.NoMemory) = (HasTooManyOut old → ⊥) × (old.scrubbing ≡ None) × (new ≡ old)
BeginsScrub old new actor (Done other) = ⊥

-- ---- a turn between two blocks

-- The next block is taken up,
pub record TakesUp (before : CoreState) (run : ScrubRun) (after : CoreState) (next : ScrubRun) : Type 0 where
  pub id : ℕ
  pub id_is : next_id run ≡ Some id
  pub block : BlockScrub
  pub begins : BeginsBlock before.core after.core run.actor id (More block)
  pub next_is : next ≡ record run { next = run.next + 1; block = Some block; blocks = run.blocks + 1 }
  pub disk : after.disk ≡ before.disk

-- or waits for another's call,
pub record WaitsForBlock (before : CoreState) (run : ScrubRun) (after : CoreState) (next : ScrubRun) : Type 0 where
  pub id : ℕ
  pub id_is : next_id run ≡ Some id
  pub by : ℕ
  pub begins : BeginsBlock before.core after.core run.actor id (Busy by)
  pub next_is : next ≡ run
  pub disk : after.disk ≡ before.disk

-- or is gone, and passed over.
pub record PassesOver (before : CoreState) (run : ScrubRun) (after : CoreState) (next : ScrubRun) : Type 0 where
  pub id : ℕ
  pub id_is : next_id run ≡ Some id
  pub begins : BeginsBlock before.core after.core run.actor id (Done answer.Absent)
  pub next_is : next ≡ record run { next = run.next + 1 }
  pub disk : after.disk ≡ before.disk

-- ---- a turn at a block

-- one place more that reads otherwise, where it does
abbrev pub counted_with : Bool → ℕ → ℕ
counted_with true repaired = counted repaired
counted_with false repaired = repaired

-- the id of a block that was found, where it is damaged
abbrev pub listed_with : List ℕ → BlockScrub → Solved → List ℕ
listed_with damaged block Damaged = damaged ++ block.read.entry.id ∷ []
listed_with damaged block other = damaged

-- A column of the block is read,
pub record ReadsOn (before : CoreState) (run : ScrubRun) (block : BlockScrub) (after : CoreState) (next : ScrubRun) :
    Type 0 where
  pub stage : IsAtStage block Reads
  pub more : BlockScrub
  pub reads : ReadsBlock before block after (More more)
  pub next_is : next ≡ record run { block = Some more }

-- or it is found,
pub record FindsInHand (run : ScrubRun) (block : BlockScrub) (next : ScrubRun) : Type 0 where
  pub more : BlockScrub
  pub finds : FindsBlock block more
  pub next_is : next ≡ record run {
    block = Some more;
    damaged = listed_with run.damaged block more.read.solved;
  }

pub record FindsOn (before : CoreState) (run : ScrubRun) (block : BlockScrub) (after : CoreState) (next : ScrubRun) :
    Type 0 where
  pub stage : IsAtStage block Finds
  pub found : FindsInHand run block next
  pub rest : after ≡ before

-- or a place of it is looked at,
pub record LooksOn (before : CoreState) (run : ScrubRun) (block : BlockScrub) (after : CoreState) (next : ScrubRun) :
    Type 0 where
  pub stage : IsAtStage block Looks
  pub more : BlockScrub
  pub looks : LooksOne before block after more
  pub next_is : next ≡ record run { block = Some more; repaired = counted_with more.differs run.repaired }

-- or mended,
pub record MendsOn (before : CoreState) (run : ScrubRun) (block : BlockScrub) (after : CoreState) (next : ScrubRun) :
    Type 0 where
  pub stage : IsAtStage block Mends
  pub more : BlockScrub
  pub mends : MendsOne before block after more
  pub next_is : next ≡ record run { block = Some more }

-- or nothing of it is left and its hold ends,
pub record LeavesOn (before : CoreState) (run : ScrubRun) (block : BlockScrub) (after : CoreState) (next : ScrubRun) :
    Type 0 where
  pub stage : IsAtStage block Leaves
  pub leaves : LeavesBlock before.core after.core block
  pub next_is : next ≡ record run { block = None }
  pub disk : after.disk ≡ before.disk

-- or it stands no longer.
pub record DropsOn (before : CoreState) (run : ScrubRun) (block : BlockScrub) (after : CoreState) (next : ScrubRun) :
    Type 0 where
  pub drops : DropsBlock before block after
  pub next_is : next ≡ record run { block = None }

-- ---- the last turn

-- nothing of a scrub is under way
abbrev pub without_scrub : Core → Core
without_scrub core = record core { scrubbing = None }

-- Why a scrub ends between two blocks: all ids were passed, or the next block can't be taken up.
abbrev pub EndsBetween : CoreState → ScrubRun → Answer → Type 0
EndsBetween before run (answer.Scrubbed blocks repaired damaged) = (HasTooManyOut before.core → ⊥)
    × (next_id run ≡ None) × (blocks ≡ run.blocks) × (repaired ≡ run.repaired) × (damaged ≡ run.damaged)
EndsBetween before run (answer.TooManyFailed out) = HasTooManyOut before.core × (out ≡ before.core.pool.out)
EndsBetween before run answer.NoMemory = (HasTooManyOut before.core → ⊥) × (next_id run ≢ None)
EndsBetween before run other = ⊥

-- Why it ends at a block.
abbrev pub EndsAt : CoreState → BlockScrub → Answer → Type 0
EndsAt before block (answer.TooManyFailed out) = HasTooManyOut before.core × (out ≡ before.core.pool.out)
EndsAt before block answer.NoMemory = IsAtStage block Finds
EndsAt before block other = ⊥

-- What a last turn comes to: no block is in hand behind it.
abbrev pub EndsScrub : CoreState → ScrubRun → Option BlockScrub → CoreState → Answer → Type 0
EndsScrub before run None after given = EndsBetween before run given × (after ≡ before)
EndsScrub before run (Some block) after given =
    EndsAt before block given × LeavesBlock before.core after.core block × (after.disk ≡ before.disk)

-- ---- each later turn

abbrev pub GoesOn : CoreState → ScrubRun → Option BlockScrub → CoreState → ScrubRun → Type 0
GoesOn before run None after next =
    TakesUp before run after next ⊎ WaitsForBlock before run after next ⊎ PassesOver before run after next
GoesOn before run (Some block) after next = ReadsOn before run block after next ⊎ FindsOn before run block after next
    ⊎ LooksOn before run block after next ⊎ MendsOn before run block after next
    ⊎ LeavesOn before run block after next ⊎ DropsOn before run block after next

-- what a later turn comes to, before nothing is under way
abbrev pub StepsToEnd : CoreState → ScrubRun → CoreState → Turn ScrubRun → Type 0
StepsToEnd before run after (More next) = GoesOn before run run.block after next
StepsToEnd before run after (Busy by) = ⊥
StepsToEnd before run after (Done given) = EndsScrub before run run.block after given

-- what a later turn of a scrub comes to: nothing of it is under way once it is answered
abbrev pub StepsScrub : CoreState → ScrubRun → CoreState → Turn ScrubRun → Type 0
StepsScrub before run after (More next) = StepsToEnd before run after (More next)
StepsScrub before run after (Busy by) = ⊥
StepsScrub before run after (Done given) = (left : Core)
    × StepsToEnd before run (at_disk left after.disk) (Done given) × (after.core ≡ without_scrub left)
