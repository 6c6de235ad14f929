-- Commits, turn by turn.
use Rattle.std.specs.Prelude.{◌≡◌, ◌⊎◌, ℕ, ◌+◌, ◌≤◌, ◌<◌, List, length, Some, None, ⊤, Contains}
use Rattle.range_locks.specs.declared.hold.Hold.{Hold}
use Rattle.range_locks.specs.declared.hold.HoldKind.TheVariants.{Exclusive}
use Rattle.range_locks.specs.Gaining.{Gains}
use Rattle.range_locks.specs.Holds.{EndsHold, HasSectors}
use Rattle.reflow_mark.specs.declared.reflow.Reflow.{Reflow}
use Rattle.mark_choice.specs.Clear.{HasNoShared}
use Rattle.mark_choice.specs.CommitChoice.{IsCommitChoice, range_of_commit}
use Rattle.block_table.specs.Table.{IsTable}
use Rattle.uberblock_ring.specs.Devices.{IsWithin}
use Rattle.commit_job.specs.Stages.{plan_of}
use Rattle.core_state.specs.declared.answer.Answer.{Answer}
use Rattle.core_state.specs.declared.answer.Answer.TheVariants as answer
use Rattle.core_state.specs.Committing.{point_of}
use Rattle.core_commit.specs.declared.commit_run.Stage.TheVariants.{Lays}
use Rattle.core_commit.specs.declared.commit_run.CommitStep.TheVariants.{Called}
use Rattle.core_commit.specs.CommitTurns.{CommitRun, HasEnded, CommitSteps}
use Rattle.uberblock_ring.specs.Uberblock.{Uber, max_group}
use Rattle.core_open.specs.Answered.{IsNextGroup, answered_by}
use Rattle.core_open.specs.NextGroup.{uber_for}
use Rattle.core_open.specs.Pool.{Pool}
use Rattle.core_turns.specs.declared.turn.Turn.{Turn}
use Rattle.core_turns.specs.declared.turn.Turn.TheVariants.{More, Busy, Done}
use Rattle.core_turns.specs.Core.{Core, CoreState, alone_below}
use Rattle.core_turns.specs.Getting.{HasTooManyOut}

-- a commit of the map as it is, at a chosen reflow, of which no call was made
abbrev pub commit_of : Pool → Reflow → CommitRun
commit_of pool chosen = record {
  uber = uber_for pool chosen;
  entries = pool.blocks.table.entries;
  calls = plan_of chosen.to (length pool.blocks.table.entries);
  stage = Lays;
}

-- the hold of a commit on the sectors whose standing it changes
abbrev pub hold_for : Reflow → Reflow → ℕ → Hold
hold_for before chosen actor = record {
  lo = (range_of_commit before chosen).0;
  hi = (range_of_commit before chosen).1;
  actor = actor;
  kind = Exclusive;
}

-- The hold begins below the front, if it has a sector, and is the only one there that is held alone; none is where it
-- has none. Nobody shares its sectors.
pub record IsHeldAlone (front : ℕ) (holds : List Hold) (hold : Hold) : Type 0 where
  pub low : HasSectors hold → hold.lo < front
  pub held : (HasSectors hold × Contains holds hold × (alone_below front holds ≡ 1))
      ⊎ ((HasSectors hold → ⊥) × (alone_below front holds ≡ 0))
  pub clear : HasNoShared holds (hold.lo, hold.hi)

-- A hold is taken where it has a sector.
abbrev pub TakesHold : List Hold → List Hold → Hold → Type 0
TakesHold old new hold = (HasSectors hold × Gains old new hold) ⊎ ((HasSectors hold → ⊥) × (new ≡ old))

-- It has ended where it had one.
abbrev pub DropsHold : List Hold → List Hold → Hold → Type 0
DropsHold old new hold = (HasSectors hold × EndsHold old new hold) ⊎ ((HasSectors hold → ⊥) × (new ≡ old))

-- The commit under way is one of this core: it makes the group that was begun last, of the pool's devices, at a reflow
-- that may be recorded at the pool's front, with the devices that the pool reaches to, and holds the sectors whose
-- standing that changes.
pub record IsCommitOf (core : Core) (run : CommitRun) : Type 0 where
  pub actor : ℕ
  pub under_way : core.committing ≡ Some actor
  pub number : run.uber.group ≡ core.begun
  pub next : IsNextGroup core.pool run.uber
  pub holds : IsHeldAlone core.pool.done core.holds (hold_for core.pool.uber.reflow run.uber.reflow actor)
  pub lists : IsWithin run.uber.out core.pool.out
  pub reach : core.reach ≡ run.uber.reflow.to

-- Why a sync ends in its first turn.
abbrev pub IsSyncRefused : Core → Answer → Type 0
IsSyncRefused core (answer.TooManyFailed out) = HasTooManyOut core × (out ≡ core.pool.out)
IsSyncRefused core (answer.Limit reached) = (HasTooManyOut core → ⊥) × (core.committing ≡ None)
    × (reached ≡ max_group) × (max_group ≤ core.begun + 1)
IsSyncRefused core answer.NoMemory = (HasTooManyOut core → ⊥) × (core.committing ≡ None)
    × (core.begun + 1 < max_group)
IsSyncRefused core other = ⊥

-- A commit begins: it makes the group of the map as it is, and holds the sectors whose standing its choice changes.
pub record BeginsCommitSo (old new : Core) (actor : ℕ) (run : CommitRun) : Type 0 where
  pub few : HasTooManyOut old → ⊥
  pub none : old.committing ≡ None
  pub limit : old.begun + 1 < max_group
  pub choice : IsCommitChoice old.pool.uber.reflow old.pool.done old.holds run.uber.reflow
  pub run_is : run ≡ commit_of old.pool run.uber.reflow
  pub holds : TakesHold old.holds new.holds (hold_for old.pool.uber.reflow run.uber.reflow actor)
  pub rest : new ≡ record old { holds = new.holds; begun = old.begun + 1; committing = Some actor }
  pub of : IsCommitOf new run

-- what the first turn of a sync comes to
abbrev pub BeginsCommit : Core → Core → ℕ → Turn CommitRun → Type 0
BeginsCommit old new actor (More run) = BeginsCommitSo old new actor run
BeginsCommit old new actor (Busy by) = (HasTooManyOut old → ⊥) × (old.committing ≡ Some by) × (new ≡ old)
BeginsCommit old new actor (Done given) = IsSyncRefused old given × (new ≡ old)

-- The blocks of a commit that begins are those of a table.
abbrev pub HasTable : Core → Turn CommitRun → Type 0
HasTable core (More run) = IsTable core.pool.blocks.table
HasTable core other = ⊤

-- The group of this uberblock is the last answered one, and what its commit held is free.
pub record AnswersUber (old new : Core) (uber : Uber) : Type 0 where
  pub actor : ℕ
  pub under_way : old.committing ≡ Some actor
  pub holds : DropsHold old.holds new.holds (hold_for old.pool.uber.reflow uber.reflow actor)
  pub rest : new ≡ record old { pool = answered_by uber old.pool; holds = new.holds; committing = None }

-- The group of a commit, of which no call is left, is answered.
pub record AnswersGroup (before : CoreState) (run : CommitRun) (after : CoreState) (group : ℕ) : Type 0 where
  pub few : HasTooManyOut before.core → ⊥
  pub ended : CommitRun
  pub ends : HasEnded run (point_of before.core.pool.out before.disk) ended
      (point_of after.core.pool.out after.disk)
  pub answers : AnswersUber before.core after.core ended.uber
  pub group_is : group ≡ before.core.begun

-- what a turn of a commit comes to
abbrev pub StepsCommit : CoreState → CommitRun → CoreState → Turn CommitRun → Type 0
StepsCommit before run after (More next) = (HasTooManyOut before.core → ⊥)
    × CommitSteps run (point_of before.core.pool.out before.disk) next (point_of after.core.pool.out after.disk)
    Called
    × (after.core ≡ record before.core { pool = record before.core.pool { out = after.core.pool.out } })
    × IsCommitOf after.core next
StepsCommit before run after (Busy by) = ⊥
StepsCommit before run after (Done (answer.Synced group)) = AnswersGroup before run after group
StepsCommit before run after (Done (answer.TooManyFailed out)) =
    HasTooManyOut before.core × (out ≡ before.core.pool.out) × (after ≡ before)
StepsCommit before run after (Done other) = ⊥
