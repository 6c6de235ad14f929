-- Copies, turn by turn: rounds of jobs and commits.
use Rattle.std.specs.Prelude.{◌≡◌, ◌⊎◌, ℕ, ◌<◌, Option, Some, None, ⊤}
use Rattle.reflow_mark.specs.Reflow.{Expands}
use Rattle.reflow_copier.specs.Jobs.{next_job_of}
use Rattle.block_table.specs.Table.{IsTable}
use Rattle.core_copy.specs.Progress.{call_count}
use Rattle.core_state.specs.declared.answer.Answer.{Answer}
use Rattle.core_state.specs.declared.answer.Answer.TheVariants as answer
use Rattle.core_turns.specs.declared.rounds.CopyRound.{CopyRound}
use Rattle.core_turns.specs.declared.rounds.CopyRound.TheVariants.{Rests, Copies, Commits}
use Rattle.core_turns.specs.declared.turn.Turn.{Turn}
use Rattle.core_turns.specs.declared.turn.Turn.TheVariants.{More, Busy, Done}
use Rattle.core_turns.specs.Core.{Core, CoreState}
use Rattle.core_turns.specs.Getting.{HasTooManyOut}
use Rattle.core_turns.specs.Committing.{AnswersGroup, BeginsCommitSo, IsCommitOf, IsSyncRefused, StepsCommit}
use Rattle.core_turns.specs.Copying.{BeginsJobSo, DropsJob, EndsJob, IsJobBusy, IsJobOf, IsJobRefused, StepsJob}

-- What the copy has under way is the core's.
abbrev pub IsRoundOf : Core → CopyRound → Type 0
IsRoundOf core (Rests actor made) = ⊤
IsRoundOf core (Copies run) = IsJobOf core run
IsRoundOf core (Commits run) = IsCommitOf core run

abbrev pub IsMoreRound : Core → Turn CopyRound → Type 0
IsMoreRound core (More round) = IsRoundOf core round
IsMoreRound core other = ⊤

-- ---- a round begins

-- All is copied that may be before the next commit.
pub record IsCommitDue (core : Core) : Type 0 where
  pub expands : Expands core.pool.uber.reflow
  pub whole : core.pool.out ≡ 0
  pub none : core.copying ≡ None
  pub no_job : next_job_of core.pool.uber.reflow core.pool.done ≡ None

-- Another job is under way, or another's hold in the way of the one that is due; or another commit, where one is due.
abbrev pub IsRoundBusy : Core → ℕ → Type 0
IsRoundBusy core by = (Expands core.pool.uber.reflow × (core.pool.out ≡ 0) × IsJobBusy core by)
    ⊎ (IsCommitDue core × (core.committing ≡ Some by))

-- Why a copy ends as a round of it begins.
abbrev pub IsRoundRefused : Core → Answer → Type 0
IsRoundRefused core given = IsJobRefused core given ⊎ (IsCommitDue core × IsSyncRefused core given)

-- what a turn comes to in which a round begins
abbrev pub BeginsRound : Core → Core → ℕ → Turn CopyRound → Type 0
BeginsRound old new actor (More (Rests whose made)) = ⊥
BeginsRound old new actor (More (Copies run)) = BeginsJobSo old new actor run
BeginsRound old new actor (More (Commits run)) =
    IsCommitDue old × IsTable old.pool.blocks.table × BeginsCommitSo old new actor run
BeginsRound old new actor (Busy by) = IsRoundBusy old by × (new ≡ old)
BeginsRound old new actor (Done given) = IsRoundRefused old given × (new ≡ old)

-- ---- later turns

-- The copy rests behind a job: nothing was made.
abbrev pub RestsBehind : ℕ → ℕ → Option ℕ → Type 0
RestsBehind was actor made = (actor ≡ was) × (made ≡ None)

-- what a later turn of a copy comes to
abbrev pub StepsCopy : CoreState → CopyRound → CoreState → Turn CopyRound → Type 0
StepsCopy before (Rests was made) after (More (Rests actor next)) =
    RestsBehind was actor next × ((by : ℕ) × IsRoundBusy before.core by) × (after ≡ before)
StepsCopy before (Rests actor made) after (More (Copies run)) =
    BeginsRound before.core after.core actor (More (Copies run)) × (after.disk ≡ before.disk)
StepsCopy before (Rests actor made) after (More (Commits run)) =
    BeginsRound before.core after.core actor (More (Commits run)) × (after.disk ≡ before.disk)
StepsCopy before (Rests actor made) after (Done given) = IsRoundRefused before.core given × (after ≡ before)
StepsCopy before (Copies run) after (More (Copies next)) =
    (run.job.made < call_count run.job.reflow run.job.job) × StepsJob before run after next
StepsCopy before (Copies run) after (More (Rests actor next)) =
    RestsBehind run.hold.actor actor next × (after.disk ≡ before.disk)
    × (((before.core.pool.out ≡ 0) × (run.job.made ≡ call_count run.job.reflow run.job.job)
    × EndsJob before.core after.core run)
    ⊎ ((HasTooManyOut before.core → ⊥) × DropsJob before.core after.core run))
StepsCopy before (Copies run) after (Done given) = (after.disk ≡ before.disk)
    × DropsJob before.core after.core run × HasTooManyOut before.core
    × (given ≡ answer.TooManyFailed before.core.pool.out)
StepsCopy before (Commits run) after (More (Commits next)) = StepsCommit before run after (More next)
StepsCopy before (Commits run) after (More (Rests actor made)) = (before.core.committing ≡ Some actor)
    × ((group : ℕ) × (made ≡ Some group) × AnswersGroup before run after group)
StepsCopy before (Commits run) after (Done given) = HasTooManyOut before.core
    × (given ≡ answer.TooManyFailed before.core.pool.out) × (after ≡ before)
StepsCopy before round after turn = ⊥
