-- What the first turn of a copy comes to, among the other clients' calls.
use Rattle.schedule.proofs.Words.{◌≡◌, ℕ, List, refl, arith, Some, None, slice_get, slice_get_within, Answer, CommitRun}
use Rattle.schedule.proofs.Words.{ScriptCall, Script, calls_of, CopyRun, Copies, Commits, More, Busy, Done, BeginsJobSo}
use Rattle.schedule.proofs.Words.{BeginsRound, rests, job_begins_calls, job_begins_stands, TakesTurn, LeavesBegun}
use Rattle.schedule.proofs.Words.{TurnState, Client}
use Rattle.core_state.specs.declared.answer.Kind.TheVariants as kind
use Rattle.schedule.specs.declared.client.Work.TheVariants as work
use Rattle.schedule.proofs.sync.Works.{copy_makes}
use Rattle.schedule.proofs.copy.Refused.{AnswersCopy, round_answers}
use Rattle.schedule.proofs.turn.Fitting.{group_fits}
use Rattle.schedule.proofs.turn.LeavesPool.{LeavesPool, holds_left, job_begun_leaves}
use Rattle.schedule.proofs.turn.Running.{with_same}
use Rattle.schedule.proofs.sync.Comes.{commit_comes}
use Rattle.schedule.proofs.turn.Theirs.{calls_of_others, idle_no_attach}
use Rattle.schedule.proofs.turn.Comes.{Dropped, ItComes, comes_begun, comes_nowhere, comes_refused, first_entry}
use Rattle.schedule.proofs.turn.Comes.{held_gains}

module _ {script : Script} {actor : ℕ} {before after : TurnState} {clients news : List Client} {call : ScriptCall}
    (takes : TakesTurn script actor before after clients news) (asked : call.kind ≡ kind.Copy) (no_id : call.id ≡ None)
    (idle : before.client.under_way ≡ None) (next : slice_get (calls_of script actor) before.client.begun ≡ Some call)
    (disk : after.state.disk ≡ before.state.disk) where
  open before.state use {core as old}
  open after.state use {core as now}

  -- A copy begins with a job, which holds its sectors alone,
  pub copy_begins : (run : CopyRun) → BeginsJobSo old now actor run
      → LeavesBegun actor call before after (More (work.Copy (Copies run))) → ItComes takes
  copy_begins run begins leaves =
      let gains = held_gains takes idle change disk next leaves refl in
      comes_begun takes idle change disk next leaves refl tt (cc) (asked, no_id)
      (search (job_begins_calls, calls_of_others))
      (λ world past runs. (
        runs.contents actor,
        tt,
        rw (with_same runs.contents actor, disk) (job_begins_stands actor takes.is begins gains runs.stands),
      ))
    where
      change : LeavesPool old now
      change = job_begun_leaves begins

  -- or with a commit.
  pub copy_commits : (run : CommitRun) → BeginsRound old now actor (More (Commits run))
      → LeavesBegun actor call before after (More (work.Copy (Commits run))) → ItComes takes
  copy_commits run begins leaves =
      commit_comes copy_makes call takes (asked, no_id) (cc) (idle_no_attach idle) disk begins.1 begins.2
      (search arith) leaves.0 leaves.1 (cc) (search (slice_get_within, arith))

  -- A copy waits for another's call.
  pub copy_waits : {by : ℕ} → BeginsRound old now actor (Busy by) → LeavesBegun actor call before after (Busy by)
      → ItComes takes
  copy_waits waits leaves = comes_nowhere takes (search arith)

  -- A copy is answered at once.
  pub copy_at_once : (given : Answer) → BeginsRound old now actor (Done given)
      → LeavesBegun actor call before after (Done given) → ItComes takes
  copy_at_once given refused leaves =
      comes_refused takes idle (holds_left refused.1) disk next refused.1 leaves (search (group_fits, arith))
      answers.no_full answers.no_block
      (λ world past runs. answers.right world before.items runs.item (first_entry call actor before given)
      after.state.disk asked refl runs.recorded.latest (search arith) (search arith) (search (rests, arith)))
    where
      answers : AnswersCopy old before.state.disk.devices (Dropped takes) given
      answers = round_answers old given refused.0
