-- What a turn of an attach comes to in which its commit is cut short, among the other clients' calls.
use Rattle.schedule.proofs.Words.{◌≡◌, arith, ap, held_under, ℕ, ◌-◌, List, Some, None, refl, sym, subst, slice_get}
use Rattle.schedule.proofs.Words.{CommitRun, Answer, ScriptCall, Script, calls_of, AttachRun, Done, IsTooMany}
use Rattle.schedule.proofs.Words.{StopsAttach, attach_commit, at_disk, HasTooManyOut, attaching_calls, attaching_stands}
use Rattle.schedule.proofs.Words.{look_stands, since_read, Client, UnderWay, TakesTurn, calls_under_way, setting_now}
use Rattle.schedule.proofs.Words.{LeavesGoing, TurnState, WorkGoesOn}
use Rattle.core_state.specs.declared.answer.Answer.TheVariants as answer
use Rattle.core_state.specs.declared.answer.Kind.TheVariants as kind
use Rattle.core_turns.proofs.sync.Stands.{commit_is_cut as cut_stands}
use Rattle.schedule.specs.declared.client.Work.TheVariants as work
use Rattle.schedule.proofs.attach.Commits.{its_group}
use Rattle.schedule.proofs.attach.Reads.{looked}
use Rattle.schedule.proofs.turn.Fitting.{attach_fits}
use Rattle.schedule.proofs.turn.Going.{attach_ends as going_ends}
use Rattle.schedule.proofs.turn.Recording.{recorded_goes}
use Rattle.schedule.proofs.attach.Refused.{refusal_right}
use Rattle.schedule.proofs.turn.Ends.{commit_is_cut}
use Rattle.schedule.proofs.turn.Comes.{GoesFrom, ItComes, alone, attach_calls, attach_on, comes_last, idle_now}
use Rattle.schedule.proofs.turn.Comes.{its_asked, its_stands, only, whole_recorded}

module _ {script : Script} {actor : ℕ} {before after : TurnState} {clients news : List Client} {call : ScriptCall}
    (takes : TakesTurn script actor before after clients news) {under : UnderWay} {run : AttachRun} {commit : CommitRun}
    (makes : attach_commit run ≡ Some commit) (does_is : under.work ≡ work.Attach run)
    (under_is : before.client.under_way ≡ Some under)
    (is : slice_get (calls_of script actor) (before.client.begun - 1) ≡ Some call)
    (goes : WorkGoesOn (work.Attach run) before.state after.state) (stops : StopsAttach before.state after.state) where
  open before.state use {core as old}
  open after.state use {core as now}

  abbrev from : GoesFrom script actor before after clients news call under (work.Attach run)
  from = record { takes = takes; does_is = does_is; under_is = under_is; is = is }

  -- Too many devices are out.
  cut : (out : ℕ) → HasTooManyOut old → out ≡ old.pool.out
      → LeavesGoing actor call before after under (Done (answer.TooManyFailed out)) → ItComes takes
  cut out many out_is leaves = comes_last from (answer.TooManyFailed out) leaves (attach_on from goes) leaves.0
      (attach_fits asked.0 tt (λ listed told. (many, cc)) (λ reached told. cc) tt)
      (λ full. cc) (going_ends takes.was takes.changes takes.schedule.going (rw (same, stops.core)
      (attaching_calls old None (calls_under_way clients) takes.schedule.going.are)) (alone from) (cc) idle
      (only from makes) (λ its committing. subst HasTooManyOut (sym stops.core) many))
      (λ world past of_world within listed was.
      let runs = looked after.state.disk takes.schedule.going takes.is takes.still_lawful stops.unchanged was in
      let stood = cut_stands many (look_stands before.state (at_disk old after.state.disk) takes.is refl stops.unchanged
      takes.still_lawful (its_stands from makes was)) in
      let whole = recorded_goes (whole_recorded from makes was (its_group from makes was) (λ awaits. awaits))
      stops.unchanged.goes_on.later
      (λ groups time row. since_read (setting_now was) groups time before.state.disk after.state.disk stops.unchanged)
      in
      commit_is_cut takes runs None whole refl idle refl (refusal_right asked.0 tt tt) tt listed refl (only from makes)
      (rw same (rw stops.core (attaching_stands old None after.state.disk takes.is stood))))
    where
      asked : (call.kind ≡ kind.Attach) × (call.id ≡ None)
      asked = its_asked from

      idle : after.client.under_way ≡ None
      idle = idle_now from (answer.TooManyFailed out) leaves

      same : calls_under_way news ≡ calls_under_way clients
      same = attach_calls from (ap held_under idle)

  pub attach_cut : (given : Answer) → IsTooMany old given → LeavesGoing actor call before after under (Done given)
      → ItComes takes
  attach_cut given many leaves = grind (arith, cut)
