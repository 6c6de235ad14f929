-- What the first turn of an attach comes to, among the other clients' calls.
use Rattle.schedule.proofs.Words.{◌≡◌, ℕ, ◌+◌, ◌-◌, List, length, Some, None, refl, sym, ap, subst, arith, slice_get}
use Rattle.schedule.proofs.Words.{slice_get_within, none_read, Answer, map_of, ScriptCall, Script, calls_of, AttachRun}
use Rattle.schedule.proofs.Words.{More, Busy, Done, BeginsAttach, BeginsAttachSo, attach_commit, at_disk, Stands}
use Rattle.schedule.proofs.Words.{attaching_calls, attaching_stands, turn_still, Client, UnderWay, calls_under_way}
use Rattle.schedule.proofs.Words.{setting_now, TurnState, LeavesBegun, TakesTurn, undamaged}
use Rattle.core_state.specs.declared.answer.Kind.TheVariants as kind
use Rattle.schedule.specs.declared.client.Work.TheVariants as work
use Rattle.schedule.proofs.turn.Answered.{answered_idle}
use Rattle.schedule.proofs.run.Coming.{goes_for}
use Rattle.schedule.proofs.turn.Fitting.{attach_fits}
use Rattle.schedule.proofs.turn.Going.{attach_begins as going_begins}
use Rattle.schedule.proofs.turn.LeavesPool.{holds_left}
use Rattle.schedule.proofs.attach.Refused.{IsRefusal, refusal_answers, refusal_map, refusal_right, refused_cause}
use Rattle.schedule.proofs.attach.Refused.{refused_caused, refused_is, refused_tells}
use Rattle.schedule.proofs.turn.GoesOn.{begins as runs_begins}
use Rattle.schedule.proofs.turn.Theirs.{none_there, calls_stay, none_some, same_attach}
use Rattle.schedule.proofs.turn.Running.{with_same}
use Rattle.schedule.proofs.turn.Comes.{ItComes, comes_nowhere, comes_refused, comes_under}

module _ {script : Script} {actor : ℕ} {before after : TurnState} {clients news : List Client} {call : ScriptCall}
    (takes : TakesTurn script actor before after clients news) (asked : call.kind ≡ kind.Attach)
    (no_id : call.id ≡ None) (idle : before.client.under_way ≡ None)
    (next : slice_get (calls_of script actor) before.client.begun ≡ Some call)
    (disk : after.state.disk ≡ before.state.disk) where
  open before.state use {core as old}
  open after.state use {core as now}

  -- An attach begins: nothing of the new device's ring is read yet.
  pub attach_begins : (run : AttachRun) → BeginsAttachSo old now before.state.disk.devices actor run
      → LeavesBegun actor call before after (More (work.Attach run)) → ItComes takes
  attach_begins run begins leaves = comes_under takes
      (goes_for (turn_still before.state after.state (cc) (cc) (cc) disk)) leaves.0 leaves.1
      (ap (λ (n : ℕ). n + 1) (sym (answered_idle idle))) (search (slice_get_within, arith))
      (going_begins takes.was takes.changes takes.schedule.going
      (rw (same_calls, begins.rest) (attaching_calls old (Some actor) (calls_under_way clients)
      takes.schedule.going.are)) begins.none.0 (cc) under run (ap (λ (c : Client). c.under_way) leaves.1) refl
      (cc) (cc) (search (number, none_some, no_commit, same_attach, arith)))
      (λ world past handed within listed runs.
      runs_begins takes runs (runs.contents actor) (work.Attach run)
      (λ its its_is. rw (← same_attach its_is) (search (none_read, arith))) idle disk leaves.1
      (none_there no_commit) (λ asked is. tt)
      (rw (with_same runs.contents actor, same_calls) (subst (Stands (setting_now runs) runs.last runs.begun
      (map_of world.handed world.opening before.items) undamaged runs.contents (calls_under_way clients) runs.commit)
      (λ i. at_disk (sym begins.rest i) (sym disk i))
      (attaching_stands old (Some actor) before.state.disk takes.is runs.stands))))
    where
      under : UnderWay
      under = record { at = length before.items; work = work.Attach run }

      number : after.client.begun - 1 ≡ before.client.begun
      number = omega (arith, ap (λ (c : Client). c.begun) leaves.1)

      no_commit : attach_commit run ≡ None
      no_commit = cc

      same_calls : calls_under_way news ≡ calls_under_way clients
      same_calls = calls_stay takes.was takes.changes (cc) (cc)

  -- An attach waits for another, or for a commit.
  pub attach_waits : {by : ℕ} → BeginsAttach old now before.state.disk.devices actor (Busy by)
      → LeavesBegun actor call before after (Busy by) → ItComes takes
  attach_waits waits leaves = comes_nowhere takes (search arith)

  -- An attach is refused at once.
  pub attach_at_once : (given : Answer) → BeginsAttach old now before.state.disk.devices actor (Done given)
      → LeavesBegun actor call before after (Done given) → ItComes takes
  attach_at_once given refused leaves =
      comes_refused takes idle (holds_left refused.1) disk next refused.1 leaves
      (search (attach_fits, refusal_answers, refusal, refused_tells, refused_cause, arith)) (search (refusal, arith))
      (λ handed map entry. refusal_map handed map entry given refusal)
      (λ world past runs. refusal_right asked refusal (refused_caused old before.state.disk.devices after.state.disk
      given runs.recorded.latest (search arith) (search arith) refused.0))
    where
      refusal : IsRefusal given
      refusal = search refused_is
