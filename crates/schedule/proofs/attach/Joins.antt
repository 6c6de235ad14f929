-- What the turn of an attach comes to in which its commit begins, among the other clients' calls.
use Rattle.schedule.proofs.Words.{◌≡◌, ℕ, ◌-◌, List, Some, refl, sym, ◌∙◌, ap, subst, arith, slice_get}
use Rattle.schedule.proofs.Words.{FreeDevice, JoinRun, Item, Kept, World, ScriptCall, Script, calls_of}
use Rattle.schedule.proofs.Words.{width_step_where, Checked}
use Rattle.schedule.proofs.Words.{Joins, More, BeginsJoining, IsAttachRunOf, Core, attach_joins_stands}
use Rattle.schedule.proofs.Words.{commit_begins_calls, few_out, Client, UnderWay, TakesTurn, IsBegunAt, HasDeviceUnder}
use Rattle.schedule.proofs.Words.{LeavesGoing, TurnState, WorkGoesOn}
use Rattle.core_state.specs.declared.item.Group.{Group as GroupItem}
use Rattle.schedule.specs.declared.client.Work.TheVariants as work
use Rattle.schedule.proofs.attach.Commits.{attach_makes}
use Rattle.schedule.proofs.sync.Begun.{begun_now}
use Rattle.schedule.proofs.turn.GoesOn.{commit_begins, nobody_commits, stands_idle}
use Rattle.schedule.proofs.turn.Theirs.{same_attach}
use Rattle.schedule.proofs.turn.Comes.{GoesFrom, ItComes, its_attach, its_known}

-- A group that was begun when no attach was known to be due may be an attach's.
begun_tells : {told : Type 0} {world : World} {items : List Item} {item : GroupItem} {after : ℕ} {next : Kept}
    → IsBegunAt world items item after ⊥ next → IsBegunAt world items item after told next
begun_tells begun = search (width_step_where, arith)

module _ {script : Script} {actor : ℕ} {before after : TurnState} {clients news : List Client} {call : ScriptCall}
    (takes : TakesTurn script actor before after clients news) {under : UnderWay} {found : FreeDevice} {join : JoinRun}
    (does_is : under.work ≡ work.Attach (Checked found)) (under_is : before.client.under_way ≡ Some under)
    (is : slice_get (calls_of script actor) (before.client.begun - 1) ≡ Some call)
    (goes : WorkGoesOn (work.Attach (Checked found)) before.state after.state)
    (joins : BeginsJoining before.state after.state join) (of : IsAttachRunOf after.state.core (Joins join)) where
  open before.state use {core as old}
  open after.state use {core as now}

  abbrev from : GoesFrom script actor before after clients news call under (work.Attach (Checked found))
  from = record { takes = takes; does_is = does_is; under_is = under_is; is = is }

  of_core : IsAttachRunOf old (Checked found) × (old.attaching ≡ Some actor)
  of_core = its_attach from

  -- The commit of an attach begins.
  pub attach_joins : LeavesGoing actor call before after under (More (work.Attach (Joins join))) → ItComes takes
  attach_joins further = attach_makes from (Joins join) goes
      (nobody_commits actor takes.schedule.going joins.begins.none) refl refl
      further (search commit_begins_calls) of joins.begins.of (ap (λ (c : Core). c.attaching) joins.begins.rest)
      (ap (λ (c : Core). c.committing) joins.begins.rest ∙ sym joins.under_way ∙ of_core.1)
      (λ same client_is world past handed within listed runs.
      let alone = stands_idle runs joins.begins.none in
      let unmade = alone.1 in
      let made = attach_joins_stands found takes.is takes.lawful of_core.0
      (rw does_is at (subst (HasDeviceUnder before.state.disk) under_is
      (takes.schedule.there actor before.client takes.was))) joins takes.schedule.going.are unmade
      (its_known from runs) in
      let its = begun_now runs.recorded (search) (search arith) (λ id. cc) made.2 in
      commit_begins takes runs old.pool.uber.reflow.to join.run
      (unmade.groups.whole (few_out old joins.begins.few)).0 alone.0 refl (cc) joins.disk client_is
      (made.0, refl, begun_tells its) (λ asked. tt) (λ its_run its_is. rw (← same_attach its_is) made.7) (search same))
