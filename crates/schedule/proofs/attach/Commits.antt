-- What the turns of an attach come to that make its commit, while the group stays as it was begun.
use Rattle.schedule.proofs.Words.{◌≡◌, call_of_client, ℕ, AreCallsOf, begun_at, length, inr, ℕ, ◌-◌, List, Option, Some}
use Rattle.schedule.proofs.Words.{refl, ◌∙◌, ap, subst, slice_get, IsWithin, Stage, Lays, CommitRun, map_of}
use Rattle.schedule.proofs.Words.{AwaitsAttach, World, WhyDropped, JoinRun, ScriptCall, Script, calls_of, AttachRun}
use Rattle.schedule.proofs.Words.{Joins, Signs, More, HoldsAttach, IsAttachRunOf, OnlyGoOut, StepsJoin, attach_commit}
use Rattle.schedule.proofs.Words.{IsCommitOf, StepsCommit, Core, HasTooManyOut, Stands, shown_in, join_drops_since}
use Rattle.schedule.proofs.Words.{join_drops_stands, join_goes_since, join_goes_stands, few_out, commit_steps_since}
use Rattle.schedule.proofs.Words.{commit_steps_stands, Client, UnderWay, TakesTurn, Past, HasBegun, HasBegunIn, Runs}
use Rattle.schedule.proofs.Words.{calls_under_way, setting_now, LeavesGoing, TurnState, WorkGoesOn, undamaged}
use Rattle.core_commit.specs.declared.commit_run.Stage.TheVariants.{Signs as Signing}
use Rattle.core_commit.specs.declared.join_run.JoinStep.TheVariants as step
use Rattle.core_turns.proofs.state.Frames.{calls_stay as core_calls}
use Rattle.schedule.specs.declared.client.Work.TheVariants as work
use Rattle.schedule.proofs.turn.Going.{attach_commits}
use Rattle.schedule.proofs.turn.Recording.{GoesOnSince, HalvesGoOn, recorded_goes}
use Rattle.schedule.proofs.turn.GoesOn.{commit_runs, only_known}
use Rattle.schedule.proofs.sync.Syncs.{halves_go}
use Rattle.schedule.proofs.turn.Theirs.{OnlyIt, same_attach}
use Rattle.schedule.proofs.turn.Comes.{GoesFrom, ItComes, RunsOn, alone, attach_calls, attach_on, comes_further}
use Rattle.schedule.proofs.turn.Comes.{halves_recorded, its_asked, its_attach, its_commit, its_going, its_known}
use Rattle.schedule.proofs.turn.Comes.{its_stands, only}

-- The first half may go on, or the second one begin.
pub from_first : (to : Stage) → HalvesGoOn Lays to
from_first Lays = tt
from_first Signing = tt

module _ {script : Script} {actor : ℕ} {before after : TurnState} {clients news : List Client} {call : ScriptCall}
    {under : UnderWay} {run : AttachRun}
    (from : GoesFrom script actor before after clients news call under (work.Attach run)) where
  open from use {takes, does_is, under_is, is}
  open before.state use {core as old}
  open after.state use {core as now}

  -- It makes this commit by now, and holds no sectors still.
  pub attach_makes : {at : ℕ} (next : AttachRun) {made : CommitRun}
      → WorkGoesOn (work.Attach run) before.state after.state → OnlyIt clients actor → attach_commit next ≡ Some made
      → begun_at (Some made) (attach_commit run) under.at (length before.items) ≡ at
      → LeavesGoing actor call before after under (More (work.Attach next)) → AreCallsOf now (calls_under_way clients)
      → IsAttachRunOf now next → IsCommitOf now made → now.attaching ≡ old.attaching → now.committing ≡ Some actor
      → (calls_under_way news ≡ calls_under_way clients → after.client ≡ record {
        begun = before.client.begun;
        under_way = Some (record { at = at; work = work.Attach next });
      } → RunsOn script before after clients news before.items) → ItComes takes
  attach_makes {at} next goes only_it makes at_is further are of of_commit attaching committing runs =
      comes_further from (work.Attach next) (attach_on from goes) further refl
      (attach_commits takes.was takes.changes takes.schedule.going (rw same are) (alone from) only_it refl of
      (attaching ∙ (its_attach from).1) (ap (λ (c : Client). c.under_way) client_is) makes tt
      (ap (λ (c : Client). slice_get (calls_of script actor) (c.begun - 1)) further.1 ∙ is) (its_asked from) of_commit
      committing) (runs same client_is)
    where
      client_is : after.client
          ≡ record { begun = before.client.begun; under_way = Some (record { at = at; work = work.Attach next }) }
      client_is = cc

      same : calls_under_way news ≡ calls_under_way clients
      same = attach_calls from (ap call_of_client client_is)

  module _ {commit : CommitRun} (makes : attach_commit run ≡ Some commit) where
    -- The group begun is the attach's.
    pub its_group : {world : World} {past : Past} (runs : Runs world script past before.state before.items clients)
        → HasBegun world before.items runs.item runs.begun under.at (AwaitsAttach world.calls before.items under.at)
    its_group {world = world} runs = subst (HasBegunIn world before.items runs.item runs.begun under.at) makes
        (rw does_is at (runs.each actor before.client under (its_going from)).group)

    -- The commit goes on to this one, with which this stands.
    attach_steps : WorkGoesOn (work.Attach run) before.state after.state → (next : AttachRun) (made : CommitRun)
        → attach_commit next ≡ Some made → (HasTooManyOut old → ⊥)
        → now ≡ record old { pool = record old.pool { out = now.pool.out } } → IsAttachRunOf now next
        → IsCommitOf now made
        → ((world : World) (past : Past) (runs : Runs world script past before.state before.items clients)
        → IsWithin old.pool.out world.setting.failed → HalvesGoOn commit.stage made.stage
        × GoesOnSince (setting_now runs) runs.last (shown_in runs.begun made.stage) before.state.disk after.state.disk
        × HoldsAttach (setting_now runs) runs.last runs.begun after.state.disk next
        × Stands (setting_now runs) runs.last runs.begun (map_of world.handed world.opening before.items) undamaged runs.contents
        (calls_under_way clients) (Some made) after.state)
        → LeavesGoing actor call before after under (More (work.Attach next)) → ItComes takes
    attach_steps goes next made next_makes few core of of_commit stands further = attach_makes next goes
        (only from makes) next_makes (cc) further (search core_calls) of of_commit (ap (λ (c : Core). c.attaching) core)
        (ap (λ (c : Core). c.committing) core ∙ (its_commit from makes).1)
        (λ same client_is world past handed within listed runs.
        let stood = stands world past runs (within (few_out old few)) in
        commit_runs takes runs runs.reach made
        (recorded_goes (halves_recorded from makes runs (its_group runs) (λ awaits. awaits) made.stage stood.0)
        goes.0.later stood.1) next_makes client_is (inr (under, under_is, refl)) (rw next_makes (its_group runs))
        (λ asked. tt) (λ its its_is. rw (← same_attach its_is) stood.2)
        (only_known takes runs runs.reach runs.begun (only from makes) (alone from)) (rw same stood.3))

-- ---- turn by turn

module _ {script : Script} {actor : ℕ} {before after : TurnState} {clients news : List Client} {call : ScriptCall}
    (takes : TakesTurn script actor before after clients news) {under : UnderWay}
    (under_is : before.client.under_way ≡ Some under)
    (is : slice_get (calls_of script actor) (before.client.begun - 1) ≡ Some call) where
  abbrev begins_from : {run : AttachRun} → under.work ≡ work.Attach run
      → GoesFrom script actor before after clients news call under (work.Attach run)
  begins_from does_is = record { takes = takes; does_is = does_is; under_is = under_is; is = is }

  -- The device has come one call further beside the commit.
  pub join_goes : (join next : JoinRun) → under.work ≡ work.Attach (Joins join)
      → WorkGoesOn (work.Attach (Joins join)) before.state after.state
      → StepsJoin before.state join after.state (step.GoesOn next) → OnlyGoOut before.state after.state
      → IsAttachRunOf after.state.core (Joins next)
      → LeavesGoing actor call before after under (More (work.Attach (Joins next))) → ItComes takes
  join_goes join next does_is goes did core of = let from = begins_from does_is in
      attach_steps from refl goes (Joins next) next.run refl did.few core of of.0.of
      (λ world past runs within.
      let its = its_stands from refl runs in
      let known = its_known from runs in
      let attach = its_attach from in
      let stood = join_goes_stands join takes.is takes.schedule.going.are attach.0.1 its known after.state next did
      core within takes.still_lawful in (
        rw known.3 (from_first next.run.stage),
        search join_goes_since,
        stood.1,
        stood.0,
      ))

  -- It does not join.
  pub join_drops : (join : JoinRun) (made : CommitRun) (because : WhyDropped) → under.work ≡ work.Attach (Joins join)
      → WorkGoesOn (work.Attach (Joins join)) before.state after.state
      → StepsJoin before.state join after.state (step.Dropped made because) → OnlyGoOut before.state after.state
      → IsAttachRunOf after.state.core (Signs made (Some because))
      → LeavesGoing actor call before after under (More (work.Attach (Signs made (Some because)))) → ItComes takes
  join_drops join made because does_is goes did core of = let from = begins_from does_is in
      attach_steps from refl goes (Signs made (Some because)) made refl did.few core of of.0.of
      (λ world past runs within.
      let its = its_stands from refl runs in
      let known = its_known from runs in
      let attach = its_attach from in (
        rw known.3 (from_first made.stage),
        search join_drops_since,
        tt,
        search join_drops_stands,
      ))

  -- The second half goes on.
  pub signs_on : (commit next : CommitRun) (because same : Option WhyDropped)
      → under.work ≡ work.Attach (Signs commit because)
      → WorkGoesOn (work.Attach (Signs commit because)) before.state after.state
      → StepsCommit before.state commit after.state (More next) → IsAttachRunOf after.state.core (Signs next same)
      → LeavesGoing actor call before after under (More (work.Attach (Signs next same))) → ItComes takes
  signs_on commit next because same does_is goes steps of = let from = begins_from does_is in
      attach_steps from refl goes (Signs next same) next refl steps.0 steps.2 of of.0.of
      (λ world past runs within.
      let its = its_stands from refl runs in search (halves_go, commit_steps_since, commit_steps_stands))
