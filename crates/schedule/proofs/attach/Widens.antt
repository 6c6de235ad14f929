-- What the turn of an attach comes to in which its device joins the pool, among the other clients' calls.
use Rattle.schedule.proofs.Words.{◌≡◌, [], ◌∷◌, inr, ℕ, ◌+◌, ◌-◌, ◌<◌, List, Some, None, refl, sym, ◌∙◌, ap, subst}
use Rattle.schedule.proofs.Words.{arith, slice_get, cases_lt, slice_get-map, Disk, Lays, CommitRun, IsWidenable}
use Rattle.schedule.proofs.Words.{widened_kept, Asked, Kept, AwaitsAttach, World, JoinRun, ScriptCall, Script, calls_of}
use Rattle.schedule.proofs.Words.{Joins, Signs, More, GoOutAndReach, IsAttachRunOf, StepsJoin, Core, HasBankOf}
use Rattle.schedule.proofs.Words.{AreCallsOf, HoldingCall, join_joins_since, join_joins_stands, reaching_on, few_out}
use Rattle.schedule.proofs.Words.{calls_beside, Client, UnderWay, answered_of, TakesTurn, IsWorldOf, Past, IsBegunAt}
use Rattle.schedule.proofs.Words.{Runs, setting_now, HasDeviceUnder, LeavesGoing, TurnState, WorkGoesOn}
use Rattle.core_state.specs.declared.answer.Kind.TheVariants as kind
use Rattle.core_commit.specs.declared.join_run.JoinStep.TheVariants as step
use Rattle.core_turns.proofs.state.Frames.{calls_stay as core_calls}
use Rattle.schedule.specs.declared.client.Work.TheVariants as work
use Rattle.schedule.proofs.attach.Commits.{attach_makes, from_first, its_group}
use Rattle.schedule.proofs.turn.Recording.{recorded_goes, recorded_halves}
use Rattle.schedule.proofs.turn.Running.{head_is}
use Rattle.schedule.proofs.turn.GoesOn.{commit_runs, only_known}
use Rattle.schedule.proofs.sync.Syncs.{begun_parity}
use Rattle.schedule.proofs.turn.Theirs.{same_attach, some_is}
use Rattle.schedule.proofs.turn.Comes.{GoesFrom, ItComes, alone, its_asked, its_attach, its_commit, its_known}
use Rattle.schedule.proofs.turn.Comes.{its_recorded, its_stands, only}

asking : ScriptCall → Asked
asking call = record { kind = call.kind; id = call.id }

-- An attach that is a client's call under way is to be answered: the client's calls before it were when it began.
pub awaits_attach : {script : Script} {actor : ℕ} {before after : TurnState} {clients news : List Client}
    {call : ScriptCall} (takes : TakesTurn script actor before after clients news) {under : UnderWay}
    → before.client.under_way ≡ Some under → call.kind ≡ kind.Attach → call.id ≡ None
    → slice_get (calls_of script actor) (before.client.begun - 1) ≡ Some call → {world : World} {past : Past}
    → IsWorldOf script world → Runs world script past before.state before.items clients
    → AwaitsAttach world.calls before.items under.at
unfolding asking
awaits_attach {script} {actor} {before} takes under_is asked no_id is of runs =
    let answered = ap (answered_of before.client.begun) under_is in record {
      caller = actor;
      number = before.client.begun - 1;
      asked = search (slice_get-map, asking, asked, arith);
      earlier = λ number low.
          let (index, entry, there, own, number_is) =
          takes.schedule.answered.every actor number before.client takes.was (rw answered low) in record {
            index = index;
            entry = entry;
            there = there;
            within = (runs.each actor before.client _ (record { there = takes.was; under_way = under_is })).after index
                entry there own;
            own = own;
            number_is = number_is;
          };
      before = λ index entry below there caller.
          let its = takes.schedule.answered.each index entry there in
          let same : its.0 ≡ before.client =
          some_is (cc) in
          omega (
            arith,
            its.2,
            ap (λ (c : Client). answered_of c.begun c.under_way) same ∙ answered,
          );
    }

-- A pool that reaches to one device more has the same calls under way,
reaching_calls : (core : Core) {calls : List HoldingCall} → AreCallsOf core calls → AreCallsOf (reaching_on core) calls
reaching_calls core {calls = calls} are = calls_beside core core.holds core.begun
    (core.reach + 1) core.committing core.attaching calls (omega arith) (λ hold has. has) are

-- and its bank where the device is there.
reaching_bank : (core : Core) {disk : Disk} → HasBankOf core disk → core.reach < disk.devices
    → HasBankOf (reaching_on core) disk
reaching_bank core bank there = search (there, cases_lt, arith)

module _ {script : Script} {actor : ℕ} {before after : TurnState} {clients news : List Client} {call : ScriptCall}
    (takes : TakesTurn script actor before after clients news) {under : UnderWay} {join : JoinRun} {made : CommitRun}
    (does_is : under.work ≡ work.Attach (Joins join)) (under_is : before.client.under_way ≡ Some under)
    (is : slice_get (calls_of script actor) (before.client.begun - 1) ≡ Some call)
    (goes : WorkGoesOn (work.Attach (Joins join)) before.state after.state)
    (did : StepsJoin before.state join after.state (step.Joined made)) (core : GoOutAndReach before.state after.state)
    (of : IsAttachRunOf after.state.core (Signs made None)) where
  open before.state use {core as old}
  open after.state use {core as now}

  abbrev from : GoesFrom script actor before after clients news call under (work.Attach (Joins join))
  from = record { takes = takes; does_is = does_is; under_is = under_is; is = is }

  attach_of : IsAttachRunOf old (Joins join) × (old.attaching ≡ Some actor)
  attach_of = its_attach from

  asked : (call.kind ≡ kind.Attach) × (call.id ≡ None)
  asked = its_asked from

  -- The device is there.
  there : old.reach < before.state.disk.devices
  there =
      let device : join.run.uber.reflow.to < before.state.disk.devices =
      rw does_is at (subst (HasDeviceUnder before.state.disk) under_is
      (takes.schedule.there actor before.client takes.was)) in
      omega (arith, device, attach_of.0.0.of.reach)

  -- The group begun is a device wider than it was begun.
  widens : {world : World} {past : Past} → IsWorldOf script world
      → (runs : Runs world script past before.state before.items clients) → (next : Kept)
      → IsBegunAt world before.items runs.item under.at (AwaitsAttach world.calls before.items under.at) next
      → IsWidenable (setting_now runs) runs.last next
      → IsBegunAt world before.items runs.item under.at (AwaitsAttach world.calls before.items under.at)
      (widened_kept next)
  widens of_world runs next begun pool = record {
    number = begun.number;
    listed = begun.listed;
    map = begun.map;
    excepted = begun.excepted;
    widths = inr (inr (
      awaits_attach takes under_is asked.0 asked.1 is of_world runs,
      sym last.1 ∙ at_rest ∙ last.0,
      next_from ∙ last.0,
      search next_from,
    ));
  }
    where
      last : (runs.last.uber.reflow.from ≡ runs.item.from) × (runs.last.uber.reflow.to ≡ runs.item.to)
      last = runs.recorded.item_is.widths

      at_rest : runs.last.uber.reflow.to ≡ runs.last.uber.reflow.from
      at_rest = search arith

      next_from : next.uber.reflow.from ≡ runs.last.uber.reflow.from
      next_from = search at_rest

  pub join_joins : LeavesGoing actor call before after under (More (work.Attach (Signs made None))) → ItComes takes
  join_joins further = attach_makes from (Signs made None) goes (only from refl) refl refl further
      (search (core_calls, reaching_calls)) of of.0.of (ap (λ (c : Core). c.attaching) core)
      (ap (λ (c : Core). c.committing) core ∙ (its_commit from refl).1)
      (λ same client_is world past of_world within listed runs.
      let failed = within (few_out old did.few) in
      let stands = its_stands from refl runs in
      let known = its_known from runs in
      let group = its_group from refl runs in
      let next : Kept = stands.groups.next in
      let wider = widens of_world runs next (search arith) (search) in
      let bank = reaching_bank old takes.schedule.bank there in
      let reach = runs.reach + 1 in
      commit_runs takes runs reach made
      (recorded_goes (recorded_halves (widened_kept next, refl, wider) (λ awaits. awaits)
      (search (head_is, begun_parity, arith)) Lays made.stage (from_first made.stage)
      (rw known.3 at (its_recorded from refl runs))) goes.0.later
      (λ groups time row. join_joins_since join after.state takes.is attach_of.0.1 takes.schedule.going.are stands known
      made did core bank failed groups time row)) refl client_is (inr (under, under_is, refl))
      (widened_kept next, refl, wider) (λ asked. tt) (λ its its_is. rw (← same_attach its_is) tt)
      (only_known takes runs reach (widened_kept next ∷ []) (only from refl) (alone from))
      (rw same (join_joins_stands join after.state takes.is attach_of.0.1 takes.schedule.going.are stands known made did
      core bank failed)))
