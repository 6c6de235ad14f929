-- What the first turn of a sync comes to, among the other clients' calls.
use Rattle.schedule.proofs.Words.{◌≡◌, ℕ, ◌+◌, ◌-◌, ◌≤◌, List, [], ◌∷◌, length, Some, None, refl, sym, ◌∙◌, ap, subst}
use Rattle.schedule.proofs.Words.{arith, slice_get, slice_get_within, Reflow, IsTable, Uber, KeepsOrEnds, Answer, Kind}
use Rattle.schedule.proofs.Words.{Map, CommitRun, ScriptCall, Script, calls_of, More, Busy, Done, Core, BeginsCommit}
use Rattle.schedule.proofs.Words.{BeginsCommitSo, few_out, rests, commit_begins_calls, commit_begins_stands, turn_still}
use Rattle.schedule.proofs.Words.{Client, Work, call_of_client, calls_under_way, held_under, TurnState, LeavesBegun}
use Rattle.schedule.proofs.Words.{TakesTurn, IsGroupKind}
use Rattle.core_state.specs.declared.answer.Kind.TheVariants as kind
use Rattle.schedule.specs.declared.client.Work.TheVariants as work
use Rattle.schedule.proofs.sync.Works.{MakesGroups, sync_makes}
use Rattle.schedule.proofs.turn.Theirs.{IsNoAttach, calls_stay, idle_no_attach}
use Rattle.schedule.proofs.turn.Answered.{answered, answered_idle}
use Rattle.schedule.proofs.run.Coming.{goes_for}
use Rattle.schedule.proofs.sync.Begun.{begun_now}
use Rattle.schedule.proofs.turn.Going.{commits_on, keeps_attach}
use Rattle.schedule.proofs.turn.GoesOn.{commit_begins, nobody_commits, stands_idle}
use Rattle.schedule.proofs.turn.Fitting.{group_fits}
use Rattle.schedule.proofs.turn.LeavesPool.{holds_left}
use Rattle.schedule.proofs.turn.Comes.{ItComes, comes_nowhere, comes_refused, comes_under}
use Rattle.schedule.proofs.attach.Refused.{sync_cause}
use Rattle.schedule.proofs.sync.Syncs.{refused_answers, refused_tells, refused_map, refused_right}

-- ---- a commit begins

module _ {script : Script} {actor : ℕ} {before after : TurnState} {clients news : List Client} {asked : Kind}
    {does : CommitRun → Work} (makes : MakesGroups asked does) (call : ScriptCall)
    (takes : TakesTurn script actor before after clients news) (asked_is : (call.kind ≡ asked) × (call.id ≡ None))
    (no_call : call_of_client before.client ≡ []) (no_attach : IsNoAttach before.client.under_way)
    (disk : after.state.disk ≡ before.state.disk) where
  open before.state use {core as core}
  open after.state use {core as next_core}

  -- In the first turn of a call or in a later one a commit begins, which makes the group after the last one.
  pub commit_comes : {number : ℕ} {run : CommitRun} → IsTable core.pool.blocks.table
      → BeginsCommitSo core next_core actor run → slice_get (calls_of script actor) (number - 1) ≡ Some call
      → after.items ≡ before.items → after.client ≡ record {
        begun = number;
        under_way = Some (record { at = length before.items; work = does run });
      } → answered before.client + 1 ≡ number → number ≤ length (calls_of script actor) → ItComes takes
  commit_comes {number = number} {run = run} table begins is items client_is number_is low =
      comes_under takes (goes_for (turn_still before.state after.state (ap (λ (c : Core). c.pool.uber) begins.rest)
      (ap (λ (c : Core). c.reach) begins.rest) (ap (λ (c : Core). c.pool.out) begins.rest) disk))
      items client_is (sym number_is) low (commits_on takes.was takes.changes takes.schedule.going (rw same_calls
      (commit_begins_calls core next_core (calls_under_way clients) actor run begins takes.schedule.going.are)) run call
      (keeps_attach (ap (λ (c : Core). c.pool.uber.reflow) begins.rest) (ap (λ (c : Core). c.reach) begins.rest)
      (ap (λ (c : Core). c.attaching) begins.rest)) (nobody_commits actor takes.schedule.going begins.none) no_attach
      (makes.no_attach run) under_is (makes.commit run) (makes.its actor run)
      (ap (λ (c : Client). slice_get (calls_of script actor) (c.begun - 1)) client_is ∙ is)
      (makes.for call run asked_is) begins.of (ap (λ (c : Core). c.committing) begins.rest))
      (λ world past handed within listed runs.
      let alone = stands_idle runs begins.none in
      let unmade = alone.1 in
      let made = commit_begins_stands takes.lawful takes.is table begins takes.schedule.going.are unmade in
      let last : core.pool.uber.group ≡ runs.last.uber.group = ap (λ (u : Uber). u.group) runs.stands.alike in
      let rest = rests core takes.is begins.none in
      let begun : next_core.begun ≡ core.begun + 1 = ap (λ (c : Core). c.begun) begins.rest in
      let its = begun_now runs.recorded (let group = made.3 in omega (arith, group, begun, rest, last))
      (subst (λ (r : Reflow). KeepsOrEnds r made.0.uber.reflow) (ap (λ (u : Uber). u.reflow) runs.stands.alike) made.4)
      (λ id. ap (λ (m : Map). m id) made.1) made.2 in
      commit_begins takes runs runs.reach run (unmade.groups.whole (few_out core begins.few)).0 alone.0
      (makes.commit run) (ap (λ (r : CommitRun). r.stage) begins.run_is) disk client_is
      (makes.begins world before.items runs.item (made.0 ∷ []) (length before.items) run (made.0, refl, its))
      (λ asked. makes.content world before.items asked (length before.items) (runs.contents actor) run)
      (λ attach attaches. absurd (makes.no_attach run attach attaches)) (rw (same_calls, disk) made.6))
    where
      under_is : after.client.under_way ≡ Some (record { at = length before.items; work = does run })
      under_is = ap (λ (c : Client). c.under_way) client_is

      same_calls : calls_under_way news ≡ calls_under_way clients
      same_calls = calls_stay takes.was takes.changes no_call (ap held_under under_is ∙ makes.holds run)

-- ---- a sync

module _ {script : Script} {actor : ℕ} {before after : TurnState} {clients news : List Client} {call : ScriptCall}
    (takes : TakesTurn script actor before after clients news) (asked : call.kind ≡ kind.Sync) (no_id : call.id ≡ None)
    (idle : before.client.under_way ≡ None) (next : slice_get (calls_of script actor) before.client.begun ≡ Some call)
    (disk : after.state.disk ≡ before.state.disk) where
  open before.state use {core as old}
  open after.state use {core as now}

  -- A sync begins with its commit.
  pub sync_begins : (run : CommitRun) → IsTable old.pool.blocks.table → BeginsCommit old now actor (More run)
      → LeavesBegun actor call before after (More (work.Sync run)) → ItComes takes
  sync_begins run table begins leaves =
      commit_comes sync_makes call takes (asked, no_id) (ap held_under idle) (idle_no_attach idle) disk table begins
      (search arith) leaves.0 leaves.1 (ap (λ (n : ℕ). n + 1) (answered_idle idle))
      (let low = slice_get_within (calls_of script actor) before.client.begun call next in omega (arith, low))

  -- A sync waits for another's.
  pub sync_waits : {by : ℕ} → BeginsCommit old now actor (Busy by) → LeavesBegun actor call before after (Busy by)
      → ItComes takes
  sync_waits waits leaves = comes_nowhere takes (search arith)

  -- A sync is answered at once.
  pub sync_at_once : (given : Answer) → BeginsCommit old now actor (Done given)
      → LeavesBegun actor call before after (Done given) → ItComes takes
  sync_at_once given refused leaves =
      comes_refused takes idle (holds_left refused.1) disk next refused.1 leaves
      (search (group_fits, refused_answers, refused_tells, sync_cause, arith)) (λ full. rw full at refused.0)
      (λ handed map entry. refused_map handed entry old given refused.0)
      (λ world past runs. refused_right world old given (subst IsGroupKind (sym asked) tt) refl runs.recorded.latest
      (search (rests, arith)) refused.0)
