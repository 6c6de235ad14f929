-- An attach's commit from its first turn to its last one: what stands stands, with the device where it joins.
use Rattle.core_turns.proofs.Words.{arith, ℕ, ◌+◌, List, [], ◌∷◌, Option, Some, None, Continues, Lawful, IsWithin}
use Rattle.core_turns.proofs.Words.{Answer, Map, Kept, Setting, Point, point_of, IsRowOf, KeepsSince, since_more}
use Rattle.core_turns.proofs.Words.{CommitRun, MayWiden, widened_kept, widened_run, committing_knows, goes_on}
use Rattle.core_turns.proofs.Words.{WhyDropped, JoinRun, JoinSteps, IsJoining, joining_goes_on, Joins, Core, CoreState}
use Rattle.core_turns.proofs.Words.{HasBankOf, IsCore, at_disk, EndsAttach, GoOutAndReach, HoldsAttach, MayReachOn}
use Rattle.core_turns.proofs.Words.{Damage, OnlyGoOut, StepsJoin, IsCommitOf, HoldingCall, AreCallsOf, Stands, shown_of}
use Rattle.core_commit.specs.declared.join_run.JoinStep.TheVariants as step
use Rattle.core_turns.proofs.attach.Stands.{attaching_stands, is_joining}
use Rattle.core_turns.proofs.attach.Turns.{join_drops_commit, join_joins_commit, reaching_on}
use Rattle.core_turns.proofs.sync.Ends.{commit_ends_stands}
use Rattle.core_turns.proofs.sync.Stands.{commit_moves_since, commit_moves_stands}
use Rattle.core_turns.proofs.attach.Joins.{joined_core, joined_stands}

-- ---- images over the first half

-- A call of the first half goes on from one disk to the next.
join_continues : (old next : JoinRun) (before after : Point) → JoinSteps old before (step.GoesOn next) after
    → Continues before.disk after.disk
join_continues old next before after did = grind (arith, goes_on)

module _ {setting : Setting} {last : Kept} {begun : List Kept} {map : Map} {damage : Damage} {contents : ℕ → List ℕ}
    {calls : List HoldingCall} {before : CoreState} (join : JoinRun) (after : CoreState) (is : IsCore before.core)
    (may : MayReachOn before.core) (are : AreCallsOf before.core calls)
    (stands : Stands setting last begun map damage contents calls (Some join.run) before)
    (holds : HoldsAttach setting last begun before.disk (Joins join)) where
  abbrev old : Point
  old = point_of before.core.pool.out before.disk

  abbrev new : Point
  new = point_of after.core.pool.out after.disk

  its : IsJoining setting last stands.groups.next join old
  its = is_joining join is are may stands holds

  -- Images show the last group alone.
  pub join_goes_since : (next : JoinRun) (groups : List Kept) (time : ℕ)
      → StepsJoin before join after (step.GoesOn next)
      → IsWithin before.core.pool.out setting.failed → Lawful after.disk
      → IsRowOf groups last (shown_of begun (Some next.run))
      → KeepsSince setting groups time before.disk → KeepsSince setting groups time after.disk
  join_goes_since next groups time did within lawful row =
      let goes : IsJoining setting last stands.groups.next next new = search (joining_goes_on, its) in
      let knows = committing_knows setting last stands.groups.next next.run new goes.commits in
      since_more setting groups time last [] before.disk after.disk (rw goes.lays at row)
      (join_continues join next old new did.steps) (rw goes.lays at knows)

  -- ---- the decision

  -- It does not join: the commit goes on as it was begun.
  pub join_drops_stands : (run : CommitRun) (because : WhyDropped)
      → StepsJoin before join after (step.Dropped run because)
      → OnlyGoOut before after → IsWithin before.core.pool.out setting.failed
      → Stands setting last begun map damage contents calls (Some run) after
  join_drops_stands run because did core within = commit_moves_stands is within stands after run did.steps.result
      did.steps.steps core (rw core (search join_drops_commit))

  pub join_drops_since : (run : CommitRun) (because : WhyDropped)
      → StepsJoin before join after (step.Dropped run because)
      → OnlyGoOut before after → IsWithin before.core.pool.out setting.failed → (groups : List Kept) (time : ℕ)
      → IsRowOf groups last (shown_of begun (Some run))
      → KeepsSince setting groups time before.disk → KeepsSince setting groups time after.disk
  join_drops_since run because did core within = commit_moves_since is within stands after run did.steps.result
      did.steps.steps core (rw core (search join_drops_commit))

  -- It joins: the group has one device more, and the pool reaches to it.
  module _ (run : CommitRun) (did : StepsJoin before join after (step.Joined run)) (core : GoOutAndReach before after)
      (bank : HasBankOf (reaching_on before.core) before.disk) where
    abbrev wider : Setting
    wider = record setting { reach = setting.reach + 1 }

    widens : MayWiden setting last stands.groups.next old
    widens = search (rw did.steps.synced at its.guest)

    stood : Stands wider last (widened_kept stands.groups.next ∷ []) map damage contents calls
        (Some (widened_run join.run)) (at_disk (reaching_on before.core) before.disk)
    stood =
        let alone : Stands setting last (stands.groups.next ∷ []) map damage contents calls (Some join.run) before =
        rw stands.groups.begun_is at stands in
        search (joined_stands, widens)

    its_core : IsCore (reaching_on before.core)
    its_core = search joined_core

    of : IsCommitOf after.core run
    of = rw core (search join_joins_commit)

    pub join_joins_stands : IsWithin before.core.pool.out setting.failed
        → Stands wider last (widened_kept stands.groups.next ∷ []) map damage contents calls (Some run) after
    join_joins_stands within =
        commit_moves_stands its_core within stood after run did.steps.result did.steps.steps core of

    pub join_joins_since : IsWithin before.core.pool.out setting.failed → (groups : List Kept) (time : ℕ)
        → IsRowOf groups last (shown_of (widened_kept stands.groups.next ∷ []) (Some run))
        → KeepsSince wider groups time before.disk → KeepsSince wider groups time after.disk
    join_joins_since within =
        commit_moves_since its_core within stood after run did.steps.result did.steps.steps core of

-- ---- its end

-- The group of an attach is the last one, and no commit is under way, nor an attach.
pub attach_ends_stands : {setting : Setting} {last next : Kept} {map : Map} {damage : Damage} {contents : ℕ → List ℕ}
    {calls : List HoldingCall} {before after : CoreState} {run : CommitRun} {because : Option WhyDropped}
    {given : Answer} → IsCore before.core → IsCore after.core → IsCommitOf before.core run
    → EndsAttach before run because after given → AreCallsOf before.core calls
    → IsWithin before.core.pool.out setting.failed
    → Stands setting last (next ∷ []) map damage contents calls (Some run) before
    → Stands setting next [] map damage contents calls None after
attach_ends_stands is now of ends are within stands =
    rw (← ends.core, ← ends.disk) at (attaching_stands ends.answered.core None ends.answered.disk
    (by ends.answered.core (rw ends.core at now)) (commit_ends_stands is of ends.answers are within stands))
  where
    -- Who attaches is nothing to a core.
    by : (core : Core) → IsCore (record core { attaching = None }) → IsCore core
    by core is = search
