-- Attaches, turn by turn: that a core stays one, and what each turn comes to.
use Rattle.core_turns.proofs.Words.{◌≡◌, inl, inr, ℕ, ◌+◌, ◌^◌, ◌<◌, Option, Some, None, arith, true≢false, Disk}
use Rattle.core_turns.proofs.Words.{Lawful, TouchesOnly, synced_touches, touches_widen, wrote_touches, Reflow, IsWithin}
use Rattle.core_turns.proofs.Words.{none_above, MayRecord, choice_still, Point, point_of, OnlyFailedGoOut, Called}
use Rattle.core_turns.proofs.Words.{CommitRun, IsOnInUse, widened_run, steps_same, JoinStep, WhyDropped, JoinRun}
use Rattle.core_turns.proofs.Words.{JoinSteps, join_gone, join_spares, Joins, Signs, Core, IsCore, IsCommitOf}
use Rattle.core_turns.proofs.Words.{HasNewDevice, IsAttachRunOf, MayReachOn}
use Rattle.core_commit.specs.declared.join_run.JoinStep.TheVariants as step
use Rattle.core_turns.proofs.sync.Goes.{commit_stays, step_touches}
use Rattle.core_turns.proofs.state.Cores.{core_out}
use Rattle.core_turns.proofs.attach.Joins.{joined_commit, joined_core}

-- It has the same commit under way.
pub attaching_commit : {run : CommitRun} (core : Core) (by : Option ℕ) → IsCommitOf core run
    → IsCommitOf (record core { attaching = by }) run
attaching_commit core by of = search

-- A commit of a pool at rest that no device has joined records the reflow as it is.
pub rest_records : (core : Core) (chosen : Reflow) → IsCore core → MayReachOn core → core.reach ≡ chosen.to
    → MayRecord core.pool.uber.reflow core.pool.done chosen → chosen ≡ core.pool.uber.reflow
rest_records core chosen is may reach choice = grind (arith, choice_still)

-- ---- a step of the first half, and the decision

-- The core with these devices out.
abbrev with_out : Core → ℕ → Core
with_out core out = record core { pool = record core.pool { out = out } }

-- the core that reaches to one device more
abbrev pub reaching_on : Core → Core
reaching_on core = record core { reach = core.reach + 1 }

module _ (core : Core) (join : JoinRun) (out : ℕ) (old new : Disk) (is : IsCore core) (of : IsCommitOf core join.run)
    (may : MayReachOn core) where
  abbrev before : Point
  before = point_of core.pool.out old

  abbrev after : Point
  after = point_of out new

  join_still : (result : JoinStep) → JoinSteps join before result after → IsWithin core.pool.out out
  join_still result did = (join_gone join before result after did).stay

  same_run : (next : JoinRun) → out ≡ core.pool.out → next.run ≡ join.run → IsCommitOf (with_out core out) next.run
  same_run next out_is run_is = rw (out_is, run_is) of

  -- The first half goes on,
  pub join_goes_commit : (next : JoinRun) → JoinSteps join before (step.GoesOn next) after
      → IsCommitOf (with_out core out) next.run
  join_goes_commit next (inl pool) = commit_stays core join.run next.run out old new Called of pool.called
      (search arith)
  join_goes_commit next (inr (inl laid)) = same_run next laid.out (cc)
  join_goes_commit next (inr (inr synced)) = same_run next synced.out (cc)

  -- and goes over into the second one without the device,
  pub join_drops_commit : (run : CommitRun) (because : WhyDropped)
      → JoinSteps join before (step.Dropped run because) after → IsCommitOf (with_out core out) run
  join_drops_commit run because did = search (commit_stays, join_still, arith)

  -- or with it.
  pub join_joins_commit : (run : CommitRun) → JoinSteps join before (step.Joined run) after
      → IsCommitOf (with_out (reaching_on core) out) run
  join_joins_commit run did = search (commit_stays, joined_commit, join_still, arith)

  pub join_joins_core : (run : CommitRun) → JoinSteps join before (step.Joined run) after
      → out < 2 ^ run.uber.reflow.to → IsCore (with_out (reaching_on core) out)
  join_joins_core run did below = search (core_out, joined_core, join_joins_commit, join_still, arith)

  -- The core stays one.
  pub join_goes_core : (next : JoinRun) → JoinSteps join before (step.GoesOn next) after
      → out < 2 ^ next.run.uber.reflow.to → IsCore (with_out core out)
  join_goes_core next did below = search (core_out, join_goes_commit, join_still, arith)

  pub join_drops_core : (run : CommitRun) (because : WhyDropped)
      → JoinSteps join before (step.Dropped run because) after
      → out < 2 ^ run.uber.reflow.to → IsCore (with_out core out)
  join_drops_core run because did below = search (core_out, join_drops_commit, join_still, arith)

  -- Devices go out that failed,
  pub join_outs : (result : JoinStep) → JoinSteps join before result after → OnlyFailedGoOut before after
  join_outs result did = search (join_gone, true≢false, arith)

  -- and none is touched but those in use, and the one that may join.
  abbrev Region : ℕ → ℕ → Type 0
  Region = IsOnInUse (core.reach + 1) core.pool.out

  guest_in : (device_sector : ℕ) → Region join.run.uber.reflow.to device_sector
  guest_in device_sector = search (none_above, arith)

  pub join_touches : (result : JoinStep) → Lawful old → JoinSteps join before result after → TouchesOnly Region old new
  join_touches (step.GoesOn next) lawful (inl pool) = touches_widen (IsOnInUse core.reach core.pool.out) Region
      (search arith) (step_touches core join.run next.run out old new Called is lawful of pool.called)
  join_touches (step.GoesOn next) lawful (inr (inl laid)) = search (wrote_touches, guest_in)
  join_touches (step.GoesOn next) lawful (inr (inr synced)) = search (synced_touches, guest_in)
  join_touches (step.Joined run) lawful did =
      step_touches (reaching_on core) (widened_run join.run) run out old new did.result
      (search joined_core) lawful (search joined_commit) did.steps
  join_touches (step.Dropped run because) lawful did = touches_widen (IsOnInUse core.reach core.pool.out) Region
      (search arith) (search (step_touches, arith))

  -- ---- the attach goes on

  -- The commit records the widths as they are, until the device has joined.
  kept : join.run.uber.reflow ≡ core.pool.uber.reflow
  kept = search rest_records

  pub join_goes_more : (next : JoinRun) → core.attaching ≡ core.committing → join.run.uber.reflow.to < old.devices
      → JoinSteps join before (step.GoesOn next) after
      → IsAttachRunOf (with_out core out) (Joins next) × HasNewDevice new (Joins next)
  join_goes_more next attaching there did = search (join_goes_commit, join_spares, arith)

  pub join_drops_more : (run : CommitRun) (because : WhyDropped) → core.attaching ≡ core.committing
      → JoinSteps join before (step.Dropped run because) after
      → IsAttachRunOf (with_out core out) (Signs run (Some because))
  join_drops_more run because attaching did = (search join_drops_commit, search (steps_same, kept, arith))

  pub join_joins_more : (run : CommitRun) → core.attaching ≡ core.committing
      → JoinSteps join before (step.Joined run) after → IsAttachRunOf (with_out (reaching_on core) out) (Signs run None)
  join_joins_more run attaching did = search (join_joins_commit, steps_same, kept, arith)
