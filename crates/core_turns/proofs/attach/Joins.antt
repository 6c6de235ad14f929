-- A device joins the pool in the commit that is under way: the group with it is one that this commit may record.
use Rattle.core_turns.proofs.Words.{◌≡◌, ℕ, ◌+◌, ◌<◌, List, [], ◌∷◌, Some, refl, arith, pow-le-pow_right, Disk, Reflow}
use Rattle.core_turns.proofs.Words.{IsRightUber, IsWiderByOne, MayRecord, choice_still, Map, Kept, Setting, point_of}
use Rattle.core_turns.proofs.Words.{CommitRun, IsLaidDown, MayWiden, widened_kept, widened_run, widened_uber}
use Rattle.core_turns.proofs.Words.{commit_widened, widened_right, Core, HasBankOf, IsCore, at_disk, IsCommitOf, Damage}
use Rattle.core_turns.proofs.Words.{ListsDamage, IsHeldAlone, hold_for, CommitStands, HoldingCall, Stands, Contains}
use Rattle.core_turns.proofs.state.Damage.{lists_made}
use Rattle.core_turns.proofs.state.Frames.{calls_hold_on}

-- With one device more no sector's standing changes, as where the reflow stays.
wider_holds : (reflow : Reflow) (actor : ℕ)
    → hold_for reflow (record reflow { to = reflow.to + 1 }) actor ≡ hold_for reflow reflow actor
wider_holds reflow actor = grind arith

module _ (core : Core) (run : CommitRun) (is : IsCore core) (of : IsCommitOf core run)
    (rest : core.pool.uber.reflow.to ≡ core.pool.uber.reflow.from) (own : core.reach ≡ core.pool.uber.reflow.to)
    (room : core.pool.uber.reflow.to < 16) where
  abbrev reflow : Reflow
  reflow = core.pool.uber.reflow

  -- So far the group keeps the pool's widths,
  same : MayRecord reflow core.pool.done run.uber.reflow → run.uber.reflow ≡ reflow
  same may = grind (arith, choice_still, own)

  kept : run.uber.reflow ≡ reflow
  kept = search same

  -- and with the device it has one more.
  wider : IsWiderByOne reflow (widened_uber run.uber).reflow
  wider = search (room, kept)

  held : IsHeldAlone core.pool.done core.holds (hold_for reflow (widened_uber run.uber).reflow of.actor)
  held = search (kept, wider_holds, arith)

  -- The commit goes on as one of the core, which then reaches to the device.
  pub joined_commit : IsCommitOf (record core { reach = core.reach + 1 }) (widened_run run)
  joined_commit =
      let right : IsRightUber (widened_uber run.uber) = search (widened_right, kept, room) in
      search (held, arith)

  -- The core stays one.
  pub joined_core : IsCore (record core { reach = core.reach + 1 })
  joined_core = search (pow-le-pow_right, arith)

-- ---- all that stands

-- What stands before the first uberblock write stands with the device too, where the bank has it: the group that is
-- under way is one device wider, and the pool reaches to it.
pub joined_stands : {setting : Setting} {last next : Kept} {map : Map} {damage : Damage} {contents : ℕ → List ℕ}
    {calls : List HoldingCall} (core : Core) (run : CommitRun) (disk : Disk) → IsCore core
    → core.pool.uber.reflow.to ≡ core.pool.uber.reflow.from → IsLaidDown core.pool.out run
    → MayWiden setting last next (point_of core.pool.out disk) → HasBankOf (record core { reach = core.reach + 1 }) disk
    → Stands setting last (next ∷ []) map damage contents calls (Some run) (at_disk core disk)
    → Stands (record setting { reach = setting.reach + 1 }) last (widened_kept next ∷ []) map damage contents calls
    (Some (widened_run run)) (at_disk (record core { reach = core.reach + 1 }) disk)
joined_stands {setting} {last} {next} {map} {damage} {contents} {calls} core run disk is rest laid may bank stands =
    let was = stands.groups in
    let its : was.next ≡ next = cc (was.begun_is) in
    let groups : CommitStands (record setting { reach = setting.reach + 1 }) last (widened_kept next ∷ []) calls
    (widened_run run) (at_disk (record core { reach = core.reach + 1 }) disk) = record {
      next = widened_kept next;
      begun_is = refl;
      of = search (joined_commit, arith);
      come = search (commit_widened, rw its at was.come);
      lies = search (rw its at was.lies);
      kept = rw its at was.kept;
      spared = rw its at was.spared;
    } in
    let lists : (kept : Kept) → Contains (last ∷ widened_kept next ∷ []) kept → ListsDamage damage kept =
    lists_made damage last next (widened_kept next) refl stands.lists in
    search (calls_hold_on damage contents calls core (record core { reach = core.reach + 1 }) disk refl stands.each)
