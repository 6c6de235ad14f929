-- A write to sectors that no group asks for leaves the groups, what images keep of them, and all else that stands.
use Rattle.core_turns.proofs.Words.{◌≡◌, ℕ, ◌≤◌, List, [], ◌∷◌, Option, Some, None, refl, ◌∙◌, ap, Lawful, TouchesOnly}
use Rattle.core_turns.proofs.Words.{Gains, IsWithin, IsFrontOf, count_of, Kept, Map, Setting, IsSpare, IsRowOf}
use Rattle.core_turns.proofs.Words.{KeepsSince, gains_old, pairs_beside, touched_knows, touched_since, Stage, Lays}
use Rattle.core_turns.proofs.Words.{CommitRun, IsBeside, shown_at, shown_by, committing_knows, committing_touched}
use Rattle.core_turns.proofs.Words.{CoreState, at_disk, HoldingCall, AreBeside, AreCallsOf, CommitStands, GroupsStand}
use Rattle.core_turns.proofs.Words.{HoldsCall, IsCallOfCore, NoCommitStands, PutsSpare, Stands, actor_of, shown_in}
use Rattle.core_turns.proofs.Words.{Damage, Excepted, shown_of, arith, entry_read}
use Rattle.core_turns.proofs.state.Reads.{reads_on}
use Rattle.core_commit.specs.declared.commit_run.Stage.TheVariants.{Signs}
use Rattle.core_turns.proofs.free.TakenBack.{each_gained}
use Rattle.core_turns.proofs.state.Calls.{beside_turn}
use Rattle.core_turns.proofs.state.Frames.{AreOff, IsCallOff, KeepsCall, KeepsRight, Leaves, OnlyOut, call_stays}
use Rattle.core_turns.proofs.state.Frames.{leaves_touched, off_keeps}
use Rattle.core_turns.proofs.state.StandFrames.{commit_still, lies_still, out_leaves, stands_anew}

-- Of one group that was begun images can show what its commit has come to.
pub shown_one : (next : Kept) (stage : Stage) → shown_in (next ∷ []) stage ≡ shown_at next stage
shown_one next Lays = refl
shown_one next Signs = refl

-- These sectors are asked for by no group that stands, and a write there may come between the steps of a commit.
pub record AreSpare (P : ℕ → ℕ → Type 0) (setting : Setting) (last : Kept) (begun : List Kept)
    (calls : List HoldingCall) (state : CoreState) : Type 0 where
  pub alone : NoCommitStands setting last begun state → (device device_sector : ℕ) → P device device_sector
      → IsSpare setting last begun device device_sector
  pub shown : (commit : CommitRun) (groups : CommitStands setting last begun calls commit state)
      → (device device_sector : ℕ) → P device device_sector
      → IsSpare setting last (shown_by groups.next commit) device device_sector
  pub beside : (commit : CommitRun) (groups : CommitStands setting last begun calls commit state)
      → IsBeside setting last groups.next P

-- the state after a write, as its turn says
abbrev pub written_by : CoreState → CoreState → CoreState
written_by before after =
    at_disk (record before.core { pool = record before.core.pool { out = after.core.pool.out } }) after.disk

-- What is off a write is kept: right blocks of the table, and what other calls hold.
module _ (before after : CoreState) {P : ℕ → ℕ → Type 0} (touched : TouchesOnly P before.disk after.disk)
    (within : IsWithin before.core.pool.out after.core.pool.out)
    (front : IsFrontOf before.core.pool.uber.reflow before.core.pool.done) where
  leaves_written : Leaves P before (written_by before after)
  leaves_written = search (leaves_touched, arith)

  pub off_right : (wrong : Excepted) → AreOff P before.core → KeepsRight wrong before (written_by before after)
  off_right wrong off = off_keeps P wrong before (written_by before after) leaves_written off

  pub off_call : (damage : Damage) (call : HoldingCall)
      → IsCallOff P before.core.pool.uber.reflow before.core.pool.done call
      → KeepsCall damage before (written_by before after) call
  off_call damage call off content =
      call_stays P damage content before (written_by before after) call leaves_written off

module _ {before : CoreState} (after : CoreState) {P : ℕ → ℕ → Type 0} (touched : TouchesOnly P before.disk after.disk)
    (within : IsWithin before.core.pool.out after.core.pool.out) (lawful : Lawful before.disk)
    (few : count_of before.core.pool.out ≤ before.core.pool.uber.parity) {setting : Setting} {last : Kept}
    {begun : List Kept} {calls : List HoldingCall} (spare : AreSpare P setting last begun calls before) where
  -- What is known of the groups stays,
  groups_written : (nexts : List HoldingCall) (commit : Option CommitRun) → Lawful after.disk
      → ((group : Kept) → PutsSpare before calls group → PutsSpare before nexts group)
      → GroupsStand setting last begun calls commit before
      → GroupsStand setting last begun nexts commit (written_by before after)
  groups_written nexts None still_lawful fewer groups = search (touched_knows, spare.alone, groups.whole, arith)
  groups_written nexts (Some commit) still_lawful fewer groups = search
      (commit_still, out_leaves, committing_touched, lies_still, spare.beside, arith)

  -- and what each image keeps.
  pub since_written : (commit : Option CommitRun) (groups : List Kept) (time : ℕ)
      → IsRowOf groups last (shown_of begun commit)
      → GroupsStand setting last begun calls commit before → KeepsSince setting groups time before.disk
      → KeepsSince setting groups time after.disk
  since_written None groups time row stands kept = search (touched_since, spare.alone, stands.knows, arith)
  since_written (Some commit) groups time row stands kept =
      touched_since P touched setting last (shown_by stands.next commit) lawful (spare.shown commit stands)
      (search committing_knows) groups time
      (rw (← ap (λ (l : List Kept). shown_in l commit.stage) stands.begun_is ∙ shown_one stands.next commit.stage) row)
      kept

  -- All stands still, where the call that writes has come further, blocks stay right, and others hold what they held.
  pub writes_stand : {contents : ℕ → List ℕ} {map : Map} {damage : Damage} {commit : Option CommitRun}
      {left nexts : List HoldingCall} {call next : HoldingCall} → OnlyOut before.core after.core → Lawful after.disk
      → KeepsRight damage.left before (written_by before after)
      → ((other : HoldingCall) → AreBeside call other → IsCallOfCore before.core other
      → KeepsCall damage before (written_by before after) other)
      → Gains left calls call → Gains left nexts next
      → (entry_read next ≡ entry_read call) × (actor_of next ≡ actor_of call)
      → ((group : Kept) → PutsSpare before calls group → PutsSpare before nexts group)
      → HoldsCall damage (written_by before after) (contents (actor_of next)) next → AreCallsOf before.core calls
      → Stands setting last begun map damage contents calls commit before
      → Stands setting last begun map damage contents nexts commit after
  writes_stand {contents} {damage = damage} {commit} {left} {nexts} {call} {next} same still_lawful right keeps gains
      again same_read fewer holds are stands =
      rw same (stands_anew before (written_by before after) within right refl touched.later
      (search (groups_written, arith)) (fewer last stands.spared) (reads_on same_read.0 same_read.1 gains again)
      (each_gained again holds (λ other rest.
      let was = gains_old left calls call other gains rest in
      let beside = pairs_beside AreBeside beside_turn calls left call other gains are.beside rest in
      keeps other beside (are.each other was) (contents (actor_of other)) (stands.each other was))) stands)
