-- What a turn leaves of the map, of the groups, and of all that stands.
use Rattle.core_turns.proofs.Words.{◌≡◌, ℕ, List, Option, Some, None, refl, ◌∙◌, arith, Contains, Disk, Lawful, Later}
use Rattle.core_turns.proofs.Words.{Unchanged, tells_later, IndexEntry, IsWithin, Map, Kept, Setting, KeepsSince}
use Rattle.core_turns.proofs.Words.{Nowhere, none_lost, unchanged_frames, knows_frame, IsListed, OnlyFailedGoOut}
use Rattle.core_turns.proofs.Words.{point_of, CommitRun, committing_unchanged, HoldsMap, bank_later, count_grows, Core}
use Rattle.core_turns.proofs.Words.{CoreState, pool_at, IsCommitOf, hold_for, HoldingCall, actor_of, HoldsCall}
use Rattle.core_turns.proofs.Words.{LiesInPool, PutsSpare, GroupsStand, CommitStands, IsCommitting, Stands}
use Rattle.core_turns.proofs.state.Holds.{KeepsAlone, keeps_same}
use Rattle.core_turns.proofs.state.Frames.{Leaves, AreOff, IsCallOff, IsReadAt, KeepsRight, OnlyOut, call_stays}
use Rattle.core_turns.proofs.state.Frames.{off_keeps}
use Rattle.core_turns.proofs.Words.{Damage, row_at, Excepted, ap, Blocks}
use Rattle.core_turns.proofs.state.Reads.{ReadsNoMore, of_map_fewer}

-- ---- the map

-- The map is held still where its blocks stay right.
pub map_stays : (wrong : Excepted) (map : Map) (before after : CoreState)
    → after.core.pool.blocks.table.entries ≡ before.core.pool.blocks.table.entries → KeepsRight wrong before after
    → HoldsMap wrong map (pool_at before) → HoldsMap wrong map (pool_at after)
map_stays wrong map before after table keeps holds = search (right, arith)
  where
    right : (entry : IndexEntry) (content : List ℕ) → IsListed before.core.pool.blocks.table.entries entry
        → map entry.id ≡ Some content → IsReadAt wrong after entry content
    right entry content listed has = keeps entry content listed (holds.right entry content listed has)

-- ---- the groups

-- What a turn leaves of the commit under way: the pool's uberblock and front, the group begun last and who makes it,
-- and what it holds. Devices go out.
pub record LeavesCommit (old new : Core) : Type 0 where
  pub uber : new.pool.uber ≡ old.pool.uber
  pub done : new.pool.done ≡ old.pool.done
  pub begun : new.begun ≡ old.begun
  pub committing : new.committing ≡ old.committing
  pub reach : new.reach ≡ old.reach
  pub within : IsWithin old.pool.out new.pool.out
  pub holds : KeepsAlone old.pool.done old.holds new.holds

-- So it is one of the core still.
pub commit_still : {run : CommitRun} (old new : Core) → LeavesCommit old new → IsCommitOf old run → IsCommitOf new run
commit_still {run} old new leaves of =
    let hold = hold_for old.pool.uber.reflow run.uber.reflow of.actor in
    record {
      actor = of.actor;
      under_way = cc;
      number = cc;
      next = search (leaves.uber, leaves.done, arith);
      holds = rw (leaves.uber, leaves.done) (leaves.holds hold refl of.holds);
      lists = search arith;
      reach = cc;
    }

-- Where only devices went out the commit is left.
pub out_leaves : (old new : Core) → OnlyOut old new → IsWithin old.pool.out new.pool.out → LeavesCommit old new
out_leaves old new core within = search (keeps_same, arith)

-- The group's blocks lie in the pool still.
pub lies_still : {kept : Kept} (old new : Core) → LeavesCommit old new → LiesInPool old kept → LiesInPool new kept
lies_still old new leaves lies = search (rw (← leaves.uber) at lies.inside, arith)

-- The laws of a disk held before where they hold after nothing was changed.
lawful_before : {old new : Disk} → Unchanged old new → Lawful new → Lawful old
lawful_before {old} {new} same lawful =
    let leaves : (d x : ℕ) → new.leaves new.clock d x ≡ old.leaves old.clock d x = λ d x. search arith in
    let could : (d x : ℕ) → new.could new.clock d x ≡ old.could old.clock d x = λ d x. search arith in
    record {
      stays_read = search (leaves, arith);
      stays_could = λ d x bytes other is has. lawful.stays_could d x bytes other (leaves d x ∙ is) (search could);
    }

-- The group of a commit is unchanged where only devices went out, as far as the commit has come.
pub group_still : {setting : Setting} {last : Kept} {begun : List Kept} {calls : List HoldingCall}
    {run next : CommitRun} (before after : CoreState) (was : CommitStands setting last begun calls run before)
    → OnlyOut before.core after.core → IsCommitOf after.core next
    → IsCommitting setting last was.next next (point_of after.core.pool.out after.disk)
    → CommitStands setting last begun calls next after
group_still {calls = calls} before after was core of come =
    let spared : PutsSpare after calls was.next = λ put has. rw core (was.spared put has) in
    search (come, arith)

-- The groups is unchanged where devices were read,
pub groups_read : (setting : Setting) (last : Kept) (begun : List Kept) (calls : List HoldingCall)
    (commit : Option CommitRun) (before after : CoreState) → OnlyOut before.core after.core
    → Unchanged before.disk after.disk
    → OnlyFailedGoOut (point_of before.core.pool.out before.disk) (point_of after.core.pool.out after.disk)
    → Lawful after.disk → GroupsStand setting last begun calls commit before
    → GroupsStand setting last begun calls commit after
groups_read setting last begun calls None before after core same outs lawful groups = record {
  knows = knows_frame Nowhere none_lost setting last begun before.disk after.disk (lawful_before same lawful)
      (unchanged_frames same) (λ d x nowhere. absurd nowhere) groups.knows;
  whole = search (count_grows, arith);
}
groups_read setting last begun calls (Some run) before after core same outs lawful groups =
    group_still before after groups core (search (commit_still, out_leaves, outs.still)) (search committing_unchanged)

-- and each image since a moment keeps what it kept: no moment is new.
pub since_read : (setting : Setting) (groups : List Kept) (time : ℕ) (old new : Disk) → Unchanged old new
    → KeepsSince setting groups time old → KeepsSince setting groups time new
since_read setting groups time old new same since = record {
  each = λ moment from until. row_at setting groups new old moment moment
      (λ d x. same.goes_on.later.past moment (omega (arith, until, same.clock)) d x)
      (since.each moment from (omega (arith, until, same.clock)));
}

-- ---- all that stands

module _ {setting : Setting} {last : Kept} {begun : List Kept} {map : Map} {damage : Damage} where
  -- What stands, where uberblock and blocks are as they were: the groups and the calls are told anew.
  pub stands_still : {contents nows : ℕ → List ℕ} {calls nexts : List HoldingCall} {commit next : Option CommitRun}
      (before after : CoreState) → IsWithin before.core.pool.out after.core.pool.out
      → KeepsRight damage.left before after → after.core.pool.uber ≡ before.core.pool.uber → after.core.reach ≡ before.core.reach
      → after.core.pool.blocks ≡ before.core.pool.blocks
      → Later before.disk after.disk → GroupsStand setting last begun nexts next after → PutsSpare after nexts last
      → ReadsNoMore contents calls nows nexts
      → ((call : HoldingCall) → Contains nexts call → HoldsCall damage after (nows (actor_of call)) call)
      → Stands setting last begun map damage contents calls commit before
      → Stands setting last begun map damage nows nexts next after
  stands_still before after within keeps uber reach blocks later groups spared reads each stands =
      let holds = map_stays damage.left map before after (cc) keeps stands.holds in
      let of_map = of_map_fewer map (ap (λ (b : Blocks). b.table.entries) blocks) reads stands.reads in
      search (uber, reach, tells_later, bank_later, arith)

  -- So it is where only devices went out.
  pub stands_anew : {contents nows : ℕ → List ℕ} {calls nexts : List HoldingCall} {commit next : Option CommitRun}
      (before after : CoreState) → IsWithin before.core.pool.out after.core.pool.out
      → KeepsRight damage.left before after → OnlyOut before.core after.core → Later before.disk after.disk
      → GroupsStand setting last begun nexts next after → PutsSpare after nexts last
      → ReadsNoMore contents calls nows nexts
      → ((call : HoldingCall) → Contains nexts call → HoldsCall damage after (nows (actor_of call)) call)
      → Stands setting last begun map damage contents calls commit before
      → Stands setting last begun map damage nows nexts next after
  stands_anew before after within keeps core = stands_still before after within keeps (rw core) (rw core) (rw core)

  -- What stands, over a turn that is none of these calls', as a step of a commit.
  pub stands_frame : {contents : ℕ → List ℕ} {calls : List HoldingCall} {commit next : Option CommitRun}
      (P : ℕ → ℕ → Type 0) (before after : CoreState) → Leaves P before after
      → ((call : HoldingCall) → Contains calls call
      → IsCallOff P before.core.pool.uber.reflow before.core.pool.done call)
      → AreOff P before.core → OnlyOut before.core after.core → Later before.disk after.disk
      → GroupsStand setting last begun calls next after → Stands setting last begun map damage contents calls commit before
      → Stands setting last begun map damage contents calls next after
  stands_frame P before after leaves calls_off off core later groups stands =
      stands_anew before after leaves.within (off_keeps P damage.left before after leaves off) core later groups
      (λ run listed. rw core (stands.spared run listed)) (λ block read. read)
      (λ call listed. search (call_stays, calls_off, stands.each)) stands
