-- Commits, turn by turn: the group is answered, and what that makes of the core.
use Rattle.core_turns.proofs.Words.{Contains, ◌≡◌, ℕ, ◌≤◌, List, None, Some, arith, Hold, HasSectors, exclusive_count}
use Rattle.core_turns.proofs.Words.{Reflow, sectors_of, Uber, MayRecord, front_behind, IsFrontOf, Blocks, CommitRun}
use Rattle.core_turns.proofs.Words.{answered_by, blocks_behind, IsPool, answered_pool, answered_step, may_grow_now}
use Rattle.core_turns.proofs.Words.{MayGrow, Core, IsCore, alone_below, jobs_begun, DropsHold, IsHeldAlone, IsCommitOf}
use Rattle.core_turns.proofs.Words.{hold_for}
use Rattle.core_turns.proofs.state.Cores.{core_with}
use Rattle.core_turns.proofs.state.Holds.{alone_ends, below_lower, others_end}
use Rattle.core_turns.proofs.sync.Begins.{core_follows}

-- The pool as it is when the group that is made will have been answered, but for its number.
pub begun_pool : (core : Core) (run : CommitRun) → IsCore core → IsCommitOf core run
    → IsPool (record core.pool { uber = record core.pool.uber { group = run.uber.group } })
begun_pool core run is of = search arith

-- The front behind an answer is no higher than it was.
front_no_higher : (reflow : Reflow) (done : ℕ) (chosen : Reflow) → IsFrontOf reflow done → MayRecord reflow done chosen
    → front_behind reflow done chosen ≤ done
front_no_higher reflow done chosen front may = grind arith

pub answered_core : (core : Core) (run : CommitRun) (holds : List Hold) → IsCore core → IsCommitOf core run
    → alone_below core.pool.done holds ≡ 0 → exclusive_count holds ≡ jobs_begun core.copying
    → IsCore (record core { pool = answered_by run.uber core.pool; holds = holds; committing = None })
answered_core core run holds is of none jobs =
    let on = core_follows core run.uber.reflow is of.next.choice in
    let behind = front_behind core.pool.uber.reflow core.pool.done run.uber.reflow in
    let fewer = below_lower behind core.pool.done holds
    (front_no_higher core.pool.uber.reflow core.pool.done run.uber.reflow is.is.front of.next.choice) in
    search (answered_pool, answered_step, of.reach, arith)

-- What a commit held was its actor's.
pub held_by_actor : (core : Core) (run : CommitRun) (actor : ℕ) → IsCommitOf core run → core.committing ≡ Some actor
    → IsHeldAlone core.pool.done core.holds (hold_for core.pool.uber.reflow run.uber.reflow actor)
held_by_actor core run actor of is = let same : of.actor ≡ actor = cc (of.under_way, is) in rw same at of.holds

-- It is among the holds where it has sectors.
pub held_where : (core : Core) (run : CommitRun) (actor : ℕ) → IsCommitOf core run → core.committing ≡ Some actor
    → HasSectors (hold_for core.pool.uber.reflow run.uber.reflow actor)
    → Contains core.holds (hold_for core.pool.uber.reflow run.uber.reflow actor)
held_where core run actor of is some = search (held_by_actor, arith)

-- A group is answered: what that makes of the core, in its parts.
module _ (core : Core) (run : CommitRun) (uber : Uber) (before chosen : Reflow) (blocks : Blocks) (done actor : ℕ)
    (holds : List Hold) (is : IsCore core) (of : IsCommitOf core run) (uber_is : run.uber ≡ uber)
    (under_way : core.committing ≡ Some actor) (before_is : before ≡ core.pool.uber.reflow)
    (chosen_is : chosen ≡ uber.reflow) (drops : DropsHold core.holds holds (hold_for before chosen actor))
    (blocks_are : blocks ≡ blocks_behind core.pool uber) (done_is : done ≡ front_behind before core.pool.done chosen)
  where
    abbrev now : Core
    now = core_with uber blocks core.pool.out done holds core.begun None core.copying core.attaching core.scrubbing
        core.reach

    its_drops : DropsHold core.holds holds (hold_for core.pool.uber.reflow uber.reflow actor)
    its_drops = search arith

    now_is : now ≡ record core { pool = answered_by uber core.pool; holds = holds; committing = None }
    now_is = cc

    pub answers_core : IsCore now
    answers_core =
        let held : IsHeldAlone core.pool.done core.holds (hold_for core.pool.uber.reflow uber.reflow actor) =
        search (held_by_actor, arith) in
        rw (now_is, ← uber_is) (search (answered_core, alone_ends, its_drops, others_end))

-- What the answer asks of the blocks where it ends an expansion.
pub answer_grows : (core : Core) (run : CommitRun) → IsCore core → IsCommitOf core run
    → (run.uber.reflow.from ≡ core.pool.uber.reflow.from → ⊥)
    → MayGrow core.pool.blocks run.uber.group (sectors_of run.uber.reflow)
answer_grows core run is of ends = search (may_grow_now, begun_pool, core_follows)
