-- An attach beside others' turns: it stays the one under way, and what is known of it.
use Rattle.core_turns.proofs.Words.{◌≡◌, ℕ, List, Option, Some, refl, arith, Disk, TouchesOnly, read_beside, Map, Kept}
use Rattle.core_turns.proofs.Words.{Setting, CommitRun, IsOnInUse, sound_paged, ready_keeps, JoinRun, guest_beside}
use Rattle.core_turns.proofs.Words.{touched_leaves, AttachRun, Reads, Checked, Joins, Signs, Core, CoreState, IsCore}
use Rattle.core_turns.proofs.Words.{Damage, AnswersGroup, IsCommitOf, HoldsAttach, IsAttachRunOf, HoldingCall, Stands}
use Rattle.core_turns.proofs.attach.Turns.{rest_records}
use Rattle.core_turns.proofs.state.StandFrames.{LeavesCommit, commit_still}

-- ---- the attach of a core

-- The attach stays the one under way where the commit that is under way is kept,
pub attach_kept : (old new : Core) (run : AttachRun) → new.pool.uber ≡ old.pool.uber → new.reach ≡ old.reach
    → new.committing ≡ old.committing → new.attaching ≡ old.attaching
    → ((commit : CommitRun) → IsCommitOf old commit → IsCommitOf new commit)
    → IsAttachRunOf old run → IsAttachRunOf new run
attach_kept old new run uber reach committing attaching commits was = grind arith

-- as where it is left.
pub attach_still : (old new : Core) (run : AttachRun) → LeavesCommit old new → new.attaching ≡ old.attaching
    → IsAttachRunOf old run → IsAttachRunOf new run
attach_still old new run leaves attaching = search (attach_kept, commit_still)

-- It has no commit under way yet.
abbrev pub IsBeforeCommit : AttachRun → Type 0
IsBeforeCommit (Reads ring) = Unit {0}
IsBeforeCommit (Checked found) = Unit {0}
IsBeforeCommit other = ⊥

-- Another's commit begins, which leaves all but holds and who commits.
pub attach_at_begin : (old new : Core) (run : AttachRun) → IsBeforeCommit run
    → new.pool.uber.reflow ≡ old.pool.uber.reflow → new.reach ≡ old.reach → new.attaching ≡ old.attaching
    → IsAttachRunOf old run → IsAttachRunOf new run
attach_at_begin old new run before reflow reach attaching was = grind arith

-- So another's group may be answered beside the reads of an attach.
pub attach_at_answer : (before after : CoreState) (commit : CommitRun) (number : ℕ) (run : AttachRun)
    → IsBeforeCommit run → IsCore before.core → IsCommitOf before.core commit → AnswersGroup before commit after number
    → IsAttachRunOf before.core run → IsAttachRunOf after.core run
attach_at_answer before after commit number run not_yet is of answers was =
    grind (arith, attach_at_begin, ready_keeps, rest_records)

-- ---- what is known of it

-- Its device stays as it is where others touch the pool's devices alone.
pub attach_beside : {setting : Setting} {last : Kept} {begun : List Kept} {map : Map} {damage : Damage} {contents : ℕ → List ℕ}
    {calls : List HoldingCall} {commit : Option CommitRun} (before : CoreState) (after : Disk) (run : AttachRun)
    → IsAttachRunOf before.core run → ((join : JoinRun) → run ≡ Joins join → commit ≡ Some join.run)
    → TouchesOnly (IsOnInUse before.core.reach before.core.pool.out) before.disk after
    → Stands setting last begun map damage contents calls commit before
    → HoldsAttach setting last begun before.disk run → HoldsAttach setting last begun after run
attach_beside {setting} {last} {begun} {map} {damage} {contents} {calls} before after (Joins join) of its touched stands holds =
    let stood : Stands setting last begun map damage contents calls (Some join.run) before = rw (← its join refl) stands in
    let same : stood.groups.next ≡ holds.0 = cc (stood.groups.begun_is, holds.1) in
    let reach_is : before.core.reach ≡ setting.reach = search (same, arith) in
    let guest = guest_beside holds.0 (sound_paged setting holds.0 (rw same at stood.groups.come.sound)) setting.reach
    before.disk after join.guest (search (touched_leaves, reach_is, arith)) holds.4 in
    (holds.0, holds.1, holds.2, holds.3, guest)
attach_beside before after (Signs run because) of its touched stands holds = tt
attach_beside before after other of its touched stands holds = read_beside before.disk after _ (search arith) holds
