-- Commits, turn by turn: how one begins, and that the pool stays one.
use Rattle.core_turns.proofs.Words.{◌≡◌, ℕ, ◌+◌, ◌^◌, ◌<◌, ◌≤◌, List, length, None, Some, arith, cases_lt, sha256, Hold}
use Rattle.core_turns.proofs.Words.{Exclusive, HasSectors, IsClear, commit_clear, range_below, Reflow, IndexEntry}
use Rattle.core_turns.proofs.Words.{index_page, IsTable, count_of, Uber, max_group, IsRightUber, IsCommitChoice}
use Rattle.core_turns.proofs.Words.{MayRecord, Chooses, choice_clear, FollowsOn, KeepsOrEnds, IsFrontOf, choice_widths}
use Rattle.core_turns.proofs.Words.{follows, plan_of, Lays, CommitRun, none_above_more, next_uber, uber_for, IsPool}
use Rattle.core_turns.proofs.Words.{IsReady, ready, Core, IsCore, as_begun, HasTooManyOut, BeginsCommitSo, IsCommitOf}
use Rattle.core_turns.proofs.Words.{IsHeldAlone, TakesHold, commit_of, hold_for}
use Rattle.core_commit.proofs.NewBirth.{rows_of}
use Rattle.core_turns.proofs.state.Holds.{alone_begins, none_below, taken_count}

-- Few devices are out.
pub few_out : (core : Core) → (HasTooManyOut core → ⊥) → count_of core.pool.out ≤ core.pool.uber.parity
few_out core few = search (cases_lt, arith)

-- Where no commit is under way, the group begun last is the last answered one.
pub rests : (core : Core) → IsCore core → core.committing ≡ None → core.begun ≡ core.pool.uber.group
rests core is none = grind arith

-- So the pool is one with its own uberblock.
pub rests_pool : (core : Core) → IsCore core → core.committing ≡ None → IsPool core.pool
rests_pool core is none = search (rests, arith)

-- What a commit may record at this core's front follows on.
pub core_follows : (core : Core) (chosen : Reflow) → IsCore core
    → MayRecord core.pool.uber.reflow core.pool.done chosen
    → FollowsOn core.pool.uber.reflow core.pool.done chosen
core_follows core chosen is choice = follows (as_begun core).uber core.pool.done chosen is.is.right is.is.front choice

-- It has the data rows of the pool.
pub core_rows : (core : Core) (chosen : Reflow) → IsCore core → MayRecord core.pool.uber.reflow core.pool.done chosen
    → chosen.rows ≡ core.pool.uber.reflow.rows
core_rows core chosen is choice = search (rows_of, core_follows, arith)

-- The next group may be written with the table as it is.
pub begins_ready : (core : Core) (chosen : Reflow) → IsCore core → IsTable core.pool.blocks.table
    → core.committing ≡ None
    → (HasTooManyOut core → ⊥) → core.begun + 1 ≤ 2 ^ 62 → MayRecord core.pool.uber.reflow core.pool.done chosen
    → KeepsOrEnds core.pool.uber.reflow chosen → IsReady core.pool chosen
begins_ready core chosen is table none few limit choice widths =
    ready core.pool chosen (rests_pool core is none) is.step table (core_follows core chosen is choice).right widths
    (omega arith) (search arith) (few_out core few)

-- The sectors whose standing a commit's choice changes begin below the front, if it changes any.
pub change_below : (reflow : Reflow) (done : ℕ) (chosen : Reflow) (actor : ℕ) → IsFrontOf reflow done
    → MayRecord reflow done chosen → HasSectors (hold_for reflow chosen actor)
    → (hold_for reflow chosen actor).lo < done
change_below reflow done chosen actor front may some = grind (arith, range_below)

-- A core at which the next group was begun is one.
pub begun_core : (core : Core) (holds : List Hold) (actor : ℕ) (chosen : Reflow) → IsCore core → core.committing ≡ None
    → core.begun + 1 ≤ 2 ^ 62 → MayRecord core.pool.uber.reflow core.pool.done chosen
    → TakesHold core.holds holds (hold_for core.pool.uber.reflow chosen actor)
    → IsCore (record core { holds = holds; begun = core.begun + 1; committing = Some actor })
begun_core core holds actor chosen is none limit may takes =
    let number = rests core is none in
    let under_way : Some actor ≡ None → ⊥ = λ same. cc in
    let pool : IsPool (as_begun (record core { holds = holds; begun = core.begun + 1; committing = Some actor })) =
    search (none_above_more, arith) in
    search (taken_count, change_below, under_way, arith)

-- The commit that makes it is one of the core.
pub begun_commit : (core : Core) (holds : List Hold) (actor : ℕ) (chosen : Reflow) → IsCore core
    → core.committing ≡ None
    → IsReady core.pool chosen → IsCommitChoice core.pool.uber.reflow core.pool.done core.holds chosen
    → TakesHold core.holds holds (hold_for core.pool.uber.reflow chosen actor)
    → IsCommitOf (record core { holds = holds; begun = core.begun + 1; committing = Some actor })
    (commit_of core.pool chosen)
begun_commit core holds actor chosen is none ready choice takes =
    let may : MayRecord core.pool.uber.reflow core.pool.done chosen = Chooses core.holds choice in
    let held : IsHeldAlone core.pool.done holds (hold_for core.pool.uber.reflow chosen actor) =
    search (alone_begins, change_below, is.shared, choice_clear, arith) in
    let wide : core.reach ≡ chosen.to = search (rows_of, choice_widths, arith) in
    search (rests, ready, arith)

-- A commit begins: what that makes of the core, in its parts.
module _ (core : Core) (actor : ℕ) (before chosen : Reflow) (is : IsCore core) (table : IsTable core.pool.blocks.table)
    (none : core.committing ≡ None)
    (few : HasTooManyOut core → ⊥) (limit : core.begun + 1 < max_group) (before_is : before ≡ core.pool.uber.reflow)
    (choice : IsCommitChoice before core.pool.done core.holds chosen) where
  its_choice : IsCommitChoice core.pool.uber.reflow core.pool.done core.holds chosen
  its_choice = search arith

  pub begins_ready_now : IsReady core.pool chosen
  begins_ready_now = begins_ready core chosen is table none few (omega arith) (Chooses core.holds its_choice)
      (search (choice_widths, its_choice, arith))

  -- The sectors whose standing changes are clear to be held alone.
  pub begins_clear : HasSectors (hold_for before chosen actor)
      → IsClear core.holds (hold_for before chosen actor).lo (hold_for before chosen actor).hi Exclusive
  begins_clear = commit_clear before core.pool.done core.holds chosen (search arith)
      (none_below core.pool.done core.holds (is.shared none)) choice

  module _ (entries : List IndexEntry) (next : Uber) (entries_are : entries ≡ core.pool.blocks.table.entries)
      (next_is : next ≡ next_uber core.pool.uber chosen (length entries) (sha256 (index_page entries)) core.pool.out)
    where
      next_for : next ≡ uber_for core.pool chosen
      next_for = cc

      pub begins_right : IsRightUber next
      begins_right = rw next_for begins_ready_now.right

      pub begins_so : (holds : List Hold) (index : List IndexEntry) (run : CommitRun)
          → TakesHold core.holds holds (hold_for before chosen actor) → index ≡ entries
          → run ≡ record { uber = next; entries = index; calls = plan_of next.reflow.to next.count; stage = Lays }
          → BeginsCommitSo core (record core { holds = holds; begun = core.begun + 1; committing = Some actor }) actor
          run
      begins_so holds index run takes index_is run_is =
          search (next_for, its_choice, begun_commit, begins_ready_now, arith)
