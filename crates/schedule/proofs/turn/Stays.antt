-- What a turn leaves of a pool's uberblock: a commit that is answered may widen the data rows, and adds a birth then.
use Rattle.schedule.proofs.Words.{◌≡◌, ℕ, ◌+◌, ◌≤◌, List, [], ◌∷◌, ◌++◌, arith, Birth, IsGrowing, NoneAbove}
use Rattle.schedule.proofs.Words.{births_after, first_width, Reflow, births_of_commit, Uber, CommitRun, ready_keeps}
use Rattle.schedule.proofs.Words.{none_above_more, births_kept, Core, CoreState, IsCore, AnswersGroup, IsCommitOf}
use Rattle.schedule.proofs.Words.{core_follows, core_rows, IsOpenSince}
use Rattle.core_commit.proofs.NewBirth.{rows_of}

-- The pool has parity, rows and first width that it had, its data rows at no smaller width, and is of no older group.
-- Its births are those that a commit from one to the other records, and in the same group the width is the same.
pub record Stays (old new : Core) : Type 0 where
  pub group : old.pool.uber.group ≤ new.pool.uber.group
  pub parity : new.pool.uber.parity ≡ old.pool.uber.parity
  pub rows : new.pool.uber.reflow.rows ≡ old.pool.uber.reflow.rows
  pub from : old.pool.uber.reflow.from ≤ new.pool.uber.reflow.from
  pub first : first_width new.pool.uber.births ≡ first_width old.pool.uber.births
  pub births : new.pool.uber.births
      ≡ births_of_commit old.pool.uber.reflow new.pool.uber.reflow old.pool.uber.births new.pool.uber.group
  pub same : new.pool.uber.group ≡ old.pool.uber.group → new.pool.uber.reflow.from ≡ old.pool.uber.reflow.from

-- So it is with the same uberblock.
pub stays_same : {old new : Core} → new.pool.uber ≡ old.pool.uber → Stays old new
stays_same uber = grind (arith, births_kept)

-- In the same group the births are the same.
pub same_births : (old new : Core) → Stays old new → new.pool.uber.group ≡ old.pool.uber.group
    → new.pool.uber.births ≡ old.pool.uber.births
same_births old new stays group = search (births_kept, group, arith)

-- Births that are none later than two groups on are none later behind a turn.
pub latest_births : {old new : Core} → Stays old new → NoneAbove (old.pool.uber.group + 2) old.pool.uber.births
    → NoneAbove (new.pool.uber.group + 2) new.pool.uber.births
latest_births {old} {new} stays none = grind (arith, none_above_more, added)
  where
    added : (births : List Birth) (width : ℕ) → NoneAbove (new.pool.uber.group + 2) births
        → NoneAbove (new.pool.uber.group + 2) (births ++ record { group = new.pool.uber.group + 2; width = width } ∷ [])
    added [] width all = (omega arith, tt)
    added (birth ∷ births) width all = (all.0, added births width all.1)

-- The pool is still that of its opening.
pub opened_stays : {uber : Uber} {old new : Core} → Stays old new → IsOpenSince uber old → IsOpenSince uber new
opened_stays stays opened = search arith

-- ---- a commit that is answered

-- A birth more leaves the first width,
first_after : (births : List Birth) (group : ℕ) → IsGrowing births
    → first_width (births_after births group) ≡ first_width births
first_after births group grows = grind arith

-- and so does what a commit records.
first_recorded : (before chosen : Reflow) (births : List Birth) (group : ℕ) → IsGrowing births
    → first_width (births_of_commit before chosen births group) ≡ first_width births
first_recorded before chosen births group grows = search (first_after, arith)

module _ (before : CoreState) {after : CoreState} {run : CommitRun} {number : ℕ} (is : IsCore before.core)
    (of : IsCommitOf before.core run) (answers : AnswersGroup before run after number) where
  abbrev old : Core
  old = before.core

  abbrev new : Core
  new = after.core

  abbrev ended : Uber
  ended = answers.ended.uber

  uber_is : new.pool.uber ≡ record run.uber { out = ended.out }
  uber_is = search (ready_keeps, arith)

  -- Where no device joins in it, it keeps the widths or ends an expansion; else it has the same width.
  wider : old.pool.uber.reflow.from ≤ run.uber.reflow.from
  wider = search (rows_of, core_follows, arith)

  -- A commit that is answered leaves the pool so.
  pub answers_stays : Stays old new
  answers_stays = grind (arith, uber_is, first_recorded, core_rows, wider)
