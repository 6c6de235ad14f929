use Rattle.core_turns.proofs.Words.{◌≡◌, ℕ, ◌∙◌, ap, arith, subst, sym, few_entries, Blocks, Uber, plan_of, Lays}
use Rattle.core_turns.proofs.Words.{Chooses, CommitRun, Core, IsCore, BeginsCommitSo}
use Rattle.core_turns.proofs.sync.Begins.{begins_clear, begins_right, begins_so, begun_core}
use Rattle.core_turns.proofs.state.Cores.{few_out}
use Rattle.core_turns.proofs.open_core.Core.commit_begin.Goals as goal

-- a core with these blocks
abbrev with_blocks : Core → Blocks → Core
with_blocks core blocks = record core { pool = record core.pool { blocks = blocks } }

-- With the same blocks it is one still,
is_with_blocks : (core : Core) (blocks : Blocks) → IsCore core → blocks ≡ core.pool.blocks
    → IsCore (with_blocks core blocks)
is_with_blocks core blocks is same = subst (λ (b : Blocks). IsCore (with_blocks core b)) (sym same) is

-- and what begins from it begins from the core as it was.
begins_with_blocks : (core new : Core) (blocks : Blocks) (actor : ℕ) (run : CommitRun) → blocks ≡ core.pool.blocks
    → BeginsCommitSo (with_blocks core blocks) new actor run → BeginsCommitSo core new actor run
begins_with_blocks core new blocks actor run same begins =
    subst (λ (b : Blocks). BeginsCommitSo (with_blocks core b) new actor run) same begins

pub next_uber-next-requires-clause-few : goal.next_uber-next-requires-clause-few
next_uber-next-requires-clause-few c =
    rw c.entries-entries.ensures.value (few_entries _ _ c.entries-entries.ensures.table)

pub hold_change-requires-clause-clear : goal.hold_change-requires-clause-clear
hold_change-requires-clause-clear c =
    begins_clear _ c.args.actor _ _ (is_with_blocks _ _ c.self.invariant c.page.ensures.same)
    c.entries-entries.ensures.table c.in_default.is
    (few_out c.self.view_is c.has_too_many_out.ensures.many.1 c.if-has_too_many_out.false)
    (omega (arith, c.if-self.false)) c.reflow-before.ensures.value c.choose-chosen.ensures.choice

pub new-requires-2-clause-right : goal.new-requires-2-clause-right
new-requires-2-clause-right c = rw c.in-Ok-new.ensures.ok
    (begins_right _ c.args.actor _ _ (is_with_blocks _ _ c.self.invariant c.page.ensures.same)
    c.entries-entries.ensures.table c.in_default.is
    (few_out c.self.view_is c.has_too_many_out.ensures.many.1 c.if-has_too_many_out.false)
    (omega (arith, c.if-self.false)) c.reflow-before.ensures.value c.choose-chosen.ensures.choice
    _ _ c.entries-entries.ensures.value c.next_uber-next.ensures)

pub invariant_of-self-2 : goal.invariant_of-self-2
invariant_of-self-2 c =
    begun_core _ _ c.args.actor _ (is_with_blocks _ _ c.self.invariant c.page.ensures.same) c.in_default.is
    (omega (arith, c.if-self.false))
    (Chooses _ (rw c.reflow-before.ensures.value at c.choose-chosen.ensures.choice))
    (rw c.reflow-before.ensures.value at c.in-Ok-hold_change.ensures.ok)

pub returns-clause-begins : goal.returns-clause-begins
returns-clause-begins c = rw (← c.self.view_is)
    (begins_with_blocks _ _ _ c.args.actor _ c.page.ensures.same
    (begins_so _ c.args.actor _ _ (is_with_blocks _ _ c.self.invariant c.page.ensures.same)
    c.entries-entries.ensures.table c.in_default.is
    (few_out c.self.view_is c.has_too_many_out.ensures.many.1 c.if-has_too_many_out.false)
    (omega (arith, c.if-self.false)) c.reflow-before.ensures.value c.choose-chosen.ensures.choice
    _ _ c.entries-entries.ensures.value c.next_uber-next.ensures _ _ _ c.in-Ok-hold_change.ensures.ok
    c.in-Ok-from_slice.ensures.items (c.new-2.ensures.value ∙ ap (λ (uber : Uber). record {
      uber = uber;
      entries = c.in-Ok-from_slice.index.items;
      calls = plan_of uber.reflow.to uber.count;
      stage = Lays;
    }) c.in-Ok-new.ensures.ok)))
