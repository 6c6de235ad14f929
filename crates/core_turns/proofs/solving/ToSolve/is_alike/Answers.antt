use Rattle.core_turns.proofs.Words.{◌∙◌, sym, true≢false}
use Rattle.core_turns.proofs.solving.ToSolve.is_alike.Goals as goal

pub has_same_columns-requires-clause-one : goal.has_same_columns-requires-clause-one
has_same_columns-requires-clause-one c =
    let same = (c.is_of_read.ensures c.args.read.now).0 c.if-is_of_read.true in
    rw c.columns.ensures (rw same.0.layout at c.requires.solvable.shape)

pub returns-then-is_of_read : goal.returns-then-is_of_read
returns-then-is_of_read c =
    let same = (c.is_of_read.ensures c.args.read.now).0 c.if-is_of_read.true in (
      λ yes. record {
        block = same.0;
        widths = same.1;
        columns = rw c.columns.ensures at (c.has_same_columns.ensures.0 yes);
      },
      λ alike. c.has_same_columns.ensures.1 (rw c.columns.ensures alike.columns),
    )

pub returns-else-is_of_read : goal.returns-else-is_of_read
returns-else-is_of_read c = (
  λ yes. absurd (true≢false (sym yes ∙ c.if-is_of_read.false)),
  λ alike. (c.is_of_read.ensures c.args.read.now).1 (alike.block, alike.widths),
)
