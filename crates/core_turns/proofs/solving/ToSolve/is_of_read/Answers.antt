use Rattle.core_turns.proofs.Words.{◌∙◌, sym, true≢false}
use Rattle.core_turns.proofs.solving.ToSolve.is_of_read.Goals as goal

pub returns-then-is_of : goal.returns-then-is_of
returns-then-is_of c = λ read. (
  λ yes. ((c.is_of.ensures read c.args.widths.now).0 c.if-is_of.true, c.are_same.ensures.0 yes),
  λ same. c.are_same.ensures.1 same.1,
)

pub returns-else-is_of : goal.returns-else-is_of
returns-else-is_of c = λ read. (
  λ yes. absurd (true≢false (sym yes ∙ c.if-is_of.false)),
  λ same. (c.is_of.ensures read c.args.widths.now).1 same.0,
)
