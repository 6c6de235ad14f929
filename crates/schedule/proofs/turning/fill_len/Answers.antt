use Rattle.schedule.proofs.order.CallTurns.{pattern_length}
use Rattle.schedule.proofs.turning.fill_len.Goals as goal

pub returns-in-Pattern : goal.returns-in-Pattern
returns-in-Pattern c = simp (c.in-Pattern.is, pattern_length)
