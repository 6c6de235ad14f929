use Rattle.core_open.proofs.BlockSpans.{AreSpansTo}
use Rattle.core_open.proofs.fitting.spans_of.Given as goal

abbrev pub invariant-loop-entry : goal.invariant-loop-entry
invariant-loop-entry l = AreSpansTo l.uber l.entries l.entry-index l.spans.items
