use Rattle.std.proofs.Common.{sym, subst, ◌+◌}
use Rattle.core_open.proofs.BlockSpans.{AreSpansTo, spans_more}
use Rattle.core_open.proofs.fitting.spans_of.Goals as goal

pub loop-entry-preserved : goal.loop-entry-preserved
loop-entry-preserved c =
    let uber = c.args.uber.now in
    let entries = c.args.entries.now in
    let index = c.loop-entry.entry-index in
    let found = c.in-Some.ensures in
    subst (AreSpansTo uber entries (index + 1)) (sym c.in_ok-push-in-Some.ensures.items)
    (spans_more uber entries index c.loop-entry.spans.items c.in-Some.span _ c.loop-entry-test.true
    c.loop-entry.invariant found.value.0 found.value.1 found.filled)
