use Rattle.std.proofs.Common.{refl, arith}
use Rattle.core_open.proofs.SpanOrder.{follow_broken, follow_iff_clear, follow_whole}
use Rattle.core_open.proofs.fitting.follow_each_other.Goals as goal

pub returns-then-span-end : goal.returns-then-span-end
returns-then-span-end c =
    let spans = c.args.spans.now in
    let clear = follow_iff_clear spans c.requires.filled c.requires.sorted in
    let broken = follow_broken spans c.loop-span.span-index c.loop-span.end _
    c.loop-span-test.true c.if-span-end.true c.loop-span.invariant in
    record { value = (λ never. cc, λ pairs. absurd (broken (clear.1 pairs))) }

pub returns : goal.returns
returns c =
    let spans = c.args.spans.now in
    let clear = follow_iff_clear spans c.requires.filled c.requires.sorted in
    let whole = follow_whole spans c.loop-span.span-index c.loop-span.end (omega arith)
    c.loop-span.invariant in
    record { value = (λ yes. clear.0 whole, λ pairs. refl) }
