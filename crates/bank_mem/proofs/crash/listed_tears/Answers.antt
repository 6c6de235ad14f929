use Rattle.std.proofs.Common.{◌∙◌}
use Rattle.bank_mem.proofs.Listed.{listed_more}
use Rattle.bank_mem.proofs.crash.listed_tears.Goals as goal

pub loop-entry-preserved : goal.loop-entry-preserved
loop-entry-preserved c = λ d x.
    c.in_ok-insert.ensures.updates.0 (d, x)
    ∙ listed_more c.args.torn.now c.loop-entry.entry-index _ d x _ c.loop-entry-test.true
    (c.loop-entry.invariant d x)
