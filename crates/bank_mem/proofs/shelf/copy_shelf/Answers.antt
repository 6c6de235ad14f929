use Rattle.std.proofs.Common.{arith}
use Rattle.bank_mem.proofs.Copied.{copied_held, copied_wide}
use Rattle.bank_mem.proofs.shelf.copy_shelf.Goals as goal

pub returns-clause-held : goal.returns-clause-held
returns-clause-held c =
    copied_held c.loop-row.copy.items c.args.shelf.now (omega arith)
    (λ d x below. c.loop-row.invariant.held d x (omega arith))

pub returns-clause-width : goal.returns-clause-width
returns-clause-width c =
    copied_wide c.loop-row.copy.items c.args.shelf.now (omega arith)
    (λ d x below. c.loop-row.invariant.held d x (omega arith))
