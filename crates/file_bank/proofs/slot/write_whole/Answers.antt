use Rattle.std.proofs.Common.{arith}
use Rattle.file_bank.proofs.Causes.{asked}
use Rattle.file_bank.proofs.slot.write_whole.Goals as goal

pub returns-clause-cause : goal.returns-clause-cause
returns-clause-cause g c =
    asked _ _ _ _ (λ ends. omega (arith, ends, c.in_ok-offset.ensures.begins, c.in_ok-offset.ensures.inside, c.length.ensures))
    c.write_at.ensures.counts
