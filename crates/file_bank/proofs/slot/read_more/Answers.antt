use Rattle.std.proofs.Common.{arith, inr}
use Rattle.file_bank.proofs.Causes.{raised}
use Rattle.file_bank.proofs.Pieces.{more, next_bytes}
use Rattle.file_bank.proofs.slot.read_more.Goals as goal

pub returns-in-Ok-clause-front : goal.returns-in-Ok-clause-front
returns-in-Ok-clause-front g c = λ bytes is front.
    more _ _ _ _ _ _ (omega arith) c.in-Ok.ensures.bound.1 front
    (next_bytes (g.F.BlockFile.contents c.args.file.now) c.args.start c.args.filled _ _ _
    c.requires.whole c.requires.room c.in-Ok.ensures.bytes is)

pub returns-in-Err-Interrupted-clause-cause : goal.returns-in-Err-Interrupted-clause-cause
returns-in-Err-Interrupted-clause-cause g c = record { later = c.read_at.ensures.counts.later; failed = tt }

pub returns-in-Err-Interrupted-clause-goes_on : goal.returns-in-Err-Interrupted-clause-goes_on
returns-in-Err-Interrupted-clause-goes_on g c =
    inr (raised _ _ c.read_at.result _ c.in-Err-Interrupted.is c.read_at.ensures.counts)

pub returns-in-Err-Failed-clause-cause : goal.returns-in-Err-Failed-clause-cause
returns-in-Err-Failed-clause-cause g c = record {
  later = c.read_at.ensures.counts.later;
  failed = raised _ _ c.read_at.result _ c.in-Err-Failed.is c.read_at.ensures.counts;
}
