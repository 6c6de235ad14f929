use Rattle.std.proofs.Common.{arith}
use Rattle.block_record.proofs.Grows.{zeros_put}
use Rattle.block_record.proofs.sector.SectorWriter.put_zeros.Goals as goal

pub returns-clause-bytes : goal.returns-clause-bytes
returns-clause-bytes c =
    zeros_put c.self.inside.len c.args.count c.self.inside.bytes c.fill.new.self c.args.self.now c.self.view_is
    (omega (arith, c.self.told, c.self.invariant)) (omega (arith, c.self.told, c.requires)) (c.fill.ensures.after (λ y is. is))
