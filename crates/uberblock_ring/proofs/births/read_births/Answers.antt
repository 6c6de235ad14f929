use Rattle.std.proofs.Common.{◌∙◌, arith}
use Rattle.std.proofs.lemmas.List.{length-set}
use Rattle.uberblock_ring.proofs.BirthRules.{births_more}
use Rattle.uberblock_ring.proofs.births.read_births.Goals as goal

pub loop-index-preserved : goal.loop-index-preserved
loop-index-preserved c =
    let both = births_more c.args.bytes.now c.loop-index.births c.loop-index.index (record { group = c.u64_at.result; width = c.u32_at.result })
    (omega (arith, c.loop-index.invariant.room)) c.u64_at.type_inv c.u32_at.type_inv c.loop-index.invariant.fits c.loop-index.invariant.bytes c.u64_at.ensures
    c.u32_at.ensures in
    record { room = length-set c.loop-index.births c.loop-index.index _ ∙ c.loop-index.invariant.room; fits = both.0; bytes = both.1 }
