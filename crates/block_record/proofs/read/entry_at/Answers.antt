use Rattle.std.proofs.Common.{arith}
use Rattle.block_record.specs.Index.{entry_fields}
use Rattle.block_record.proofs.Reading.{joined}
use Rattle.block_record.proofs.read.entry_at.Goals as goal

pub returns-clause-fields : goal.returns-clause-fields
unfolding entry_fields
returns-clause-fields c =
    let bytes = c.args.bytes.now in
    joined 28 32 bytes (joined 20 8 bytes (joined 16 4 bytes (joined 8 8 bytes c.u64_at.ensures c.u64_at-2.ensures) c.u32_at.ensures)
    c.u64_at-3.ensures) c.digest_at.ensures.bytes

pub returns-clause-fits : goal.returns-clause-fits
returns-clause-fits c = record {
  id = omega (arith, c.u64_at.type_inv);
  start = omega (arith, c.u64_at-2.type_inv);
  len = omega (arith, c.u32_at.type_inv);
  birth = omega (arith, c.u64_at-3.type_inv);
  digest = c.digest_at.ensures.digest;
}
