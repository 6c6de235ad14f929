use Rattle.std.proofs.Common.{refl}
use Rattle.block_record.proofs.Reading.{joined}
use Rattle.uberblock_ring.proofs.header.Header.read.Goals as goal

pub returns-clause-fields : goal.returns-clause-fields
returns-clause-fields c =
    let bytes = c.args.bytes.now in
    joined 80 32 bytes (joined 76 4 bytes (joined 72 4 bytes (joined 64 8 bytes (joined 56 8 bytes (joined 48 8 bytes
    (joined 44 4 bytes (joined 40 4 bytes (joined 36 4 bytes (joined 32 4 bytes (joined 24 8 bytes (joined 16 8 bytes refl
    c.u64_at.ensures) c.u64_at-2.ensures) c.u32_at.ensures) c.u32_at-2.ensures) c.u32_at-3.ensures) c.u32_at-4.ensures)
    c.u64_at-3.ensures) c.u64_at-4.ensures) c.u64_at-5.ensures) c.u32_at-5.ensures) c.u32_at-6.ensures) c.digest_at.ensures.bytes
