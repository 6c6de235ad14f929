use Rattle.std.proofs.Common.{◌∙◌}
use Rattle.block_record.proofs.Grows.{more, put_six}
use Rattle.block_record.specs.Bytes.{be32, be64}
use Rattle.block_record.specs.Page.{entry_bytes}
use Rattle.block_record.proofs.encode.put_entry.Goals as goal

pub returns-clause-bytes : goal.returns-clause-bytes
unfolding entry_bytes
returns-clause-bytes c =
    more _ (more _ (more _ (more _ (more _ c.put_u64.ensures.bytes c.put_u64-2.ensures.bytes) c.put_u32.ensures.bytes)
    c.put_u64-3.ensures.bytes) c.put.ensures.bytes) c.put_u32-2.ensures.bytes
    ∙ put_six c.args.sector.now (be64 c.args.entry.now.id) (be64 c.args.entry.now.start) (be32 c.args.entry.now.len)
    (be64 c.args.entry.now.birth) c.args.entry.now.digest (be32 0)
