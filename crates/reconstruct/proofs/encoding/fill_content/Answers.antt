use Rattle.std.proofs.Common.{length, arith}
use Rattle.reconstruct.proofs.Contents.{contents_are}
use Rattle.reconstruct.proofs.encoding.fill_content.Goals as goal

pub returns : goal.returns
returns c =
    contents_are c.args.layout.now c.args.bytes.now c.args.row (length c.args.content.now) c.loop-column.content c.loop-column.auto.content
    (λ column low. c.loop-column.invariant column (omega (arith, low)))
