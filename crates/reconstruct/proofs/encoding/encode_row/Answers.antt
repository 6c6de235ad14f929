use Rattle.std.proofs.Common.{arith, ◌∙◌, ◌≡◌, ◌-◌, ap, length}
use Rattle.row_layout.specs.Layout.{columns_of}
use Rattle.reconstruct.specs.Columns.{row_contents}
use Rattle.reconstruct.proofs.Contents.{row_holds}
use Rattle.reconstruct.proofs.encoding.encode_row.Goals as goal

pub returns : goal.returns
returns c =
    let count : length c.split_at_mut-parity.result.1.now ≡ columns_of c.args.layout.now - c.args.layout.now.parity = omega arith in
    row_holds c.args.layout.now c.args.bytes.now c.args.row c.fill_parity.new.columns c.fill_content.new.content (omega arith)
    (c.fill_content.ensures ∙ ap (row_contents c.args.layout.now c.args.bytes.now c.args.row) count) (λ which low. c.fill_parity.ensures which (omega (arith, low)))
