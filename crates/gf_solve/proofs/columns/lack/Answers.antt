use Rattle.std.proofs.Common.{◌∙◌, ℕ, List, ap}
use Rattle.std.specs.Prelude.{slice_index, bit_xor}
use Rattle.gf_parity.proofs.Horner.{parity_column-at}
use Rattle.gf_solve.proofs.columns.lack.Goals as goal

pub returns : goal.returns
returns c = λ at low.
    c.add.ensures at low
    ∙ ap (λ (k : List ℕ). bit_xor (slice_index k at) (slice_index c.args.column.now at)) c.parity.ensures
    ∙ ap (λ (k : ℕ). bit_xor k (slice_index c.args.column.now at)) (parity_column-at c.args.which at c.args.content.now low)
