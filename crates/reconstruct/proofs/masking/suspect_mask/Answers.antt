use Rattle.std.proofs.Common.{◌≡◌, ◌∙◌, ◌<◌, ◌*◌, ◌%◌, ◌^◌, ℕ, sym, ap, arith, ⊎_elim}
use Rattle.std.specs.Prelude.{bit_or}
use Rattle.std.proofs.lemmas.Bool.{cases_lt}
use Rattle.gf_solve.specs.Row.{is_masked}
use Rattle.row_layout.specs.Layout.{end_of, sector_of}
use Rattle.reconstruct.specs.Suspects.{is_suspect}
use Rattle.reconstruct.proofs.Masks.{put_here, put_elsewhere}
use Rattle.reconstruct.proofs.masking.suspect_mask.Goals as goal

pub loop-column-preserved : goal.loop-column-preserved
loop-column-preserved c =
    let within : c.loop-column.column < 64 = omega (arith, c.requires.narrow, c.columns_in-column-end.ensures.value) in
    record {
      below = λ k low.
          ⊎_elim (λ before. put_elsewhere c.loop-column.mask c.loop-column.column c.from.result k c.is_suspect.result within c.from.ensures (λ same. omega (arith, same, before))
          ∙ c.loop-column.invariant.below k before)
          (λ last. let here : k ≡ c.loop-column.column = omega (arith, last, low) in
          ap (is_masked (bit_or c.loop-column.mask (c.from.result * 2 ^ c.loop-column.column % 18446744073709551616))) here
          ∙ put_here c.loop-column.mask c.loop-column.column c.from.result c.is_suspect.result within c.from.ensures (c.loop-column.invariant.above c.loop-column.column (omega arith))
          ∙ c.is_suspect.ensures ∙ ap (λ (k : ℕ). is_suspect k c.sector_of.result c.args.pair.now) c.end_of-row_end.ensures.value
          ∙ ap (λ (k : ℕ). is_suspect (end_of c.args.layout.now c.args.row) k c.args.pair.now) c.sector_of.ensures.value
          ∙ ap (λ (k : ℕ). is_suspect (end_of c.args.layout.now c.args.row) (sector_of c.args.layout.now c.args.row k) c.args.pair.now) (sym here))
          (cases_lt k c.loop-column.column);
      above = λ k high.
          put_elsewhere c.loop-column.mask c.loop-column.column c.from.result k c.is_suspect.result within c.from.ensures (λ same. omega (arith, same, high))
          ∙ c.loop-column.invariant.above k (omega (arith, high));
    }
