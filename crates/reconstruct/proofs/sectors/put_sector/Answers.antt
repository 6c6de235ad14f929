use Rattle.std.proofs.Common.{◌∙◌, arith, ap, refl, sym, length}
use Rattle.reconstruct.proofs.Cutting.{sector_put}
use Rattle.reconstruct.proofs.sectors.put_sector.Goals.{then-front-lt512, else-front-lt512}
use Rattle.reconstruct.proofs.sectors.put_sector.Goals as goal

pub returns : goal.returns
returns c =
    c.copy_to_front.ensures
    ∙ sector_put c.args.bytes.now _ c.if-front-lt512.out c.args.number c.min-start.result c.min-end.result c.min-start.ensures c.min-end.ensures
    (ap length (sym c.copy_to_front.ensures) ∙ c.copy_to_front.array_long)
    (elim c.if-front-lt512.branch [
      | then-front-lt512 w ↦ λ short. w.out-is ∙ w.zero_sector.ensures
      | else-front-lt512 w ↦ λ short. let long = w.if-front-lt512.false in absurd (omega (arith, short, long))
    ])
    refl
