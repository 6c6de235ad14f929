use Rattle.std.proofs.Common.{sym, ◌∙◌, ⊎_elim, arith}
use Rattle.std.proofs.lemmas.Bool.{true≢false}
use Rattle.std.proofs.lemmas.Bool.Decides.{leb_tells}
use Rattle.raidzx.proofs.Rivals.{as_many_by}
use Rattle.raidzx.proofs.lives.as_many_show.Goals as goal

pub returns : goal.returns
returns c =
    let by = as_many_by c.args.sightings.now c.args.pool c.args.other c.places_of.result c.places_of-2.result
    c.places_of.ensures c.places_of-2.ensures in
    let own = c.len.ensures.value in
    let others = c.len-2.ensures.value in
    ⊎_elim
    (λ low. ((λ is. by.0 (omega (arith, low.1, own, others))), (λ many. low.0)))
    (λ high. (
      (λ is. absurd (true≢false (sym is ∙ high.0))),
      (λ many. absurd (omega (arith, by.1 many, high.1, own, others))),
    ))
    (leb_tells c.len.result c.len-2.result)
