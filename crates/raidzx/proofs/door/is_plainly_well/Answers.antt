use Rattle.std.proofs.Common.{List, inr, refl, subst}
use Rattle.std.specs.List.{All}
use Rattle.raidzx.specs.declared.sightings.Sighting.{Sighting}
use Rattle.raidzx.specs.PlainlyWell.{IsInPlace}
use Rattle.raidzx.proofs.door.is_plainly_well.Goals as goal

pub returns-then-all_show : goal.returns-then-all_show
returns-then-all_show c = λ near.
    let uber = c.in-Some.uber in
    let places : All (λ sighting. IsInPlace sighting uber c.args.named) c.deref-in-Some.result.now =
    c.if-all_show.ensures.0 refl in
    inr (
      uber,
      record {
        places = subst (λ (list : List Sighting). All (λ sighting. IsInPlace sighting uber c.args.named) list)
            c.deref-in-Some.ensures.value places;
        near = c.all_are_near.ensures near;
      },
    )
