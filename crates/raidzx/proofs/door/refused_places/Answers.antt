use Rattle.std.proofs.Common.{◌≡◌, ℕ, ◌<◌, List, true, subst}
use Rattle.std.specs.Prelude.{◌↔◌}
use Rattle.uberblock_ring.specs.Devices.{has_device}
use Rattle.raidzx.specs.declared.sightings.Sighting.{Sighting}
use Rattle.raidzx.specs.Refused.{IsAmiss}
use Rattle.raidzx.proofs.Refusing.{refused_of}
use Rattle.raidzx.proofs.door.refused_places.Goals as goal

pub returns-in-Chosen : goal.returns-in-Chosen
returns-in-Chosen c =
    let places = c.amiss_places.result in
    let known = c.in-Chosen.known in
    refused_of c.args.survey.now known places c.in-Chosen.is
    (subst (λ (list : List Sighting). (place : ℕ) → has_device places place ≡ true
    ↔ ((place < 64) × IsAmiss list known place)) c.deref.ensures.value c.amiss_places.ensures.each)
