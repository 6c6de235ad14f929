-- How many images show a pool: all sets of their places have as many.
use Rattle.std.proofs.Common.{◌≡◌, ℕ, ◌≤◌, List, arith}
use Rattle.std.specs.Prelude.{◌↔◌}
use Rattle.std.proofs.lemmas.Bool.Decides.{same_from_decides}
use Rattle.uberblock_ring.specs.Devices.{count_of, has_device}
use Rattle.uberblock_ring.proofs.DeviceSets.{count_same}
use Rattle.raidzx.specs.declared.sightings.Sighting.{Sighting}
use Rattle.raidzx.specs.Places.{ArePlacesOf, AsManyShow}

same_count : (sightings : List Sighting) (pool one other : ℕ) → ArePlacesOf sightings pool one
    → ArePlacesOf sightings pool other → count_of one ≡ count_of other
unfolding count_of
same_count sightings pool one other of_one of_other = count_same one other 64
    (λ place inside. same_from_decides (has_device one place) (has_device other place) (of_one place) (of_other place))

-- So any two such sets tell whether as many show another pool.
pub as_many_by : (sightings : List Sighting) (pool other places other_places : ℕ) → ArePlacesOf sightings pool places
    → ArePlacesOf sightings other other_places
    → (count_of places ≤ count_of other_places) ↔ AsManyShow sightings pool other
as_many_by sightings pool other places other_places of_pool of_other = (
  (λ low. record { places = places; of_pool = of_pool; other_places = other_places; of_other = of_other; as_many = low }),
  (λ many. omega (
    arith,
    many.as_many,
    same_count sightings pool places many.places of_pool many.of_pool,
    same_count sightings other other_places many.other_places of_other many.of_other,
  )),
)
