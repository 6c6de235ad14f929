-- Whether uberblocks of one id are of one pool: a pool may be made again under its id.
use Rattle.std.specs.Prelude.{◌≡◌, ℕ, List, length, min, take}
use Rattle.std.specs.List.{Any}
use Rattle.width_map.specs.declared.birth.Birth.{Birth}
use Rattle.uberblock_ring.specs.Uberblock.{Uber}
use Rattle.raidzx.specs.declared.sightings.Sighting.{Sighting}
use Rattle.raidzx.specs.Places.{IsLastAt}

-- Two lists of births are the same as far as both go.
abbrev pub Agree : List Birth → List Birth → Type 0
Agree one other =
    take (min (length one) (length other)) one ≡ take (min (length one) (length other)) other

-- They can be of one pool: its parity and its rows stay, and its births grow.
abbrev pub AreOfOneLife : Uber → Uber → Type 0
AreOfOneLife one other = (one.parity ≡ other.parity)
    × ((one.reflow.rows ≡ other.reflow.rows) × Agree one.births other.births)

-- The last uberblock of this one's id that the image at this place shows for its own number can't be of its pool.
abbrev pub ShowsOtherLife : List Sighting → Uber → ℕ → Type 0
ShowsOtherLife sightings uber place = Any (λ sighting. IsLastAt sightings sighting uber.pool place
    × (AreOfOneLife sighting.uber uber → ⊥)) sightings
