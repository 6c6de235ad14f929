-- At which places images stand.
use Rattle.std.specs.Prelude.{◌≡◌, ◌≢◌, ◌⊎◌, ◌↔◌, ℕ, ◌<◌, ◌≤◌, true, List}
use Rattle.std.specs.List.{All, Any}
use Rattle.uberblock_ring.specs.Devices.{count_of, has_device}
use Rattle.uberblock_ring.specs.Uberblock.{Uber}
use Rattle.uberblock_ring.specs.Valid.{AreAlike}
use Rattle.raidzx.specs.declared.sightings.Sighting.{Sighting}

-- It is an uberblock of the pool, which the image at this place shows for its own number.
abbrev pub IsOfPoolAt : Sighting → ℕ → ℕ → Type 0
IsOfPoolAt sighting pool place =
    (sighting.place ≡ place) × ((sighting.number ≡ place) × (sighting.uber.pool ≡ pool))

-- The image at this place shows the pool for its own number.
abbrev pub ShowsAtPlace : List Sighting → ℕ → ℕ → Type 0
ShowsAtPlace sightings pool place = Any (λ sighting. IsOfPoolAt sighting pool place) sightings

-- It is an uberblock of the pool, which the image at this place shows under another number.
abbrev pub IsElsewhereAt : Sighting → ℕ → ℕ → Type 0
IsElsewhereAt sighting pool place =
    (sighting.place ≡ place) × ((sighting.number ≢ place) × (sighting.uber.pool ≡ pool))

-- The image at this place shows the pool under another number.
abbrev pub ShowsElsewhere : List Sighting → ℕ → ℕ → Type 0
ShowsElsewhere sightings pool place = Any (λ sighting. IsElsewhereAt sighting pool place) sightings

-- The image at this place shows this uberblock of the pool for its own number, and none of a greater group.
abbrev pub IsLastAt : List Sighting → Sighting → ℕ → ℕ → Type 0
IsLastAt sightings sighting pool place = IsOfPoolAt sighting pool place
    × All (λ other. IsOfPoolAt other pool place → other.uber.group ≤ sighting.uber.group) sightings

-- That image shows this one so.
abbrev pub IsLastOf : List Sighting → Uber → ℕ → ℕ → Type 0
IsLastOf sightings uber pool place =
    Any (λ sighting. IsLastAt sightings sighting pool place × (sighting.uber ≡ uber)) sightings

-- These are the places whose images show the pool, each for its own number.
abbrev pub ArePlacesOf : List Sighting → ℕ → ℕ → Type 0
ArePlacesOf sightings pool places = (place : ℕ) → has_device places place ≡ true
    ↔ ((place < 64) × ShowsAtPlace sightings pool place)

-- At least as many images show another pool so as this one.
pub record AsManyShow (sightings : List Sighting) (pool other : ℕ) : Type 0 where
  pub places : ℕ
  pub of_pool : ArePlacesOf sightings pool places
  pub other_places : ℕ
  pub of_other : ArePlacesOf sightings other other_places
  pub as_many : count_of places ≤ count_of other_places

-- It is an uberblock of another pool, which the image at this place shows for its own number; at least as many images
-- show that pool so as this one.
abbrev pub IsOfRivalAt : List Sighting → Sighting → ℕ → ℕ → Type 0
IsOfRivalAt sightings sighting pool place = (sighting.place ≡ place) × ((sighting.number ≡ place)
    × ((sighting.uber.pool ≢ pool) × AsManyShow sightings pool sighting.uber.pool))

-- The image at this place shows such another pool.
abbrev pub ShowsOtherPool : List Sighting → ℕ → ℕ → Type 0
ShowsOtherPool sightings pool place = Any (λ sighting. IsOfRivalAt sightings sighting pool place) sightings

-- It is an uberblock in its place, which differs from this one in nothing but the disks that it lists as out: the disk
-- of this place is one of them.
abbrev pub IsListedBy : Sighting → Uber → ℕ → Type 0
IsListedBy sighting uber place = (has_device sighting.uber.out place ≡ true)
    × ((sighting.number ≡ sighting.place) × AreAlike sighting.uber uber)

-- The group of this uberblock lists the disk of this place as out: the uberblock does, or another one of its group.
abbrev pub IsListedByGroup : List Sighting → Uber → ℕ → Type 0
IsListedByGroup sightings uber place = (has_device uber.out place ≡ true)
    ⊎ Any (λ sighting. IsListedBy sighting uber place) sightings

-- These are the places that its group lists as out, as the images show it.
abbrev pub AreListed : List Sighting → Uber → ℕ → Type 0
AreListed sightings uber places = (place : ℕ) → has_device places place ≡ true
    ↔ ((place < 64) × IsListedByGroup sightings uber place)
