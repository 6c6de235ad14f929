-- When the images that are read show one pool, each in its place and none of it left behind.
use Rattle.std.specs.Prelude.{◌≡◌, ◌⊎◌, ℕ, ◌+◌, ◌<◌, ◌≤◌, false, List, []}
use Rattle.std.specs.List.{All}
use Rattle.uberblock_ring.specs.Devices.{has_device}
use Rattle.uberblock_ring.specs.Uberblock.{Uber}
use Rattle.raidzx.specs.declared.sightings.Sighting.{Sighting}
use Rattle.raidzx.specs.declared.sightings.Sightings.{Sightings}
use Rattle.raidzx.specs.Lives.{AreOfOneLife}
use Rattle.raidzx.specs.Places.{IsLastOf}

-- It is an uberblock of this one's pool, in its place, and names no more disks than are named.
abbrev pub IsInPlace : Sighting → Uber → ℕ → Type 0
IsInPlace sighting uber named = (sighting.number ≡ sighting.place) × ((sighting.uber.pool ≡ uber.pool)
    × ((sighting.uber.reflow.to ≤ named) × AreOfOneLife sighting.uber uber))

-- The image at this place shows the pool, and is at most two groups behind this uberblock.
pub record IsUpToDate (sightings : List Sighting) (uber : Uber) (place : ℕ) : Type 0 where
  pub last : Uber
  pub is : IsLastOf sightings last uber.pool place
  pub near : uber.group ≤ last.group + 2

-- Each uberblock is one of this one's pool in its place, and each image of the pool that is read is near to it.
pub record AllAreNear (sightings : Sightings) (uber : Uber) (named : ℕ) : Type 0 where
  pub places : All (λ sighting. IsInPlace sighting uber named) sightings.list.items
  pub near : (place : ℕ) → place < uber.reflow.to → has_device sightings.unread place ≡ false
      → IsUpToDate sightings.list.items uber place

-- The images show nothing, or one pool, of which all is well.
abbrev pub IsPlainlyWell : Sightings → ℕ → Type 0
IsPlainlyWell sightings named = (sightings.list.items ≡ []) ⊎ ((uber : Uber) × AllAreNear sightings uber named)
