-- For which places a command that changes a pool is refused: a slip in the words must cost no disk.
use Rattle.std.specs.Prelude.{◌≡◌, ◌≢◌, ◌⊎◌, ◌↔◌, ℕ, ◌<◌, true, false, List}
use Rattle.uberblock_ring.specs.Devices.{has_device}
use Rattle.raidzx_top.specs.declared.status.Status.{Status}
use Rattle.raidzx_top.specs.declared.status.Status.TheVariants.{TooManyFailed}
use Rattle.raidzx.specs.declared.door.Pool.TheVariants.{Chosen}
use Rattle.raidzx.specs.declared.door.Survey.{Survey}
use Rattle.raidzx.specs.declared.sightings.Sighting.{Sighting}
use Rattle.raidzx.specs.declared.standing.Known.{Known}
use Rattle.raidzx.specs.Lives.{ShowsOtherLife}
use Rattle.raidzx.specs.Places.{ShowsElsewhere, ShowsOtherPool}
use Rattle.raidzx.specs.Unnamed.{IsUnnamed}

-- The image at this place shows another life of the pool, and the pool's group doesn't list the place as out: a pool
-- goes on without those that are.
abbrev pub IsOfOtherLife : List Sighting → Known → ℕ → Type 0
IsOfOtherLife sightings known place =
    (has_device known.listed place ≡ false) × ShowsOtherLife sightings known.uber place

-- The words may be wrong at this place: its image shows the pool under another number; or it is a place of the pool,
-- and none is named for it; or its image shows another pool that as many show, or another life of the pool.
abbrev pub IsAmiss : List Sighting → Known → ℕ → Type 0
IsAmiss sightings known place = ShowsElsewhere sightings known.uber.pool place
    ⊎ (IsUnnamed known place
    ⊎ (ShowsOtherPool sightings known.uber.pool place ⊎ IsOfOtherLife sightings known place))

-- A command is refused for this place: an opening would choose a pool, and the words may be wrong there.
abbrev pub IsRefusedPlace : Survey → ℕ → Type 0
IsRefusedPlace survey place = (known : Known) × ((survey.pool ≡ Chosen known)
    × ((place < 64) × IsAmiss survey.sightings.list.items known place))

-- These are the places for which it is refused.
abbrev pub AreRefused : Survey → ℕ → Type 0
AreRefused survey places = (place : ℕ) → has_device places place ≡ true ↔ IsRefusedPlace survey place

-- It is refused, and the answer names these places.
abbrev pub IsRefusal : Survey → Status → Type 0
IsRefusal survey status =
    (places : ℕ) × ((status ≡ TooManyFailed places) × ((places ≢ 0) × AreRefused survey places))
