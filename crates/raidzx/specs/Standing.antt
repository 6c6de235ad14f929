-- What the image at a place is to a pool.
use Rattle.std.specs.Prelude.{◌≡◌, ◌≢◌, ◌⊎◌, ℕ, ◌+◌, ◌<◌, ◌≤◌, true, false, List}
use Rattle.std.specs.List.{All, Any}
use Rattle.reflow_mark.specs.declared.reflow.State.TheVariants.{None}
use Rattle.uberblock_ring.specs.Devices.{has_device}
use Rattle.uberblock_ring.specs.Uberblock.{Uber}
use Rattle.raidzx.specs.declared.sightings.Sighting.{Sighting}
use Rattle.raidzx.specs.declared.sightings.Sightings.{Sightings}
use Rattle.raidzx.specs.declared.standing.Known.{Known}
use Rattle.raidzx.specs.declared.standing.Standing.{Standing}
use Rattle.raidzx.specs.declared.standing.Standing.TheVariants.{InUse, Elsewhere, OtherLife, LeftBehind, Out, Foreign}
use Rattle.raidzx.specs.declared.standing.Standing.TheVariants.{Blank, Joining, Unread, Unnamed}
use Rattle.raidzx.specs.Places.{IsElsewhereAt, IsLastOf, ShowsAtPlace}
use Rattle.raidzx.specs.Refused.{IsOfOtherLife}

-- The pool is about to copy onto the disk of this place, and has not begun.
abbrev pub IsAboutToJoin : Known → ℕ → Type 0
IsAboutToJoin known place = (known.uber.reflow.state ≡ None)
    × ((known.uber.reflow.from < known.uber.reflow.to) × (place ≡ known.uber.reflow.from))

-- The image at this place shows nothing.
abbrev pub ShowsNothing : List Sighting → ℕ → Type 0
ShowsNothing sightings place = All (λ sighting. sighting.place ≢ place) sightings

-- This is what the image at the place is to the pool, as it was seen.
abbrev pub IsSo : Sightings → Known → ℕ → Standing → Type 0
IsSo sightings known place InUse = ShowsAtPlace sightings.list.items known.uber.pool place
    × ((place < known.uber.reflow.to) × ((has_device known.listed place ≡ false)
    × ((has_device known.out place ≡ false) × (has_device sightings.unread place ≡ false))))
IsSo sightings known place (Elsewhere sighting) =
    Any (λ other. (other ≡ sighting) × IsElsewhereAt other known.uber.pool place) sightings.list.items
IsSo sightings known place (OtherLife last) = IsOfOtherLife sightings.list.items known place
    × IsLastOf sightings.list.items last known.uber.pool place
IsSo sightings known place (LeftBehind last) = (uber : Uber)
    × (IsLastOf sightings.list.items uber known.uber.pool place × ((uber.group ≡ last) × (last + 2 < known.uber.group)))
IsSo sightings known place Out = has_device known.listed place ≡ true
IsSo sightings known place (Foreign sighting) =
    Any (λ other. (other.place ≡ place) × ((other.number ≡ sighting.number) × (other.uber ≡ sighting.uber)))
    sightings.list.items
IsSo sightings known place Blank = ShowsNothing sightings.list.items place × (has_device sightings.unread place ≡ false)
IsSo sightings known place Joining = ShowsNothing sightings.list.items place × IsAboutToJoin known place
IsSo sightings known place Unread = (has_device known.out place ≡ true) ⊎ (has_device sightings.unread place ≡ true)
IsSo sightings known place Unnamed = known.named ≤ place
