use Rattle.std.specs.Prelude.{◌≡◌, ℕ, ◌<◌, false}
use Rattle.uberblock_ring.specs.Devices.{has_device}
use Rattle.raidzx.specs.PlainlyWell.{IsUpToDate}
use Rattle.raidzx.proofs.door.all_are_near.Given as goal

abbrev pub invariant-loop-place : goal.invariant-loop-place
invariant-loop-place l = (place : ℕ) → place < l.place → has_device l.sightings.unread place ≡ false
    → IsUpToDate l.sightings.list.items l.uber place
