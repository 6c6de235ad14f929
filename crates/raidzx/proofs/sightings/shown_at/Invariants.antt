use Rattle.std.proofs.Common.{◌≡◌, ◌≢◌, ℕ, ◌<◌, get_or}
use Rattle.std.specs.Prelude.{IfNone, IfSome}
use Rattle.std.specs.List.{Any}
use Rattle.raidzx.specs.declared.sightings.Sighting.{Sighting}
use Rattle.raidzx.proofs.sightings.shown_at.Given as goal

abbrev pub invariant-loop-sighting : goal.invariant-loop-sighting
invariant-loop-sighting l = record {
  some : IfSome l.last (λ sighting. Any (λ other. (other ≡ sighting) × (other.place ≡ l.place)) l.sightings);
  none : IfNone l.last ((k : ℕ) (d : Sighting) → k < l.sighting-index → (get_or l.sightings k d).place ≢ l.place);
}
