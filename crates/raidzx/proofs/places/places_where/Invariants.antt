use Rattle.raidzx.proofs.Tested.{IsTested}
use Rattle.raidzx.proofs.places.places_where.Given as goal

abbrev pub invariant-loop-place : goal.invariant-loop-place
invariant-loop-place g l = IsTested (λ place says. goal.F-post g l.test place says) l.place l.places
