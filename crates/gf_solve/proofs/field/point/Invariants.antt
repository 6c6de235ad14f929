use Rattle.std.proofs.Common.{◌≡◌}
use Rattle.gf_parity.specs.Field.{power_of}
use Rattle.gf_solve.proofs.field.point.Given as goal

-- the power so far
abbrev pub invariant-loop-step : goal.invariant-loop-step
invariant-loop-step l = l.point ≡ power_of 2 l._step
