use Rattle.std.proofs.Common.{◌≡◌, ◌-◌}
use Rattle.gf_solve.specs.Inverse.{inverse_of, squares_times}
use Rattle.gf_solve.proofs.field.inverse.Given as goal

-- the squares that are left give the inverse
abbrev pub invariant-loop-step : goal.invariant-loop-step
invariant-loop-step l = squares_times l.square l.inverse (7 - l._step) ≡ inverse_of l.byte
