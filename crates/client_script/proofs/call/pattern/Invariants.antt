use Rattle.std.proofs.Common.{◌≡◌, ◌*◌}
use Rattle.std.specs.Prelude.{min}
use Rattle.client_script.specs.Lines.{pattern_from}
use Rattle.client_script.proofs.call.pattern.Given as goal

abbrev pub invariant-loop-run : goal.invariant-loop-run
invariant-loop-run l = l.bytes.items ≡ pattern_from l.seed 0 (min (256 * l.run) l.len)
