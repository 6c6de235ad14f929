use Rattle.std.proofs.Common.{◌+◌, ◌≤◌, length}
use Rattle.client_script.proofs.WholeScript.{IsReadTo}
use Rattle.client_script.proofs.reading.read_all.Given as goal

abbrev pub invariant-loop-rest : goal.invariant-loop-rest
invariant-loop-rest l = record {
  fits : l.number + length l.rest ≤ length l.bytes;
  so_far : IsReadTo l.bytes l.rest l.number l.script;
}

abbrev pub decreases-loop-rest : goal.decreases-loop-rest
decreases-loop-rest l = length l.rest
