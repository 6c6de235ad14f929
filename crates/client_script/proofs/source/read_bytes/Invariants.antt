use Rattle.std.proofs.Common.{◌+◌, ◌-◌, ◌≤◌, length}
use Rattle.client_script.specs.Script.{most_bytes}
use Rattle.client_script.specs.FromSource.{most_reads}
use Rattle.client_script.proofs.FromSource.{IsReadUpTo}
use Rattle.client_script.proofs.source.read_bytes.Given as goal

abbrev pub invariant-loop-block : goal.invariant-loop-block
invariant-loop-block g l = record {
  later : g.S.Source.faults l.fn.source ≤ g.S.Source.faults l.source;
  each : g.S.Source.reads l.source ≤ g.S.Source.reads l.fn.source + length l.bytes.items;
  few : g.S.Source.reads l.source ≤ g.S.Source.reads l.fn.source + most_reads;
  so_far : IsReadUpTo l.bytes.items (g.S.Source.left l.fn.source) (g.S.Source.left l.source);
}

abbrev pub decreases-loop-block : goal.decreases-loop-block
decreases-loop-block g l = most_bytes + 1 - length l.bytes.items
