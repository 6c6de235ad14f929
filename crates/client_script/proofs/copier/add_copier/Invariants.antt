use Rattle.std.proofs.Common.{◌≡◌}
use Rattle.client_script.proofs.copier.add_copier.Given as goal

abbrev pub invariant-loop-client : goal.invariant-loop-client
invariant-loop-client l = l.script ≡ record l.fn.script { clients = l._client }
