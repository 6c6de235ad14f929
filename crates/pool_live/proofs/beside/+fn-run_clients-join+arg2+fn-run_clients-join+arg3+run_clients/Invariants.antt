use Rattle.std.proofs.Common.{◌+◌, ◌-◌, ◌*◌}
use Rattle.pool_live.proofs.beside.+fn-run_clients-join+arg2+fn-run_clients-join+arg3+run_clients.Given as goal

abbrev pub decreases-join+arg2 : goal.decreases-join+arg2
decreases-join+arg2 g l = 2 * (l.middle - l.first) + 1

abbrev pub decreases-join+arg3 : goal.decreases-join+arg3
decreases-join+arg3 g l = 2 * (l.end - l.middle) + 1

abbrev pub decreases-run_clients : goal.decreases-run_clients
decreases-run_clients g l = 2 * (l.end - l.first)
