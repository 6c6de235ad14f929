use Rattle.schedule.proofs.Words.{◌≡◌, blank_clients}
use Rattle.schedule.proofs.progress.Progress.new.Given as goal

abbrev pub invariant-loop-client : goal.invariant-loop-client
invariant-loop-client l = l.clients.items ≡ blank_clients l._client
