use Rattle.std.proofs.Common.{ℕ, ◌<◌, get_or}
use Rattle.std.specs.Prelude.{◌≢◌}
use Rattle.core_open.specs.declared.ring_uber.RingUber.{RingUber}
use Rattle.core_open.proofs.votes.vote_of.Given as goal

abbrev pub invariant-loop-ring_uber : goal.invariant-loop-ring_uber
invariant-loop-ring_uber l = (k : ℕ) → k < l.ring_uber-index → (d : RingUber) → (get_or l.ubers k d).device ≢ l.device
