use Rattle.core_open.proofs.Casting.{first_vote}
use Rattle.core_open.proofs.votes.vote_of.Goals as goal

pub returns-then-ring_uber-device-clause-vote : goal.returns-then-ring_uber-device-clause-vote
returns-then-ring_uber-device-clause-vote c =
    first_vote c.args.ubers.now c.loop-ring_uber.ring_uber-index c.args.device c.pool.result c.ring_uber-item.result c.requires.order
    c.loop-ring_uber-test.true c.ring_uber-item.is c.if-ring_uber-device.true c.pool.ensures.value c.loop-ring_uber.invariant
