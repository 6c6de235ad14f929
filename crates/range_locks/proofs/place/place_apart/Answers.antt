use Rattle.std.proofs.Common.{arith}
use Rattle.range_locks.proofs.Ordered.{apart_first, apart_none}
use Rattle.range_locks.proofs.place.place_apart.Goals as goal

pub returns-then-behind-hi-clause-first : goal.returns-then-behind-hi-clause-first
returns-then-behind-hi-clause-first g c =
    apart_first _ _ _ _ _ c.requires.nonempty c.requires.order c.place-at.ensures.place (omega (arith, c.place-at.ensures.place.within)) c.if-behind-hi.true

pub returns-else-behind-hi-clause-first : goal.returns-else-behind-hi-clause-first
returns-else-behind-hi-clause-first g c =
    apart_none _ _ _ _ _ c.requires.nonempty c.requires.order c.place-at.ensures.place (omega (arith, c.place-at.ensures.place.within)) c.if-behind-hi.false
