use Rattle.core_turns.proofs.state.Cores.{core_blocks}
use Rattle.core_turns.proofs.state.Holds.{shared_ended}
use Rattle.core_turns.proofs.put.Stands.{put_shared}
use Rattle.core_turns.proofs.open_core.Core.give_up.Goals as goal

pub give_up-requires : goal.give_up-requires
give_up-requires c = record { under_way = rw (← c.self.view_is) at c.requires.under_way }

pub invariant_of-self : goal.invariant_of-self
invariant_of-self c = core_blocks c.self.invariant c.give_up.ensures.parity c.give_up.ensures.births
    c.give_up.ensures.dropped.capacity
    (λ entry listed. c.self.invariant.is.born entry (rw c.give_up.ensures.entries at listed)) c.give_up.ensures.stays
    (shared_ended _ _ c.args.run.now.hold (put_shared _ c.args.run.now c.requires.of) c.end.ensures.ends)

pub returns : goal.returns
returns c = rw (← c.self.view_is) (search (c.give_up.ensures, c.end.ensures))
