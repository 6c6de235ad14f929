use Rattle.space_alloc.proofs.Live.{gap_beside}
use Rattle.space_alloc.proofs.Places.{gap_here, gap_last}
use Rattle.space_alloc.specs.Entries.{IsDeadAt}
use Rattle.space_alloc.proofs.gap.find.Goals as goal

pub returns-then-is_dead : goal.returns-then-is_dead
returns-then-is_dead c =
    let dead : IsDeadAt c.args.entries.now c.place-at.result = c.is_dead.ensures.dead c.if-is_dead.true in
    (dead, gap_here c.args.entries.now c.requires.order c.args.start c.place-at.result c.place-at.ensures dead.within)

pub returns-then-is_dead-2 : goal.returns-then-is_dead-2
returns-then-is_dead-2 c = (
  c.is_dead-then-at-gt0.ensures.dead c.if-is_dead-2.true,
  gap_last c.args.entries.now c.requires.order c.args.start c.place-at.result
      (gap_beside c.args.entries.now c.args.start c.place-at.result c.requires.order c.requires.elsewhere (c.is_dead.ensures.live c.if-is_dead.false)
      c.place-at.ensures) c.if-at-gt0.true,
)

pub returns : goal.returns
returns c = gap_beside c.args.entries.now c.args.start c.place-at.result c.requires.order c.requires.elsewhere
    (c.is_dead.ensures.live c.if-is_dead.false) c.place-at.ensures
