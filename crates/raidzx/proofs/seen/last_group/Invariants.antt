use Rattle.raidzx.specs.ForGood.{IsLastBefore}
use Rattle.raidzx.proofs.seen.last_group.Given as goal

abbrev pub invariant-loop-item : goal.invariant-loop-item
invariant-loop-item l = IsLastBefore l.item-items l.item-index l.last
