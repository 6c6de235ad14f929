use Rattle.raidzx_top.proofs.Telling.{NoneTells}
use Rattle.raidzx_top.proofs.running.answers_so.Given as goal

abbrev pub invariant-loop-item : goal.invariant-loop-item
invariant-loop-item l = NoneTells l.trouble l.item-items l.item-index
