use Rattle.core_turns.proofs.Words.{arith, refl, sym, ◌∙◌, HoldsMap, pool_of, state_of, freed_holds, none_freed_holds}
use Rattle.core_turns.proofs.read.Turns.{get_of}
use Rattle.core_turns.proofs.open_core.Core.free.Goals as goal
use Rattle.core_turns.proofs.open_core.Core.free.Goals.{in-Some, in-None}

pub returns-clause-holds : goal.returns-clause-holds
returns-clause-holds c = λ wrong map disk holds.
    let pool = pool_of c.self.inside.uber c.self.inside.blocks c.self.inside.out c.self.inside.done in
    let old : HoldsMap wrong map (state_of pool disk) = rw (← c.self.view_is) at holds in
    elim c.match-remove.branch [
      | in-Some w ↦ rw w.result-is (freed_holds map pool c.remove.new.self disk c.args.id c.remove.ensures.change old)
      | in-None w ↦ rw w.result-is (none_freed_holds map pool c.remove.new.self disk c.args.id c.remove.ensures.change
          (sym c.remove.ensures.was ∙ w.in-None.is) old)
    ]

pub returns-clause-under : goal.returns-clause-under
returns-clause-under c = λ ranges under. c.remove.ensures.under ranges (rw (← c.self.view_is) at under)

pub returns-clause-gets : goal.returns-clause-gets
returns-clause-gets c = λ run of. let old = rw (← c.self.view_is) at of in get_of refl refl old.holds old

pub returns-clause-bank : goal.returns-clause-bank
returns-clause-bank c = λ disk bank. rw (← c.self.view_is) at bank

pub invariant_of-self : goal.invariant_of-self
invariant_of-self c = let is = c.self.invariant in search (is.is, is.shared, is.copies, arith)
