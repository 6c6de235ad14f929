use Rattle.std.proofs.Common.{subst}
use Rattle.std.specs.Prelude.{Option}
use Rattle.range_locks.specs.declared.hold.Hold.{Hold}
use Rattle.range_locks.specs.Holds.{IsFirst}
use Rattle.range_locks.proofs.Searching.{first_of_both, first_of_one}
use Rattle.range_locks.proofs.find.first_of.Goals as goal

pub returns-in-Some : goal.returns-in-Some
returns-in-Some c holds others lo hi kind is other_is =
    first_of_both holds others lo hi kind c.args.one c.in-Some.hold c.earlier.result is
    (subst (λ (first : Option Hold). IsFirst others lo hi kind first) c.in-Some.is other_is) c.earlier.ensures

pub returns-in-None : goal.returns-in-None
returns-in-None c holds others lo hi kind is other_is =
    first_of_one holds others lo hi kind c.args.one is
    (subst (λ (first : Option Hold). IsFirst others lo hi kind first) c.in-None.is other_is)
