use Rattle.std.proofs.Common.{sym, subst, refl}
use Rattle.space_alloc.specs.Space.{Space}
use Rattle.core_blocks.specs.Blocks.{AreUnderWay, Blocks, AreInStep}
use Rattle.core_blocks.specs.Kept.{IsInUsePast, NoneFree}
use Rattle.core_blocks.proofs.Steps.{with_parts, answered_step}
use Rattle.core_blocks.proofs.Keeping.{kept_where, in_use_after}
use Rattle.core_blocks.proofs.UnderWay.{answered_under}
use Rattle.core_blocks.proofs.blocks.Blocks.synced.Goals as goal

pub invariant_of-self : goal.invariant_of-self
invariant_of-self c = (
  subst (λ (s : Space). AreInStep (with_parts c.self.inside.parity c.self.inside.births
      c.self.inside.table s)) (sym c.synced.ensures.value)
      (answered_step c.self.inside.parity c.self.inside.births c.self.inside.table
      c.self.inside.space c.args.group c.self.invariant.0),
  c.self.invariant.1,
)

pub returns-clause-kept : goal.returns-clause-kept
returns-clause-kept c past kept answered free =
    kept_where (with_parts c.self.inside.parity c.self.inside.births c.self.inside.table
    c.self.inside.space) _ past kept refl refl
    (λ entry sector listed inside used. subst (λ (s : Space). IsInUsePast s past sector)
    (sym c.synced.ensures.value) (in_use_after c.self.inside.space c.args.group past sector
    answered used))
    (subst (λ (b : Blocks). NoneFree b past kept) (sym c.self.view_is) free)

pub returns-clause-under : goal.returns-clause-under
returns-clause-under c ranges under =
    subst (λ (s : Space). AreUnderWay (with_parts c.self.inside.parity c.self.inside.births
    c.self.inside.table s) ranges) (sym c.synced.ensures.value)
    (answered_under c.self.inside.parity c.self.inside.births c.self.inside.table
    c.self.inside.space c.args.group ranges
    (subst (λ (b : Blocks). AreUnderWay b ranges) (sym c.self.view_is) under))

pub returns-clause-stays : goal.returns-clause-stays
returns-clause-stays c = (invariant_of-self c).0
