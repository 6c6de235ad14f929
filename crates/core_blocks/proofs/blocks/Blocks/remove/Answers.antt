use Rattle.std.proofs.Common.{sym, subst, refl}
use Rattle.core_blocks.specs.Blocks.{AreUnderWay, Blocks}
use Rattle.core_blocks.specs.Kept.{NoneFree}
use Rattle.core_blocks.proofs.Steps.{with_parts, gone_stands, removed_step}
use Rattle.core_blocks.proofs.Keeping.{kept_where, in_use_held}
use Rattle.core_blocks.proofs.UnderWay.{removed_under}
use Rattle.core_blocks.proofs.blocks.Blocks.remove.Goals as goal

pub hold_back-requires-clause-standing : goal.hold_back-requires-clause-standing
hold_back-requires-clause-standing c =
    gone_stands c.self.inside.parity c.self.inside.births c.self.inside.table c.self.inside.space
    c.args.id c.remove-gone.result c.self.invariant.0 c.remove-gone.ensures.was

pub invariant_of-self : goal.invariant_of-self
invariant_of-self c = (
  removed_step c.self.inside.parity c.self.inside.births c.self.inside.table
      c.remove-gone.new.self c.self.inside.space c.hold_back.new.space c.args.id c.args.group
      c.remove-gone.result c.self.invariant.0 c.remove-gone.ensures.was c.remove-gone.ensures.change
      c.hold_back.ensures.value,
  tt,
)

pub returns-clause-kept : goal.returns-clause-kept
returns-clause-kept c past kept before free =
    kept_where (with_parts c.self.inside.parity c.self.inside.births c.self.inside.table
    c.self.inside.space) _ past kept refl refl
    (λ entry sector listed inside used. in_use_held c.self.inside.parity c.self.inside.births
    c.self.inside.space c.hold_back.new.space c.args.group past sector c.remove-gone.result
    c.hold_back.ensures.value before used)
    (subst (λ (b : Blocks). NoneFree b past kept) (sym c.self.view_is) free)

pub returns-clause-under : goal.returns-clause-under
returns-clause-under c ranges under =
    removed_under c.self.inside.parity c.self.inside.births c.self.inside.table
    c.remove-gone.new.self c.self.inside.space c.hold_back.new.space c.args.id c.args.group
    c.remove-gone.result ranges c.self.invariant.0 c.remove-gone.ensures.was
    c.remove-gone.ensures.change c.remove-gone.ensures.reserved c.hold_back.ensures.value
    (subst (λ (b : Blocks). AreUnderWay b ranges) (sym c.self.view_is) under)

pub returns-clause-stays : goal.returns-clause-stays
returns-clause-stays c = (invariant_of-self c).0
