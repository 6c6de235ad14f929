use Rattle.std.proofs.Common.{sym, subst, refl}
use Rattle.space_alloc.specs.Space.{Gains}
use Rattle.core_blocks.specs.Blocks.{AreUnderWay, Blocks, IsUnderWay, range_of}
use Rattle.core_blocks.specs.Kept.{NoneFree}
use Rattle.core_blocks.proofs.Steps.{with_parts, gone_stands, ended_step}
use Rattle.core_blocks.proofs.Keeping.{kept_where, in_use_held}
use Rattle.core_blocks.proofs.UnderWay.{ended_under}
use Rattle.core_blocks.proofs.blocks.Blocks.end_put.Goals as goal

pub hold_back-requires-clause-standing : goal.hold_back-requires-clause-standing
hold_back-requires-clause-standing c =
    gone_stands c.self.inside.parity c.self.inside.births c.self.inside.table c.self.inside.space
    c.args.entry.id c.put-was.result c.self.invariant.0 c.put-was.ensures.was

pub invariant_of-self : goal.invariant_of-self
invariant_of-self c =
    let under_way = subst
    (λ (b : Blocks). IsUnderWay b (range_of b.parity b.births c.args.entry)) (sym c.self.view_is)
    c.requires.under_way in (
      ended_step c.self.inside.parity c.self.inside.births c.self.inside.table c.put-was.new.self
          c.self.inside.space c.hold_back.new.space c.args.entry c.args.group c.put-was.result
          c.self.invariant.0 c.requires.right under_way c.put-was.ensures.was c.put-was.ensures.change
          c.hold_back.ensures.value,
      tt,
    )

pub returns-clause-kept : goal.returns-clause-kept
returns-clause-kept c past kept before free =
    kept_where (with_parts c.self.inside.parity c.self.inside.births c.self.inside.table
    c.self.inside.space) _ past kept refl refl
    (λ entry sector listed inside used. in_use_held c.self.inside.parity c.self.inside.births
    c.self.inside.space c.hold_back.new.space c.args.group past sector c.put-was.result
    c.hold_back.ensures.value before used)
    (subst (λ (b : Blocks). NoneFree b past kept) (sym c.self.view_is) free)

pub returns-clause-under : goal.returns-clause-under
returns-clause-under c left ranges gains under =
    let under_way = subst
    (λ (b : Blocks). IsUnderWay b (range_of b.parity b.births c.args.entry)) (sym c.self.view_is)
    c.requires.under_way in
    ended_under c.self.inside.parity c.self.inside.births c.self.inside.table c.put-was.new.self
    c.self.inside.space c.hold_back.new.space c.args.entry c.args.group c.put-was.result left
    ranges c.self.invariant.0 under_way c.put-was.ensures.was c.put-was.ensures.change
    c.put-was.ensures.reserved c.hold_back.ensures.value
    (subst (λ (b : Blocks). Gains left ranges (range_of b.parity b.births c.args.entry))
    (sym c.self.view_is) gains)
    (subst (λ (b : Blocks). AreUnderWay b ranges) (sym c.self.view_is) under)

pub returns-clause-stays : goal.returns-clause-stays
returns-clause-stays c = (invariant_of-self c).0
