use Rattle.std.proofs.Common.{◌+◌, ◌<◌, ◌≤◌, List, sym, subst}
use Rattle.width_map.specs.Births.{last_width}
use Rattle.width_map.specs.declared.birth.Birth.{Birth}
use Rattle.space_alloc.specs.Space.{Space}
use Rattle.block_record.specs.declared.entry.IndexEntry.{IndexEntry}
use Rattle.core_blocks.specs.Blocks.{AreInStep, AreUnderWay, Blocks, IsListed}
use Rattle.core_blocks.specs.Growing.{grown_by}
use Rattle.core_blocks.specs.Kept.{NoneFree}
use Rattle.core_blocks.proofs.Growing.{grown_keeps, grown_step, grown_under}
use Rattle.core_blocks.proofs.Steps.{with_parts}
use Rattle.core_blocks.proofs.blocks.Blocks.grow.Goals as goal

module _ (c : goal.After-enlarge) where
  -- the blocks before, by their fields
  abbrev old_blocks : Blocks
  old_blocks = with_parts c.self.inside.parity c.self.inside.births c.self.inside.table c.self.inside.space

  of_old : (P : Blocks → Type 0) → P c.args.self.now → P old_blocks
  of_old P holds = subst P (sym c.self.view_is) holds

  born : (entry : IndexEntry) → IsListed old_blocks.table.entries entry → entry.birth < c.args.group + 2
  born = of_old (λ (b : Blocks). (entry : IndexEntry) → IsListed b.table.entries entry → entry.birth < c.args.group + 2)
      c.requires.born

  -- What holds of the grown blocks holds of the fields as they are then.
  of_fields : (P : Blocks → Type 0) → P (grown_by old_blocks c.args.group c.args.capacity)
      → P (with_parts c.self.inside.parity c.add.new.self c.self.inside.table c.enlarge.new.self)
  of_fields P holds =
      subst (λ (s : Space). P (with_parts c.self.inside.parity c.add.new.self c.self.inside.table s))
      (sym c.enlarge.ensures.value)
      (subst (λ (b : List Birth). P (with_parts c.self.inside.parity b c.self.inside.table
      (record c.self.inside.space { capacity = c.args.capacity }))) (sym c.add.ensures.value) holds)

pub invariant_of-self : goal.invariant_of-self
invariant_of-self c = (
  of_fields c AreInStep (grown_step (old_blocks c) c.args.group c.args.capacity (born c)
      (of_old c (λ (b : Blocks). b.parity ≤ last_width b.births) c.requires.wide)
      (of_old c (λ (b : Blocks). last_width b.births < 16) c.requires.narrow)
      (of_old c (λ (b : Blocks). b.space.capacity ≤ c.args.capacity) c.requires.larger) c.requires.small c.self.invariant.0),
  c.self.invariant.1,
)

pub returns-clause-stays : goal.returns-clause-stays
returns-clause-stays c = (invariant_of-self c).0

pub returns-clause-under : goal.returns-clause-under
returns-clause-under c ranges under = of_fields c (λ (b : Blocks). AreUnderWay b ranges)
    (grown_under (old_blocks c) c.args.group c.args.capacity (born c) ranges
    (of_old c (λ (b : Blocks). AreUnderWay b ranges) under))

pub returns-clause-kept : goal.returns-clause-kept
returns-clause-kept c past kept older free = of_fields c (λ (b : Blocks). NoneFree b past kept)
    (grown_keeps (old_blocks c) c.args.group c.args.capacity past kept older
    (of_old c (λ (b : Blocks). NoneFree b past kept) free))
