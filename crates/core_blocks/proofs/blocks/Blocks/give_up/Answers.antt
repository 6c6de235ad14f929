use Rattle.std.proofs.Common.{ℕ, sym, ap, subst, refl}
use Rattle.row_layout.specs.Layout.{allocated_of}
use Rattle.space_alloc.specs.Space.{IsDropping}
use Rattle.block_table.specs.Table.{Table}
use Rattle.core_blocks.specs.Blocks.{AreUnderWay, Blocks, IsUnderWay, put_run}
use Rattle.core_blocks.specs.Kept.{NoneFree, SparesAll}
use Rattle.core_blocks.proofs.Steps.{with_parts, given_up_step}
use Rattle.core_blocks.proofs.Keeping.{kept_where, in_use_dropping}
use Rattle.core_blocks.proofs.UnderWay.{given_up_under}
use Rattle.core_blocks.proofs.KeptPage.{page_stays}
use Rattle.core_blocks.proofs.blocks.Blocks.give_up.Goals as goal

dropped : (c : goal.After-drop_run) → IsDropping c.self.inside.space c.drop_run.new.self
    c.args.range.layout.start (allocated_of c.args.range.layout)
dropped c = subst (λ (start : ℕ). IsDropping c.self.inside.space c.drop_run.new.self start
    (allocated_of c.args.range.layout)) c.start.ensures.value
    (subst (λ (len : ℕ). IsDropping c.self.inside.space c.drop_run.new.self c.start.result len)
    c.alloc_size.ensures.value c.drop_run.ensures.value)

pub invariant_of-self : goal.invariant_of-self
invariant_of-self c = (
  given_up_step c.self.inside.parity c.self.inside.births c.self.inside.table
      c.release_id.new.self c.self.inside.space c.drop_run.new.self c.args.range c.self.invariant.0
      (ap (λ (t : Table). t.entries) c.release_id.ensures.value)
      (subst (λ (b : Blocks). IsUnderWay b c.args.range) (sym c.self.view_is) c.requires.under_way)
      (dropped c),
  page_stays c.self.inside.page (ap (λ (t : Table). t.entries) c.release_id.ensures.value) c.self.invariant.1,
)

pub returns-clause-kept : goal.returns-clause-kept
returns-clause-kept c past kept spares free =
    let apart = subst (λ (b : Blocks). SparesAll b.parity b.births kept (put_run c.args.range))
    (sym c.self.view_is) spares in
    kept_where (with_parts c.self.inside.parity c.self.inside.births c.self.inside.table
    c.self.inside.space) _ past kept refl refl
    (λ entry sector listed inside used. in_use_dropping c.self.inside.space c.drop_run.new.self
    (put_run c.args.range) past sector (dropped c)
    (λ there. apart entry listed sector there inside) used)
    (subst (λ (b : Blocks). NoneFree b past kept) (sym c.self.view_is) free)

pub returns-clause-under : goal.returns-clause-under
returns-clause-under c left ranges gains under =
    given_up_under c.self.inside.parity c.self.inside.births c.self.inside.table
    c.release_id.new.self c.self.inside.space c.drop_run.new.self c.args.range left ranges
    c.self.invariant.0
    (subst (λ (b : Blocks). IsUnderWay b c.args.range) (sym c.self.view_is) c.requires.under_way)
    (ap (λ (t : Table). t.entries) c.release_id.ensures.value)
    (ap (λ (t : Table). t.reserved) c.release_id.ensures.value) (dropped c) gains
    (subst (λ (b : Blocks). AreUnderWay b ranges) (sym c.self.view_is) under)

pub returns-clause-stays : goal.returns-clause-stays
returns-clause-stays c = (invariant_of-self c).0
