use Rattle.std.proofs.Common.{rules, length, drop, sym, subst, arith, List, ◌++◌}
use Rattle.std.specs.Prelude.{replicate}
use Rattle.width_map.specs.declared.birth.Birth.{Birth}
use Rattle.width_map.specs.Births.{BirthsFit}
use Rattle.width_map.specs.Table.{unused, IsBirthTable}
use Rattle.width_map.proofs.Tables.{table_written}
use Rattle.width_map.proofs.births.Births.from_slice.Goals as goal

pub invariant_of-result : goal.invariant_of-result
invariant_of-result c =
    let fits : BirthsFit c.args.births.now = (search rules, omega arith) in
    subst (λ (front : List Birth). IsBirthTable (front ++ drop (length c.args.births.now) (replicate 16 unused)) (length c.args.births.now))
    (sym c.copy_from_slice.ensures.after) (table_written c.args.births.now fits)
