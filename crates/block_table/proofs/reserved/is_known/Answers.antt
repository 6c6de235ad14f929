use Rattle.std.proofs.Common.{◌∙◌, ap, Bool, sym}
use Rattle.std.specs.Prelude.{is_some, ◌||◌}
use Rattle.block_table.specs.Table.{entry_of}
use Rattle.block_table.proofs.Counts.{known_is}
use Rattle.block_table.proofs.reserved.is_known.Goals as goal

pub returns-else-is_among : goal.returns-else-is_among
returns-else-is_among c = record {
  value = c.holds.ensures.value
      ∙ ap (λ (b : Bool). b || is_some (entry_of c.args.entries.now c.args.id)) (sym c.if-is_among.false ∙ c.is_among.ensures.value)
      ∙ sym (known_is c.args.reserved.now c.args.entries.now c.args.id);
}
