use Rattle.std.proofs.Common.{◌∙◌, ap, arith}
use Rattle.std.specs.Prelude.{nat_eq}
use Rattle.std.specs.Set.{is_member}
use Rattle.block_table.specs.Table.{Table}
use Rattle.block_table.proofs.Tables.{put_table}
use Rattle.block_table.proofs.table.Table.put.Goals as goal

pub invariant_of-self : goal.invariant_of-self
invariant_of-self c = (
  record { room = omega (arith, c.self.invariant.0.room, c.put-was.ensures.len, c.put-was.ensures.capacity, c.end_one.ensures.len) },
  put_table c.self.inside.entries.items c.put-was.new.entries.items c.self.inside.reserved.items c.end_one.new.reserved.items c.args.entry
      c.self.invariant.1
      (ap (λ (t : Table). is_member nat_eq t.reserved c.args.entry.id) c.self.view_is ∙ c.requires.reserved) c.put-was.ensures.index c.put-was.ensures.change c.end_one.ensures.value,
)
