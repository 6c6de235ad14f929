use Rattle.std.proofs.Common.{arith, List, subst, sym, ℕ}
use Rattle.std.proofs.lemmas.Bool.{false≢true}
use Rattle.block_record.specs.declared.entry.IndexEntry.{IndexEntry}
use Rattle.block_table.specs.Table.{IsFull}
use Rattle.block_table.proofs.Tables.{reserve_table}
use Rattle.block_table.proofs.table.Table.reserve_id.Goals as goal

pub invariant_of-self-2 : goal.invariant_of-self-2
invariant_of-self-2 c = (
  record { room = omega (arith, c.in_ok-reserve.ensures.ok, c.reserve.ensures.len, c.in_ok-push.ensures.len, c.len.ensures) },
  reserve_table c.self.inside.entries.items c.reserve.new.self.items c.self.inside.reserved.items c.push.new.self.items c.args.id
      c.self.invariant.1 (λ full. false≢true (c.if-is_full.ensures.value.1
      (subst (λ (es : List IndexEntry). IsFull (record { entries = es; reserved = c.deref-2.result.now }) c.args.id) (sym c.deref.ensures.value)
      (subst (λ (rs : List ℕ). IsFull (record { entries = c.self.inside.entries.items; reserved = rs }) c.args.id) (sym c.deref-2.ensures.value)
      full)))) c.reserve.ensures.items c.in_ok-push.ensures.items,
)
