use Rattle.std.proofs.Common.{◌∙◌, ◌≡◌, ap, arith, sym}
use Rattle.std.proofs.lemmas.Bool.{false≢true}
use Rattle.block_record.specs.declared.entry.IndexEntry.{IndexEntry}
use Rattle.block_record.proofs.Entries.{entry_tells}
use Rattle.block_record.proofs.read.next_entry.Goals as goal

pub returns-else-is_behind-clause-none : goal.returns-else-is_behind-clause-none
returns-else-is_behind-clause-none c next is =
    let read = c.in_ok-entry.ensures.some in
    let same : next ≡ c.in_ok-entry.entry = entry_tells next c.in_ok-entry.entry is.entry.right read.right (sym is.entry.spelled ∙ read.spelled) in
    false≢true (c.if-is_behind.ensures.value.1 (λ k d low. omega (arith, is.behind k d low, ap (λ (e : IndexEntry). e.id) same)))
