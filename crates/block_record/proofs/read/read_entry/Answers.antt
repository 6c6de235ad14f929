use Rattle.std.proofs.Common.{◌∙◌, ap, refl}
use Rattle.std.proofs.lemmas.Bool.{false≢true}
use Rattle.block_record.specs.Bytes.{be32}
use Rattle.block_record.proofs.Entries.{entry_is_read, read_numbers, read_rest}
use Rattle.block_record.proofs.read.read_entry.Goals as goal
use Rattle.block_record.proofs.read.read_entry.Goals.{else-is_right-via-then-is_right+else-u32_at-eq0}
use Rattle.block_record.proofs.read.read_entry.Goals.{else-is_right-via-else-is_right}

pub returns-then-u32_at-eq0-clause-some : goal.returns-then-u32_at-eq0-clause-some
returns-then-u32_at-eq0-clause-some c =
    let read = c.entry_at-entry in
    entry_is_read c.args.bytes.now read.result c.requires.whole read.ensures.fields read.ensures.fits
    (c.u32_at.ensures ∙ ap be32 c.if-u32_at-eq0.true) (c.if-is_right.ensures.value.0 refl)

pub returns-else-is_right-clause-none : goal.returns-else-is_right-clause-none
returns-else-is_right-clause-none c other is =
    let bytes = c.args.bytes.now in
    let read = c.entry_at-entry in
    elim c.else-is_right.branch [
      | else-is_right-via-then-is_right+else-u32_at-eq0 w ↦
          w.if-u32_at-eq0.false (read_rest bytes other w.u32_at.result w.u32_at.ensures w.u32_at.type_inv is)
      | else-is_right-via-else-is_right w ↦
          false≢true (w.if-is_right.ensures.value.1 (read_numbers bytes read.result other read.ensures.fields read.ensures.fits is))
    ]
