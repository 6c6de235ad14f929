use Rattle.std.proofs.Common.{◌≡◌, ◌*◌, take}
use Rattle.block_record.specs.Page.{index_page}
use Rattle.block_record.proofs.encode.encode_index.Given as goal

abbrev pub invariant-loop-part : goal.invariant-loop-part
invariant-loop-part l = l.page.items ≡ take (512 * l.part) (index_page l.fn.entries)
