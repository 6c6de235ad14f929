use Rattle.std.proofs.Common.{◌≡◌, ℕ, ◌+◌, ◌<◌, [], get_or}
use Rattle.row_layout.specs.Layout.{content_part}
use Rattle.reconstruct.specs.Columns.{content_bytes}
use Rattle.reconstruct.proofs.encoding.fill_content.Given as goal

-- the content columns so far
abbrev pub invariant-loop-column : goal.invariant-loop-column
invariant-loop-column l = (k : ℕ) → k + l.layout.parity < l.column → get_or l.content k [] ≡ content_bytes l.bytes (content_part l.layout l.row k)
