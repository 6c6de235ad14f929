-- What is asked of the columns of a block.
use Rattle.std.specs.Prelude.{ℕ, List}
use Rattle.row_layout.specs.Layout.{Layout}
use Rattle.reconstruct.specs.Suspects.{suspects_of}
use Rattle.reconstruct.specs.Solved.{Question, question_with}
use Rattle.core_client.specs.declared.columns_read.ColumnsRead.{ColumnsRead}
use Rattle.core_client.specs.declared.widths.Widths.{Widths}

-- bytes of this length and digest, by what was read; suspected is each device of each width
abbrev pub question_of : Layout → ColumnsRead → ℕ → List ℕ → Widths → Question
question_of layout read len digest widths =
    question_with layout read.rows read.lost.items len digest (suspects_of widths.births widths.to widths.mark)
