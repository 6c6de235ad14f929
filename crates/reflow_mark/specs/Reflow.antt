-- The reflow, when it is right, and its word in the uberblock.
use Rattle.std.specs.Prelude.{◌≡◌, ◌⊎◌, ℕ, ◌+◌, ◌*◌, ◌^◌, ◌<◌, ◌≤◌}
use Rattle.reflow_mark.specs.declared.reflow.State.{State}
use Rattle.reflow_mark.specs.declared.reflow.State.TheVariants.{None, Valid, Moved}
use Rattle.reflow_mark.specs.declared.reflow.Reflow.{Reflow}

-- data rows of the new width that the scratch area holds
abbrev pub scratch_rows : ℕ
scratch_rows = 32

-- sectors below this go through the scratch area
abbrev pub scratch_end : Reflow → ℕ
scratch_end reflow = scratch_rows * reflow.to

-- the sectors of the pool, which an expansion moves
abbrev pub sectors_of : Reflow → ℕ
sectors_of reflow = reflow.rows * reflow.from

-- An expansion runs.
abbrev pub Expands : Reflow → Type 0
Expands reflow = reflow.to ≡ reflow.from + 1

-- the mark that a state allows
abbrev pub IsMark : State → Reflow → Type 0
IsMark None reflow = reflow.mark ≡ 0
IsMark Valid reflow = reflow.mark ≡ scratch_end reflow
IsMark Moved reflow = (scratch_end reflow ≤ reflow.mark) × (reflow.mark < sectors_of reflow)

-- No expansion, and nothing moved; or one by one device, with a mark that its state allows.
abbrev pub IsRightReflow : Reflow → Type 0
IsRightReflow reflow =
    ((reflow.to ≡ reflow.from) × (reflow.mark ≡ 0) × (reflow.state ≡ None))
    ⊎ (Expands reflow × IsMark reflow.state reflow)

-- the reflow of a pool that isn't being widened
abbrev pub at_rest : ℕ → ℕ → Reflow
at_rest width rows = record { from = width; to = width; rows = rows; mark = 0; state = None }

-- the state's number in the word
abbrev pub state_number : State → ℕ
state_number None = 0
state_number Valid = 1
state_number Moved = 2

-- the mark in the low 55 bits, the state above
abbrev pub word_of : Reflow → ℕ
word_of reflow = state_number reflow.state * 2 ^ 55 + reflow.mark

-- The word is that of this reflow, which is right, at these widths and data rows.
pub record IsWordOf (reflow : Reflow) (from to rows word : ℕ) : Type 0 where
  pub widths : (reflow.from ≡ from) × (reflow.to ≡ to)
  pub height : reflow.rows ≡ rows
  pub right : IsRightReflow reflow
  pub packed : word_of reflow ≡ word
