-- What a commit asks for after a stop, beside what is right already.
use Rattle.std.specs.Prelude.{ℕ, ◌<◌}
use Rattle.reflow_mark.specs.declared.reflow.Reflow.{Reflow}
use Rattle.reflow_mark.specs.Reflow.{sectors_of}
use Rattle.shadow_write.specs.Required.{IsRequiredPlace, front_after_stop}

-- All that a reflow asks for after a stop is asked for at another and this front already.
abbrev pub AsksNoMore : Reflow → ℕ → Reflow → Type 0
AsksNoMore reflow done chosen = (row_end sector device device_sector : ℕ) → sector < sectors_of reflow
    → IsRequiredPlace chosen (front_after_stop chosen) row_end sector device device_sector
    → IsRequiredPlace reflow done row_end sector device device_sector
