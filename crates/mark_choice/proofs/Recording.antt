-- What an expansion records is its choice: no device joins while one runs.
use Rattle.std.proofs.Common.{ℕ, List, arith}
use Rattle.range_locks.specs.declared.hold.Hold.{Hold}
use Rattle.reflow_mark.specs.declared.reflow.Reflow.{Reflow}
use Rattle.reflow_mark.specs.Reflow.{Expands}
use Rattle.mark_choice.specs.CommitChoice.{IsCommitChoice, MayRecord, Chooses, Widens}

pub chooses : (reflow : Reflow) (done : ℕ) (chosen : Reflow) → Expands reflow → MayRecord reflow done chosen
    → (holds : List Hold) × IsCommitChoice reflow done holds chosen
chooses reflow done chosen expands (Chooses holds choice) = (holds, choice)
chooses reflow done chosen expands (Widens wider) =
    let rest = wider.rest in absurd (omega (arith, rest, expands))
