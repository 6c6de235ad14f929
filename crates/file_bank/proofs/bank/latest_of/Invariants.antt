-- None of the files that were looked at has a later call.
use Rattle.std.proofs.Common.{ℕ, ◌<◌, ◌≤◌}
use Rattle.file_bank.specs.Files.{all_shown}
use Rattle.file_bank.proofs.bank.latest_of.Given as goal

abbrev pub invariant-loop-file : goal.invariant-loop-file
invariant-loop-file g l = (device : ℕ) → device < l.file-index
    → (all_shown g.F.BlockFile.contents l.files device).last ≤ l.latest
