use Rattle.std.proofs.Common.{◌≡◌, ℕ, ◌<◌, ◌≤◌, [], get_or}
use Rattle.reconstruct.specs.Columns.{zero_sector}
use Rattle.reconstruct.proofs.decoding.clear_behind.Given as goal

-- the columns so far are cleared, the ones in front are as they were
abbrev pub invariant-loop-column : goal.invariant-loop-column
invariant-loop-column l = record {
  there : (k : ℕ) → k < l.present → get_or l.columns k [] ≡ get_or l.fn.columns k [];
  missing : (k : ℕ) → l.present ≤ k → k < l.column → get_or l.columns k [] ≡ zero_sector;
}
