use Rattle.std.proofs.Common.{◌≡◌, ℕ, ◌<◌, [], get_or}
use Rattle.gf_parity.specs.Parity.{parity_column}
use Rattle.reconstruct.proofs.encoding.fill_parity.Given as goal

-- the parity columns so far
abbrev pub invariant-loop-which : goal.invariant-loop-which
invariant-loop-which l = (which : ℕ) → which < l.which → get_or l.columns which [] ≡ parity_column which l.content
