use Rattle.std.proofs.Common.{◌≡◌, ℕ, ◌+◌, ◌<◌, get_or, length, take}
use Rattle.gf_parity.specs.Parity.{r_of, bytes_at}
use Rattle.gf_parity.proofs.columns.r_from.Given as goal

-- the parity of the columns so far, at each lane
abbrev pub invariant-loop-column : goal.invariant-loop-column
invariant-loop-column l = record {
  long : length l.sum ≡ 64;
  lanes : (lane : ℕ) → lane < 64 → get_or l.sum lane 0 ≡ r_of (bytes_at (l.at + lane) (take l.column-index l.content));
}
