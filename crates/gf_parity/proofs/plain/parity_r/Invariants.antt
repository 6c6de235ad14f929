use Rattle.std.proofs.Common.{◌≡◌, ℕ, ◌<◌, get_or, length, take}
use Rattle.gf_parity.specs.Parity.{r_of, bytes_at}
use Rattle.gf_parity.proofs.plain.parity_r.Given as goal

-- the parity of the columns so far
abbrev pub invariant-loop-column : goal.invariant-loop-column
invariant-loop-column l = record {
  long : length l.out ≡ 512;
  bytes : (at : ℕ) → at < 512 → get_or l.out at 0 ≡ r_of (bytes_at at (take l.column-index l.content));
}
