use Rattle.std.proofs.Common.{◌≡◌, ℕ, ◌*◌, ◌<◌, get_or, length}
use Rattle.gf_parity.specs.Parity.{parity_byte, bytes_at}
use Rattle.gf_parity.proofs.columns.parity_q.Given as goal

-- the parity of the bytes so far
abbrev pub invariant-loop-part : goal.invariant-loop-part
invariant-loop-part l = record {
  long : length l.out ≡ 512;
  bytes : (place : ℕ) → place < l.part * 64 → get_or l.out place 0 ≡ parity_byte 1 (bytes_at place l.content);
}
