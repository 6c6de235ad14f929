use Rattle.std.proofs.Common.{◌≡◌, ℕ, ◌<◌, get_or}
use Rattle.gf_parity.proofs.plain.clear.Given as goal

-- the bytes so far are cleared
abbrev pub invariant-loop-sum : goal.invariant-loop-sum
invariant-loop-sum l = (at : ℕ) → at < l.sum-index → get_or l.out at 0 ≡ 0
