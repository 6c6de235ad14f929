use Rattle.std.proofs.Common.{ℕ, ◌<◌, ◌≤◌}
use Rattle.uberblock_ring.specs.Uberblock.{Uber}
use Rattle.uberblock_ring.specs.Valid.{IsValidIn}
use Rattle.raidzx.proofs.seen.seen_in.Given as goal

abbrev pub invariant-loop-place : goal.invariant-loop-place
invariant-loop-place l = (other : ℕ) (uber : Uber) → l.first ≤ other → other < l.place
    → IsValidIn uber other l.slot l.bytes → ⊥
