-- How many devices are out, call by call.
use Rattle.std.proofs.Common.{◌≡◌, ℕ, ◌+◌, ◌<◌, ◌≤◌, false, refl, ap, arith}
use Rattle.uberblock_ring.specs.Devices.{has_device, with_device, count_of}
use Rattle.uberblock_ring.proofs.DeviceSets.{count_with}
use Rattle.core_state.specs.Committing.{Point}
use Rattle.core_commit.specs.Spared.{StopsInTime}

-- A device more that is out.
pub one_out : (out device : ℕ) → has_device out device ≡ false → device < 64
    → count_of (with_device out device) ≤ count_of out + 1
unfolding count_of
one_out out device in_use low = omega (arith, count_with out device 64 in_use low)

-- no call
pub stops_none : (parity : ℕ) (point : Point) → StopsInTime parity point point
stops_none parity point = record { none = λ many. refl; last = λ few. omega (arith, few) }

-- Where not too many are out, more may be called.
pub stops_then : (parity : ℕ) (before mid after : Point) → StopsInTime parity before mid
    → count_of mid.out ≤ parity → count_of after.out ≤ parity + 1
    → StopsInTime parity before after
stops_then parity before mid after so_far few next = record {
  none = λ many.
      let same : count_of mid.out ≡ count_of before.out = ap (λ (p : Point). count_of p.out) (so_far.none many) in
      absurd (omega (arith, same, many, few));
  last = λ earlier. next;
}
