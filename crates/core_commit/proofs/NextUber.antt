-- The uberblock of the next group is right.
use Rattle.std.proofs.Common.{ℕ, ◌+◌, ◌^◌, ◌<◌, ◌≤◌, List, sym, subst, arith}
use Rattle.reflow_mark.specs.declared.reflow.Reflow.{Reflow}
use Rattle.reflow_mark.specs.Reflow.{IsRightReflow}
use Rattle.block_record.specs.Bytes.{IsDigest}
use Rattle.uberblock_ring.specs.Devices.{count_below, count_of}
use Rattle.uberblock_ring.specs.Uberblock.{Uber}
use Rattle.uberblock_ring.specs.Valid.{IsRightUber}
use Rattle.uberblock_ring.proofs.DeviceSets.{count_within}
use Rattle.mark_choice.specs.CommitChoice.{KeepsOrEnds}
use Rattle.core_commit.specs.NextUber.{next_uber}
use Rattle.core_commit.proofs.NewBirth.{HasRowsOf, right_births, rows_of}

-- The next group's uberblock is right.
pub right_next : (uber : Uber) (chosen : Reflow) (count : ℕ) (digest : List ℕ) (out : ℕ) → IsRightUber uber
    → IsRightReflow chosen → KeepsOrEnds uber.reflow chosen
    → uber.group + 1 ≤ 2 ^ 62 → count ≤ 512 → IsDigest digest
    → (out < 2 ^ uber.reflow.to) × (count_below out uber.reflow.to ≤ uber.parity)
    → IsRightUber (next_uber uber chosen count digest out)
right_next uber chosen count digest out right reflow widths limit few is_digest outs = record {
  pool = right.pool;
  group = (omega arith, limit);
  parity = right.parity;
  widths = (
    (let wide = right.widths.0 in let from = same.from in omega (arith, wide, from)),
    (let narrow = right.widths.1 in let to = same.to in omega (arith, narrow, to)),
  );
  rows = subst (λ (n : ℕ). (64 ≤ n) × (n ≤ 65536)) (sym same.rows) right.rows;
  reflow = reflow;
  area = omega arith;
  out = subst (λ (n : ℕ). (out < 2 ^ n) × (count_below out n ≤ uber.parity)) (sym same.to) outs;
  count = few;
  digest = is_digest;
  births = right_births uber chosen right widths;
}
  where
    same : HasRowsOf uber.reflow chosen
    same = rows_of uber.reflow chosen widths

-- No more devices are out than there are parities, in either count.
pub few_below : (uber : Uber) (out : ℕ) → IsRightUber uber → out < 2 ^ uber.reflow.to → count_of out ≤ uber.parity
    → (out < 2 ^ uber.reflow.to) × (count_below out uber.reflow.to ≤ uber.parity)
few_below uber out right below few =
    let wide = right.widths.1 in
    let same = count_within out uber.reflow.to below (omega (arith, wide)) in
    (below, omega (arith, same, few))
