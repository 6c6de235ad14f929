-- The rules for an uberblock, in the parts in which they are looked at.
use Rattle.std.specs.Prelude.{◌+◌, ◌^◌, ◌<◌, ◌≤◌}
use Rattle.reflow_mark.specs.Reflow.{IsRightReflow}
use Rattle.block_record.specs.Bytes.{IsDigest}
use Rattle.uberblock_ring.specs.Uberblock.{Uber, max_group}

-- Each number is in its range.
pub record HasRightNumbers (uber : Uber) : Type 0 where
  pub pool : uber.pool < 2 ^ 64
  pub group : (1 ≤ uber.group) × (uber.group ≤ max_group)
  pub parity : (1 ≤ uber.parity) × (uber.parity ≤ 3)
  pub rows : (64 ≤ uber.reflow.rows) × (uber.reflow.rows ≤ 65536)
  pub area : uber.area ≤ 1
  pub count : uber.count ≤ 512
  pub digest : IsDigest uber.digest

-- The widths leave room for the parity, and the reflow is right.
pub record HasRightWidths (uber : Uber) : Type 0 where
  pub widths : (uber.parity + 1 ≤ uber.reflow.from) × (uber.reflow.to ≤ 16)
  pub reflow : IsRightReflow uber.reflow
