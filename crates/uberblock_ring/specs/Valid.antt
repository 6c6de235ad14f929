-- When an uberblock is right, and when bytes in a slot are a valid one.
use Rattle.std.specs.Prelude.{◌≡◌, ℕ, ◌+◌, ◌^◌, ◌<◌, ◌≤◌, List, length}
use Rattle.width_map.specs.declared.birth.Birth.{Birth}
use Rattle.width_map.specs.Births.{IsGrowing, first_width, last_width, NoneAbove}
use Rattle.reflow_mark.specs.Reflow.{IsRightReflow}
use Rattle.block_record.specs.Bytes.{IsDigest}
use Rattle.uberblock_ring.specs.Devices.{count_below}
use Rattle.uberblock_ring.specs.Uberblock.{Uber, encoded, slot_of, max_group}

-- One to 16 births, of growing widths above the parity, that end at the present width and at most
-- two groups ahead.
pub record IsBirthsOf (births : List Birth) (parity width group : ℕ) : Type 0 where
  pub growing : IsGrowing births
  pub few : length births ≤ 16
  pub wide : parity + 1 ≤ first_width births
  pub last : last_width births ≡ width
  pub begun : NoneAbove (group + 2) births

-- Each field is right.
pub record IsRightUber (uber : Uber) : Type 0 where
  pub pool : uber.pool < 2 ^ 64
  pub group : (1 ≤ uber.group) × (uber.group ≤ max_group)
  pub parity : (1 ≤ uber.parity) × (uber.parity ≤ 3)
  pub widths : (uber.parity + 1 ≤ uber.reflow.from) × (uber.reflow.to ≤ 16)
  pub rows : (64 ≤ uber.reflow.rows) × (uber.reflow.rows ≤ 65536)
  pub reflow : IsRightReflow uber.reflow
  pub area : uber.area ≤ 1
  pub out : (uber.out < 2 ^ uber.reflow.to) × (count_below uber.out uber.reflow.to ≤ uber.parity)
  pub count : uber.count ≤ 512
  pub digest : IsDigest uber.digest
  pub births : IsBirthsOf uber.births uber.parity uber.reflow.from uber.group

-- A new pool may have this parity, width and number of data rows.
pub record IsPoolShape (parity width rows : ℕ) : Type 0 where
  pub few_lost : (1 ≤ parity) × (parity ≤ 3)
  pub wide : (parity + 1 ≤ width) × (width ≤ 16)
  pub high : (64 ≤ rows) × (rows ≤ 65536)

-- These bytes in this slot of this device are the uberblock.
pub record IsValidIn (uber : Uber) (device slot : ℕ) (bytes : List ℕ) : Type 0 where
  pub right : IsRightUber uber
  pub slot_is : slot ≡ slot_of uber.group
  pub bytes_are : bytes ≡ encoded uber device

-- They differ in nothing but the out set.
abbrev pub AreAlike : Uber → Uber → Type 0
AreAlike uber other = record uber { out = 0 } ≡ record other { out = 0 }
