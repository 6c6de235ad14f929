-- Which sectors of which devices a group asks for, and where its page and its slot stand.
use Rattle.std.proofs.Common.{◌≡◌, ◌⊎◌, inl, inr, ⊎_elim, ℕ, ◌+◌, ◌*◌, ◌/◌, ◌%◌, ◌<◌, ◌≤◌, List, arith}
use Rattle.std.proofs.lemmas.Bool.{cases_lt}
use Rattle.std.proofs.Math.Nat.{mul-le-mul_left}
use Rattle.reflow_mark.specs.declared.reflow.State.{State}
use Rattle.reflow_mark.specs.declared.reflow.State.TheVariants.{None, Valid, Moved}
use Rattle.reflow_mark.specs.declared.reflow.Reflow.{Reflow}
use Rattle.shadow_write.specs.Required.{IsRequiredPlace, NeedsScratch, front_after_stop}
use Rattle.block_record.specs.Page.{page_sectors}
use Rattle.uberblock_ring.specs.Uberblock.{Uber, slot_of, area_sector}
use Rattle.uberblock_ring.specs.Valid.{IsRightUber}
use Rattle.core_state.specs.Keeps.{Kept}
use Rattle.core_state.specs.Certain.{Asks}

-- The sector is in the scratch area, or in the data rows.
abbrev pub IsDataSector : ℕ → Type 0
IsDataSector device_sector = ((32 ≤ device_sector) × (device_sector < 64)) ⊎ (192 ≤ device_sector)

-- Sectors of the scratch area stand in its 32 rows.
scratch_row : (to sector : ℕ) → sector < 32 * to → sector / to < 32
scratch_row to sector below = ⊎_elim (λ less. less)
    (λ more.
    let rows : to * 32 ≤ to * (sector / to) = mul-le-mul_left to more in
    let split : to * (sector / to) + sector % to ≡ sector = omega arith in
    absurd (omega (arith, rows, split, below)))
    (cases_lt (sector / to) 32)

-- After a stop only what goes through the scratch area in Valid is needed there.
scratch_needed : (from to rows mark sector : ℕ) (state : State)
    → NeedsScratch state (record { from = from; to = to; rows = rows; mark = mark; state = state })
    (front_after_stop (record { from = from; to = to; rows = rows; mark = mark; state = state })) sector
    → sector < 32 * to
scratch_needed from to rows mark sector None needs = absurd (omega (arith, needs.1))
scratch_needed from to rows mark sector Valid needs = needs
scratch_needed from to rows mark sector Moved needs = absurd needs

-- Required places after a stop are in the scratch area or in the data rows.
pub required_sector : (reflow : Reflow) (row_end sector device device_sector : ℕ)
    → IsRequiredPlace reflow (front_after_stop reflow) row_end sector device device_sector
    → IsDataSector device_sector
required_sector reflow row_end sector device device_sector required = ⊎_elim
    (λ old. let is = old.1.sector_is in inr (omega (arith, is)))
    (λ rest. ⊎_elim
    (λ scratch.
    let is = scratch.1.sector_is in
    let low : sector / reflow.to < 32 = scratch_row reflow.to sector
    (scratch_needed reflow.from reflow.to reflow.rows reflow.mark sector reflow.state scratch.0) in
    inl (omega (arith, is), omega (arith, is, low)))
    (λ new. let is = new.1.sector_is in inr (omega (arith, is))) rest)
    required

-- They are on devices of the pool.
required_device : (reflow : Reflow) (row_end sector device device_sector : ℕ) → 0 < reflow.from
    → reflow.from ≤ reflow.to
    → IsRequiredPlace reflow (front_after_stop reflow) row_end sector device device_sector
    → device < reflow.to
required_device reflow row_end sector device device_sector some wide required = ⊎_elim
    (λ old. let is = old.1.device_is in let low = remainder sector reflow.from some in
    omega (arith, is, low, wide))
    (λ rest. ⊎_elim
    (λ scratch. let is = scratch.1.device_is in
    let low = remainder sector reflow.to (omega (arith, some, wide)) in omega (arith, is, low))
    (λ new. let is = new.1.device_is in
    let low = remainder sector reflow.to (omega (arith, some, wide)) in omega (arith, is, low)) rest)
    required
  where
    remainder : (number width : ℕ) → 0 < width → number % width < width
    remainder number width some = omega arith

pub asks_sector : (kept : Kept) (device device_sector : ℕ) (bytes : List ℕ)
    → Asks kept device device_sector bytes
    → IsDataSector device_sector
asks_sector kept device device_sector bytes asks =
    required_sector kept.uber.reflow asks.cell.row_end asks.cell.sector device device_sector asks.place

-- A right uberblock has some devices, and no more before an expansion than after it.
pub right_widths : (uber : Uber) → IsRightUber uber
    → (0 < uber.reflow.from) × (uber.reflow.from ≤ uber.reflow.to)
right_widths uber right = (
  omega (arith, right.widths.0),
  ⊎_elim (λ rest. let same = rest.0 in omega (arith, same))
      (λ expands. let more = expands.0 in omega (arith, more)) right.reflow,
)

pub asks_device : (kept : Kept) (device device_sector : ℕ) (bytes : List ℕ)
    → (0 < kept.uber.reflow.from) × (kept.uber.reflow.from ≤ kept.uber.reflow.to)
    → Asks kept device device_sector bytes
    → device < kept.uber.reflow.to
asks_device kept device device_sector bytes widths asks =
    required_device kept.uber.reflow asks.cell.row_end asks.cell.sector device device_sector widths.0
    widths.1 asks.place

-- A data sector is no slot and in no index area.
pub data_is_no_slot : (device_sector : ℕ) → IsDataSector device_sector → device_sector < 32 → ⊥
data_is_no_slot device_sector (inl scratch) low = omega (arith, scratch, low)
data_is_no_slot device_sector (inr rows) low = omega (arith, rows, low)

pub data_is_no_page : (device_sector : ℕ) → IsDataSector device_sector → 64 ≤ device_sector
    → device_sector < 192
    → ⊥
data_is_no_page device_sector (inl scratch) low high = omega (arith, scratch, low, high)
data_is_no_page device_sector (inr rows) low high = omega (arith, rows, low, high)

-- where a page stands: in its area, of 64 sectors
pub page_place : (uber : Uber) (part : ℕ) → uber.area ≤ 1 → uber.count ≤ 512
    → part < page_sectors uber.count
    → (64 + 64 * uber.area ≤ area_sector uber.area + part)
    × (area_sector uber.area + part < 128 + 64 * uber.area)
    × (area_sector uber.area + part < 192)
page_place uber part area count low =
    (omega arith, omega (arith, low, count), omega (arith, low, count, area))

pub slot_low : (group : ℕ) → slot_of group < 32
slot_low group = omega arith
