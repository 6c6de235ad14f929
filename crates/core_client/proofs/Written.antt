-- Writes of a block that go to one place.
use Rattle.std.proofs.Common.{◌≡◌, ℕ, ◌<◌, List, length, subst}
use Rattle.std.specs.Prelude.{Contains, slice_index_or}
use Rattle.reflow_mark.specs.declared.reflow.Reflow.{Reflow}
use Rattle.row_layout.specs.Layout.{Layout, sector_of, end_of}
use Rattle.shadow_write.specs.declared.write.Write.{Write}
use Rattle.shadow_write.specs.Required.{IsRequiredPlace}
use Rattle.reconstruct.specs.Rows.{Rows}
use Rattle.core_client.specs.Writing.{bytes_of, IsPlanOf}
use Rattle.core_client.proofs.Places.{one_column}

-- the write stands at this place of the list
abbrev pub IsNumber : List Write → ℕ → Write → Type 0
IsNumber writes number write = (number < length writes) × (slice_index_or writes number write ≡ write)

-- Writes of the list that go to one place take the same bytes there.
pub record AgreeByPlace (rows : Rows) (writes : List Write) : Type 0 where
  pub same : (one other : Write) → Contains writes one → Contains writes other → other.device ≡ one.device
      → other.device_sector ≡ one.device_sector → bytes_of rows one ≡ bytes_of rows other

-- Writes of a block that go to one place are of one column.
pub plan_agrees : (layout : Layout) (reflow : Reflow) (done : ℕ) (bytes : List ℕ) (rows : Rows) (writes : List Write)
    → IsPlanOf layout reflow done bytes rows writes → AgreeByPlace rows writes
plan_agrees layout reflow done bytes rows writes plan = record {
  same = λ one other listed also device device_sector.
      let at = plan.required.only one listed in
      let at_other = plan.required.only other also in
      let required : IsRequiredPlace reflow done (end_of layout other.row) (sector_of layout other.row other.column) one.device one.device_sector =
      subst (λ (d : ℕ). IsRequiredPlace reflow done (end_of layout other.row) (sector_of layout other.row other.column) d one.device_sector) device
      (subst (λ (x : ℕ). IsRequiredPlace reflow done (end_of layout other.row) (sector_of layout other.row other.column) other.device x) device_sector at_other.1) in
      let same = one_column layout reflow done one.row one.column other.row other.column one.device one.device_sector plan.pool plan.front
      at.0 at_other.0 at.1 required in
      let row : one.row ≡ other.row = same.0 in
      let column : one.column ≡ other.column = same.1 in
      cc;
}
