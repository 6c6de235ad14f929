-- What becomes of the map that a pool holds.
use Rattle.std.proofs.Common.{◌≡◌, ◌≢◌, ⊎_elim, ℕ, ◌≤◌, List, false, Option, Some, None, sym, ◌∙◌, ap, subst, arith}
use Rattle.std.proofs.Common.{true, refl}
use Rattle.std.proofs.lemmas.Bool.{cases_eq, false≢true}
use Rattle.std.proofs.lemmas.Bool.Decides.{nat_tests}
use Rattle.std.specs.Prelude.{is_some, nat_eq}
use Rattle.std.specs.Set.{is_member}
use Rattle.bank_trait.specs.Disk.{Disk, Known}
use Rattle.bank_trait.specs.Regions.{TouchesOnly}
use Rattle.width_map.specs.declared.birth.Birth.{Birth}
use Rattle.reflow_mark.specs.declared.reflow.Reflow.{Reflow}
use Rattle.reflow_mark.specs.Reflow.{sectors_of}
use Rattle.row_layout.specs.Layout.{Layout, sector_of, end_of}
use Rattle.shadow_write.specs.Required.{IsRequiredPlace}
use Rattle.shadow_write.specs.Writes.{writes_of}
use Rattle.shadow_write.proofs.Whole.{are_required}
use Rattle.block_record.specs.declared.entry.IndexEntry.{IndexEntry}
use Rattle.block_table.specs.Table.{ChangesOnly, entry_of, ids_of}
use Rattle.block_table.proofs.Counts.{held_is}
use Rattle.reconstruct.specs.Lost.{AreBytes}
use Rattle.uberblock_ring.specs.Devices.{has_device, IsWithin}
use Rattle.uberblock_ring.specs.Uberblock.{Uber}
use Rattle.core_state.specs.Map.{Map, with_block}
use Rattle.core_state.specs.Index.{layout_of, block_end, IsEntryOf}
use Rattle.core_state.specs.Whole.{Cell, Excepted, IsCell}
use Rattle.core_blocks.specs.Blocks.{AreInStep, IsListed, run_of, layout_run}
use Rattle.core_blocks.specs.Runs.{AreClear}
use Rattle.core_blocks.proofs.Listed.{put_cases, left_cases, found_id, found_listed}
use Rattle.core_client.specs.Pool.{IsInPool, IsRightBlock}
use Rattle.core_client.specs.Writing.{IsPlaceOf}
use Rattle.core_state.proofs.Outs.{was_used}
use Rattle.core_open.specs.Pool.{Pool, IsPool, State, ReadsAs, HoldsMap, IsTableOf}
use Rattle.core_open.proofs.Layouts.{entry_in_pool, blocks_apart}

-- A block that stands in the table lies in the pool.
pub listed_in_pool : (pool : Pool) (entry : IndexEntry) → IsPool pool → AreInStep pool.blocks
    → IsListed pool.blocks.table.entries entry
    → IsInPool (layout_of pool.uber.parity pool.uber.births entry) pool.uber.reflow
listed_in_pool pool entry is step listed =
    let stands = step.each entry listed in
    let inside = step.spread.inside (run_of pool.blocks.parity pool.blocks.births entry) stands.taken in
    entry_in_pool pool.uber entry is.right stands.right
    (subst (λ (p : ℕ). block_end p pool.uber.births entry ≤ sectors_of pool.uber.reflow) is.parity
    (subst (λ (b : List Birth). block_end pool.blocks.parity b entry ≤ sectors_of pool.uber.reflow) is.births
    (subst (λ (n : ℕ). block_end pool.blocks.parity pool.blocks.births entry ≤ n) is.capacity inside.below)))

-- A block stays right where on devices still in use each of its places reads what it read.
pub block_stays : (layout : Layout) (content : List ℕ) (reflow : Reflow) (done : ℕ) (known now : Known)
    (out still : ℕ) (wrong : Excepted)
    → IsWithin out still
    → ((cell : Cell) (device device_sector : ℕ) → IsCell layout content cell
    → IsRequiredPlace reflow done cell.row_end cell.sector device device_sector
    → has_device still device ≡ false → known device device_sector ≡ Some cell.bytes
    → now device device_sector ≡ Some cell.bytes)
    → IsRightBlock layout content reflow done known out wrong
    → IsRightBlock layout content reflow done now still wrong
block_stays layout content reflow done known now out still wrong within same right = record {
  each = λ cell is. record {
    at = λ device device_sector place used excepted. same cell device device_sector is place used
        ((right.each cell is).at device device_sector place (was_used out still device within used) excepted);
  };
}

-- The map with one block put, or taken away, at this id and at another.
with_here : (map : Map) (id : ℕ) (value : Option (List ℕ)) → with_block map (Some id) value id ≡ value
with_here map id value = grind (arith, nat_tests)

with_other : (map : Map) (id other : ℕ) (value : Option (List ℕ)) → other ≢ id → with_block map (Some id) value other ≡ map other
with_other map id other value apart = grind (arith, nat_tests, apart)

-- Writing a block of this layout, which has no sector in common with others.
module _ (before after : State) (is : IsPool before.pool) (step : AreInStep before.pool.blocks) (layout : Layout)
    (uber : after.pool.uber ≡ before.pool.uber) (front : after.pool.done ≡ before.pool.done) (within : IsWithin before.pool.out after.pool.out)
    (pool : IsInPool layout before.pool.uber.reflow)
    (clear : (other : IndexEntry) → IsListed before.pool.blocks.table.entries other
    → AreClear (layout_run layout) (layout_run (layout_of before.pool.uber.parity before.pool.uber.births other)))
    (touched : TouchesOnly (IsPlaceOf (writes_of layout before.pool.uber.reflow before.pool.done) before.pool.out) before.disk after.disk) where
  abbrev reflow : Reflow
  reflow = before.pool.uber.reflow

  abbrev done : ℕ
  done = before.pool.done

  abbrev other_layout : IndexEntry → Layout
  other_layout other = layout_of before.pool.uber.parity before.pool.uber.births other

  -- Nothing is written to a place of another block.
  away : (other : IndexEntry) → IsListed before.pool.blocks.table.entries other → (cell : Cell) (device device_sector : ℕ)
      (given : List ℕ) → IsCell (other_layout other) given cell
      → IsRequiredPlace reflow done cell.row_end cell.sector device device_sector
      → IsPlaceOf (writes_of layout reflow done) before.pool.out device device_sector
      → ⊥
  away other listed cell device device_sector given cell_is place (write, has, used, device_is, sector_is) =
      let required = (are_required layout reflow done).only write has in
      blocks_apart reflow done done layout (other_layout other) write.row write.column cell_is.row cell_is.column device device_sector
      pool (listed_in_pool before.pool other is step listed) is.front is.front (clear other listed) required.0 cell_is.there
      (subst (λ (d : ℕ). IsRequiredPlace reflow done (end_of layout write.row) (sector_of layout write.row write.column) d device_sector) (sym device_is)
      (subst (λ (x : ℕ). IsRequiredPlace reflow done (end_of layout write.row) (sector_of layout write.row write.column) write.device x) (sym sector_is) required.1))
      (subst (λ (e : ℕ). IsRequiredPlace reflow done e (sector_of (other_layout other) cell_is.row cell_is.column) device device_sector) cell_is.row_end
      (subst (λ (x : ℕ). IsRequiredPlace reflow done cell.row_end x device device_sector) cell_is.sector place))

  -- So another block is read as it was.
  others_read : (wrong : Excepted) (other : IndexEntry) (given : List ℕ)
      → IsListed before.pool.blocks.table.entries other
      → ReadsAs before.pool.uber done other given before.disk.reads before.pool.out wrong
      → ReadsAs after.pool.uber after.pool.done other given after.disk.reads after.pool.out wrong
  others_read wrong other given listed read =
      subst (λ (f : Uber × ℕ). ReadsAs f.0 f.1 other given after.disk.reads after.pool.out wrong)
      (λ i. (sym uber i, sym front i))
      (block_stays (other_layout other) given reflow done
      before.disk.reads after.disk.reads before.pool.out after.pool.out wrong within
      (λ cell device device_sector cell_is place used was. touched.reads device device_sector
      (λ written. away other listed cell device device_sector given cell_is place written) ∙ was)
      read)

  -- One that is holds its block too.
  pub put_holds : {wrong : Excepted} (map : Map) (entry : IndexEntry) (content : List ℕ)
      → ChangesOnly before.pool.blocks.table.entries after.pool.blocks.table.entries entry.id (Some entry)
      → IsEntryOf entry content → AreBytes content
      → ReadsAs before.pool.uber done entry content after.disk.reads after.pool.out wrong
      → HoldsMap wrong map before
      → HoldsMap wrong (with_block map (Some entry.id) (Some content)) after
  put_holds {wrong} map entry content change entry_is bytes right holds = record {
    table = record {
      listed = λ other listed. ⊎_elim
          (λ same. (
            content,
            ap (λ (e : IndexEntry). with_block map (Some entry.id) (Some content) e.id) same ∙ with_here map entry.id (Some content),
            subst (λ (e : IndexEntry). IsEntryOf e content) (sym same) entry_is,
          ))
          (λ old. let was = holds.table.listed other old.0 in
          (was.0, with_other map entry.id other.id (Some content) old.1 ∙ was.1, was.2))
          (put_cases before.pool.blocks.table.entries after.pool.blocks.table.entries entry other change listed);
      every = λ id given has. ⊎_elim
          (λ same. (entry, ap (λ (n : ℕ). entry_of after.pool.blocks.table.entries n) same ∙ change.there))
          (λ apart. let was = holds.table.every id given (sym (with_other map entry.id id (Some content) apart) ∙ has) in
          (was.0, change.others id apart ∙ was.1))
          (cases_eq id entry.id);
    };
    bytes = λ id given has. ⊎_elim
        (λ same. subst AreBytes (given_is (sym (ap (λ (n : ℕ). with_block map (Some entry.id) (Some content) n) same ∙ with_here map entry.id (Some content)) ∙ has)) bytes)
        (λ apart. holds.bytes id given (sym (with_other map entry.id id (Some content) apart) ∙ has))
        (cases_eq id entry.id);
    right = λ other given listed has. ⊎_elim
        (λ same. subst (λ (f : Uber × ℕ). ReadsAs f.0 f.1 other given after.disk.reads after.pool.out wrong)
        (λ i. (sym uber i, sym front i))
        (subst (λ (e : IndexEntry). ReadsAs before.pool.uber done e given after.disk.reads after.pool.out wrong) (sym same)
        (subst (λ (b : List ℕ). ReadsAs before.pool.uber done entry b after.disk.reads after.pool.out wrong)
        (given_is (sym (ap (λ (e : IndexEntry). with_block map (Some entry.id) (Some content) e.id) same
        ∙ with_here map entry.id (Some content)) ∙ has)) right)))
        (λ old. others_read wrong other given old.0
        (holds.right other given old.0 (sym (with_other map entry.id other.id (Some content) old.1) ∙ has)))
        (put_cases before.pool.blocks.table.entries after.pool.blocks.table.entries entry other change listed);
  }
    where
      given_is : {one other : List ℕ} → Some one ≡ Some other → one ≡ other
      given_is same = cc

-- A free leaves the other blocks.
pub free_holds : {wrong : Excepted} (map : Map) (before after : State) (id : ℕ) → after.pool.uber ≡ before.pool.uber
    → after.pool.done ≡ before.pool.done → after.pool.out ≡ before.pool.out → after.disk ≡ before.disk
    → ChangesOnly before.pool.blocks.table.entries after.pool.blocks.table.entries id None
    → HoldsMap wrong map before
    → HoldsMap wrong (with_block map (Some id) None) after
free_holds {wrong} map before after id uber front out disk change holds = record {
  table = record {
    listed = λ other listed. let old = left other listed in
        let was = holds.table.listed other old.0 in
        (was.0, with_other map id other.id None old.1 ∙ was.1, was.2);
    every = λ other given has. let apart = kept other given has in
        let was = holds.table.every other given (sym (with_other map id other None apart) ∙ has) in
        (was.0, change.others other apart ∙ was.1);
  };
  bytes = λ other given has. holds.bytes other given (sym (with_other map id other None (kept other given has)) ∙ has);
  right = λ other given listed has. let old = left other listed in
      subst (λ (f : Uber × ℕ). ReadsAs f.0 f.1 other given after.disk.reads after.pool.out wrong)
      (λ i. (sym uber i, sym front i))
      (subst (λ (d : Disk). ReadsAs before.pool.uber before.pool.done other given d.reads after.pool.out wrong) (sym disk)
      (subst (λ (n : ℕ). ReadsAs before.pool.uber before.pool.done other given before.disk.reads n wrong) (sym out)
      (holds.right other given old.0 (sym (with_other map id other.id None old.1) ∙ has))));
}
  where
    left : (other : IndexEntry) → IsListed after.pool.blocks.table.entries other
        → IsListed before.pool.blocks.table.entries other × (other.id ≢ id)
    left other listed = left_cases before.pool.blocks.table.entries after.pool.blocks.table.entries id other change listed

    none_some : {given : List ℕ} → ◌≡◌ {A = Option (List ℕ)} None (Some given) → ⊥
    none_some same = cc

    kept : (other : ℕ) (given : List ℕ) → with_block map (Some id) None other ≡ Some given → other ≢ id
    kept other given has same = none_some (sym (ap (λ (n : ℕ). with_block map (Some id) None n) same ∙ with_here map id None) ∙ has)

-- Each id of an entry is in the map.
pub entry_held : (entries : List IndexEntry) (map : Map) → IsTableOf entries map
    → (id : ℕ) → is_member nat_eq (ids_of entries) id ≡ true → map id ≢ None
entry_held entries map is id member = by (entry_of entries id) refl (held_is entries id ∙ member)
  where
    by : (found : Option IndexEntry) → entry_of entries id ≡ found → is_some found ≡ true → map id ≢ None
    by None at some = absurd (false≢true some)
    by (Some entry) at some = λ none.
        let content = is.listed entry (found_listed entries id entry at) in
        apart (sym (ap map (found_id entries id entry at) ∙ none) ∙ content.1)
      where
        apart : {bytes : List ℕ} → ◌≡◌ {A = Option (List ℕ)} None (Some bytes) → ⊥
        apart same = cc
