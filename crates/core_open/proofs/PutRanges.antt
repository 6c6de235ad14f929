-- The range that a put has taken.
use Rattle.std.proofs.Common.{◌≡◌, ⊎_elim, ℕ, ◌+◌, ◌<◌, ◌≤◌, List, ◌-◌, refl, sym, ◌∙◌, ap, subst, arith, []}
use Rattle.bank_trait.specs.Disk.{Disk}
use Rattle.bank_trait.specs.Regions.{Tells}
use Rattle.width_map.specs.Births.{width_of_birth}
use Rattle.width_map.specs.declared.birth.Birth.{Birth}
use Rattle.range_locks.specs.declared.hold.Hold.{Hold}
use Rattle.space_alloc.specs.Space.{IsFirstFit}
use Rattle.row_layout.specs.Layout.{Layout, allocated_of}
use Rattle.shadow_write.specs.Writes.{writes_of}
use Rattle.reflow_mark.specs.Reflow.{sectors_of}
use Rattle.block_record.specs.declared.entry.IndexEntry.{IndexEntry}
use Rattle.uberblock_ring.specs.Uberblock.{Uber}
use Rattle.core_state.specs.Index.{layout_of}
use Rattle.reconstruct.specs.Rows.{sectors_for}
use Rattle.core_blocks.specs.declared.range.PutRange.{PutRange}
use Rattle.core_blocks.specs.Blocks.{Blocks, range_of}
use Rattle.core_blocks.specs.Puts.{IsRangeFor, layout_at}
use Rattle.core_client.specs.Pool.{IsInPool}
use Rattle.core_client.specs.Writing.{TellsAt}
use Rattle.core_client.proofs.Cells.{places_inside, writes_required}
use Rattle.shadow_write.specs.Band.{IsFrontOf}
use Rattle.core_open.specs.Pool.{Pool, IsPool, HasBank}
use Rattle.core_open.proofs.Layouts.{layout_in_pool, total_few}

-- A bank that tells what it holds tells what stands where a block of the pool is written.
pub tells_at : (layout : Layout) (uber : Uber) (done out : ℕ) (disk : Disk) → IsInPool layout uber.reflow
    → IsFrontOf uber.reflow done → HasBank uber out disk → Tells disk → TellsAt (writes_of layout uber.reflow done) out disk
tells_at layout uber done out disk pool front bank tells write listed used =
    let of = writes_required layout uber.reflow done [] write listed in
    let inside = places_inside layout uber.reflow done [] of.cell write.device write.device_sector
    pool front.front of.is of.required in
    let room = bank.room in
    tells write.device write.device_sector (bank.devices write.device inside.device_in used)
    (⊎_elim (λ scratch. omega (arith, scratch.1, room)) (λ rows. omega (arith, rows.1, room)) inside.sector_in)

-- The entry of the range that a put has taken has the range's layout,
pub entry_layout : (parity : ℕ) (births : List Birth) (blocks : Blocks) (range : PutRange) (entry : IndexEntry) (len group : ℕ)
    → blocks.parity ≡ parity → blocks.births ≡ births → IsRangeFor blocks range.id len group range
    → entry.start ≡ range.layout.start → entry.len ≡ len → entry.birth ≡ range.birth
    → layout_of parity births entry ≡ range.layout
entry_layout parity births blocks range entry len group parity_is births_is is start len_is birth =
    same ∙ sym is.layout_is
  where
    same : layout_of parity births entry ≡ layout_at blocks.parity blocks.births range.layout.start len group
    same i = record {
      start = start i;
      sectors = sectors_for (len_is i);
      parity = sym parity_is i;
      width = width_of_birth (sym births_is i) ((birth ∙ is.birth_is) i);
    }

-- and so it is the range that its put ends with.
pub entry_range : (blocks : Blocks) (range : PutRange) (entry : IndexEntry) (len group : ℕ)
    → IsRangeFor blocks range.id len group range → entry.id ≡ range.id
    → entry.start ≡ range.layout.start → entry.len ≡ len → entry.birth ≡ range.birth
    → range_of blocks.parity blocks.births entry ≡ range
entry_range blocks range entry len group is id start len_is birth i = record {
  id = id i;
  birth = birth i;
  layout = entry_layout blocks.parity blocks.births blocks range entry len group refl refl is start len_is birth i;
}

-- The range of a put that begins lies in the pool.
pub range_in_pool : (pool : Pool) (blocks : Blocks) (range : PutRange) (id len group : ℕ) (holds : List Hold) → IsPool pool
    → blocks.parity ≡ pool.blocks.parity → blocks.births ≡ pool.blocks.births
    → IsRangeFor blocks id len group range → IsFirstFit pool.blocks.space holds (allocated_of range.layout) range.layout.start
    → 1 ≤ len → len ≤ 65536
    → IsInPool range.layout pool.uber.reflow
range_in_pool pool blocks range id len group holds is parity births of first some few =
    let layout = layout_at pool.uber.parity pool.uber.births range.layout.start len group in
    let same : range.layout ≡ layout = of.layout_is
    ∙ (λ i. layout_at ((parity ∙ is.parity) i) ((births ∙ is.births) i) range.layout.start len group) in
    let sectors : range.layout.sectors ≡ sectors_for len = ap (λ (l : Layout). l.sectors) of.layout_is in
    let total = total_few range.layout in
    let filled : 0 < allocated_of range.layout = omega (arith, total, sectors, some) in
    let last = (first.free (range.layout.start + (allocated_of range.layout - 1))
    (omega arith, omega (arith, filled))).below in
    let end : range.layout.start + allocated_of range.layout ≤ sectors_of pool.uber.reflow =
    omega (arith, last, filled, is.capacity) in
    subst (λ (l : Layout). IsInPool l pool.uber.reflow) (sym same)
    (layout_in_pool pool.uber range.layout.start len group is.right some few
    (subst (λ (l : Layout). range.layout.start + allocated_of l ≤ sectors_of pool.uber.reflow) same end))
