-- A sync may commit the open group, and what that keeps.
use Rattle.std.proofs.Common.{◌≡◌, ◌≢◌, inl, ℕ, ◌+◌, ◌<◌, ◌≤◌, List, ◌∷◌, false, Some, refl, sym, ◌∙◌, ap, arith, []}
use Rattle.std.proofs.lemmas.List.Elements.{All-cons}
use Rattle.std.proofs.lemmas.List.Kept.{AllPairs-cons}
use Rattle.reflow_mark.specs.declared.reflow.Reflow.{Reflow}
use Rattle.reflow_mark.specs.Reflow.{sectors_of}
use Rattle.row_layout.proofs.Laws.{inside}
use Rattle.block_record.specs.declared.entry.IndexEntry.{IndexEntry}
use Rattle.block_record.specs.Page.{IsIndex}
use Rattle.uberblock_ring.specs.Devices.{has_device}
use Rattle.uberblock_ring.specs.Uberblock.{Uber}
use Rattle.core_state.specs.Map.{Map}
use Rattle.core_state.specs.Index.{IsIndexOf, layout_of}
use Rattle.core_state.specs.Whole.{Cell, Excepted, IsCellOf, KeepsBlock, RightAt}
use Rattle.core_state.specs.Keeps.{HasWidthIn, Kept, Setting, IsNextOf}
use Rattle.core_state.specs.Certain.{CellsOn, IsSound, IsSuccession}
use Rattle.mark_choice.specs.CommitChoice.{KeepsOrEnds}
use Rattle.core_copy.specs.Behind.{FollowsOn}
use Rattle.core_copy.proofs.Advance.{same_cells}
use Rattle.core_blocks.specs.Blocks.{AreInStep}
use Rattle.core_blocks.proofs.Listed.{among_listed, found_among, found_id}
use Rattle.core_commit.specs.Commits.{Begun, MayCommit}
use Rattle.core_state.specs.Committing.{point_of}
use Rattle.core_state.proofs.Keeping.{kept_listed}
use Rattle.core_state.proofs.Widths.{first_width, only_width, width_like}
use Rattle.core_open.specs.Pool.{IsPool, State, HasBank, IsTableOf, HoldsMap}
use Rattle.core_open.specs.HoldsGroup.{HoldsGroup}
use Rattle.core_open.specs.NextGroup.{uber_for}
use Rattle.core_open.proofs.Holding.{listed_in_pool}
use Rattle.core_commit.proofs.NewBirth.{HasRowsOf, rows_of}
use Rattle.core_open.proofs.NextGroup.{IsReady}

-- The table is the index of the map that it is the table of.
pub table_indexes : (entries : List IndexEntry) (map : Map) → IsIndex entries → IsTableOf entries map
    → IsIndexOf entries map
table_indexes entries map index table = record {
  listed = λ entry has. table.listed entry (among_listed entries entry index has);
  every = λ id content has. let found = table.every id content has in
      (found.0, found_among entries id found.0 found.1, found_id entries id found.0 found.1);
}

module _ (setting : Setting) (last : Kept) (map : Map) (before : State) (is : IsPool before.pool)
    (bank : HasBank before.pool.uber before.pool.out before.disk)
    {wrong : Excepted} (group : HoldsGroup setting last before) (holds : HoldsMap wrong map before) (chosen : Reflow)
    (follows : FollowsOn before.pool.uber.reflow before.pool.done chosen)
    (widths : KeepsOrEnds before.pool.uber.reflow chosen) (step : AreInStep before.pool.blocks)
    (is_ready : IsReady before.pool chosen) where
  abbrev uber : Uber
  uber = uber_for before.pool chosen

  abbrev entries : List IndexEntry
  entries = before.pool.blocks.table.entries

  abbrev next : Kept
  next = record { uber = uber; entries = entries; others = []; map = map; excepted = wrong }

  abbrev begun : List Kept → Begun
  begun earlier = record {
    setting = setting;
    earlier = earlier;
    first = last;
    later = [];
    joined = next ∷ [];
    kept = next;
    map = map;
  }

  -- What is chosen has the devices and the rows of the pool.
  same : HasRowsOf before.pool.uber.reflow chosen
  same = rows_of before.pool.uber.reflow chosen widths

  group_is : before.pool.uber.group ≡ last.uber.group
  group_is = ap (λ (u : Uber). u.group) group.alike

  area_is : before.pool.uber.area ≡ last.uber.area
  area_is = ap (λ (u : Uber). u.area) group.alike

  to_is : chosen.to ≡ last.uber.reflow.to
  to_is = same.to ∙ ap (λ (u : Uber). u.reflow.to) group.alike

  rows_is : chosen.rows ≡ last.uber.reflow.rows
  rows_is = same.rows ∙ ap (λ (u : Uber). u.reflow.rows) group.alike

  pool_is : before.pool.uber.pool ≡ setting.pool
  pool_is = ap (λ (u : Uber). u.pool) group.alike ∙ group.knows.sound.pool_is

  apart : last.uber.area ≢ uber.area
  apart equal = omega (arith, equal, area_is)

  table : IsIndexOf entries map
  table = table_indexes entries map is_ready.index holds.table

  last_width : HasWidthIn setting last
  last_width = first_width setting last [] group.knows.row.widths

  row : IsSuccession setting last (next ∷ [])
  row = record {
    few = group.knows.row.few;
    wide = group.knows.row.wide;
    ascending = AllPairs-cons (λ (one other : Kept). one.uber.group < other.uber.group) last (next ∷ [])
        (All-cons (λ (other : Kept). last.uber.group < other.uber.group) next [] (omega (arith, group_is))
        (λ k d within. absurd (omega (arith, within))))
        (λ i j d less within. absurd (omega (arith, less, within)));
    further = All-cons (IsNextOf last) next [] (inl (
      omega (arith, group_is),
      (λ equal. apart (sym equal)),
      record { up = omega (arith, to_is); down = omega (arith, to_is) },
    ))
        (λ k d within. absurd (omega (arith, within)));
    widths = All-cons (HasWidthIn setting) last (next ∷ []) last_width
        (only_width setting next (width_like setting last next (sym to_is) last_width));
    inside = group.knows.row.inside;
    device = group.knows.row.device;
    below = group.knows.row.below;
    works = group.knows.row.works;
  }

  sound : IsSound setting next
  sound = record {
    uber = uber;
    alike = refl;
    right = is_ready.right;
    pool_is = pool_is;
    room = (let room = group.knows.sound.room in omega (arith, room, rows_is));
    index = is_ready.index;
    counted = refl;
    digest = refl;
    none_else = refl;
    fitting = is_ready.fitting;
    indexes = table;
  }

  -- No block was born later than the group.
  old : (entry : IndexEntry) (content : List ℕ) → KeepsBlock entries [] map entry content
      → entry.birth ≤ before.pool.uber.group + 1
  old entry content keeps = is.born entry
      (among_listed entries entry is_ready.index (kept_listed next entry content refl keeps).0)

  -- A cell of the pool's births is one of its sectors, and is read wherever the pool asks for it.
  read_cell : (cell : Cell) → IsCellOf before.pool.uber.parity before.pool.uber.births entries [] map cell
      → (cell.sector < sectors_of before.pool.uber.reflow)
      × RightAt before.disk.reads before.pool.uber.reflow before.pool.done before.pool.out wrong cell
  read_cell cell of =
      let its = kept_listed next of.entry of.content refl of.keeps in
      let listed = among_listed entries of.entry is_ready.index its.0 in
      let pool = listed_in_pool before.pool of.entry is step listed in
      let below = inside (layout_of before.pool.uber.parity before.pool.uber.births of.entry) of.cell_is.row of.cell_is.column
      pool.within.is of.cell_is.there in
      let end = pool.end in
      let sector = of.cell_is.sector in
      (omega (arith, sector, below, end), (holds.right of.entry of.content listed its.1).each cell of.cell_is)

  cells : (device : ℕ) → device < chosen.to → has_device before.pool.out device ≡ false
      → CellsOn before.disk.reads next device
  cells device within used = record {
    at = λ device_sector bytes asks excepted.
        let read = read_cell asks.cell (same_cells before.pool.uber.parity before.pool.uber.reflow chosen before.pool.uber.births
        (before.pool.uber.group + 1) entries [] map asks.cell old asks.cell_is) in
        read.1.at device device_sector (follows.stop asks.cell.row_end asks.cell.sector device device_sector read.0 asks.place)
        used excepted
        ∙ ap (λ (b : List ℕ). Some b) asks.bytes_are;
  }

  -- The open group may be committed.
  pub may_commit : (earlier : List Kept) → MayCommit (begun earlier) uber entries (point_of before.pool.out before.disk)
  may_commit earlier = record {
    knows = group.knows;
    row = row;
    same = record { entries = refl; others = refl; map = λ id. refl; alike = refl; excepted = refl };
    sound = sound;
    front = last ∷ [];
    last = refl;
    parity_is = ap (λ (u : Uber). u.parity) group.alike;
    area = apart;
    near = inl (omega (arith, group_is));
    told = λ device device_sector within used low. group.tells device device_sector
        (bank.devices device (let to = same.to in omega (arith, within, to)) used)
        (let room = bank.room in let rows = same.rows in omega (arith, room, rows, low));
    cells = cells;
  }
