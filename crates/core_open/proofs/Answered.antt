-- What an open pool keeps when its next group is answered.
use Rattle.std.proofs.Common.{◌≡◌, ⊎_elim, ℕ, ◌+◌, ◌*◌, ◌<◌, ◌≤◌, ◌==◌, if◌then◌else◌, Bool, true, false, List, Some}
use Rattle.std.proofs.Common.{refl, sym, ◌∙◌, ap, subst, arith}
use Rattle.std.specs.Prelude.{Contains}
use Rattle.std.proofs.Math.Nat.{mul-le-mul_left}
use Rattle.std.proofs.lemmas.Bool.{eqb-true, eq-eqb, false≢true}
use Rattle.bank_trait.specs.Disk.{Disk, Known}
use Rattle.width_map.specs.declared.birth.Birth.{Birth}
use Rattle.width_map.specs.Births.{births_after, width_of_birth}
use Rattle.width_map.proofs.Growing.{older_keep}
use Rattle.reflow_mark.specs.declared.reflow.Reflow.{Reflow}
use Rattle.reflow_mark.specs.Reflow.{Expands, at_rest, sectors_of}
use Rattle.row_layout.specs.Layout.{Layout}
use Rattle.row_layout.proofs.Laws.{inside}
use Rattle.space_alloc.specs.Space.{Run, after_group}
use Rattle.block_record.specs.declared.entry.IndexEntry.{IndexEntry}
use Rattle.block_table.specs.Table.{Table}
use Rattle.reconstruct.specs.Rows.{sectors_for}
use Rattle.uberblock_ring.specs.Devices.{IsWithin}
use Rattle.uberblock_ring.specs.Uberblock.{Uber}
use Rattle.shadow_write.specs.Band.{IsWidening}
use Rattle.mark_choice.specs.CommitChoice.{IsWiderByOne, births_of_commit, KeepsOrEnds}
use Rattle.core_copy.specs.Behind.{FollowsOn, front_behind}
use Rattle.core_state.specs.Map.{Map}
use Rattle.core_state.specs.Index.{layout_of}
use Rattle.core_state.specs.Whole.{Cell, Excepted, IsCell}
use Rattle.core_blocks.specs.declared.range.PutRange.{PutRange}
use Rattle.core_blocks.specs.Blocks.{AreInStep, AreUnderWay, Blocks, IsListed, layout_run}
use Rattle.core_blocks.specs.Growing.{MayGrow, grown_by}
use Rattle.core_blocks.specs.Kept.{NoneFree, SparesAll}
use Rattle.core_blocks.specs.Puts.{IsRangeFor, layout_at}
use Rattle.core_blocks.specs.Runs.{AreClear}
use Rattle.core_blocks.proofs.Growing.{grown_keeps, grown_step, grown_under}
use Rattle.core_blocks.proofs.Keeping.{in_use_after, kept_where}
use Rattle.core_blocks.proofs.Steps.{answered_step as freed_step}
use Rattle.core_blocks.proofs.UnderWay.{answered_under as freed_under}
use Rattle.core_client.specs.Pool.{IsInPool, IsRightBlock}
use Rattle.core_open.specs.Pool.{HoldsMap, IsPool, IsTableOf, Pool, ReadsAs, state_of}
use Rattle.core_open.specs.Answered.{IsNextGroup, answered_by, blocks_behind}
use Rattle.core_open.proofs.Growing.{may_grow}
use Rattle.core_open.proofs.Holding.{listed_in_pool}

-- Blocks once a group is answered, where the width is the same or an expansion has ended.
module _ (blocks : Blocks) (group capacity : ℕ) where
  abbrev at_width : Bool → Blocks
  at_width same = if same then blocks else grown_by blocks group capacity

  abbrev freed_at : Bool → Blocks
  freed_at same = record (at_width same) { space = after_group (at_width same).space group }

  -- The table and the parity are those before.
  table_at : (same : Bool) → (freed_at same).table ≡ blocks.table
  table_at true = refl
  table_at false = refl

  parity_at : (same : Bool) → (freed_at same).parity ≡ blocks.parity
  parity_at true = refl
  parity_at false = refl

  -- An expansion that has ended adds a width,
  births_at : (same : Bool) → (freed_at same).births ≡ (if same then blocks.births else births_after blocks.births group)
  births_at true = refl
  births_at false = refl

  -- and sectors.
  capacity_at : (same : Bool) → (same ≡ true → blocks.space.capacity ≡ capacity) → (freed_at same).space.capacity ≡ capacity
  capacity_at true is = is refl
  capacity_at false is = refl

  -- What was born up to the group after this one has its width,
  width_at : (same : Bool) (birth : ℕ) → birth ≤ group + 1
      → width_of_birth (freed_at same).births birth ≡ width_of_birth blocks.births birth
  width_at true birth old = refl
  width_at false birth old = older_keep blocks.births group birth (omega (arith, old))

  -- and so its layout.
  layout_at_width : (same : Bool) (start len birth : ℕ) → birth ≤ group + 1
      → layout_at (freed_at same).parity (freed_at same).births start len birth
      ≡ layout_at blocks.parity blocks.births start len birth
  layout_at_width true start len birth old = refl
  layout_at_width false start len birth old = ap (λ (width : ℕ). record {
    start = start;
    sectors = sectors_for len;
    parity = blocks.parity;
    width = width;
  }) (older_keep blocks.births group birth (omega (arith, old)))

  -- Table and space stay in step,
  step_at : (same : Bool) → (same ≡ false → MayGrow blocks group capacity) → AreInStep blocks → AreInStep (freed_at same)
  step_at true may step = freed_step blocks.parity blocks.births blocks.table blocks.space group step
  step_at false may step =
      let grown = grown_by blocks group capacity in
      freed_step grown.parity grown.births grown.table grown.space group
      (let grow = may refl in
      grown_step blocks group capacity grow.born grow.wide grow.narrow grow.larger grow.small step)

  -- and the same puts are under way.
  under_at : (same : Bool) (ranges : List PutRange)
      → ((entry : IndexEntry) → IsListed blocks.table.entries entry → entry.birth < group + 2)
      → AreUnderWay blocks ranges → AreUnderWay (freed_at same) ranges
  under_at true ranges born under = freed_under blocks.parity blocks.births blocks.table blocks.space group ranges under
  under_at false ranges born under =
      let grown = grown_by blocks group capacity in
      freed_under grown.parity grown.births grown.table grown.space group ranges
      (grown_under blocks group capacity born ranges under)

  -- No sector that is in use past the group gets free,
  freed_keeps : (all : Blocks) (past : ℕ) (kept : List IndexEntry) → group ≤ past → NoneFree all past kept
      → NoneFree (record all { space = after_group all.space group }) past kept
  freed_keeps all past kept answered none = kept_where all (record all { space = after_group all.space group }) past kept
      refl refl (λ entry sector listed inside used. in_use_after all.space group past sector answered used) none

  -- so what is kept past it stays in use.
  kept_at : (same : Bool) (past : ℕ) (kept : List IndexEntry) → group ≤ past
      → ((entry : IndexEntry) → Contains kept entry → entry.birth ≤ group + 1)
      → NoneFree blocks past kept → NoneFree (freed_at same) past kept
  kept_at true past kept answered old none = freed_keeps blocks past kept answered none
  kept_at false past kept answered old none = freed_keeps (grown_by blocks group capacity) past kept answered
      (grown_keeps blocks group capacity past kept (λ entry listed. let born = old entry listed in omega (arith, born)) none)

module _ (pool : Pool) (uber : Uber) (is : IsPool (record pool { uber = record pool.uber { group = uber.group } }))
    (step : AreInStep pool.blocks) (next : IsNextGroup pool uber)
    (follows : FollowsOn pool.uber.reflow pool.done uber.reflow) where
  abbrev before : Reflow
  before = pool.uber.reflow

  -- whether the width is the same
  abbrev same_width : Bool
  same_width = uber.reflow.from == pool.uber.reflow.from

  -- The pool gets no narrower, loses no device, and has as many rows as before.
  shape : (before.from ≤ uber.reflow.from) × (before.to ≤ uber.reflow.to) × (uber.reflow.rows ≡ before.rows)
  shape = ⊎_elim (λ (same : KeepsOrEnds before uber.reflow). ⊎_elim
      (λ keeps. (omega (arith, keeps.0), omega (arith, keeps.1), keeps.2))
      (λ ends.
      let from : uber.reflow.from ≡ before.to = ap (λ (r : Reflow). r.from) ends.1 in
      let to : uber.reflow.to ≡ before.to = ap (λ (r : Reflow). r.to) ends.1 in
      (omega (arith, from, ends.0), omega (arith, to), ap (λ (r : Reflow). r.rows) ends.1))
      same)
      (λ (joins : IsWiderByOne before uber.reflow).
      let is = joins.wider_is in
      let from : uber.reflow.from ≡ before.from = ap (λ (r : Reflow). r.from) is in
      let to : uber.reflow.to ≡ before.to + 1 = ap (λ (r : Reflow). r.to) is in
      (omega (arith, from), omega (arith, to), ap (λ (r : Reflow). r.rows) is))
      follows.widths

  -- So it gets no smaller,
  sectors_grow : sectors_of before ≤ sectors_of uber.reflow
  sectors_grow =
      let more : before.rows * before.from ≤ before.rows * uber.reflow.from = mul-le-mul_left before.rows shape.0 in
      let rows : uber.reflow.rows * uber.reflow.from ≡ before.rows * uber.reflow.from =
      ap (λ (n : ℕ). n * uber.reflow.from) shape.2 in
      omega (arith, more, rows)

  -- and with the same width it has the same sectors.
  sectors_same : same_width ≡ true → sectors_of before ≡ sectors_of uber.reflow
  sectors_same same =
      let from : before.from ≡ uber.reflow.from = sym (eqb-true uber.reflow.from before.from same) in
      ap (λ (n : ℕ). n * before.from) (sym shape.2) ∙ ap (λ (n : ℕ). uber.reflow.rows * n) from

  -- Where the width is another, an expansion has ended.
  has_ended : (uber.reflow.from ≡ before.from → ⊥) → Expands before × (uber.reflow ≡ at_rest before.to before.rows)
  has_ended wider = ⊎_elim
      (λ (same : KeepsOrEnds before uber.reflow). ⊎_elim (λ keeps. absurd (wider keeps.0)) (λ ends. ends) same)
      (λ (joins : IsWiderByOne before uber.reflow). absurd (wider (ap (λ (r : Reflow). r.from) joins.wider_is)))
      follows.widths

  -- No block is born later than in the group after this one.
  born_before : (entry : IndexEntry) → IsListed pool.blocks.table.entries entry → entry.birth < uber.group + 2
  born_before entry listed = let born = is.born entry listed in omega (arith, born)

  -- One that runs is a widening.
  widens : Expands before → IsWidening before
  widens expands = record {
    expands = expands;
    some = (let widths = is.right.widths.0 in omega (arith, widths));
    narrow = (let devices = is.right.widths.1 in omega (arith, expands, devices));
    mark = ⊎_elim (λ rests. absurd (omega (arith, expands, rests.0))) (λ goes. goes.1) is.right.reflow;
  }

  -- Where it has ended, the blocks may grow now.
  pub may_grow_now : (uber.reflow.from ≡ pool.uber.reflow.from → ⊥) → MayGrow pool.blocks uber.group (sectors_of uber.reflow)
  may_grow_now wider =
      let ends = has_ended wider in
      let grow = may_grow (record pool { uber = record pool.uber { group = uber.group } }) is (widens ends.0) in
      subst (λ (sectors : ℕ). MayGrow pool.blocks uber.group sectors) (sym (ap sectors_of ends.1)) (record {
        room = grow.room;
        wide = grow.wide;
        narrow = grow.narrow;
        larger = grow.larger;
        small = grow.small;
        born = born_before;
      })

  -- ---- the blocks

  -- Blocks born up to the group after this one keep their parity and width.
  pub answered_sizes : (birth : ℕ) → birth ≤ uber.group + 1
      → ((blocks_behind pool uber).parity ≡ pool.blocks.parity)
      × (width_of_birth (blocks_behind pool uber).births birth ≡ width_of_birth pool.blocks.births birth)
  answered_sizes birth old = (
    parity_at pool.blocks uber.group (sectors_of uber.reflow) same_width,
    width_at pool.blocks uber.group (sectors_of uber.reflow) same_width birth old,
  )

  -- Table and space are in step behind the answer,
  pub answered_step : AreInStep (blocks_behind pool uber)
  answered_step = step_at pool.blocks uber.group (sectors_of uber.reflow) same_width
      (λ test. may_grow_now (λ same. false≢true (sym test ∙ eq-eqb uber.reflow.from before.from same))) step

  -- the same puts are under way,
  pub answered_under : (ranges : List PutRange) → AreUnderWay pool.blocks ranges → AreUnderWay (blocks_behind pool uber) ranges
  answered_under ranges under = under_at pool.blocks uber.group (sectors_of uber.reflow) same_width ranges born_before under

  -- what is kept past the group is in use,
  pub answered_kept : (past : ℕ) (kept : List IndexEntry) → uber.group ≤ past
      → ((entry : IndexEntry) → Contains kept entry → entry.birth ≤ uber.group + 1)
      → NoneFree pool.blocks past kept → NoneFree (blocks_behind pool uber) past kept
  answered_kept past kept answered old none =
      kept_at pool.blocks uber.group (sectors_of uber.reflow) same_width past kept answered old none

  -- a run that spares blocks spares them still,
  pub answered_spares : (kept : List IndexEntry) (run : Run)
      → ((entry : IndexEntry) → Contains kept entry → entry.birth ≤ uber.group + 1)
      → SparesAll pool.blocks.parity pool.blocks.births kept run
      → SparesAll (blocks_behind pool uber).parity (blocks_behind pool uber).births kept run
  answered_spares kept run old spares entry listed = subst (λ (layout : Layout). AreClear run (layout_run layout))
      (sym (layout_at_width pool.blocks uber.group (sectors_of uber.reflow) same_width entry.start entry.len entry.birth (old entry listed)))
      (spares entry listed)

  -- and the range of a put is that of the put.
  pub answered_range : (id len birth : ℕ) (range : PutRange) → birth ≤ uber.group + 1
      → IsRangeFor pool.blocks id len birth range → IsRangeFor (blocks_behind pool uber) id len birth range
  answered_range id len birth range old its = record {
    id_is = its.id_is;
    birth_is = its.birth_is;
    layout_is = its.layout_is ∙ sym (layout_at_width pool.blocks uber.group (sectors_of uber.reflow) same_width range.layout.start len birth old);
  }

  -- ---- the uberblock

  -- The group's births give the same width to blocks born up to the group after it,
  pub answered_width : (birth : ℕ) → birth ≤ uber.group + 1
      → width_of_birth uber.births birth ≡ width_of_birth pool.uber.births birth
  answered_width birth old = ap (λ (births : List Birth). width_of_birth births birth) next.births ∙ by same_width
    where
      by : (same : Bool) → width_of_birth (if same then pool.uber.births else births_after pool.uber.births uber.group) birth
          ≡ width_of_birth pool.uber.births birth
      by true = refl
      by false = older_keep pool.uber.births uber.group birth (omega (arith, old))

  -- and so they have the same layout.
  pub answered_layout : (entry : IndexEntry) → entry.birth ≤ uber.group + 1
      → layout_of uber.parity uber.births entry ≡ layout_of pool.uber.parity pool.uber.births entry
  answered_layout entry old = ap (λ (parity : ℕ). layout_of parity uber.births entry) next.parity
      ∙ ap (λ (width : ℕ). record {
        start = entry.start;
        sectors = sectors_for entry.len;
        parity = pool.uber.parity;
        width = width;
      }) (answered_width entry.birth old)

  -- ---- the pool

  -- The table is the same list,
  table_same : (blocks_behind pool uber).table ≡ pool.blocks.table
  table_same = table_at pool.blocks uber.group (sectors_of uber.reflow) same_width

  -- so what it lists behind the answer it listed before.
  listed_before : (entry : IndexEntry) → IsListed (blocks_behind pool uber).table.entries entry
      → IsListed pool.blocks.table.entries entry
  listed_before entry listed = subst (λ (table : Table). IsListed table.entries entry) table_same listed

  -- Blocks and uberblock have the same births.
  births_same : (blocks_behind pool uber).births ≡ uber.births
  births_same = births_at pool.blocks uber.group (sectors_of uber.reflow) same_width
      ∙ ap (λ (births : List Birth). births_of_commit before uber.reflow births uber.group) is.births ∙ sym next.births

  -- Uberblock, blocks and front belong together.
  pub answered_pool : IsWithin uber.out pool.out → IsPool (answered_by uber pool)
  answered_pool within = record {
    right = next.right;
    parity = parity_at pool.blocks uber.group (sectors_of uber.reflow) same_width ∙ is.parity ∙ sym next.parity;
    births = births_same;
    capacity = capacity_at pool.blocks uber.group (sectors_of uber.reflow) same_width (λ same. is.capacity ∙ sectors_same same);
    born = λ entry listed. is.born entry (listed_before entry listed);
    front = follows.front;
    lists = within;
  }

  -- A block that lies in the pool lies in it behind the answer,
  pub answered_in_pool : (layout : Layout) → IsInPool layout pool.uber.reflow → IsInPool layout uber.reflow
  answered_in_pool layout there = record {
    within = there.within;
    right = follows.right;
    width = (let width = there.width in let wider = shape.0 in omega (arith, width, wider));
    few = next.right.widths.1;
    rows = subst (λ (rows : ℕ). rows ≤ 65536) (sym shape.2) there.rows;
    end = (let end = there.end in omega (arith, end, sectors_grow));
  }

  -- and is right there.
  pub answered_block : (layout : Layout) (content : List ℕ) (known : Known) (out : ℕ) (wrong : Excepted)
      → IsInPool layout pool.uber.reflow → IsRightBlock layout content pool.uber.reflow pool.done known out wrong
      → IsRightBlock layout content uber.reflow (front_behind pool.uber.reflow pool.done uber.reflow) known out wrong
  answered_block layout content known out wrong there right = record {
    each = λ cell its. record {
      at = λ device device_sector place used excepted. (right.each cell its).at device device_sector
          (follows.behind cell.row_end cell.sector device device_sector (below cell its) place) used excepted;
    };
  }
    where
      below : (cell : Cell) → IsCell layout content cell → cell.sector < sectors_of before
      below cell its =
          let sector = its.sector in let end = there.end in
          let low = inside layout its.row its.column there.within.is its.there in
          omega (arith, sector, end, low)

  -- The map that the pool holds it holds behind the answer.
  pub answered_map : {wrong : Excepted} (map : Map) (disk : Disk) → HoldsMap wrong map (state_of pool disk)
      → HoldsMap wrong map (state_of (answered_by uber pool) disk)
  answered_map {wrong} map disk holds = record {
    table = subst (λ (table : Table). IsTableOf table.entries map) (sym table_same) holds.table;
    bytes = holds.bytes;
    right = λ entry content listed has. reads entry content (listed_before entry listed) has;
  }
    where
      reads : (entry : IndexEntry) (content : List ℕ) → IsListed pool.blocks.table.entries entry → map entry.id ≡ Some content
          → ReadsAs uber (front_behind pool.uber.reflow pool.done uber.reflow) entry content disk.reads pool.out wrong
      reads entry content listed has = subst
          (λ (layout : Layout). IsRightBlock layout content uber.reflow (front_behind pool.uber.reflow pool.done uber.reflow)
          disk.reads pool.out wrong)
          (sym (answered_layout entry (is.born entry listed)))
          (answered_block (layout_of pool.uber.parity pool.uber.births entry) content disk.reads pool.out wrong
          (listed_in_pool (record pool { uber = record pool.uber { group = uber.group } }) entry is step listed)
          (holds.right entry content listed has))
