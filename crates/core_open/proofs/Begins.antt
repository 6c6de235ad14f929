-- A pool that was opened begins with the group that the opening wrote, and holds its map.
use Rattle.std.proofs.Common.{◌≡◌, ◌⊎◌, ℕ, ◌^◌, ◌<◌, ◌≤◌, List, false, Some, Result, Ok, Err, inl, inr, ⊎_elim, sym}
use Rattle.std.proofs.Common.{◌∙◌, ap, subst, arith, []}
use Rattle.std.specs.Prelude.{Contains, IfErr}
use Rattle.std.proofs.lemmas.List.Elements.{All-contains}
use Rattle.bank_trait.specs.Disk.{Image, Disk, Lawful, Later, Unchanged}
use Rattle.bank_trait.specs.Regions.{TouchesOnly}
use Rattle.bank_trait.proofs.Touches.{tells_later}
use Rattle.width_map.specs.declared.birth.Birth.{Birth}
use Rattle.block_record.specs.declared.entry.IndexEntry.{IndexEntry}
use Rattle.block_record.specs.Page.{IsIndex}
use Rattle.block_table.specs.Table.{entry_of}
use Rattle.space_alloc.specs.Space.{Run, IsIn}
use Rattle.uberblock_ring.specs.Devices.{has_device, count_of, IsWithin}
use Rattle.uberblock_ring.specs.Uberblock.{Uber}
use Rattle.uberblock_ring.specs.Valid.{IsRightUber}
use Rattle.shadow_write.specs.Required.{IsRequiredPlace, front_after_stop}
use Rattle.shadow_write.specs.Band.{IsFrontOf}
use Rattle.core_state.specs.Map.{Map}
use Rattle.core_state.specs.Shown.{Shape}
use Rattle.core_state.specs.Index.{IsIndexOf, AreApart}
use Rattle.core_state.specs.Keeps.{Kept, Setting, blocks_of}
use Rattle.core_state.specs.Certain.{Asks, CellsOn, certain}
use Rattle.core_state.proofs.Keeping.{asks_alike, blocks_alone}
use Rattle.core_state.proofs.Listed.{contains_cases, contains_none}
use Rattle.core_state.proofs.Places.{asks_device, right_widths}
use Rattle.core_blocks.specs.Blocks.{Blocks, HasLayouts, IsListed, run_of}
use Rattle.core_blocks.specs.Kept.{NoneFree}
use Rattle.core_blocks.proofs.Listed.{among_listed, found_among}
use Rattle.core_state.proofs.Outs.{was_used}
use Rattle.core_open.specs.Candidates.{IsIndexFor}
use Rattle.core_open.specs.Causes.{AreOutOf}
use Rattle.core_open.specs.declared.why.OpenWhy.{OpenWhy}
use Rattle.core_open.specs.declared.why.OpenWhy.TheVariants as reason
use Rattle.core_open.specs.Failing.{HaveFailed}
use Rattle.core_open.specs.Opens.{HasOpened, IsWithinBelow, LeavesBank, OpeningKeeps, RenewsChoice, WritesInOrder}
use Rattle.core_open.specs.Regions.{IsOnBelow}
use Rattle.core_open.proofs.BlockSpans.{block_width}
use Rattle.core_open.specs.Pool.{Pool, IsPoolAtRest, HasBank, IsTableOf, HoldsMap, State, pool_of, state_of}
use Rattle.core_open.specs.HoldsGroup.{HoldsGroup}
use Rattle.core_open.specs.declared.loading.OpenedPool.{OpenedPool}
use Rattle.core_open.specs.Opening.{AreLoaded, MayBegin, OpensPool, CutsOpening}
use Rattle.core_open.proofs.Banks.{count_grows}
use Rattle.core_open.proofs.Layouts.{front_is_right}

-- Blocks of every birth can be laid out in a pool whose uberblock is right.
pub layouts_of : (uber : Uber) (parity : ℕ) (births : List Birth) → IsRightUber uber → parity ≡ uber.parity
    → births ≡ uber.births → HasLayouts parity births
layouts_of uber parity births right parity_is births_is =
    subst (λ (p : ℕ). HasLayouts p births) (sym parity_is)
    (subst (λ (b : List Birth). HasLayouts uber.parity b) (sym births_is)
    (record {
      some_lost = right.parity.0;
      few_lost = right.parity.1;
      wide = λ birth. (block_width uber birth right).0;
      narrow = λ birth. let width = block_width uber birth right in omega (arith, width.1);
    }))

-- The blocks of an index that fits are apart.
pub apart_of : (uber : Uber) (parity : ℕ) (births : List Birth) (entries : List IndexEntry) → IsIndexFor uber entries
    → parity ≡ uber.parity → births ≡ uber.births → AreApart parity births entries
apart_of uber parity births entries is parity_is births_is =
    subst (λ (p : ℕ). AreApart p births entries) (sym parity_is)
    (subst (λ (b : List Birth). AreApart uber.parity b entries) (sym births_is) is.fitting.apart)

-- The blocks of equal lists of entries.
pub loaded_of : {uber : Uber} {entries others : List IndexEntry} {blocks : Blocks} → others ≡ entries
    → AreLoaded uber others blocks → AreLoaded uber entries blocks
loaded_of {uber = uber} {blocks = blocks} same loaded = subst (λ (l : List IndexEntry). AreLoaded uber l blocks) same loaded

-- What renews a choice does so with the blocks that were loaded.
pub renews_loaded : {shape : Shape} {silent : ℕ} {image : Image} {uber : Uber} {entries : List IndexEntry}
    {blocks : Blocks} → AreLoaded uber entries blocks → RenewsChoice shape silent image uber entries
    → RenewsChoice shape silent image uber blocks.table.entries
renews_loaded {shape} {silent} {image} {uber} loaded renews =
    subst (λ (l : List IndexEntry). RenewsChoice shape silent image uber l) (sym loaded.entries_are) renews

-- With its index loaded, an uberblock makes a pool.
pub begun_is_pool : (uber : Uber) (entries : List IndexEntry) (blocks : Blocks) (out done : ℕ) → IsRightUber uber
    → IsIndexFor uber entries → AreLoaded uber entries blocks → out < 2 ^ uber.reflow.to → IsWithin uber.out out
    → done ≡ front_after_stop uber.reflow → IsPoolAtRest (pool_of uber blocks out done)
begun_is_pool uber entries blocks out done right is loaded below lists stopped = record {
  is = record {
    right = right;
    parity = loaded.parity;
    births = loaded.births;
    capacity = loaded.space.size;
    born = λ entry listed.
        let among = found_among entries entry.id entry
        (subst (λ (l : List IndexEntry). IsListed l entry) loaded.entries_are listed) in
        let born : entry.birth ≤ uber.group =
        All-contains (λ (e : IndexEntry). e.birth ≤ uber.group) entries entry is.fitting.births among in
        omega (arith, born);
    front = subst (IsFrontOf uber.reflow) (sym stopped) (front_is_right uber.reflow right.reflow);
    lists = lists;
  };
  below = below;
}

-- An index of a map is its table.
index_table : (entries : List IndexEntry) (map : Map) → IsIndex entries → IsIndexOf entries map
    → IsTableOf entries map
index_table entries map index of = record {
  listed = λ entry listed. of.listed entry (found_among entries entry.id entry listed);
  every = λ id content has. let found = of.every id content has in
      (found.0, subst (λ (n : ℕ). entry_of entries n ≡ Some found.0) found.2 (among_listed entries found.0 index found.1));
}

-- A pool that was opened, with its index loaded.
module _ (setting : Setting) (first : Kept) (later : List Kept) (uber : Uber) (entries : List IndexEntry) (blocks : Blocks) (out : ℕ)
    (old new : Disk) (may : MayBegin setting first later old) (right : IsRightUber uber) (is : IsIndexFor uber entries)
    (loaded : AreLoaded uber entries blocks) (silent : ℕ)
    (opened : HasOpened setting first later uber entries silent old new) (lawful : Lawful new)
    (after : Later old new) (bank : HasBank uber out new) (lists : IsWithin uber.out out)
    (done : ℕ) (stopped : done ≡ front_after_stop uber.reflow) where
  abbrev next : Kept
  next = opened.next

  abbrev pool : Pool
  pool = pool_of uber blocks out done

  abbrev state : State
  state = state_of pool new

  listed_next : blocks.table.entries ≡ next.entries
  listed_next = loaded.entries_are ∙ opened.entries_are

  index : IsIndex blocks.table.entries
  index = subst IsIndex (sym loaded.entries_are) is.index

  -- Each block of the group has its sectors.
  kept : NoneFree blocks uber.group (blocks_of next)
  kept = subst (λ (list : List IndexEntry). NoneFree blocks uber.group list)
      (sym (blocks_alone next opened.knows.sound.none_else)) (record {
        each = λ entry sector listed inside. inl (
          run_of uber.parity uber.births entry,
          loaded.space.taken entry (subst (λ (l : List IndexEntry). Contains l entry) (sym opened.entries_are) listed),
          subst (λ (p : ℕ). let run : Run = run_of p uber.births entry in IsIn run.start run.len sector) loaded.parity
              (subst (λ (b : List Birth). let run : Run = run_of blocks.parity b entry in IsIn run.start run.len sector) loaded.births inside),
        );
      })

  group : HoldsGroup setting next state
  group = record {
    knows = opened.knows;
    alike = opened.alike;
    kept = kept;
    shape = may.may.shape ∙ (λ i. record { devices = sym after.devices i; sectors = sym after.sectors i });
    tells = tells_later after may.may.tells;
  }

  -- What the group asks for on a device in use is certain, and so it is read.
  cells : (device : ℕ) → device < setting.shape.devices → has_device uber.out device ≡ false
      → CellsOn (certain new) next device
  cells device inside used = subst (λ (k : Kept). CellsOn (certain new) k device)
      (⊎_elim (λ same. same) (λ none. absurd (contains_none opened.known.kept none))
      (contains_cases next [] opened.known.kept opened.known.listed))
      (opened.known.cells device inside used)

  read : (device device_sector : ℕ) (bytes : List ℕ) (asks : Asks next device device_sector bytes)
      → has_device out device ≡ false
      → (Contains next.excepted (asks.cell.sector, (device, device_sector)) → ⊥) → new.reads device device_sector ≡ Some bytes
  read device device_sector bytes asks used right_there =
      let from : uber.reflow.from ≡ next.uber.reflow.from = ap (λ (u : Uber). u.reflow.from) opened.alike in
      let to : uber.reflow.to ≡ next.uber.reflow.to = ap (λ (u : Uber). u.reflow.to) opened.alike in
      let widths = right_widths uber right in
      let inside = asks_device next device device_sector bytes
      (omega (arith, widths.0, from), omega (arith, widths.1, from, to)) asks in
      let below = bank.devices device (omega (arith, inside, to)) used in
      let devices : setting.shape.devices ≡ old.devices = ap (λ (s : Shape). s.devices) may.may.shape in
      let same = after.devices in
      lawful.stays_read device device_sector bytes
      ((cells device (omega (arith, below, devices, same)) (was_used uber.out out device lists used)).at device_sector bytes asks
      right_there)

  holds : HoldsMap next.excepted next.map state
  unfolding asks_alike
  holds = record {
    table = index_table blocks.table.entries next.map index
        (subst (λ (l : List IndexEntry). IsIndexOf l next.map) (sym listed_next) opened.knows.sound.indexes);
    bytes = λ id content has. may.bytes opened.chosen id content opened.listed (sym (opened.renews.map id) ∙ has);
    right = λ entry content listed has. record {
      each = λ cell cell_is. record {
        at = λ device device_sector place used excepted. read device device_sector cell.bytes
            (asks_alike uber next cell device device_sector opened.alike
            (record {
              entry = entry;
              content = content;
              keeps = inl (
                subst (λ (l : List IndexEntry). Contains l entry) listed_next
                    (found_among blocks.table.entries entry.id entry listed),
                has,
              );
              cell_is = cell_is;
            }) (subst (λ (d : ℕ). IsRequiredPlace uber.reflow d cell.row_end cell.sector device device_sector) stopped place)) used
            excepted;
      };
    };
  }

  pub begins : OpensPool setting first later pool silent old new
  begins = record {
    opened = record {
      chosen = opened.chosen;
      listed = opened.listed;
      next = next;
      renews = opened.renews;
      alike = opened.alike;
      entries_are = listed_next;
      knows = opened.knows;
      known = opened.known;
      since = opened.since;
      choice = opened.choice;
    };
    group = group;
    excepted = opened.renews.excepted ∙ may.excepted opened.chosen opened.listed;
    holds = holds;
  }

-- What is left by a refusal before anything of the index is loaded.
pub refusal_cuts : (why : OpenWhy) (old new : Disk) → LeavesBank why old new → Unchanged old new ⊎ CutsOpening old new
refusal_cuts reason.NotPool old new leaves = inl leaves
refusal_cuts (reason.TooManyFailed out) old new leaves = ⊎_elim (λ same. inl same)
    (λ (cut : (cut : CutsOpening old new) × IsWithin cut.borne out). inr cut.0) leaves
refusal_cuts (reason.Limit number) old new leaves = inl leaves
refusal_cuts reason.NoMemory old new leaves = inl leaves

pub refused_cuts : (result : Result OpenedPool OpenWhy) (old new : Disk)
    → IfErr result (λ why. LeavesBank why old new)
    → IfErr result (λ why. Unchanged old new ⊎ CutsOpening old new)
refused_cuts (Ok opened) old new leaves = tt
refused_cuts (Err why) old new leaves = refusal_cuts why old new leaves

-- Where memory was exhausted for the index alone, all is kept as the opening left it.
pub memory_cuts : (result : Result OpenedPool OpenWhy) (uber : Uber) (silent out : ℕ)
    (old new : Disk) → HaveFailed old new silent → AreOutOf old new silent uber out → count_of out ≤ uber.parity
    → IsWithinBelow uber.reflow.to silent uber.out → OpeningKeeps silent uber.out old new
    → TouchesOnly (IsOnBelow uber.reflow.to) old new → WritesInOrder old new silent uber
    → IfErr result (λ why. Unchanged old new ⊎ CutsOpening old new)
memory_cuts (Ok opened) uber silent out old new failed outs few missed keeps only writes = tt
memory_cuts (Err why) uber silent out old new failed outs few missed keeps only writes = inr (record {
  silent = silent;
  failed = failed;
  width = uber.reflow.to;
  parity = uber.parity;
  borne = uber.out;
  few = (let more = count_grows uber.out out outs.lists in omega (arith, few, more));
  missed = missed;
  each = λ image holds. let outs_in = outs.each image holds in record {
    choice = outs_in.choice;
    width_is = outs_in.width_is;
    parity_is = outs_in.parity_is;
    each = λ device has. outs_in.each device (outs.lists device has);
  };
  keeps = keeps;
  only = only;
  writes = (uber, writes);
})
