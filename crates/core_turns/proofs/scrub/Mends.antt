-- What stands between two turns stands over each write that mends a place of a block under a scrub: what is written
-- there was listed as what may be wrong.
use Rattle.core_turns.proofs.Words.{◌≡◌, ⊎_elim, ℕ, ◌<◌, ◌≤◌, List, [], ◌∷◌, true, false, Option, refl, sym, ◌∙◌, ap}
use Rattle.core_turns.proofs.Words.{subst, arith, cases_lt, true≢false, Contains, Lawful, TouchesOnly, Reflow, Layout}
use Rattle.core_turns.proofs.Words.{IsColumn, end_of, sector_of, sectors_of, IsRequiredPlace, Write, has_device}
use Rattle.core_turns.proofs.Words.{count_of, Map, Kept, Setting, layout_of, Asks, IsSound, point_of, IsSpare, IsRowOf}
use Rattle.core_turns.proofs.Words.{KeepsSince, Cell, Excepted, IsAmong, IsCell, contains_cases, contains_head}
use Rattle.core_turns.proofs.Words.{contains_none, contains_tail, IsDataSector, data_is_no_page, page_place, Gains}
use Rattle.core_turns.proofs.Words.{gains_item, OnlyFailedGoOut, listed_at, Stage, Lays, CommitRun, shown_at, shown_by}
use Rattle.core_turns.proofs.Words.{sound_paged, listed_in_pool, count_grows, read_stays, close_to_end, in_pool}
use Rattle.core_turns.proofs.Words.{one_sector, widths_of, IsInPool, IsRightBlock, BlockScrub, GetRun, CoreState}
use Rattle.core_turns.proofs.Words.{IsCore, as_begun, HoldsGet, HoldsScrub, IsScrubOf, MendsOne, WritesOne, HoldingCall}
use Rattle.core_turns.proofs.Words.{Putting, Reading, Scrubbing, Copying, AreBeside, AreCallsOf, Damage, IsCallOfCore}
use Rattle.core_turns.proofs.Words.{Stands, shown_of, among_blocks}
use Rattle.core_commit.specs.declared.commit_run.Stage.TheVariants.{Signs}
use Rattle.core_state.proofs.Outs.{was_used}
use Rattle.core_turns.proofs.put.Goes.{touches_by_write}
use Rattle.core_turns.proofs.put.Places.{AreInPool, required_data}
use Rattle.core_turns.proofs.put.Written.{call_clear, last_inside, next_inside, write_holds, write_outs, write_touches}
use Rattle.core_turns.proofs.scrub.Stands.{scrub_adds}
use Rattle.core_turns.proofs.scrub.Turns.{one_scrub}
use Rattle.core_turns.proofs.read.Stands.{call_loses}
use Rattle.core_turns.proofs.state.Calls.{shares_none}
use Rattle.core_turns.proofs.state.Frames.{KeepsCall, KeepsRight}
use Rattle.core_turns.proofs.state.Writes.{AreSpare, off_call, since_written, writes_stand, written_by}

module _ {left calls : List HoldingCall} {before after : CoreState} {run next : BlockScrub} (is : IsCore before.core)
    (lawful : Lawful before.disk) (mends : MendsOne before run after next) (differs : run.differs ≡ true)
    (gains : Gains left calls (Scrubbing run)) (are : AreCallsOf before.core calls) where
  abbrev same : next ≡ record run { mend = next.mend; differs = false }
  same = mends.next_is

  abbrev writes : WritesOne before run.mend after next.mend
  writes = mends.writes

  abbrev reflow : Reflow
  reflow = before.core.pool.uber.reflow

  abbrev done : ℕ
  done = before.core.pool.done

  abbrev layout : Layout
  layout = run.mend.range.layout

  abbrev write : Write
  write = writes.writes.write

  abbrev sector : ℕ
  sector = sector_of layout write.row write.column

  -- the place that is written
  abbrev place : ℕ → ℕ → Type 0
  place device device_sector = (has_device before.core.pool.out write.device ≡ false) × (device ≡ write.device)
      × (device_sector ≡ write.device_sector)

  of : IsScrubOf before.core run
  of = are.each (Scrubbing run) (gains_item left calls (Scrubbing run) gains)

  outs : OnlyFailedGoOut (point_of before.core.pool.out before.disk) (point_of after.core.pool.out after.disk)
  outs = write_outs after is of.mend writes.writes

  touched : TouchesOnly place before.disk after.disk
  touched = touches_by_write place (λ used. (used, refl, refl)) writes.writes.made

  few : count_of before.core.pool.out ≤ before.core.pool.uber.parity
  few = search (cases_lt, arith)

  -- It is a place of its sector,
  required : IsColumn layout write.row write.column
      × IsRequiredPlace reflow done (end_of layout write.row) sector write.device write.device_sector
  required = (of.mend.filled writes.writes.filled writes.writes.filled_is).1.plan.required.only write
      (listed_at writes.writes.filled.write.writes writes.writes.filled.write.next write writes.writes.write_is)

  -- and of no other.
  its_sector : (other : Layout) (given : List ℕ) (cell : Cell) → IsInPool other reflow → IsCell other given cell
      → (device device_sector : ℕ) → IsRequiredPlace reflow done cell.row_end cell.sector device device_sector
      → place device device_sector → cell.sector ≡ sector
  its_sector other given cell pool cell_is device device_sector asked (used, device_is, sector_is) =
      let widths = widths_of layout reflow of.mend.pool in
      one_sector reflow done done cell.sector sector cell.row_end (end_of layout write.row) device device_sector
      widths.from_some widths.to_some widths.from_few of.mend.pool.right is.is.front is.is.front
      (rw (cell_is.row_end, cell_is.sector) (close_to_end other reflow cell_is.row cell_is.column pool cell_is.there))
      (close_to_end layout reflow write.row write.column of.mend.pool required.0) asked
      (rw (device_is, sector_is) required.1)

  module _ {setting : Setting} {last : Kept} {begun : List Kept} {map : Map} {damage : Damage} {contents : ℕ → List ℕ}
      {commit : Option CommitRun} (stands : Stands setting last begun map damage contents calls commit before) where
    abbrev content : List ℕ
    content = contents run.read.hold.actor

    held : HoldsScrub damage content before run
    held = stands.each (Scrubbing run) (gains_item left calls (Scrubbing run) gains)

    -- What is asked for there is listed as what may be wrong.
    listed_there : (other : Layout) (given : List ℕ) (cell : Cell) → IsInPool other reflow → IsCell other given cell
        → (device device_sector : ℕ) → IsRequiredPlace reflow done cell.row_end cell.sector device device_sector
        → place device device_sector → Contains damage.left (cell.sector, (device, device_sector))
    listed_there other given cell pool cell_is device device_sector asked at =
        rw (its_sector other given cell pool cell_is device device_sector asked at, at.1, at.2)
        (held.listed differs writes.writes.filled writes.writes.filled_is write writes.writes.write_is)

    -- ---- what is kept

    -- So each right block stays right but for that.
    right_kept : (wrong : Excepted) → IsAmong damage.left wrong → (other : Layout) (given : List ℕ)
        → IsInPool other reflow → IsRightBlock other given reflow done before.disk.reads before.core.pool.out wrong
        → IsRightBlock other given reflow done after.disk.reads after.core.pool.out wrong
    right_kept wrong among other given pool right = record {
      each = λ cell its. record {
        at = λ device device_sector asked used none.
            touched.reads device device_sector
            (λ at. none (among _ (listed_there other given cell pool its device device_sector asked at)))
            ∙ (right.each cell its).at device device_sector asked
            (was_used before.core.pool.out after.core.pool.out device outs.still used) none;
      };
    }

    right_stays : KeepsRight damage.left before (written_by before after)
    right_stays entry given listed right = right_kept damage.left (λ what has. has)
        (layout_of before.core.pool.uber.parity before.core.pool.uber.births entry) given
        (listed_in_pool (as_begun before.core) entry is.is is.step listed) right

    get_kept : (given : List ℕ) (get : GetRun) → IsInPool get.read.layout reflow
        → HoldsGet damage.listed given before get → HoldsGet damage.listed given (written_by before after) get
    get_kept given get pool held_get = record {
      right = right_kept damage.listed stands.damage_is.within get.read.layout given pool held_get.right;
      len_is = held_get.len_is;
      are_bytes = held_get.are_bytes;
      digest_is = held_get.digest_is;
      so_far = read_stays given reflow before.core.pool.out after.core.pool.out damage.listed get.read outs.still
          held_get.so_far;
      solved = λ none few_after. held_get.solved none (λ many. few_after (search (count_grows, outs.still, arith)));
    }

    -- Other calls hold what they held.
    call_kept : (other : HoldingCall) → AreBeside (Scrubbing run) other → IsCallOfCore before.core other
        → KeepsCall damage before (written_by before after) other
    call_kept (Reading get) beside its given = get_kept given get its.1.pool
    call_kept (Scrubbing other) beside its given = absurd (beside.actors (one_scrub of its))
    call_kept (Putting put) beside its given = off_call before after (write_touches after is of.mend writes.writes) outs.still
        is.is.front damage (Putting put) (call_clear after is of.mend writes.writes (Putting put)
        (rw of.hold (shares_none (Scrubbing run) (Putting put) (λ reads. reads) beside.apart)) its) given
    call_kept (Copying job) beside its given = off_call before after (write_touches after is of.mend writes.writes) outs.still
        is.is.front damage (Copying job) (call_clear after is of.mend writes.writes (Copying job)
        (rw of.hold (shares_none (Scrubbing run) (Copying job) (λ reads. reads) beside.apart)) its) given

    -- The block has one place more.
    mended_holds : HoldsScrub damage content (written_by before after) next
    mended_holds = rw same (record {
      read = get_kept content run.read of.read.pool held.read;
      mend = write_holds after is of.mend writes.writes stands.tells stands.bank held.mend;
      listed = λ so. absurd (true≢false (sym so));
    })

    -- ---- the groups

    -- What a group asks for there it lists.
    group_lists : (kept : Kept) → Contains (last ∷ begun) kept → AreInPool kept reflow done
        → (device device_sector : ℕ) (bytes : List ℕ) → place device device_sector
        → (asks : Asks kept device device_sector bytes)
        → Contains kept.excepted (asks.cell.sector, (device, device_sector))
    group_lists kept listed inside device device_sector bytes at asks =
        let its = asks.cell_is in
        let among = among_blocks kept its.entry its.content its.keeps in
        let pool = inside.each its.entry among in
        let below : asks.cell.sector < sectors_of reflow = rw its.cell_is.sector (search in_pool) in
        (stands.lists kept listed).least _ (listed_there
        (layout_of kept.uber.parity kept.uber.births its.entry) its.content asks.cell pool its.cell_is device
        device_sector (inside.asked asks.cell.row_end asks.cell.sector device device_sector below asks.place) at)

    data_sector : (device device_sector : ℕ) → place device device_sector → IsDataSector device_sector
    data_sector device device_sector at = rw at.2 (required_data reflow done (end_of layout write.row) sector
        write.device write.device_sector is.is.front required.1)

    spare_of : (later : List Kept) → IsSound setting last
        → ((kept : Kept) → Contains (last ∷ later) kept → Contains (last ∷ begun) kept × AreInPool kept reflow done)
        → (device device_sector : ℕ) → place device device_sector → IsSpare setting last later device device_sector
    spare_of later sound all device device_sector at =
        let here = data_sector device device_sector at in
        record {
          ring = search arith;
          page = search (sound_paged, page_place, data_is_no_page, arith);
          cells = λ kept bytes listed asks.
              let its = all kept listed in group_lists kept its.0 its.1 device device_sector bytes at asks;
        }

    -- So nobody asks for what it writes that does not list it: without a commit, and beside one.
    spare_now : AreSpare place setting last begun calls before
    spare_now = record {
      alone = λ groups. rw (groups.whole few).0 (spare_of [] groups.knows.sound
          (λ kept listed. let is_last = only_last kept listed in
          (rw is_last (contains_head last begun), rw is_last (last_inside is stands groups.knows.sound))));
      shown = λ commit groups. spare_of (shown_by groups.next commit) groups.come.sound_first
          (λ kept listed. ⊎_elim
          (λ same. (rw same (contains_head last begun), rw same (last_inside is stands groups.come.sound_first)))
          (λ rest. let is_next = shown_next groups.next commit.stage kept rest in (
            rw (is_next, groups.begun_is) (contains_tail last (groups.next ∷ []) groups.next
                (contains_head groups.next [])),
            rw is_next (next_inside is groups),
          ))
          (contains_cases last (shown_by groups.next commit) kept listed));
      beside = λ commit groups. record {
        region = λ device device_sector at. data_sector device device_sector at;
        not_first = group_lists last (contains_head last begun) (last_inside is stands groups.come.sound_first);
        not_next = group_lists groups.next (rw groups.begun_is (contains_tail last (groups.next ∷ []) groups.next
            (contains_head groups.next []))) (next_inside is groups);
      };
    }
      where
        only_last : (kept : Kept) → Contains (last ∷ []) kept → kept ≡ last
        only_last kept listed = ⊎_elim (λ same. same) (λ none. absurd (contains_none kept none))
            (contains_cases last [] kept listed)

        shown_next : (next : Kept) (stage : Stage) (kept : Kept) → Contains (shown_at next stage) kept → kept ≡ next
        shown_next next Lays kept listed = absurd (contains_none kept listed)
        shown_next next Signs kept listed = ⊎_elim (λ same. same) (λ none. absurd (contains_none kept none))
            (contains_cases next [] kept listed)

    -- ---- all that stands

    -- A write that mends a place leaves what stands.
    pub block_mends_stands : {nexts : List HoldingCall} → Lawful after.disk → Gains left nexts (Scrubbing next)
        → Stands setting last begun map damage contents nexts commit after
    block_mends_stands still_lawful again =
        writes_stand after touched outs.still lawful few spare_now writes.rest still_lawful right_stays call_kept gains
        again (rw same refl, rw same refl)
        (λ group spares put listed. spares put (call_loses gains put (scrub_adds again put listed)))
        (subst (λ (actor : ℕ). HoldsScrub damage (contents actor) (written_by before after) next)
        (sym (ap (λ (r : BlockScrub). r.read.hold.actor) same)) mended_holds) are stands

    -- Each image keeps what it kept, at each moment of it.
    pub block_mends_since : (groups : List Kept) (time : ℕ) → IsRowOf groups last (shown_of begun commit)
        → KeepsSince setting groups time before.disk → KeepsSince setting groups time after.disk
    block_mends_since groups time row =
        since_written after touched outs.still lawful few spare_now commit groups time row stands.groups
