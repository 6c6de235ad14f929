-- What stands between two turns stands over each write of a put, and so does what images keep.
use Rattle.core_turns.proofs.Words.{blocks_of, ◌≡◌, ⊎_elim, ℕ, ◌≤◌, List, [], ◌∷◌, Option, Some, refl, sym, ap, subst}
use Rattle.core_turns.proofs.Words.{arith, Contains, cases_lt, Lawful, TouchesOnly, Reflow, Layout, are_required, Gains}
use Rattle.core_turns.proofs.Words.{count_of, Uber, Map, layout_of, Kept, Setting, IsSound, point_of, IsSpare, IsRowOf}
use Rattle.core_turns.proofs.Words.{KeepsSince, contains_cases, contains_none, IsDataSector, data_is_no_page}
use Rattle.core_turns.proofs.Words.{page_place, layout_run, put_run, SparesAll, AreClear, gains_item, OnlyFailedGoOut}
use Rattle.core_turns.proofs.Words.{Stage, Lays, CommitRun, shown_at, shown_by, sound_paged, listed_in_pool, PutRun}
use Rattle.core_turns.proofs.Words.{CoreState, IsCore, as_begun, IsPutOf, HoldsPut, WritesOne, HoldingCall, Putting}
use Rattle.core_turns.proofs.Words.{AreBeside, AreCallsOf, CommitStands, IsCallOfCore, Damage, PutsSpare, Stands}
use Rattle.core_turns.proofs.Words.{shown_of}
use Rattle.core_commit.specs.declared.commit_run.Stage.TheVariants.{Signs}
use Rattle.core_turns.proofs.put.Places.{IsWrittenTo, AreInPool, never_asked, put_beside_commit, required_data}
use Rattle.core_turns.proofs.state.Frames.{AreOff, IsCallOff}
use Rattle.core_turns.proofs.state.Calls.{range_listed, share_none}
use Rattle.core_turns.proofs.put.Stands.{listed_clear, next_spares}
use Rattle.core_turns.proofs.put.Written.{call_clear, last_inside, layout_clear, next_inside, next_layout, write_holds}
use Rattle.core_turns.proofs.put.Written.{write_outs, write_touches}
use Rattle.core_turns.proofs.Words.{written_once}
use Rattle.core_turns.proofs.state.Writes.{AreSpare, off_call, off_right, since_written, writes_stand, written_by}

-- A put has no sector in common with a block of this group, whose blocks lie in the pool.
record IsClearOf (layout : Layout) (reflow : Reflow) (done : ℕ) (kept : Kept) : Type 0 where
  inside : AreInPool kept reflow done
  spares : SparesAll kept.uber.parity kept.uber.births (blocks_of kept) (layout_run layout)

module _ {left calls : List HoldingCall} {before after : CoreState} {run next : PutRun} (is : IsCore before.core)
    (lawful : Lawful before.disk) (writes : WritesOne before run after next)
    (gains : Gains left calls (Putting run)) where
  abbrev reflow : Reflow
  reflow = before.core.pool.uber.reflow

  abbrev done : ℕ
  done = before.core.pool.done

  abbrev layout : Layout
  layout = run.range.layout

  abbrev places : ℕ → ℕ → Type 0
  places = IsWrittenTo layout reflow done before.core.pool.out

  -- Not too many devices were out.
  few : count_of before.core.pool.out ≤ before.core.pool.uber.parity
  few = search (cases_lt, arith)

  module _ {setting : Setting} {last : Kept} {begun : List Kept} {map : Map} {damage : Damage} {contents : ℕ → List ℕ}
      {commit : Option CommitRun} (are : AreCallsOf before.core calls)
      (stands : Stands setting last begun map damage contents calls commit before) where
    its_calls : Contains calls (Putting run)
    its_calls = gains_item left calls (Putting run) gains

    of : IsPutOf before.core run
    of = are.each (Putting run) its_calls

    -- At most the write's device goes out,
    outs : OnlyFailedGoOut (point_of before.core.pool.out before.disk) (point_of after.core.pool.out after.disk)
    outs = write_outs after is of writes.writes

    -- and nothing is touched but the block's places.
    touched : TouchesOnly places before.disk after.disk
    touched = write_touches after is of writes.writes

    -- Calls that have no sector of the put are off it,
    calls_off : (call : HoldingCall) → AreBeside (Putting run) call → IsCallOfCore before.core call
        → IsCallOff places reflow done call
    calls_off call beside its = call_clear after is of writes.writes call (share_none (Putting run) call (λ reads. reads) beside.apart) its

    -- and so are the blocks of the table.
    table_off : AreOff places before.core
    table_off entry listed = layout_clear after is of writes.writes
        (layout_of before.core.pool.uber.parity before.core.pool.uber.births entry)
        (listed_in_pool (as_begun before.core) entry is.is is.step listed)
        (search (listed_clear, range_listed, its_calls, are.under.each, arith))

    -- One write more of the put's block stands there.
    holds_further : HoldsPut (contents next.hold.actor) (written_by before after) next
    holds_further = subst (λ (actor : ℕ). HoldsPut (contents actor) (written_by before after) next)
        (sym (ap (λ (r : PutRun). r.hold.actor) writes.writes.next_is))
        (write_holds after is of writes.writes stands.tells stands.bank (stands.each (Putting run) its_calls))

    -- The put has no sector of a block of a group that it spares.
    spares_now : (group : Kept) → PutsSpare before calls group
        → SparesAll before.core.pool.uber.parity before.core.pool.uber.births (blocks_of group) (put_run run.range)
    spares_now group spared = rw (is.is.parity, is.is.births) at (spared run its_calls)

    -- So it is clear of the last one,
    last_clear : IsSound setting last → IsClearOf layout reflow done last
    last_clear sound = record {
      inside = last_inside is stands sound;
      spares = subst (λ (u : Uber). SparesAll u.parity u.births (blocks_of last) (put_run run.range)) stands.alike
          (spares_now last stands.spared);
    }

    -- and of the one that a commit makes, whose blocks have the layouts that they have in the pool.
    next_clear : (commit : CommitRun) (groups : CommitStands setting last begun calls commit before)
        → IsClearOf layout reflow done groups.next
    next_clear commit groups = record {
      inside = next_inside is groups;
      spares = λ entry listed. subst (λ (l : Layout). AreClear (put_run run.range) (layout_run l))
          (sym (next_layout is groups entry listed)) (search spares_now);
    }

    -- Where it writes is spare beside such groups,
    spare_of : (later : List Kept) → IsSound setting last
        → ((kept : Kept) → Contains later kept → IsClearOf layout reflow done kept)
        → (device device_sector : ℕ) → places device device_sector → IsSpare setting last later device device_sector
    spare_of later sound clear device device_sector (write, has, used, device_is, sector_is) =
        let required = (are_required layout reflow done).only write has in
        let data_sector : IsDataSector device_sector = rw sector_is (search required_data) in
        let all : (kept : Kept) → Contains (last ∷ later) kept → IsClearOf layout reflow done kept
        = λ kept listed. ⊎_elim (λ same. rw same (last_clear sound)) (clear kept)
        (contains_cases last later kept listed) in
        record {
          ring = search arith;
          page = search (sound_paged, page_place, data_is_no_page, arith);
          cells = λ kept bytes listed asks. absurd (never_asked kept reflow done layout before.core.pool.out device
              device_sector bytes is.is.front (all kept listed).inside of.pool (all kept listed).spares
              (write, has, used, device_is, sector_is) asks);
        }

    -- so nobody asks for what it writes: without a commit, and beside one.
    spare_now : AreSpare places setting last begun calls before
    spare_now = record {
      alone = λ groups. rw (groups.whole few).0 (spare_of [] groups.knows.sound (search (contains_none, arith)));
      shown = λ commit groups. spare_of (shown_by groups.next commit) groups.come.sound_first
          (λ kept later. rw (shown_next groups.next commit.stage kept later) (next_clear commit groups));
      beside = λ commit groups.
          let first = last_clear groups.come.sound_first in
          let next = next_clear commit groups in
          put_beside_commit setting last groups.next reflow done layout before.core.pool.out is.is.front first.inside
          next.inside of.pool first.spares next.spares;
    }
      where
        shown_next : (next : Kept) (stage : Stage) (kept : Kept) → Contains (shown_at next stage) kept → kept ≡ next
        shown_next next Lays kept listed = absurd (contains_none kept listed)
        shown_next next Signs kept listed = search (contains_none, contains_cases, arith)

    -- ---- all that stands

    -- A write of a put leaves what stands, and is one more of its block.
    pub put_writes_stands : {nexts : List HoldingCall} → Lawful after.disk → Gains left nexts (Putting next)
        → Stands setting last begun map damage contents nexts commit after
    put_writes_stands still_lawful again =
        writes_stand after touched outs.still lawful few spare_now writes.rest still_lawful
        (off_right before after touched outs.still is.is.front damage.left table_off)
        (λ other beside its. off_call before after touched outs.still is.is.front damage other
        (calls_off other beside its))
        gains again (refl, ap (λ (r : PutRun). r.hold.actor) writes.writes.next_is)
        (λ group. next_spares before group (Some (written_once writes.writes.filled)) gains (search arith)) holds_further are stands

    -- Each image keeps what it kept, at each moment of it.
    pub put_writes_since : (groups : List Kept) (time : ℕ) → IsRowOf groups last (shown_of begun commit)
        → KeepsSince setting groups time before.disk → KeepsSince setting groups time after.disk
    put_writes_since groups time row =
        since_written after touched outs.still lawful few spare_now commit groups time row stands.groups
