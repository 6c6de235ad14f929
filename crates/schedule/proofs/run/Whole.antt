-- A run of turns from the opening of its pool to its end.
use Rattle.schedule.proofs.Words.{◌≡◌, inl, ⊎_elim, ℕ, ◌≤◌, List, [], ◌∷◌, ◌++◌, Bool, false, refl, sym, ap, arith}
use Rattle.schedule.proofs.Words.{length, ◌+◌, Contains, Image, Disk, Later, TouchesOnly, touches_then, NoneAbove}
use Rattle.schedule.proofs.Words.{has_device, count_of, IsWithin, Uber, IsRightUber, Entry, Item, Group, CallsAreRight}
use Rattle.schedule.proofs.Words.{Kept, Setting, World, present, contains_head, AreUnderWay, OnlyFailedGoOut, point_of}
use Rattle.schedule.proofs.Words.{IsOnInUse, IsOutFor, AreOutIn, AreOutOf, HaveFailed, HoldsImage, shape_of}
use Rattle.schedule.proofs.Words.{IsWithinBelow, RenewsChoice, WritesInOrder, present_held, IsOnBelow, AreLoaded}
use Rattle.schedule.proofs.Words.{MayBegin, OpensPool, IsBegunWith, Pool, Script, asked_by, handed_by, WhyDropped}
use Rattle.schedule.proofs.Words.{KeepsLast, NoSpaceIsCaused, BeginsAfter, first_item, no_space_alike, opened_parity}
use Rattle.schedule.proofs.Words.{CoreState, at_disk, Client, Ended, Whole, NoMemory, Limit, FullIsCaused, LeadTo}
use Rattle.schedule.proofs.Words.{HasDropCause, IsDropCause, FitsCall, FitsSince, turns_of, TurnTaken, Turns, bank_when}
use Rattle.schedule.proofs.Words.{Cursor, InOrder, HaveTaken, Replay, replay_at, Past, EndsAs, blank_clients, Runs, Ran}
use Rattle.schedule.proofs.Words.{HasRun, HasRunInTurn, HasTakenTurns, RunKeeps, IsRunFrom, first_turns}
use Rattle.std.proofs.Common.{true}
use Rattle.core_state.specs.declared.item.Group.{Group as GroupItem}
use Rattle.core_open.specs.Opens.{HasBank}
use Rattle.schedule.proofs.run.Banks.{are_listed, at_end as bank_at_end, at_start}
use Rattle.schedule.proofs.run.Beginning.{no_call}
use Rattle.schedule.proofs.order.InTurn.{gone_counted, gone_taken}
use Rattle.schedule.proofs.turn.Fitting.{device_cause_on}
use Rattle.schedule.proofs.turn.Numbered.{first_numbered}
use Rattle.schedule.proofs.order.OfLines.{follows_lines}
use Rattle.schedule.proofs.run.Opened.{none_of_blank, resting, opened_world, runs_first}
use Rattle.schedule.proofs.read.Digests.{first_known, reads_known}
use Rattle.schedule.proofs.turn.Recording.{recorded_throughout, recorded_keeps, recorded_no_older}
use Rattle.schedule.proofs.run.UsingOpened.{births_opened, uses_first}
use Rattle.schedule.proofs.sync.Syncs.{stands_know}

-- What failed earlier has failed later, and each device that is out then has its reason.
out_later : (old mid new : Disk) (uber : Uber) (silent out onward : ℕ) → Later old mid → Later mid new
    → AreOutOf old mid silent uber out
    → OnlyFailedGoOut (point_of out mid) (point_of onward new) → (image : Image) → HoldsImage old image
    → AreOutIn old new silent uber.reflow.to uber.parity onward image
out_later old mid new uber silent out onward earlier later outs goes image holds = record {
  choice = was.choice;
  width_is = was.width_is;
  parity_is = was.parity_is;
  each = λ device has. by device has (has_device out device) refl;
}
  where
    was : AreOutIn old mid silent uber.reflow.to uber.parity out image
    was = outs.each image holds

    by : (device : ℕ) → has_device onward device ≡ true → (before : Bool) → has_device out device ≡ before
        → IsOutFor old new was.choice device
    by device has true is = ⊎_elim (λ at. inl at) (search arith) (was.each device is)
    by device has false is = search arith

module _ {script : Script} {old mid : Disk} {pool : Pool} {silent : ℕ} {items : List Item} {clients : List Client}
    {final : CoreState} (passed : List TurnTaken) (opened_later : Later old mid)
    (opened_only : TouchesOnly (IsOnBelow pool.uber.reflow.to) old mid)
    (failed : HaveFailed old mid silent) (few : count_of pool.out ≤ pool.uber.parity)
    (missed : IsWithinBelow pool.uber.reflow.to silent pool.uber.out)
    (renews : (image : Image) → HoldsImage old image
    → RenewsChoice (shape_of old) silent image pool.uber pool.blocks.table.entries)
    (writes : WritesInOrder old mid silent pool.uber)
    (outs : AreOutOf old mid silent pool.uber pool.out) (begun : IsBegunWith pool silent old mid)
    (rest : AreUnderWay pool.blocks []) (bank : HasBank pool.uber pool.out mid)
    (right : IsRightUber pool.uber) (loaded : AreLoaded pool.uber pool.blocks.table.entries pool.blocks)
    (taken : HaveTaken script (first_turns script (at_disk (resting pool) mid) (first_item pool)) passed)
    (come : LeadTo script (first_turns script (at_disk (resting pool) mid) (first_item pool)) passed
    (turns_of final items clients))
    (calls : CallsAreRight (asked_by script) items) where
  abbrev item : GroupItem
  item = first_item pool

  -- what the turns began with
  abbrev first_state : Turns
  first_state = first_turns script (at_disk (resting pool) mid) item

  -- the bank before the opening, and those that the turns left
  abbrev past : Past
  past = record { origin = old; banks = bank_when first_state passed }

  last_bank : past.banks (length items + 1) ≡ final.disk
  last_bank = search (bank_at_end, arith)

  module _ (setting : Setting) (first : Kept) (later : List Kept) (may : MayBegin setting first later old)
      (missed_in : IsWithinBelow first.uber.reflow.to silent setting.failed)
      (borne_in : IsWithin come.borne setting.failed) where
    begins : OpensPool setting first later pool silent old mid
    begins = let all = come.bears.from_start few in begun.each setting first later may missed_in (search arith)

    abbrev world : World
    world = opened_world (asked_by script) (handed_by script) begins

    first_runs : Runs world script past (at_disk (resting pool) mid) (Group item ∷ []) (blank_clients script.clients)
    first_runs = runs_first (asked_by script) (handed_by script) begins may.may.parity past refl
        (at_start first_state passed (omega arith)) opened_later bank script script.clients

    stood : IsRunFrom script first_state passed come.borne world past
    stood = record {
      world_of = record { calls = refl; handed = refl };
      stood = first_runs;
      borne_in = borne_in;
      with_banks = are_listed script first_state passed taken;
    }

    runs : Runs world script past final items clients
    runs = come.stands.runs world past stood

    -- The journal that the opening left has no answers.
    full : FullIsCaused script begins.opened.chosen.map items
    full = come.stands.full world past stood (search (no_call, arith))

    abbrev run_groups : List Kept
    run_groups = (first ∷ later) ++ runs.recorded.groups.answered ++ runs.recorded.groups.begun

    at_end : (kept : KeepsLast setting (asked_by script) (handed_by script) begins.opened.chosen.map items final.disk)
        × ((group : Kept) → Contains (kept.last ∷ kept.begun) group → Contains run_groups group)
    at_end = recorded_keeps runs.recorded runs.reach (stands_know runs.stands)

    -- The journal begins with the group that renews the chosen one.
    begins_after : BeginsAfter begins.opened.chosen items
    begins_after = record {
      first = item;
      there = come.journal.listed 0 (Group item) refl;
      number = search arith;
      widths = search arith;
    }

    -- No space was found only where the chosen group's blocks and the script's are many.
    no_space : NoSpaceIsCaused script begins.opened.chosen.uber begins.opened.chosen.entries items
    no_space =
        let alike = begins.opened.alike in let renews = begins.opened.renews.alike in
        no_space_alike script pool.uber begins.opened.chosen.uber pool.blocks.table.entries begins.opened.chosen.entries
        items (search arith) (search arith) (search arith) (search arith)
        (come.space pool.uber pool.blocks.table.entries (uses_first script pool mid right born loaded)).caused
      where
        born : NoneAbove pool.uber.group pool.uber.births
        born = births_opened pool.uber (renews (present old) (present_held old may.may.tells))

    -- What the run keeps, where these devices may fail.
    pub run_keeps : RunKeeps script setting first later old final.disk items pool.uber.parity silent
        (bank_when first_state passed)
    unfolding begins
    run_keeps = record {
      chosen = begins.opened.chosen;
      origin = record {
        known = begins.opened.listed;
        choice = begins.opened.choice;
        begins = begins_after;
      };
      journal = record {
        legal = record { groups = runs.recorded.in_order; calls_are = calls; answers = runs.recorded.right };
        sound = runs.recorded.sound;
        caused = runs.recorded.caused;
        full = full.each;
        no_space = no_space;
      };
      any_moment = recorded_throughout runs.recorded;
      no_older = recorded_no_older runs.recorded last_bank;
      kept = at_end.0;
      groups = record {
        kept_among = at_end.1;
        parities = runs.recorded.parity first (contains_head first later);
        parity_is = sym (opened_parity may.may.parity begins.opened);
      };
    }

  -- No attach was under way as the run began, so what one tells has come since.
  fits_run : (entry : Entry) → FitsSince first_state (turns_of final items clients) entry
      → FitsCall pool.uber.parity old.devices final.core.pool.out (IsDropCause old final.disk final.core.pool.out) entry
  fits_run entry fit = record {
    of_kind = fit.of_kind;
    too_many = fit.too_many;
    limit = fit.limit;
    memory = fit.memory;
    device = rw opened_later.devices at (device_cause_on mid.devices
        (HasDropCause first_state (turns_of final items clients))
        (IsDropCause old final.disk final.core.pool.out) entry.answer
        (λ cause. ⊎_elim (by cause) (λ told. absurd (none_of_blank script.clients told.going))) fit.device);
  }
    where
      by : (cause : WhyDropped) → IsDropCause mid final.disk final.core.pool.out cause
          → IsDropCause old final.disk final.core.pool.out cause
      by cause drop = grind arith

  -- The calls of the script were carried out on the pool that the devices showed,
  pub has_run : HasRun script old final.disk items final.core.pool.out
  has_run = record {
    opened = item;
    start = at_disk (resting pool) mid;
    opens = record {
      there = come.journal.listed 0 (Group item) refl;
      opened_is = refl;
      rest = search;
      bank = bank;
      later = opened_later;
    };
    silent = silent;
    opening = record { failed = failed; renews = renews; writes = writes };
    passed = passed;
    turns = record {
      taken = taken;
      onward = come.pool.later;
      items_are = ap (λ (turns : Turns). turns.items) come.ends;
      disk_is = ap (λ (turns : Turns). turns.state.disk) come.ends;
    };
    parity = pool.uber.parity;
    devices = record {
      each = λ image holds. out_later old mid final.disk pool.uber silent pool.out final.core.pool.out opened_later
          come.pool.later outs come.pool.out image holds;
      only = rw come.ends (touches_then (IsOnBelow pool.uber.reflow.to) (IsOnInUse (final.core.reach + 1) pool.out)
          (IsOnBelow (final.core.reach + 1)) (λ d x here. let more = come.pool.reach in omega (arith, here, more))
          (λ d x here. here.0) opened_only come.pool.only);
      same = λ none. touches_then (IsOnBelow pool.uber.reflow.to) (IsOnInUse pool.uber.reflow.to pool.out)
          (IsOnBelow pool.uber.reflow.to) (λ d x here. here) (λ d x here. here.0) opened_only
          (come.pool.same none).only;
    };
    answers = record {
      calls = calls;
      fits = λ index entry there. ⊎_elim (λ at. absurd (no_call item index at)) (fits_run entry)
          (come.journal.fits index entry there);
      numbers = (come.journal.numbers (first_numbered pool)).numbered;
      lines = λ one actors. follows_lines script (at_disk (resting pool) mid) item passed items taken
          (ap (λ (turns : Turns). turns.items) come.ends) refl
          (λ index entry there. ⊎_elim (λ at. absurd (no_call item index at)) (λ fit. fit.of_kind)
          (come.journal.fits index entry there)) one actors;
    };
    reads = rw come.ends at (reads_known script pool.blocks.table.entries first_state passed taken
        (first_known script pool mid item));
    borne = come.borne;
    bears = record {
      few = come.bears.few;
      within = come.bears.within;
      missed = let all = come.bears.from_start few in search arith;
      listed = let all = come.bears.from_start few in search arith;
    };
    keeps = run_keeps;
  }

  -- with as many turns as these are,
  pub has_run_counted : {turns : ℕ} → turns ≡ length passed → turns ≡ length has_run.passed
  unfolding has_run
  has_run_counted counted = counted

  -- and the turns were those of the clients whose turn it was.
  pub has_run_in_turn : {listed : List ℕ} {ended : Ended} {turns : ℕ} (cursor : Cursor)
      → EndsAs script (replay_at first_state 0 (InOrder listed)) passed
      (replay_at (turns_of final items clients) turns cursor) ended → HasRunInTurn script listed old final.disk items
      (record { ended = ended; turns = turns; out = final.core.pool.out })
  unfolding has_run
  has_run_in_turn {turns = turns} cursor ends = record {
    run = has_run;
    turns = search;
  }

-- However they ended, the turns were taken one after the other.
pub ends_taken : (script : Script) (start now : Replay) (passed : List TurnTaken) (ended : Ended)
    → EndsAs script start passed now ended → HaveTaken script start.turns passed
ends_taken script start now passed Whole ends = (gone_taken ends.0).0
ends_taken script start now passed NoMemory ends = search arith
ends_taken script start now passed Limit ends = (gone_taken ends.0).0

-- As many were counted as were taken.
pub ends_counted : (script : Script) (start now : Replay) (passed : List TurnTaken) (ended : Ended) → start.taken ≡ 0
    → EndsAs script start passed now ended → now.taken ≡ length passed
ends_counted script start now passed Whole first ends = search (gone_counted, arith)
ends_counted script start now passed NoMemory first ends =
    omega (arith, ap (λ (r : Replay). r.taken) ends.0, ap (λ (l : List TurnTaken). length l) ends.1, first)
ends_counted script start now passed Limit first ends =
    let counted = gone_counted ends.0 in omega (arith, counted, first)

pub turns_counted : {old new : Disk} → {items : List Item} → {out : ℕ} → {script : Script} {listed : List ℕ}
    {run : HasRun script old new items out} (ran : Ran) → HasTakenTurns script listed run ran
    → ran.turns ≡ length run.passed
turns_counted {script = script} {listed = listed} {run = run} ran turns = search (ends_counted, arith)
