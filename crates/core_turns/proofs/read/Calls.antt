-- Which calls are under way over each turn of a read.
use Rattle.core_turns.proofs.Words.{◌≡◌, ◌≢◌, inl, inr, ℕ, List, sym, ◌∙◌, ap, arith, Contains, Hold, EndsHold, Gains}
use Rattle.core_turns.proofs.Words.{Kind, Scrubbing, found_listed, gains_item, outs_by_step, GetRun, More, Core, IsCore}
use Rattle.core_turns.proofs.Words.{CoreState, IsReadKind, IsGetOf, BeginsGet, ReadsTurn, SolvesGet, HoldingCall}
use Rattle.core_turns.proofs.Words.{Putting, Reading, Copying, actor_of, HaveNoneInCommon, AreCallsOf}
use Rattle.core_turns.proofs.state.Calls.{range_listed, ranges_read, calls_gain, calls_lose, calls_swap}
use Rattle.core_turns.proofs.state.Frames.{KeepsCalls, calls_stay}
use Rattle.core_turns.proofs.read.Turns.{get_of_more, begins_holds, solved_of}

-- Only holds came or went in this core.
abbrev pub OnlyHolds : Core → Core → Type 0
OnlyHolds old new = new ≡ record old { holds = new.holds }

pub calls_held : (old new : Core) → OnlyHolds old new → KeepsCalls old new
calls_held old new core = search arith

-- No put has a sector of the block of a read that begins, which stands in the table.
pub read_begins_beside : {old new : Core} {run : GetRun} {left : List HoldingCall} (actor id : ℕ) (asked : Kind)
    → IsCore old → BeginsGet old new actor asked id (More run) → AreCallsOf old left → (other : HoldingCall)
    → Contains left other → HaveNoneInCommon (Reading run) other
read_begins_beside {old} {run = run} {left} actor id asked is begins are = none_in_common
  where
    none_in_common : (other : HoldingCall) → Contains left other → HaveNoneInCommon (Reading run) other
    none_in_common (Reading other) listed = inl (tt, tt)
    none_in_common (Scrubbing other) listed = inl (tt, tt)
    none_in_common (Copying other) listed = inr (λ sector here there. begins.8 other.hold
        (are.each (Copying other) listed).holds (record {
          overlaps = search arith;
          exclusive = inl (ap (λ (h : Hold). h.kind) (are.each (Copying other) listed).hold_is);
        }))
    none_in_common (Putting put) listed = inr (λ sector here there.
        (are.under.each put.range (range_listed left put listed)).clear run.entry (search (found_listed, arith)) sector
        (rw (are.each (Putting put) listed).hold_is at there) (rw (is.is.parity, is.is.births) (rw begins.4 at here)))

-- A read begins.
pub get_begins_calls : {old new : Core} {run : GetRun} {left calls : List HoldingCall} (actor id : ℕ) (asked : Kind)
    → IsReadKind asked → IsCore old → BeginsGet old new actor asked id (More run)
    → ((call : HoldingCall) → Contains left call → actor_of call ≢ actor) → Gains left calls (Reading run)
    → AreCallsOf old left → AreCallsOf new calls
get_begins_calls {old} {new} {run} {left} {calls} actor id asked reads is begins apart gains are =
    calls_gain gains (calls_held old new begins.6)
    (λ hold listed. begins_holds old new actor id asked (More run) hold begins listed)
    (rw (begins.6, ranges_read gains) are.under) (rw begins.2 reads, begins.7)
    (λ other listed. record {
      actors = λ same. apart other listed (sym same ∙ ap (λ (h : Hold). h.actor) begins.4);
      apart = read_begins_beside actor id asked is begins are other listed;
    }) are

-- One that goes on has no more in common with others than before.
read_apart : (run next : GetRun) (other : HoldingCall) → next.hold ≡ run.hold → HaveNoneInCommon (Reading run) other
    → HaveNoneInCommon (Reading next) other
read_apart run next other hold apart = rw hold apart

-- Its hold is the one that it had,
read_swaps : {core : Core} {run next : GetRun} {left calls nexts : List HoldingCall} → next.hold ≡ run.hold
    → next.read.layout ≡ run.read.layout → IsReadKind next.kind × IsGetOf core next → Gains left calls (Reading run)
    → Gains left nexts (Reading next) → AreCallsOf core calls → AreCallsOf core nexts
read_swaps hold layout of gains again are =
    calls_swap gains again hold (search read_apart) of (rw (ranges_read again, ← ranges_read gains) are.under) are

-- when one more column is read,
pub get_reads_calls : {before after : CoreState} {run next : GetRun} {left calls nexts : List HoldingCall}
    → ReadsTurn before run after (More next) → Gains left calls (Reading run) → Gains left nexts (Reading next)
    → AreCallsOf before.core calls → AreCallsOf after.core nexts
get_reads_calls {before} {after} {run} {next} {left} {calls} reads gains again are =
    let of = are.each (Reading run) (gains_item left calls (Reading run) gains) in
    read_swaps (cc) reads.3.on.layout_is (search arith, search (get_of_more, arith))
    gains again (calls_stay before.core after.core calls reads.2 (search (outs_by_step, arith)) are)

-- and when the block is solved.
pub get_solves_calls : {core : Core} {run next : GetRun} {left calls nexts : List HoldingCall} → SolvesGet run next
    → Gains left calls (Reading run) → Gains left nexts (Reading next) → AreCallsOf core calls → AreCallsOf core nexts
get_solves_calls {core} {run} {next} {left} {calls} solves gains again are =
    let of = are.each (Reading run) (gains_item left calls (Reading run) gains) in
    read_swaps (cc) (cc) (search arith, solved_of core run next solves of.1) gains again are

-- A read's hold ends, and the read with it.
pub get_ends_calls : {old new : Core} {run : GetRun} {left calls : List HoldingCall} → OnlyHolds old new
    → EndsHold old.holds new.holds run.hold → Gains left calls (Reading run) → AreCallsOf old calls
    → AreCallsOf new left
get_ends_calls {old} {new} core ends gains are =
    calls_lose gains (calls_held old new core) ends (rw (core, ← ranges_read gains) are.under) are
