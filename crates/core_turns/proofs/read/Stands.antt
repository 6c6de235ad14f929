-- What stands between two turns, over the turns of reads.
use Rattle.core_turns.proofs.Words.{◌≡◌, ◌≢◌, ◌⊎◌, inl, inr, ⊎_elim, ℕ, ◌<◌, List, Option, Some, sym, ◌∙◌, ap, subst}
use Rattle.core_turns.proofs.Words.{Contains, Disk, Lawful, Unchanged, Hold, EndsHold, rows_of, Gains, Kind, Map, Kept}
use Rattle.core_turns.proofs.Words.{Setting, Nowhere, gains_old, gains_item, gains_cases, OnlyFailedGoOut, point_of}
use Rattle.core_turns.proofs.Words.{IsAtColumn, CommitRun, GetRun, PutRun, More, Core, IsCore, CoreState, at_disk}
use Rattle.core_turns.proofs.Words.{BeginsGet, HoldsGet, ReadsTurn, SolvesGet, HoldingCall, Putting, Reading, Damage}
use Rattle.core_turns.proofs.Words.{SetsContent, actor_of, HoldsCall, AreCallsOf, Stands, arith, refl, AreReadOfMap}
use Rattle.core_turns.proofs.Words.{found_id}
use Rattle.core_turns.proofs.state.Reads.{of_map_begun, of_map_fewer, reads_less, reads_on}
use Rattle.core_turns.proofs.free.TakenBack.{each_gained}
use Rattle.core_turns.proofs.state.Frames.{call_off_nowhere, off_nowhere, leaves_read}
use Rattle.core_turns.proofs.state.StandFrames.{groups_read, stands_frame}
use Rattle.core_turns.proofs.read.Laws.{get_finds, get_reads, get_solves, get_with_more}
use Rattle.core_turns.proofs.state.Holds.{KeepsAlone, keeps_ended, keeps_gained}
use Rattle.core_turns.proofs.read.Turns.{get_shared}
use Rattle.core_turns.proofs.read.Calls.{OnlyHolds}
use Rattle.core_turns.proofs.put.Stands.{stands_on, stands_with}

-- Only holds came or went, and who copies sectors, attaches a device or scrubs.
abbrev pub OnlyHeld : Core → Core → Type 0
OnlyHeld old new = new ≡ record old {
  holds = new.holds;
  copying = new.copying;
  attaching = new.attaching;
  scrubbing = new.scrubbing;
}

-- No put is among these calls that was not among those.
abbrev pub AddsNoPut : List HoldingCall → List HoldingCall → Type 0
AddsNoPut calls nexts = (run : PutRun) → Contains nexts (Putting run) → Contains calls (Putting run)

-- A read that comes adds none,
read_adds : {left calls : List HoldingCall} {run : GetRun} → Gains left calls (Reading run) → AddsNoPut left calls
read_adds {left} {calls} {run} gains put listed = ⊎_elim
    (λ (same : Reading run ≡ Putting put). cc)
    (λ was. was) (gains_cases left calls (Reading run) (Putting put) gains listed)

-- and a call that ends none either.
pub call_loses : {left calls : List HoldingCall} {call : HoldingCall} → Gains left calls call → AddsNoPut calls left
call_loses gains put listed = search gains_old

module _ {setting : Setting} {last : Kept} {begun : List Kept} {map : Map} {damage : Damage} {contents : ℕ → List ℕ}
    {commit : Option CommitRun} where
  -- What stands, where only holds came or went and reads are told anew.
  pub stands_held : {nows : ℕ → List ℕ} {calls nexts : List HoldingCall} (old new : Core) (disk : Disk) → IsCore old
      → OnlyHeld old new → KeepsAlone old.pool.done old.holds new.holds → AddsNoPut calls nexts
      → (AreReadOfMap old.pool.blocks.table.entries map contents calls
      → AreReadOfMap old.pool.blocks.table.entries map nows nexts)
      → ((call : HoldingCall) → Contains nexts call → HoldsCall damage (at_disk new disk) (nows (actor_of call)) call
      ⊎ HoldsCall damage (at_disk old disk) (nows (actor_of call)) call)
      → Stands setting last begun map damage contents calls commit (at_disk old disk)
      → Stands setting last begun map damage nows nexts commit (at_disk new disk)
  stands_held old new disk is core alone adds of_map each stands =
      stands_on (record { rest = cc; parity = cc; births = cc }) alone
      (λ past group at none spares. (rw core none, λ put listed. spares put (adds put listed)))
      (λ of. rw core (of_map of)) (rw core stands.holds) each stands

  -- A read that begins is of the block that the map has at its id.
  pub get_begins_stands : {old new : Core} {disk : Disk} {run : GetRun} {left : List HoldingCall} (actor id : ℕ)
      (asked : Kind) → IsCore old → BeginsGet old new actor asked id (More run)
      → ((call : HoldingCall) → Contains left call → actor_of call ≢ actor)
      → Stands setting last begun map damage contents left commit (at_disk old disk)
      → (content : List ℕ) × (map id ≡ Some content)
      × ((nows : ℕ → List ℕ) (calls : List HoldingCall) → SetsContent contents nows actor content
      → Gains left calls (Reading run) → Stands setting last begun map damage nows calls commit (at_disk new disk))
  get_begins_stands {old} {new} {disk} {run} actor id asked is begins apart stands =
      let found = get_finds damage.left map old new disk actor id asked (More run) stands.holds begins in (
        found.0,
        found.1,
        λ nows calls sets gains. stands_held old new disk is (cc)
            (keeps_gained old.pool.done old.holds new.holds run.hold (cc) begins.8 begins.9) (read_adds gains)
            (of_map_begun old.pool.blocks.table.entries map gains refl (ap map (found_id old.pool.blocks.table.entries id run.entry begins.1) ∙ found.1
            ∙ ap (λ (c : List ℕ). Some c) (sym (ap nows (ap (λ (h : Hold). h.actor) begins.4) ∙ sets.own)))
            (λ call was. sets.others (actor_of call) (apart call was)))
            (each_gained gains (inl (rw (ap nows (ap (λ (h : Hold). h.actor) begins.4) ∙ sets.own)
            (get_with_more damage.left damage.listed found.0 (at_disk new disk) run stands.damage_is.within found.2)))
            (λ call was. inr (rw (sets.others (actor_of call) (apart call was)) (stands.each call was)))) stands,
      )

  -- It reads a column more,
  pub get_reads_stands : {before after : CoreState} {run next : GetRun} {left calls nexts : List HoldingCall}
      → IsCore before.core → IsAtColumn run.read → run.read.row < rows_of run.read.layout
      → ReadsTurn before run after (More next) → Unchanged before.disk after.disk
      → OnlyFailedGoOut (point_of before.core.pool.out before.disk) (point_of after.core.pool.out after.disk)
      → Lawful after.disk → Gains left calls (Reading run) → Gains left nexts (Reading next)
      → AreCallsOf before.core calls → Stands setting last begun map damage contents calls commit before
      → Stands setting last begun map damage contents nexts commit after
  get_reads_stands {before} {after} {run} {next} {left} {calls} is place low reads unchanged outs lawful gains
      again are stands =
      let listed = gains_item left calls (Reading run) gains in
      let leaves = leaves_read before after is.is.front reads.2 outs.still unchanged in
      let still = stands_frame Nowhere before after leaves (search call_off_nowhere) (search off_nowhere) reads.2
      unchanged.goes_on.later (search groups_read) stands in
      stands_with (search (call_loses, read_adds, arith))
      (reads_on (ap (λ (r : GetRun). Some r.entry) reads.1) (ap (λ (r : GetRun). r.hold.actor) reads.1) gains again)
      (each_gained again (subst (λ (actor : ℕ). HoldsGet damage.listed (contents actor) after next)
      (sym (ap (λ (r : GetRun). r.hold.actor) reads.1)) (get_reads before after (More next) is.is.front
      (are.each (Reading run) listed).1 place low unchanged outs (stands.each (Reading run) listed) reads))
      (search (gains_old, still.each, arith))) still

  -- and is solved.
  pub get_solves_stands : {state : CoreState} {run next : GetRun} {left calls nexts : List HoldingCall}
      → IsCore state.core → SolvesGet run next → run.read.row ≡ rows_of run.read.layout → Gains left calls (Reading run)
      → Gains left nexts (Reading next) → AreCallsOf state.core calls
      → Stands setting last begun map damage contents calls commit state
      → Stands setting last begun map damage contents nexts commit state
  get_solves_stands {state} {run} {next} {left} {calls} is solves whole gains again are stands =
      let listed = gains_item left calls (Reading run) gains in
      stands_with (search (call_loses, read_adds, arith))
      (reads_on (ap (λ (r : GetRun). Some r.entry) solves.rest) (ap (λ (r : GetRun). r.hold.actor) solves.rest) gains
      again)
      (each_gained again (subst (λ (actor : ℕ). HoldsGet damage.listed (contents actor) state next)
      (sym (ap (λ (r : GetRun). r.hold.actor) solves.rest)) (get_solves damage.listed (contents run.hold.actor) state run next whole
      (are.each (Reading run) listed).1 (stands.each (Reading run) listed) solves))
      (search (gains_old, stands.each, arith))) stands

  -- A read is gone, and its hold with it.
  pub get_ends_stands : {old new : Core} {disk : Disk} {run : GetRun} {left calls : List HoldingCall} → IsCore old
      → OnlyHolds old new → EndsHold old.holds new.holds run.hold → Gains left calls (Reading run)
      → AreCallsOf old calls → Stands setting last begun map damage contents calls commit (at_disk old disk)
      → Stands setting last begun map damage contents left commit (at_disk new disk)
  get_ends_stands {old} {new} {disk} {run} {left} {calls} is core ends gains are stands =
      stands_held old new disk is (cc) (keeps_ended old.pool.done old.holds new.holds run.hold
      (get_shared old run (are.each (Reading run) (gains_item left calls (Reading run) gains)).1) ends)
      (call_loses gains) (of_map_fewer map refl (reads_less gains))
      (λ call listed. inr (stands.each call (search gains_old))) stands
