-- What reads are answered, and what their end leaves.
use Rattle.schedule.proofs.Words.{◌≡◌, inl, inr, ⊎_elim, ℕ, ◌≤◌, List, [], ◌∷◌, ◌++◌, length, Option, Some, None, arith}
use Rattle.schedule.proofs.Words.{option_and_then, cases_lt, Disk, EndsHold, rows_of, Gains, count_of, Answer, Kind}
use Rattle.schedule.proofs.Words.{Entry, Item, Map, PutBytes, map_after, map_after_answer, IsAnswerOf, Kept, Setting}
use Rattle.schedule.proofs.Words.{World, CommitRun, IsReadRight, ScriptCall, point_after, read_point, GetRun, Solved}
use Rattle.schedule.proofs.Words.{Done, Core, CoreState, IsCore, IsReadKind, HasTooManyOut, IsGetRefused, ReadsTurn}
use Rattle.schedule.proofs.Words.{SolvesGet, AnswersSolved, EndsGet, HoldingCall, Reading, AreCallsOf, Stands}
use Rattle.schedule.proofs.Words.{gains_item, get_tells, get_ends_stands, get_solves_stands, get_ends_calls}
use Rattle.schedule.proofs.Words.{get_solves_calls, get_shared, keeps_ended, IsRightNext, AllBelow, EndsReading}
use Rattle.schedule.proofs.Words.{entry_for, listed_for, undamaged}
use Rattle.core_state.specs.declared.answer.Answer.TheVariants as answer
use Rattle.core_state.specs.declared.item.Item.TheVariants.{Call as CallItem}
use Rattle.schedule.proofs.turn.Fitting.{NoLimit, TellsOut}
use Rattle.schedule.proofs.turn.RightNext.{read_right, read_cut_right, same_out}
use Rattle.schedule.proofs.turn.LeavesPool.{LeavesPool, leaves_pool}
use Rattle.schedule.proofs.turn.Lists.{gains_first}

-- ---- answers

-- the point that a read's answer speaks of
point_read : (asked : Kind) (at : ℕ) (given : Answer) → IsReadKind asked
    → point_after asked at given ≡ read_point at given
point_read asked at given is = grind arith

-- An answer to a read makes no group,
pub listed_read : (core : Core) (items : List Item) (at : ℕ) (entry : Entry) (made : Option ℕ) (asked : Kind)
    (given : Answer) → IsReadKind asked → IsAnswerOf asked given
    → listed_for core items at entry made given ≡ items ++ CallItem entry ∷ []
listed_read core items at entry made asked given is of = grind arith

-- and leaves the map.
pub map_read : (handed : PutBytes) {map : Map} (entry : Entry) (asked : Kind) (given : Answer) → IsReadKind asked
    → IsAnswerOf asked given → map_after_answer handed map entry given ≡ map
map_read handed entry asked given is of = grind arith

-- An answer to a read that began after some of the items, all of its caller's among them, is right where it tells of
-- the map of that time, or was cut short.
pub right_read : (world : World) {items : List Item} {disk : Disk} (call : ScriptCall) (actor : ℕ) {number at : ℕ}
    (given : Answer) → IsReadKind call.kind → 1 ≤ at → at ≤ length items → AllBelow items actor at
    → IsReadRight (option_and_then (map_after world.handed world.opening items at) call.id) call.kind given
    → IsRightNext world items (entry_for call actor number at given) disk
right_read world call actor (answer.TooManyFailed out) is some within below right = search (read_cut_right, point_read)
right_read world call actor answer.NoMemory is some within
    below right = search (read_cut_right, point_read)
right_read world call actor answer.Damaged is some within below right = absurd right
right_read world {items = items} {disk = disk} call actor {number = number} {at = at} other is some within below right =
    search (read_right, point_read)

-- Why a read was refused is an answer to it,
pub refused_of : (core : Core) (id : ℕ) (asked : Kind) (given : Answer) → IsReadKind asked → IsGetRefused core id given
    → IsAnswerOf asked given
refused_of core id asked given is refused = grind arith

-- and right, whatever the map has, where that has nothing at the id if it says so.
pub refused_right : (core : Core) (id : ℕ) {held : Option (List ℕ)} (asked : Kind) (given : Answer)
    → (given ≡ answer.Absent → held ≡ None) → IsGetRefused core id given → IsReadRight held asked given
refused_right core id asked given none refused = grind arith

-- What was solved is answered so, and never that too many devices are out or of a limit.
solved_of : (run : GetRun) (solved : Solved) {given : Answer} → IsReadKind run.kind → AnswersSolved run solved given
    → IsAnswerOf run.kind given × ((out : ℕ) → given ≡ answer.TooManyFailed out → ⊥) × NoLimit given
solved_of run solved is answers = grind arith

-- ---- the end of a read

-- What a read's end leaves: the pool, the other calls, and all that stands; and what it is answered.
pub record EndsRead (before after : CoreState) (run : GetRun) (given : Answer) (left calls : List HoldingCall) : Type 0
  where
    pub leaves : LeavesPool before.core after.core
    pub answer_is : IsAnswerOf run.kind given
    pub too_many : TellsOut before.core given
    pub no_limit : NoLimit given
    pub calls_are : AreCallsOf after.core left
    pub stands : (setting : Setting) (last : Kept) (begun : List Kept) (map : Map) (contents : ℕ → List ℕ)
        (commit : Option CommitRun) → Stands setting last begun map undamaged contents calls commit before
        → Stands setting last begun map undamaged contents left commit after
        × IsReadRight (Some (contents run.hold.actor)) run.kind given

-- The pool is left where only its hold has ended.
read_leaves : {old new : Core} {run : GetRun} {left calls : List HoldingCall} → new ≡ record old { holds = new.holds }
    → EndsHold old.holds new.holds run.hold → Gains left calls (Reading run) → AreCallsOf old calls → LeavesPool old new
read_leaves {old} {new} {run} {left} {calls} rest ends gains are = leaves_pool old new old.pool.blocks new.holds rest
    (keeps_ended old.pool.done old.holds new.holds run.hold
    (get_shared old run (are.each (Reading run) (gains_item left calls (Reading run) gains)).1) ends)

-- Too many devices are out,
stopped_ends : {before after : CoreState} {run : GetRun} {given : Answer} {left calls : List HoldingCall}
    → IsCore before.core → ReadsTurn before run after (Done given) → Gains left calls (Reading run)
    → AreCallsOf before.core calls → EndsRead before after run given left calls
stopped_ends core stops gains are = record {
  leaves = search read_leaves;
  answer_is = search arith;
  too_many = search (same_out, arith);
  no_limit = λ reached told. cc;
  calls_are = search get_ends_calls;
  stands = λ setting last begun map contents commit stands. (
    rw stops.1 (get_ends_stands core stops.0.rest stops.0.ends gains are stands),
    search arith,
  );
}

-- or it is answered as it was solved,
answered_ends : {before after : CoreState} {run : GetRun} {given : Answer} {left calls : List HoldingCall}
    → IsCore before.core → IsReadKind run.kind → EndsGet before.core run after.core (Done given)
    → after.disk ≡ before.disk → Gains left calls (Reading run) → AreCallsOf before.core calls
    → EndsRead before after run given left calls
answered_ends {before} {after} {run} {given} {left} {calls} core is ends disk gains are = record {
  leaves = read_leaves ends.rest ends.ends gains are;
  answer_is = search (solved_of, few, cases_lt, arith);
  too_many = search (same_out, solved_of, few, cases_lt, arith);
  no_limit = search (solved_of, few, cases_lt, arith);
  calls_are = get_ends_calls ends.rest ends.ends gains are;
  stands = λ setting last begun map contents commit stands. (
    rw disk (get_ends_stands core ends.rest ends.ends gains are stands),
    get_tells (contents run.hold.actor) before.core after.core before.disk run (Done given) is
        (stands.each (Reading run) (gains_item left calls (Reading run) gains)) ends,
  );
}
  where
    few : count_of before.core.pool.out ≤ before.core.pool.uber.parity → HasTooManyOut before.core → ⊥
    few low many = omega arith

-- where it may be solved just then.
solved_ends : {before after : CoreState} {run solved : GetRun} {given : Answer} {left calls : List HoldingCall}
    → IsCore before.core → SolvesGet run solved → run.read.row ≡ rows_of run.read.layout
    → Gains left calls (Reading run) → AreCallsOf before.core calls
    → EndsRead before after solved given left (Reading solved ∷ left) → EndsRead before after run given left calls
solved_ends {run = run} {solved} {given} {left} core solves whole gains are ends = record {
  leaves = ends.leaves;
  answer_is = search (same_kind, arith);
  too_many = ends.too_many;
  no_limit = ends.no_limit;
  calls_are = ends.calls_are;
  stands = λ setting last begun map contents commit stands.
      let done = ends.stands setting last begun map contents commit
      (search (get_solves_stands, gains_first, stands)) in search (same_kind, arith);
}
  where
    same_kind : solved.kind ≡ run.kind
    same_kind = cc

-- However it ends.
pub read_ends_so : {before after : CoreState} {run : GetRun} {given : Answer} {left calls : List HoldingCall}
    → IsCore before.core → IsReadKind run.kind → EndsReading before after run given
    → Gains left calls (Reading run) → AreCallsOf before.core calls → EndsRead before after run given left calls
read_ends_so {before} {after} {run} {given} {left} core is ending gains are = elim ending.ends [
  | inl stops ↦ stopped_ends core stops gains are
  | inr ended ↦ ⊎_elim
      (λ same. answered_ends core is (search arith) ending.disk gains are)
      (λ solves. let first = gains_first (Reading ended.0) left in
      solved_ends core solves ended.2 gains are (answered_ends core (search arith) ended.3 ending.disk first
      (get_solves_calls solves gains first are))) ended.1
]
