-- The journal of an only client follows the lines of the script, whoever's turns they were.
use Rattle.schedule.proofs.Words.{◌≡◌, ◌⊎◌, inl, inr, ℕ, zero, suc, ◌+◌, ◌-◌, ◌<◌, ◌≤◌, List, [], ◌∷◌, ◌++◌, length}
use Rattle.schedule.proofs.Words.{Option, Some, None, refl, sym, ◌∙◌, ap, subst, arith, slice_get, filter, map, not}
use Rattle.schedule.proofs.Words.{replicate, take, All, ◌==◌, ⊤, append-nil, length-map, length-replicate}
use Rattle.schedule.proofs.Words.{replicate_more, length-filter_both, slice_get_within, Answer, Kind, Entry, Item}
use Rattle.schedule.proofs.Words.{Group, Call, CallAt, GroupAt, IsAnswerOf, ScriptCall, Placed, Script, calls_of, Rests}
use Rattle.schedule.proofs.Words.{Copies, Turn, More, Busy, Done, Core, CoreState, point_after, new_or_before, Client}
use Rattle.schedule.proofs.Words.{UnderWay, Work, answered_of, HaveTaken, IsTurnOf, FollowsLines, callers_in, TurnState}
use Rattle.schedule.proofs.Words.{Turned, BeginsCall, BeginsWork, GoesOnBy, LeavesBegun, LeavesGoing, entry_for}
use Rattle.schedule.proofs.Words.{group_by, group_for, listed_for, listed_of, listed_on, begun_at, made_by, made_in}
use Rattle.schedule.proofs.Words.{Turns, TurnTaken, last_left, first_turns}
use Rattle.schedule.proofs.Words.{Bool}
use Rattle.std.proofs.lemmas.Option.{slice_get_past}
use Rattle.core_state.specs.declared.answer.Kind.TheVariants as kind
use Rattle.core_state.specs.declared.item.Group.{Group as GroupItem}
use Rattle.schedule.specs.declared.client.Work.TheVariants as work
use Rattle.schedule.specs.Works.{commit_in}
use Rattle.schedule.proofs.copy.Uses.{copy_plain}
use Rattle.schedule.proofs.turn.UsingEnds.{EndsPlainly}
use Rattle.schedule.proofs.turn.UsingWorks.{plain_listed}
use Rattle.schedule.proofs.run.Opened.{blank_is}
use Rattle.schedule.proofs.turn.Theirs.{some_is}

-- ---- a journal that follows the lines, and an item more

callers_more : (items more : List Item) → callers_in (items ++ more) ≡ callers_in items ++ callers_in more
callers_more [] more = refl
callers_more (item ∷ items) more = grind (arith, callers_more items more)

-- So many calls of an only client are answered, if each answer is of its call's kind.
record Follows (items : List Item) (answered : ℕ) : Type 0 where
  callers : callers_in items ≡ replicate answered 0
  reads : (index : ℕ) (entry : Entry) → CallAt items index entry → IsAnswerOf entry.kind entry.answer
      → entry.at ≡ point_after entry.kind index entry.answer
  groups : (index : ℕ) (group : GroupItem) → GroupAt items index group → group.after ≡ index

-- A call with a group speaks of no point.
no_point : (asked : Kind) (made : Option ℕ) (given : Answer) (number before now : ℕ) → group_by given made ≡ Some number
    → IsAnswerOf asked given → point_after asked before given ≡ point_after asked now given
no_point asked made given number before now is of = grind arith

module _ {items : List Item} {answered : ℕ} (follows : Follows items answered) where
  -- A group that has all items before it answers no call,
  follows_group : (group : GroupItem) → group.after ≡ length items → Follows (items ++ Group group ∷ []) answered
  follows_group group after = search (callers_more, append-nil, new_or_before, arith)

  -- and an entry of the client, which speaks of all items before it, answers one more.
  follows_call : (entry : Entry) → entry.caller ≡ 0
      → (IsAnswerOf entry.kind entry.answer → entry.at ≡ point_after entry.kind (length items) entry.answer)
      → Follows (items ++ Call entry ∷ []) (answered + 1)
  follows_call entry caller at = record {
    callers = search (callers_more, entry, answered, replicate_more, arith);
    reads = λ index other is. elim (new_or_before items (Call entry) index (Call other) is) [
      | inl last ↦ search arith
      | inr before ↦ follows.reads index other before.1
    ];
    groups = search (new_or_before, arith);
  }

-- ---- what stands between two turns

-- Nothing was listed since a call under way began, unless it is a copy that may have made groups since; nor was
-- anything since the commit began that a copy has under way.
abbrev AtEndOf : Work → ℕ → ℕ → Type 0
AtEndOf (work.Copy (Rests actor made)) at now = ⊤
AtEndOf (work.Copy (Copies run)) at now = ⊤
AtEndOf other at now = at ≡ now

-- A copy is a call of its kind.
abbrev IsCopyFor : Kind → Work → Type 0
IsCopyFor asked (work.Copy round) = asked ≡ kind.Copy
IsCopyFor asked other = ⊤

-- The client has answered the calls that it has begun, but for one under way, which began when all items had been
-- listed.
record GoesAlone (script : Script) (items : List Item) (client : Client) : Type 0 where
  follows : Follows items (answered_of client.begun client.under_way)
  few : client.begun ≤ length (calls_of script 0)
  under : (under : UnderWay) → client.under_way ≡ Some under
      → AtEndOf under.work under.at (length items) × (1 ≤ client.begun)
  asked : (under : UnderWay) (call : ScriptCall) → client.under_way ≡ Some under
      → slice_get (calls_of script 0) (client.begun - 1) ≡ Some call → IsCopyFor call.kind under.work

-- ---- a turn

-- What began when all items had been listed is at their end, whatever it does.
at_end : (does : Work) {at now : ℕ} → at ≡ now → AtEndOf does at now
at_end does same = grind arith

-- A copy that has made a group rests.
made_rests : (does : Work) {number : ℕ} (at now : ℕ) → made_in does ≡ Some number → AtEndOf does at now
made_rests does at now is = grind arith

module _ (before after : CoreState) (call : ScriptCall) where
  -- A call that goes on is at their end as it was, or as its commit began,
  went_at_end : (does next : Work) (at now : ℕ) → GoesOnBy before after call does (More next) → AtEndOf does at now
      → AtEndOf next (begun_at (commit_in next) (commit_in does) at now) now
  went_at_end does next at now goes end = grind arith

  -- and the commit of a group that is listed began there.
  made_at_end : (does next : Work) (at : ℕ) {now number : ℕ} → GoesOnBy before after call does (More next)
      → made_in next ≡ Some number → AtEndOf does at now → begun_at (commit_in next) (commit_in does) at now ≡ now
  made_at_end does next at goes is end = grind arith

  -- What goes on is a copy if it was one.
  still_copy : (does next : Work) → GoesOnBy before after call does (More next) → IsCopyFor call.kind does
      → IsCopyFor call.kind next
  still_copy does next goes of = grind arith

  -- A call that ends began when all items had been listed, or is a copy, which is answered without a group, and speaks
  -- of no point.
  ends_right : (does : Work) {given : Answer} {at now : ℕ} → GoesOnBy before after call does (Done given)
      → AtEndOf does at now → IsCopyFor call.kind does → (at ≡ now) ⊎ (EndsPlainly given (made_by does)
      × (point_after call.kind at given ≡ point_after call.kind now given))
  ends_right does goes end of = grind (arith, copy_plain)

-- A call that begins is a copy where it is to be one.
begun_copy : (old new : Core) (devices actor : ℕ) (call : ScriptCall) (asked : Kind) (id : Option ℕ) (does : Work)
    → BeginsWork old new devices actor call asked id does → IsCopyFor asked does
begun_copy old new devices actor call asked id does begins = grind arith

module _ {script : Script} (before after : TurnState) (goes : GoesAlone script before.items before.client) where
  abbrev Now : List Item → Client → Type 0
  Now items client = GoesAlone script items client

  abbrev answered : ℕ
  answered = answered_of before.client.begun before.client.under_way

  moved : {items : List Item} {client : Client} → after.items ≡ items → after.client ≡ client → Now items client
      → Now after.items after.client
  moved items_are client_is now = search arith

  answered_by : {under : Option UnderWay} → before.client.under_way ≡ under
      → answered ≡ answered_of before.client.begun under
  answered_by is = cc

  -- The call goes on, and lists no answer,
  goes_on_from : {begun : ℕ} {under : UnderWay} {call : ScriptCall} {items : List Item} → Follows items answered
      → begun - 1 ≡ answered → 1 ≤ begun → begun ≤ length (calls_of script 0)
      → AtEndOf under.work under.at (length items) → slice_get (calls_of script 0) (begun - 1) ≡ Some call
      → IsCopyFor call.kind under.work → Now items (record { begun = begun; under_way = Some under })
  goes_on_from {begun = begun} {under = under} {call} {items} follows counted some few began is of = grind arith

  -- or is answered.
  ends_as : {begun : ℕ} (items : List Item) → Follows items (answered + 1) → begun ≡ answered + 1
      → begun ≤ length (calls_of script 0) → Now items (record { begun = begun; under_way = None })
  ends_as {begun} items follows counted few = grind arith

  -- An answer alone,
  answers_alone : (call : ScriptCall) (number : ℕ) {begun : ℕ} (answer : Answer) → begun ≡ answered + 1
      → begun ≤ length (calls_of script 0)
      → Now (before.items ++ Call (entry_for call 0 number (length before.items) answer) ∷ [])
      (record { begun = begun; under_way = None })
  answers_alone call number answer counted few = search (ends_as, follows_call, counted, few)

  -- or after its group.
  answers_listed : (core : Core) (call : ScriptCall) (number : ℕ) {begun : ℕ} (made : Option ℕ) (given : Answer)
      → begun ≡ answered + 1 → begun ≤ length (calls_of script 0)
      → Now (listed_for core before.items (length before.items) (entry_for call 0 number (length before.items) given)
      made given) (record { begun = begun; under_way = None })
  answers_listed core call number {begun = begun} made given counted few = by (group_by given made) refl
    where
      entry : Entry
      entry = entry_for call 0 number (length before.items) given

      by : (group : Option ℕ) → group_by given made ≡ group
          → Now (listed_of core.pool.uber.reflow before.items (length before.items) entry group)
          (record { begun = begun; under_way = None })
      by None is = answers_alone call number given counted few
      by (Some group) is = ends_as _ (search (follows_call, follows_group, entry, no_point)) counted few

  begins : (turn : Turn Work) (call : ScriptCall) → before.client.under_way ≡ None
      → slice_get (calls_of script 0) before.client.begun ≡ Some call
      → BeginsCall before.state.core after.state.core before.state.disk.devices 0 call turn
      → LeavesBegun 0 call before after turn → Now after.items after.client
  begins (More does) call idle is did leaves = moved leaves.0 leaves.1 (goes_on_from
      goes.follows (omega (arith, answered_by idle)) (omega arith) (search (slice_get_within, arith))
      (at_end does refl) (let same : before.client.begun ≡ before.client.begun + 1 - 1 = omega arith in
      rw same at is) (search begun_copy))
  begins (Busy by) call idle is did leaves = moved leaves.0 leaves.1 goes
  begins (Done answer) call idle is did leaves = moved leaves.0 leaves.1
      (answers_alone call (before.client.begun + 1) answer (let counted = answered_by idle in omega (arith, counted))
      (let low = slice_get_within (calls_of script 0) before.client.begun call is in omega (arith, low)))

  -- A call goes on, and lists the group that it made, if it made one, or is answered.
  goes_further : (turn : Turn Work) (call : ScriptCall) (under : UnderWay) → before.client.under_way ≡ Some under
      → slice_get (calls_of script 0) (before.client.begun - 1) ≡ Some call
      → GoesOnBy before.state after.state call under.work turn
      → LeavesGoing 0 call before after under turn → Now after.items after.client
  goes_further (More does) call under going is did leaves = moved leaves.0 leaves.1 (by (made_in does) refl)
    where
      has : AtEndOf under.work under.at (length before.items) × (1 ≤ before.client.begun)
      has = goes.under under going

      began : ℕ
      began = begun_at (commit_in does) (commit_in under.work) under.at (length before.items)

      still : IsCopyFor call.kind does
      still = still_copy before.state after.state call under.work does did (goes.asked under call going is)

      by : (made : Option ℕ) → made_in does ≡ made
          → Now (listed_on after.state.core.pool.uber.reflow before.items began made)
          (record { begun = before.client.begun; under_way = Some (record { at = began; work = does }) })
      by None none = goes_on_from goes.follows (cc) has.1 goes.few (search (went_at_end, arith)) is still
      by (Some number) made =
          goes_on_from (follows_group goes.follows (group_for after.state.core began number)
          (search (made_at_end, arith))) (sym (answered_by going)) has.1 goes.few (search made_rests) is still
  goes_further (Busy by) call under going is did leaves = absurd leaves
  goes_further (Done answer) call under going is did leaves = elim
      (ends_right before.state after.state call under.work did
      (goes.under under going).0 (goes.asked under call going is)) [
        | inl now ↦ moved (leaves.0 ∙ ap (λ (n : ℕ). listed_for after.state.core before.items n
            (entry_for call 0 before.client.begun n answer) (made_by under.work) answer) now) leaves.1
            (answers_listed after.state.core call before.client.begun (made_by under.work) answer counted goes.few)
        | inr plain ↦ moved (leaves.0 ∙ plain_listed after.state.core before.items under.at
            (entry_for call 0 before.client.begun under.at answer) plain.0 ∙ (let point = plain.1 in cc)) leaves.1
            (answers_alone call before.client.begun answer counted goes.few)
      ]
    where
      counted : before.client.begun ≡ answered + 1
      counted = let some = (goes.under under going).1 in let same = answered_by going in omega (arith, some, same)

  turn_alone : Turned (calls_of script 0) 0 before after → Now after.items after.client
  turn_alone turned = grind (arith, begins, goes_further)

-- ---- turn after turn

-- There is an only client, or none, and the journal follows the lines.
record AreAlone (script : Script) (turns : Turns) : Type 0 where
  few : slice_get turns.clients 1 ≡ None
  answered : ℕ
  follows : Follows turns.items answered
  within : answered ≤ length (calls_of script 0)
  each : (client : Client) → slice_get turns.clients 0 ≡ Some client → GoesAlone script turns.items client

none_second : (clients : List Client) → slice_get clients 1 ≡ None → length clients ≤ 1
none_second [] none = omega arith
none_second (only ∷ []) none = omega arith
none_second (first ∷ second ∷ clients) none = cc

one_alone : (script : Script) (actor : ℕ) (before after : Turns) → IsTurnOf script actor before after
    → AreAlone script before → AreAlone script after
one_alone script actor before after turn alone =
    let few = none_second before.clients alone.few in
    let within = slice_get_within before.clients actor turn.client turn.there in
    let first : actor ≡ 0 = omega (arith, few, within) in
    let now = turn_alone (record { state = before.state; items = before.items; client = turn.client })
    (record { state = after.state; items = after.items; client = turn.now }) (alone.each turn.client (cc))
    (rw first at turn.turned) in
    record {
      few = turn.changes.others 1 (λ one. omega (arith, first, one)) ∙ alone.few;
      answered = answered_of turn.now.begun turn.now.under_way;
      follows = now.follows;
      within = let few = now.few in grind arith;
      each = λ other is. rw (let same : turn.now ≡ other = some_is (sym turn.changes.there ∙ rw (← first) at is) in same) at now;
    }

all_alone : {script : Script} {start : Turns} (passed : List TurnTaken) → HaveTaken script start passed
    → AreAlone script start → AreAlone script (last_left start passed)
all_alone [] taken alone = alone
all_alone (turn ∷ later) taken alone = all_alone later taken.1 (search (one_alone, alone))

-- ---- a whole run

-- Where there is an only client each call is its.
firsts : {most : ℕ} → most ≤ 1 → (calls : List Placed) (count : ℕ)
    → All (λ (placed : Placed). placed.actor < most) calls
    → count ≤ length calls → take count (map (λ (placed : Placed). placed.actor) calls) ≡ replicate count 0
firsts one [] zero actors few = refl
firsts one [] (suc count) actors few = absurd (omega arith)
firsts one (first ∷ calls) zero actors few = refl
firsts one (first ∷ calls) (suc count) actors few =
    let same : first.actor ≡ 0 = omega (arith, actors 0 first (omega arith)) in
    cc (firsts one calls count (λ place other low. actors (suc place) other (omega arith)) (omega (arith, few)))

its_calls : (script : Script) → length (calls_of script 0) ≤ length script.calls
its_calls script =
    let its : Placed → Bool = λ placed. placed.actor == 0 in
    omega (
      arith,
      length-filter_both its (λ placed. not (its placed)) (λ placed. refl) script.calls,
      length-map (filter its script.calls) (λ (placed : Placed). placed.call),
    )

-- A run begins with the opening's group,
begins_alone : (script : Script) {start : CoreState} (opened : GroupItem) → script.clients ≤ 1 → opened.after ≡ 0
    → AreAlone script (first_turns script start opened)
begins_alone script opened one first = record {
  few = search (slice_get_past, length-replicate);
  answered = 0;
  follows = nothing;
  within = omega arith;
  each = λ client there. rw (blank_is script.clients 0 there) (search (nothing, arith));
}
  where
    nothing : Follows (Group opened ∷ []) 0
    nothing = record {
      callers = refl;
      reads = λ index entry there of. grind arith;
      groups = λ index group there. grind arith;
    }

-- and goes on by the lines to its end, whatever turns are taken.
pub follows_lines : (script : Script) (start : CoreState) (opened : GroupItem) (passed : List TurnTaken)
    (items : List Item) → HaveTaken script (first_turns script start opened) passed
    → (last_left (first_turns script start opened) passed).items ≡ items → opened.after ≡ 0
    → ((index : ℕ) (entry : Entry) → CallAt items index entry → IsAnswerOf entry.kind entry.answer)
    → script.clients ≤ 1 → All (λ (placed : Placed). placed.actor < script.clients) script.calls
    → FollowsLines script items
follows_lines script start opened passed items taken are first fits one actors = record {
  answered = alone.answered;
  callers = follows.callers ∙ sym (firsts one script.calls alone.answered actors
      (let few = alone.within in let its = its_calls script in omega (arith, few, its)));
  reads = λ index entry there. follows.reads index entry there (fits index entry there);
  groups = follows.groups;
}
  where
    alone : AreAlone script (last_left (first_turns script start opened) passed)
    alone = all_alone passed taken (begins_alone script opened one first)

    follows : Follows items alone.answered
    follows = subst (λ (l : List Item). Follows l alone.answered) are alone.follows
