-- Room in a journal for the answers of calls.
use Rattle.schedule.proofs.Words.{◌≡◌, ℕ, ◌+◌, ◌*◌, ◌≤◌, ◌<◌, ◌≢◌, List, [], ◌∷◌, length, Option, Some, None, zero}
use Rattle.schedule.proofs.Words.{suc, refl, ◌∙◌, ap, arith, ne_eqb, slice_set, filter, slice_get, ◌==◌, cases_eq}
use Rattle.schedule.proofs.Words.{length-map, Answer, Entry, ScriptCall, Placed, Script, More, Done, Client, UnderWay}
use Rattle.schedule.proofs.Words.{Work, HasRoomForAnswers, MakesRoom, UsesRoom, all_owed, calls_by, owed, taken_for}
use Rattle.schedule.proofs.Words.{taken_of, blank_clients, entry_for, group_by, made_by, made_in}

-- A group takes room for one item.
pub taken_one : (made : Option ℕ) → taken_for made ≤ 1
taken_one made = grind arith

-- A client takes no more room than its calls have.
pub taken_few : {calls : ℕ} {client : Client} → client.begun ≤ calls
    → ((under : UnderWay) → client.under_way ≡ Some under → 1 ≤ client.begun) → taken_of client ≤ 2 * calls
taken_few few some = grind (arith, taken_one)

-- ---- a turn of one client

-- Room for what a client's next call lists is there,
pub room_to_begin : (calls room : ℕ) (client : Client) → client.under_way ≡ None → owed calls client ≤ room
    → client.begun < calls → 2 ≤ room
room_to_begin calls room client idle enough low = search arith

-- and none is taken of it where that call begins,
pub begun_uses : (room : ℕ) (client : Client) (under : UnderWay) → client.under_way ≡ None
    → UsesRoom room room client (record { begun = client.begun + 1; under_way = Some under })
begun_uses room client under idle = search arith

-- or that of its answer where it is answered at once.
pub answered_uses : {before : ℕ} (after : ℕ) (client : Client) {left : Option UnderWay} → client.under_way ≡ None
    → left ≡ None → before ≤ after + 1
    → UsesRoom before after client (record { begun = client.begun + 1; under_way = left })
answered_uses after client idle none uses = search arith

-- The entry of an answer, with the group that was made, takes as much room as these.
pub listed_room : (call : ScriptCall) {actor number : ℕ} (at : ℕ) {entry : Entry} {group : Option ℕ} {given : Answer}
    {made : Option ℕ} → entry ≡ entry_for call actor number at given → group ≡ made
    → taken_for (group_by entry.answer group) ≡ taken_for (group_by given made)
listed_room call at entry_is made_is i = taken_for (group_by (entry_is i).answer (made_is i))

-- A call under way of a client that has room for its calls.
module _ (calls before room : ℕ) (client : Client) (under : UnderWay) (going : client.under_way ≡ Some under)
    (some : 1 ≤ client.begun) where
  -- Once room was made there is some for the group that it lists,
  pub room_to_go : (next : Work) → client.begun ≤ calls → owed calls client ≤ before
      → MakesRoom under.work before room (More next) → taken_for (made_in next) ≤ room
  room_to_go next few enough makes = search arith

  -- or for its answer and the group that comes with it,
  pub room_to_end : (given : Answer) → client.begun ≤ calls → owed calls client ≤ before
      → MakesRoom under.work before room (Done given) → taken_for (group_by given (made_by under.work)) + 1 ≤ room
  room_to_end given few enough makes = search arith

  -- and no more is taken than what these need.
  pub going_uses : (after at : ℕ) (next : Work) → MakesRoom under.work before room (More next)
      → room ≤ after + taken_for (made_in next) → UsesRoom before after client (record {
        begun = client.begun;
        under_way = Some (record { at = at; work = next });
      })
  going_uses after at next makes uses = search arith

  pub ended_uses : (after : ℕ) (given : Answer) {left : Option UnderWay} → left ≡ None
      → MakesRoom under.work before room (Done given)
      → room ≤ after + (taken_for (group_by given (made_by under.work)) + 1)
      → UsesRoom before after client (record { begun = client.begun; under_way = left })
  ended_uses after given none makes uses = search arith

-- ---- one client among all

-- What its calls have still is among what all have,
owed_few : (calls : ℕ → ℕ) (clients : List Client) (index : ℕ) {client : Client}
    → slice_get clients index ≡ Some client → owed (calls index) client ≤ all_owed calls clients
owed_few calls [] index there = cc
owed_few calls (first ∷ clients) zero there = search arith
owed_few calls (first ∷ clients) (suc index) there =
    omega (arith, owed_few (λ actor. calls (suc actor)) clients index there)

-- and where it has more or less, all have as much more or less.
owed_set : (calls : ℕ → ℕ) (clients : List Client) (place : ℕ) (was now : Client) → slice_get clients place ≡ Some was
    → all_owed calls (slice_set clients place now) + owed (calls place) was
    ≡ all_owed calls clients + owed (calls place) now
owed_set calls [] place was now there = cc
owed_set calls (first ∷ clients) zero was now there = search arith
owed_set calls (first ∷ clients) (suc place) was now there =
    omega (arith, owed_set (λ actor. calls (suc actor)) clients place was now there)

-- ---- turns

-- There is room for what a client's calls have still.
pub room_left : {script : Script} (actor : ℕ) {room : ℕ} {clients : List Client} {client : Client}
    → HasRoomForAnswers script clients room → slice_get clients actor ≡ Some client
    → owed (calls_by script actor) client ≤ room
room_left {script = script} actor {clients = clients} has there =
    omega (arith, owed_few (calls_by script) clients actor there, has.enough)

-- After a turn there is room for what is left.
pub room_after : {script : Script} {place actor before after : ℕ} (clients : List Client) (was now : Client)
    → place ≡ actor → HasRoomForAnswers script clients before → slice_get clients actor ≡ Some was
    → taken_of was ≤ 2 * calls_by script actor → taken_of now ≤ 2 * calls_by script actor
    → UsesRoom before after was now → HasRoomForAnswers script (slice_set clients place now) after
room_after {script} {actor = actor} clients was now same has there few few_now uses =
    let set = owed_set (calls_by script) clients actor was now there in
    rw same (record { enough = omega (arith, has.enough, set, few, few_now, uses) })

-- ---- before the first turn

-- how many calls so many clients have, from one on
abbrev calls_from : List Placed → ℕ → ℕ → ℕ
calls_from calls caller zero = 0
calls_from calls caller (suc count) =
    length (filter (λ (placed : Placed). placed.actor == caller) calls) + calls_from calls (caller + 1) count

-- A call of another client is none of its,
other_call : (first : Placed) (calls : List Placed) (caller : ℕ) → first.actor ≢ caller
    → length (filter (λ (placed : Placed). placed.actor == caller) (first ∷ calls))
    ≡ length (filter (λ (placed : Placed). placed.actor == caller) calls)
other_call first calls caller apart = search ne_eqb

-- and one of its own is one more.
own_call : (first : Placed) (calls : List Placed) (caller : ℕ) → first.actor ≡ caller
    → length (filter (λ (placed : Placed). placed.actor == caller) (first ∷ calls))
    ≡ length (filter (λ (placed : Placed). placed.actor == caller) calls) + 1
own_call first calls caller same = search arith

-- So one call is at most one of theirs, and none where it is an earlier client's.
one_call_more : (first : Placed) (calls : List Placed) (caller count : ℕ)
    → (calls_from (first ∷ calls) caller count ≤ calls_from calls caller count + 1)
    × (first.actor < caller → calls_from (first ∷ calls) caller count ≤ calls_from calls caller count)
one_call_more first calls caller zero = omega arith
one_call_more first calls caller (suc count) =
    let later = one_call_more first calls (caller + 1) count in
    grind (arith, own_call, other_call, cases_eq)

-- So they have no more calls than there are.
calls_few : (calls : List Placed) (caller count : ℕ) → calls_from calls caller count ≤ length calls
calls_few [] caller zero = omega arith
calls_few [] caller (suc count) = omega (arith, calls_few [] (caller + 1) count)
calls_few (first ∷ calls) caller count =
    omega (arith, calls_few calls caller count, one_call_more first calls caller count)

-- Clients that have begun no call have the room of all of theirs,
blank_owed : (script : Script) {calls : ℕ → ℕ} (caller count : ℕ)
    → ((actor : ℕ) → calls actor ≡ calls_by script (caller + actor))
    → all_owed calls (blank_clients count) ≡ 2 * calls_from script.calls caller count
blank_owed script caller zero each = refl
blank_owed script caller (suc count) each =
    let later = blank_owed script (caller + 1) count
    (λ actor. let same : caller + suc actor ≡ caller + 1 + actor = omega arith in
    each (suc actor) ∙ ap (calls_by script) same) in
    let first : caller + 0 ≡ caller = omega arith in
    let here = each 0 ∙ ap (calls_by script) first in
    let placed = filter (λ (placed : Placed). placed.actor == caller) script.calls in
    omega (arith, later, here, length-map placed (λ (placed : Placed). placed.call))

-- and room for two items of each call of a script is enough for them.
pub room_at_first : (script : Script) (count : ℕ) {room : ℕ} → 2 * length script.calls ≤ room
    → HasRoomForAnswers script (blank_clients count) room
room_at_first script count enough = record {
  enough =
      omega (
        arith,
        blank_owed script 0 count (λ actor. let same : actor ≡ 0 + actor = omega arith in ap (calls_by script) same),
        calls_few script.calls 0 count,
        enough,
      );
}
