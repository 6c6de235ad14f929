-- Whose turn is next, and steps after steps.
use Rattle.schedule.proofs.Words.{◌≡◌, ℕ, ◌+◌, ◌<◌, ◌≤◌, List, length, Option, Some, None, zero, suc, refl, arith, []}
use Rattle.schedule.proofs.Words.{◌++◌, append_assoc, length-append, ◌∷◌, true, slice_get, le-ltb, ltb-true, ltb-false}
use Rattle.schedule.proofs.Words.{Bool, lt-ltb, slice_get_within, append-nil, Script, Client, Goes, HasGone, InRest}
use Rattle.schedule.proofs.Words.{InRound, Replay}
use Rattle.schedule.proofs.Words.{ReplaySteps, after_round, has_left_at, is_any_busy, is_busy_at, turn_at, HaveTaken}
use Rattle.schedule.proofs.Words.{IsTurnOf, IsStepOf, AreIdle, TurnTaken, Turns, last_left, has_turn_at, calls_of}
use Rattle.std.proofs.Common.{append-nil}
use Rattle.std.specs.Prelude.{false}

-- ---- steps

pub gone_none : (script : Script) (start : Replay) → HasGone script start [] start
gone_none script start = record { steps = 0; goes = (refl, refl) }

pub gone_more : {script : Script} {start middle now : Replay} {passed more : List TurnTaken}
    → HasGone script start passed middle → ReplaySteps script middle passed more now → HasGone script start more now
gone_more {middle = middle} {passed = passed} gone step =
    record { steps = suc gone.steps; goes = (middle, passed, gone.goes, step) }

-- A step is the same after other turns.
step_after : (script : Script) (before after : Replay) (earlier passed more : List TurnTaken)
    → ReplaySteps script before passed more after → ReplaySteps script before (earlier ++ passed)
    (earlier ++ more) after
step_after script before after earlier passed more step = grind (arith, append_assoc)

pub gone_then : (script : Script) (start middle now : Replay) {one two : List TurnTaken}
    → HasGone script start one middle → HasGone script middle two now → HasGone script start (one ++ two) now
gone_then script start middle now {one = one} {two = two} first second = by second.steps now two second.goes
  where
    by : (steps : ℕ) (end : Replay) (more : List TurnTaken) → Goes script steps middle more end
        → HasGone script start (one ++ more) end
    by zero end more goes = search (append-nil, arith)
    by (suc steps) end more goes = gone_more (by steps goes.0 goes.1 goes.2) (search step_after)

-- ---- what the turns are

-- A turn more was taken at the end.
pub taken_more : {script : Script} (start : Turns) (passed : List TurnTaken) {turn : TurnTaken}
    → HaveTaken script start passed → IsTurnOf script turn.actor (last_left start passed) turn.left
    → HaveTaken script start (passed ++ turn ∷ [])
taken_more start [] taken is = (is, tt)
taken_more start (first ∷ passed) taken is = (taken.0, taken_more first.left passed taken.1 is)

pub left_more : (start : Turns) (passed : List TurnTaken) (turn : TurnTaken)
    → last_left start (passed ++ turn ∷ []) ≡ turn.left
left_more start [] turn = refl
left_more start (first ∷ passed) turn = left_more first.left passed turn

-- The steps of a replay are turns that were taken, and as many were counted.
record AreTaken (script : Script) (start now : Replay) (passed : List TurnTaken) : Type 0 where
  are : HaveTaken script start.turns passed × (last_left start.turns passed ≡ now.turns)
  counted : now.taken ≡ start.taken + length passed

step_taken : {script : Script} {start middle end : Replay} {before more : List TurnTaken} (whose : Option ℕ)
    → IsStepOf script middle before more end whose → AreTaken script start middle before
    → AreTaken script start end more
step_taken whose step taken = grind (arith, taken_more, left_more, length-append)

goes_taken : {script : Script} {start : Replay} (steps : ℕ) (end : Replay) (passed : List TurnTaken)
    → Goes script steps start passed end → AreTaken script start end passed
goes_taken zero end passed goes = search arith
goes_taken {script} (suc steps) end passed goes =
    step_taken (turn_at script goes.0.turns.clients goes.0.cursor) goes.3.turn (goes_taken steps goes.0 goes.1 goes.2)

pub gone_taken : {script : Script} {start now : Replay} {passed : List TurnTaken} → HasGone script start passed now
    → HaveTaken script start.turns passed × (last_left start.turns passed ≡ now.turns)
gone_taken {now = now} {passed = passed} gone = (goes_taken gone.steps now passed gone.goes).are

pub gone_counted : {script : Script} {start now : Replay} {passed : List TurnTaken} → HasGone script start passed now
    → now.taken ≡ start.taken + length passed
gone_counted {now = now} {passed = passed} gone = (goes_taken gone.steps now passed gone.goes).counted

-- ---- clients

-- A client that has no call under way is idle,
pub not_busy_idle : (clients : List Client) (actor : ℕ) → is_busy_at clients actor ≡ false → (client : Client)
    → slice_get clients actor ≡ Some client → client.under_way ≡ None
not_busy_idle clients actor free client there = grind arith

-- as is each where all are,
pub idle_not_busy : {clients : List Client} (actor : ℕ) → AreIdle clients → is_busy_at clients actor ≡ false
idle_not_busy {clients = clients} actor idle = grind (arith, idle.each)

-- and one that isn't there has none.
pub past_not_busy : (clients : List Client) {actor : ℕ} → length clients ≤ actor → is_busy_at clients actor ≡ false
past_not_busy clients {actor = actor} past = grind (arith, slice_get_within)

-- A client has a call left where it hasn't begun that,
pub left_begun : (clients : List Client) (actor : ℕ) {number : ℕ} → has_left_at clients actor number ≡ true
    → (client : Client) → slice_get clients actor ≡ Some client → client.begun < number
left_begun clients actor left client there = search (ltb-true, arith)

-- and none where it has.
pub none_left_begun : (clients : List Client) (actor number : ℕ) → has_left_at clients actor number ≡ false
    → (client : Client) → slice_get clients actor ≡ Some client → number ≤ client.begun
none_left_begun clients actor number none client there = search (ltb-false, arith)

pub begun_none_left : (clients : List Client) (actor number : ℕ)
    → ((client : Client) → slice_get clients actor ≡ Some client → number ≤ client.begun)
    → has_left_at clients actor number ≡ false
begun_none_left clients actor number begun = grind (arith, le-ltb, begun)

-- A client that has a call under way has a turn to take,
pub busy_turn : (script : Script) (clients : List Client) (actor : ℕ) → is_busy_at clients actor ≡ true
    → has_turn_at script clients actor ≡ true
busy_turn script clients actor busy = cc

-- and so has one that has a call left.
pub left_turn : (script : Script) (clients : List Client) (actor : ℕ) {number : ℕ}
    → has_left_at clients actor number ≡ true → number ≤ length (calls_of script actor)
    → has_turn_at script clients actor ≡ true
left_turn script clients actor left few = by (is_busy_at clients actor) refl
  where
    low : has_left_at clients actor (length (calls_of script actor)) ≡ true
    low = grind (arith, lt-ltb, ltb-true)

    by : (busy : Bool) → is_busy_at clients actor ≡ busy → has_turn_at script clients actor ≡ true
    by true is = cc
    by false is = cc (low)

-- One that has a turn to take is there, and has a call left where none is under way.
pub turn_there : (script : Script) (clients : List Client) (actor : ℕ) → has_turn_at script clients actor ≡ true
    → actor < length clients
turn_there script clients actor has = grind (arith, slice_get_within)

pub turn_left : (script : Script) (clients : List Client) (actor : ℕ) {client : Client}
    → has_turn_at script clients actor ≡ true → slice_get clients actor ≡ Some client → client.under_way ≡ None
    → client.begun < length (calls_of script actor)
turn_left script clients actor has there idle = grind (arith, ltb-true)

-- ---- rounds

-- Where any call is under way a round follows,
pub round_next : (clients : List Client) → is_any_busy clients ≡ true → after_round clients ≡ InRound 0
round_next clients busy = cc

-- and where none is the rest.
pub rest_next : (clients : List Client) → is_any_busy clients ≡ false → after_round clients ≡ InRest 0
rest_next clients free = cc
