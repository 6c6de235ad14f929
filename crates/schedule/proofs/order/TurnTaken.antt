-- One turn of a client of a script: what it needs before, and what stands after it.
use Rattle.schedule.proofs.Words.{◌≡◌, ◌≢◌, ℕ, ◌-◌, ◌*◌, ◌<◌, ◌≤◌, List, [], ◌∷◌, length, Some, zero, suc, refl, sym}
use Rattle.schedule.proofs.Words.{◌∙◌, ap, arith, slice_index_or, slice_set, All, Contains, filter, slice_get, ◌==◌}
use Rattle.schedule.proofs.Words.{All-filter, All-map, get_or_from_slice_get, slice_get-get_or, slice_get_within}
use Rattle.schedule.proofs.Words.{Lawful, ScriptCall, Placed, Script, IsAllowed, calls_of, Core, IsCore, Rests, Copies}
use Rattle.schedule.proofs.Words.{Commits, HoldingCall, Copying, Putting, Reading, range_listed, Client, UnderWay, Work}
use Rattle.schedule.proofs.Words.{Changes, Comes, TakesTurn, IsSchedule, turns_of, AreCopiers, AreSharers}
use Rattle.schedule.proofs.Words.{HasRoomForAnswers, IsReady, calls_by, taken_of, AreIdle, HasTurn, TakesOne, AreGoing}
use Rattle.schedule.proofs.Words.{IsGoing, IsWorkFor, IsWorkOf, calls_under_way, commit_in, held_by, HasDeviceUnder}
use Rattle.schedule.proofs.Words.{MayGoOn, TurnState, Turned, first_listed, slice_get_read, length-set}
use Rattle.schedule.specs.declared.client.Work.TheVariants as work
use Rattle.std.proofs.lemmas.List.{get_or-set_same}
use Rattle.schedule.proofs.attach.Dropped.{turn_drops}
use Rattle.schedule.proofs.turn.Holders.{copiers_after, none_copies, none_shares, sharers_after}
use Rattle.schedule.proofs.run.Rooms.{taken_few}
use Rattle.schedule.proofs.turn.Shared.{IsQuiet, turned_begins}
use Rattle.schedule.proofs.turn.Theirs.{none_some, some_is, is_among}
use Rattle.schedule.proofs.turn.Law.{turned_comes}
use Rattle.schedule.proofs.turn.Numbered.{turn_numbers}
use Rattle.schedule.proofs.turn.UsingLaw.{turn_uses}
use Rattle.schedule.proofs.turn.UsingWorks.{TurnLeaves, turn_leaves}

-- ---- before a turn

pub all_at : {X : Type 0} (P : X → Type 0) (xs : List X) (index : ℕ) (x : X) → All P xs → slice_get xs index ≡ Some x
    → P x
all_at P xs index x all is = search (get_or_from_slice_get, slice_get_within, arith)

-- Each call of a client is allowed.
pub allowed_of : (script : Script) (actor : ℕ) → All (λ placed. IsAllowed placed.call) script.calls
    → (number : ℕ) (call : ScriptCall) → slice_get (calls_of script actor) number ≡ Some call → IsAllowed call
allowed_of script actor allowed number call is = all_at IsAllowed (calls_of script actor) number call
    (All-map IsAllowed (λ (placed : Placed). placed.call)
    (filter (λ (placed : Placed). placed.actor == actor) script.calls)
    (All-filter (λ (placed : Placed). placed.actor == actor) (λ (placed : Placed). IsAllowed placed.call) script.calls
    allowed))
    is

-- A call under way is one of the core, and what the script asks for.
pub going_may : {script : Script} {core : Core} {clients : List Client} {index : ℕ} {client : Client} {under : UnderWay}
    {call : ScriptCall} → AreGoing script core clients → IsGoing clients index client under
    → slice_get (calls_of script index) (client.begun - 1) ≡ Some call → MayGoOn core call under.work
going_may {script} {core} {clients} {index} {client} {under} {call} going is asked =
    may under.work refl (rw (← some_is (sym mine.there ∙ asked)) mine.asked)
  where
    mine : IsWorkOf script core index client under.work
    mine = going.each index client under is

    among : (does : Work) (its : HoldingCall) → under.work ≡ does → Contains (held_by does) its
        → Contains (calls_under_way clients) its
    among does its same held = is_among clients index its is (search arith)

    may : (does : Work) → under.work ≡ does → IsWorkFor call does → MayGoOn core call does
    may (work.Put run) same for =
        let listed = among (work.Put run) (Putting run) same (first_listed (Putting run) []) in search
        (range_listed, going.are.each, going.are.under.each)
    may (work.Read run) same for = going.are.each (Reading run) (search (among, first_listed))
    may (work.Sync run) same for = (mine.commit run (cc)).0
    may (work.Attach run) same for = (mine.attach run same).0
    may (work.Copy (Copies run)) same for = going.are.each (Copying run) (search (among, first_listed))
    may (work.Copy (Rests actor made)) same for = tt
    may (work.Copy (Commits run)) same for = (mine.commit run (ap commit_in same)).0

-- ---- after a turn

-- Where one place of a list is set, it has that, and the others are as they were.
set_here : {X : Type 0} (xs : List X) (place : ℕ) {x : X} → place < length xs
    → slice_get (slice_set xs place x) place ≡ Some x
set_here xs place low = search (slice_get_read, get_or-set_same, length-set)

set_others : {X : Type 0} (xs : List X) (place : ℕ) (x : X) (other : ℕ) → other ≢ place
    → slice_get (slice_set xs place x) other ≡ slice_get xs other
set_others [] place x other apart = refl
set_others (first ∷ xs) zero x zero apart = absurd (apart refl)
set_others (first ∷ xs) (suc place) x (suc other) apart = set_others xs place x other (λ same. apart (cc))
set_others (first ∷ xs) place x other apart = refl

-- The client at a place is the one of that number,
pub client_there : (clients : List Client) {place actor : ℕ} {client : Client} → place ≡ actor → place < length clients
    → client ≡ slice_index_or clients place client → slice_get clients actor ≡ Some client
client_there clients same low is = search (slice_get-get_or, arith)

-- and changes there alone.
changes_at : (clients : List Client) (place : ℕ) {actor : ℕ} (client : Client) → place ≡ actor → place < length clients
    → Changes clients (slice_set clients place client) actor client
changes_at clients place client same low = search (set_here, set_others, arith)

-- A turn leaves what each leaves, since the call under way is what the script asks for.
leaves_of : {script : Script} {actor : ℕ} {before after : TurnState} {clients : List Client}
    → AreGoing script before.state.core clients → slice_get clients actor ≡ Some before.client
    → IsCore before.state.core
    → Turned (calls_of script actor) actor before after → TurnLeaves (calls_of script actor) actor before after
leaves_of going was is turned = search (turn_leaves, going_may)

-- Where a client had a turn, the others stay as they are.
pub takes_turn : {script : Script} {place actor : ℕ} {before : TurnState} (after : TurnState) {clients : List Client}
    → IsSchedule script (turns_of before.state before.items clients) → slice_get clients actor ≡ Some before.client
    → place ≡ actor → place < length clients → IsCore before.state.core
    → Lawful before.state.disk × Lawful after.state.disk → HasDeviceUnder after.state.disk after.client.under_way
    → Turned (calls_of script actor) actor before after
    → TakesTurn script actor before after clients (slice_set clients place after.client)
takes_turn {place = place} after {clients} schedule was same low is lawful there turned =
    let changes = changes_at clients place after.client same low in
    let leaves = leaves_of schedule.going was is turned in search (turn_uses, turn_drops, turn_numbers, arith)

-- A client of the script took a turn.
module _ {script : Script} {actor : ℕ} {before after : TurnState} (clients : List Client) {news : List Client}
    (takes : TakesTurn script actor before after clients news)
    (allowed : All (λ placed. IsAllowed placed.call) script.calls) (copying : AreCopiers clients before.state.core)
    (sharing : AreSharers clients before.state.core)
    (turned : Turned (calls_of script actor) actor before after) where
  comes : Comes script actor before after clients news
  comes = search (turned_comes, allowed_of)

  leaves : TurnLeaves (calls_of script actor) actor before after
  leaves = search leaves_of

  -- Where no client has a call under way, nothing is under way in the core.
  quiet : AreIdle clients → IsQuiet before.state.core
  quiet idle = record {
    is = takes.is;
    copying = none_copies before.state.core copying idle;
    shared = search none_shares;
    committing = λ few other is. search arith;
    attaching = λ other is. search (none_some, arith);
  }

  takes_one : TakesOne script actor (turns_of before.state before.items clients) news before.client after.client
  takes_one = record {
    there = takes.changes.there;
    further = grind (arith, leaves.begins);
    still = λ under going. grind (arith, leaves.begins);
    begins = λ idle low. search (turned_begins, quiet, idle.each);
  }

  pub turn_taken : HasTurn script actor (turns_of before.state before.items clients)
      (turns_of after.state after.items news)
  turn_taken = record {
    come = comes.come;
    is = record {
      client = before.client;
      there = takes.was;
      now = after.client;
      turned = turned;
      changes = takes.changes;
    };
    others = takes.changes.others;
    takes = search (takes_one, arith);
  }

  -- It has taken no more room than its calls have.
  pub turn_few : taken_of after.client ≤ 2 * calls_by script actor
  turn_few = taken_few (comes.schedule.answered.few actor after.client takes.changes.there) (search arith)

  -- The next turn may be taken then.
  pub turn_ready : {left : ℕ} → length clients ≡ script.clients → length news ≡ length clients
      → HasRoomForAnswers script news left → IsReady script (turns_of after.state after.items news) left
  turn_ready counted same enough = record {
    schedule = comes.schedule;
    copying = copiers_after takes leaves comes.schedule.going copying;
    sharing = sharers_after takes leaves sharing;
    counted = cc;
    enough = enough;
  }
