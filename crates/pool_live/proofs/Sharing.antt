-- Turns of clients that share a pool, one after the other.
use Rattle.std.proofs.Common.{◌≡◌, ℕ, ◌+◌, List, [], ◌∷◌, ◌++◌, length, length-append, append_assoc, append-nil, Option}
use Rattle.std.proofs.Common.{Some, None, refl, sym, ◌∙◌, ap, subst, arith}
use Rattle.std.specs.Prelude.{replicate}
use Rattle.std.proofs.lemmas.List.{length-map, map-append, replicate_more}
use Rattle.core_state.specs.declared.item.Item.{Item}
use Rattle.core_state.specs.JournalRoom.{Journal}
use Rattle.client_script.specs.Script.{Script}
use Rattle.bank_trait.specs.Disk.{Disk}
use Rattle.core_turns.specs.Core.{Core, CoreState, at_disk}
use Rattle.schedule.specs.declared.client.Client.{Client}
use Rattle.schedule.specs.declared.progress.Progress.{Progress}
use Rattle.schedule.specs.declared.whole_run.Ended.{Ended}
use Rattle.schedule.specs.declared.whole_run.Ended.TheVariants.{Whole, Limit}
use Rattle.schedule.specs.InTurn.{HaveTaken, IsTurnOf, Replay, turns_by}
use Rattle.schedule.specs.Playing.{HasPlayed, IsReady}
use Rattle.schedule.specs.Replaying.{HasTurn}
use Rattle.schedule.specs.Turns.{Turns, TurnTaken, last_left, taken_by, turns_of}
use Rattle.schedule.proofs.run.Coming.{came_nowhere, came_on}
use Rattle.schedule.proofs.order.InTurn.{gone_counted, gone_taken, taken_more}
use Rattle.turn_lock.specs.declared.view.Event.{Event}
use Rattle.turn_lock.specs.Turn.{entries}
use Rattle.pool_live.specs.declared.live.TurnsTaken.{TurnsTaken}
use Rattle.pool_live.specs.Sharing.{HasCarriedOut, HaveHadTurns, MovesOn, StandsFor, actors_told}

-- No client has had a turn yet.
pub had_none : (script : Script) (start : Turns) (room : ℕ) → IsReady script start room
    → HaveHadTurns script start [] start room
had_none script start room ready = record {
  passed = [];
  actors_are = refl;
  taken = tt;
  come = came_nowhere refl;
  ready = ready;
}

-- One has a turn more.
pub had_more : (script : Script) (start before after : Turns) (actors : List ℕ) (actor room left : ℕ)
    → HaveHadTurns script start actors before room → HasTurn script actor before after → IsReady script after left
    → HaveHadTurns script start (actors ++ actor ∷ []) after left
had_more script start before after actors actor room left had turn ready = record {
  passed = had.passed ++ taken_by actor after ∷ [];
  actors_are = map-append (λ (turn : TurnTaken). turn.actor) had.passed (taken_by actor after ∷ [])
      ∙ ap (λ (l : List ℕ). l ++ actor ∷ []) had.actors_are;
  taken = taken_more start had.passed had.taken
      (subst (λ (turns : Turns). IsTurnOf script actor turns after) (sym had.come.ends) turn.is);
  come = came_on script start before after had.passed (taken_by actor after ∷ []) had.come turn.come;
  ready = ready;
}

-- ---- the state under the lock

pub stands_first : (script : Script) (start : Option Turns) (first : Turns) (room : ℕ) → start ≡ Some first
    → IsReady script first room → StandsFor script start [] first room 0
stands_first script start first room is ready =
    subst (λ (s : Option Turns). StandsFor script s [] first room 0) (sym is)
    (had_none script first room ready, refl)

pub stands_more : (script : Script) (start : Option Turns) (before after : Turns) (actors : List ℕ)
    (actor room left taken : ℕ) → StandsFor script start actors before room taken → HasTurn script actor before after
    → IsReady script after left → StandsFor script start (actors ++ actor ∷ []) after left (taken + 1)
stands_more script None before after actors actor room left taken stands turn ready = absurd stands
stands_more script (Some start) before after actors actor room left taken stands turn ready = (
  had_more script start before after actors actor room left stands.0 turn ready,
  (let long = length-append actors (actor ∷ []) in let count = stands.1 in omega (arith, long, count)),
)

-- A client that has had some has one more.
pub moves_more : (script : Script) (before middle after : Turns) (actor turns room between left taken counted : ℕ)
    → MovesOn script before room taken actor turns middle between counted → HasTurn script actor middle after
    → IsReady script after left → MovesOn script before room taken actor (turns + 1) after left (counted + 1)
moves_more script before middle after actor turns room between left taken counted moves turn ready = λ start actors stands.
    subst (λ (l : List ℕ). StandsFor script start l after left (counted + 1)) (longer actors)
    (stands_more script start middle after (actors ++ replicate turns actor) actor between left counted
    (moves start actors stands) turn ready)
  where
    longer : (actors : List ℕ) → (actors ++ replicate turns actor) ++ actor ∷ [] ≡ actors ++ replicate (turns + 1) actor
    longer actors = append_assoc actors (replicate turns actor) (actor ∷ [])
        ∙ ap (λ (l : List ℕ). actors ++ l) (replicate_more turns actor)

-- So it is where that one was counted first.
pub counts_more : (script : Script) (before : Turns) (core : Core) (disk : Disk) (journal : Journal)
    (progress counted : Progress) (after : Turns) (actor had room left taken now : ℕ)
    → counted.clients.items ≡ progress.clients.items → counted.turns ≡ progress.turns + 1 → now ≡ counted.turns
    → MovesOn script before room taken actor had (turns_by core disk journal progress) journal.room progress.turns
    → HasTurn script actor (turns_by core disk journal counted) after → IsReady script after left
    → MovesOn script before room taken actor (had + 1) after left now
counts_more script before core disk journal progress counted after actor had room left taken now same one is moves turn
    ready = subst (λ (n : ℕ). MovesOn script before room taken actor (had + 1) after left n) (sym (is ∙ one))
    (moves_more script before (turns_by core disk journal progress) after actor had room journal.room left taken
    progress.turns moves
    (subst (λ (clients : List Client). HasTurn script actor (turns_of (at_disk core disk) journal.items clients) after) same
    turn) ready)

-- What clients ask for is told of what they have come to, which stays.
pub moves_still : (script : Script) (before : Turns) (core : Core) (disk : Disk) (journal : Journal)
    (progress next : Progress) (actor had room taken : ℕ) → next.clients.items ≡ progress.clients.items
    → next.turns ≡ progress.turns
    → MovesOn script before room taken actor had (turns_by core disk journal progress) journal.room progress.turns
    → MovesOn script before room taken actor had (turns_by core disk journal next) journal.room next.turns
moves_still script before core disk journal progress next actor had room taken same counted moves =
    subst (λ (n : ℕ). MovesOn script before room taken actor had (turns_by core disk journal next) journal.room n) (sym counted)
    (subst (λ (clients : List Client). MovesOn script before room taken actor had
    (turns_of (at_disk core disk) journal.items clients) journal.room progress.turns) (sym same) moves)

-- What was told has one entry more.
pub actors_more : (told : List TurnsTaken) (had : TurnsTaken) → actors_told (told ++ had ∷ []) ≡ actors_told told ++ replicate had.turns had.actor
actors_more [] had = append-nil (replicate had.turns had.actor)
actors_more (first ∷ told) had =
    ap (λ (l : List ℕ). replicate first.turns first.actor ++ l) (actors_more told had)
    ∙ sym (append_assoc (replicate first.turns first.actor) (actors_told told) (replicate had.turns had.actor))

-- So the state stands for the history with it.
pub told_on : (script : Script) (start : Option Turns) (seen : List (Event TurnsTaken)) (had : TurnsTaken)
    (name : List ℕ) (now : Turns) (room taken : ℕ)
    → StandsFor script start (actors_told (entries seen) ++ replicate had.turns had.actor) now room taken
    → StandsFor script start (actors_told (entries (seen ++ (record { by = name; entry = had }) ∷ []))) now room taken
told_on script start seen had name now room taken stands =
    rw (
      map-append (λ (event : Event TurnsTaken). event.entry) seen ((record { by = name; entry = had }) ∷ []),
      actors_more (entries seen) had,
    ) stands

-- ---- what follows the turns

-- Turns that follow others.
taken_on : (script : Script) (start middle : Turns) (one two : List TurnTaken) → HaveTaken script start one
    → last_left start one ≡ middle → HaveTaken script middle two → HaveTaken script start (one ++ two)
taken_on script start middle [] two first ends second =
    subst (λ (turns : Turns). HaveTaken script turns two) (sym ends) second
taken_on script start middle (turn ∷ one) two first ends second =
    (first.0, taken_on script turn.left middle one two first.1 ends second)

-- What was played was carried out.
pub carried_played : (script : Script) (start now : Replay) (room : ℕ) → HasPlayed script start now room
    → HasCarriedOut script start.turns start.taken now.turns.state now.turns.items now.taken
carried_played script start now room played = record {
  passed = played.passed;
  clients = now.turns.clients;
  taken = (gone_taken played.gone).0;
  come = played.come;
  counted = gone_counted played.gone;
}

pub counted_first : (turns : ℕ) (passed : List TurnTaken) → turns ≡ 0 + length passed → turns ≡ length passed
counted_first turns passed counted = omega (arith, counted)

pub limit_not_whole : (ended : Ended) → ended ≡ Limit → ended ≡ Whole → ⊥
limit_not_whole ended limit whole = cc

-- The calls are carried out from the start on, with the turns that were had, and then those that followed.
pub carried_on : (script : Script) (start : Option Turns) (first middle : Turns) (actors : List ℕ) (room taken : ℕ)
    (state : CoreState) (items : List Item) (turns : ℕ) → start ≡ Some first
    → StandsFor script start actors middle room taken → HasCarriedOut script middle taken state items turns
    → HasCarriedOut script first 0 state items turns
carried_on script start first middle actors room taken state items turns is stands carried =
    by (subst (λ (s : Option Turns). StandsFor script s actors middle room taken) is stands)
  where
    by : StandsFor script (Some first) actors middle room taken → HasCarriedOut script first 0 state items turns
    by stood = record {
      passed = stood.0.passed ++ carried.passed;
      clients = carried.clients;
      taken = taken_on script first middle stood.0.passed carried.passed stood.0.taken stood.0.come.ends carried.taken;
      come = came_on script first middle _ stood.0.passed carried.passed stood.0.come carried.come;
      counted =
          let before = stood.1 in let then = carried.counted in
          let both = length-append stood.0.passed carried.passed in
          let had = sym (length-map stood.0.passed (λ (turn : TurnTaken). turn.actor))
          ∙ ap (λ (l : List ℕ). length l) stood.0.actors_are in
          omega (arith, before, then, both, had);
    }
