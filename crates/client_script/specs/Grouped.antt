-- Calls that are kept by actor, in the order in which they were given.
use Rattle.std.specs.Prelude.{◌≡◌, ℕ, List, [], ◌∷◌, ◌++◌, length, drop, map, filter, slice_index_or, ◌==◌}
use Rattle.std.specs.Prelude.{if◌then◌else◌, Vec}
use Rattle.std.specs.Global.{Global}
use Rattle.client_script.specs.declared.call.ScriptCall.{ScriptCall}
use Rattle.client_script.specs.Script.{Placed}

-- a list of calls for each actor
abbrev pub CallsByActor : Type 0
CallsByActor = ℕ → List ScriptCall

-- the lists of a table, none past its end
abbrev pub groups_of : List (Vec ScriptCall Global) → CallsByActor
groups_of lists actor = slice_index_or (map (λ list. list.items) lists) actor []

-- the first of an actor's calls, and the groups without it
abbrev pub first_of : ℕ → List ScriptCall → List Placed
first_of actor [] = []
first_of actor (call ∷ calls) = record { actor = actor; call = call } ∷ []

abbrev pub without_first : CallsByActor → ℕ → CallsByActor
without_first groups actor =
    λ other. if other == actor then drop 1 (groups other) else groups other

-- the groups with one call more of an actor
abbrev pub with_call : CallsByActor → ℕ → ScriptCall → CallsByActor
with_call groups actor call =
    λ other. if other == actor then groups other ++ call ∷ [] else groups other

-- each turn takes the next call of its actor
abbrev pub in_turn : List ℕ → CallsByActor → List Placed
in_turn [] groups = []
in_turn (actor ∷ actors) groups =
    first_of actor (groups actor) ++ in_turn actors (without_first groups actor)

-- Each actor has as many turns as calls.
pub record HasTurns (actors : List ℕ) (groups : CallsByActor) : Type 0 where
  pub each : (actor : ℕ) → length (filter (λ other. other == actor) actors) ≡ length (groups actor)
