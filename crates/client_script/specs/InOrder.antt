-- The calls of a script as they are given, one after the other.
use Rattle.std.specs.Prelude.{◌≡◌, ℕ, ◌+◌, ◌-◌, length, take, filter, Some, slice_get, ◌==◌}
use Rattle.client_script.specs.declared.call.ScriptCall.{ScriptCall}
use Rattle.client_script.specs.Lines.{fill_bytes}
use Rattle.client_script.specs.Script.{Script, calls_of, handed_by}

-- a script, and how many of its calls were given
pub record InOrder : Type 0 where
  pub script : Script
  pub given : ℕ

-- how many of so many first calls are an actor's
abbrev pub given_of : Script → ℕ → ℕ → ℕ
given_of script given actor =
    length (filter (λ placed. placed.actor == actor) (take given script.calls))

-- The next call is this one, of this actor, and has this number among its calls, from 1.
pub record IsNextCall (before after : InOrder) (actor number : ℕ) (call : ScriptCall) : Type 0 where
  pub there : slice_get before.script.calls before.given ≡ Some (record { actor = actor; call = call })
  pub counted : number ≡ given_of before.script before.given actor + 1
  pub of_client : slice_get (calls_of before.script actor) (number - 1) ≡ Some call
  pub handed : handed_by before.script actor number ≡ fill_bytes call.fill
  pub one_more : after ≡ record { script = before.script; given = before.given + 1 }
