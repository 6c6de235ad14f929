-- The client that widens the pool.
use Rattle.std.specs.Prelude.{ℕ, List, [], ◌∷◌, ◌++◌, map, None, Bool, true, false}
use Rattle.core_state.specs.declared.answer.Kind.{Kind}
use Rattle.core_state.specs.declared.answer.Kind.TheVariants.{Attach, Copy}
use Rattle.client_script.specs.declared.call.Fill.TheVariants.{Nothing}
use Rattle.client_script.specs.declared.call.ScriptCall.{ScriptCall}
use Rattle.client_script.specs.Script.{Script}

-- its number, behind those that a script's clients may have
abbrev pub copier : ℕ
copier = 8

-- a call of it, which stands on no line
abbrev pub copier_call : Kind → ScriptCall
copier_call kind = record { line = 0; kind = kind; id = None; fill = Nothing }

-- its calls: an attach, where one is asked for, and a copy
abbrev pub copier_calls : Bool → List ScriptCall
copier_calls true = copier_call Attach ∷ copier_call Copy ∷ []
copier_calls false = copier_call Copy ∷ []

-- the script with that client, behind all that a script may have
abbrev pub with_copier : Bool → Script → Script
with_copier attaches script = record script {
  clients = 9;
  calls = script.calls ++ map (λ call. record { actor = copier; call = call }) (copier_calls attaches);
}
