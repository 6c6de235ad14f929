-- Which calls of a script a journal answers.
use Rattle.std.specs.Prelude.{◌≡◌, ℕ, ◌+◌, ◌<◌, ◌≤◌, List, length, filter, take, ◌==◌}
use Rattle.core_state.specs.declared.item.Entry.{Entry}
use Rattle.core_state.specs.declared.item.Item.{Item}
use Rattle.core_state.specs.Legal.{CallAt}
use Rattle.core_state.specs.Journal.{CallsAreRight}
use Rattle.client_script.specs.Script.{Script, asked_by}

-- how many of the first calls are a caller's
abbrev pub count_among : Script → ℕ → ℕ → ℕ
count_among script count caller =
    length (filter (λ placed. placed.actor == caller) (take count script.calls))

-- The journal answers the first calls of the script, so many, each once and in order, and no others.
pub record AreAnswered (script : Script) (count : ℕ) (items : List Item) : Type 0 where
  pub right : CallsAreRight (asked_by script) items
  pub each : (index : ℕ) (entry : Entry) → CallAt items index entry
      → entry.call ≤ count_among script count entry.caller
  pub every : (caller number : ℕ) → number < count_among script count caller
      → (index : ℕ) × (entry : Entry) × CallAt items index entry × (entry.caller ≡ caller)
      × (entry.call ≡ number + 1)
