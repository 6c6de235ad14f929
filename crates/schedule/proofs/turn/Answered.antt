-- The calls of a script that a journal answers, as clients go on.
use Rattle.schedule.proofs.Words.{◌≡◌, ◌≢◌, inl, inr, ⊎_elim, ℕ, ◌+◌, ◌-◌, ◌<◌, ◌≤◌, List, [], ◌∷◌, ◌++◌, length, Some}
use Rattle.schedule.proofs.Words.{None, arith, slice_get, cases_eq, cases_lt, slice_get-map, Entry, Item, Group, Call}
use Rattle.schedule.proofs.Words.{CallAt, IsAsked, ScriptCall, Script, calls_of, asked_by, grown_has, last_there}
use Rattle.schedule.proofs.Words.{new_or_before, Client, UnderWay, ClientsAreAnswered, Changes, answered_of}
use Rattle.core_state.specs.declared.item.Group.{Group as GroupItem}
use Rattle.schedule.proofs.turn.Theirs.{some_is}

-- how many calls of a client were answered
abbrev pub answered : Client → ℕ
answered client = answered_of client.begun client.under_way

-- All that it has begun were,
pub answered_idle : {client : Client} → client.under_way ≡ None → answered client ≡ client.begun
answered_idle {client = client} idle = cc

-- but for the one under way.
pub answered_going : {under : UnderWay} (client : Client) → client.under_way ≡ Some under
    → answered client ≡ client.begun - 1
answered_going client going = cc

-- A new group answers nothing more.
pub answers_group : {script : Script} {clients : List Client} {items : List Item} (group : GroupItem)
    → ClientsAreAnswered script clients items → ClientsAreAnswered script clients (items ++ Group group ∷ [])
answers_group {items = items} group are = record {
  right = record {
    each = λ index entry there. are.right.each index entry (earlier index entry there);
    order = search (earlier, arith);
  };
  few = are.few;
  some = are.some;
  each = search (earlier, arith);
  every = λ caller number client is below.
      let found = are.every caller number client is below in
      search (grown_has, arith);
}
  where
    earlier : (index : ℕ) (entry : Entry) → CallAt (items ++ Group group ∷ []) index entry → CallAt items index entry
    earlier index entry there = elim (new_or_before items (Group group) index (Call entry) there) [
      | inl new ↦ cc
      | inr old ↦ old.1
    ]

module _ {script : Script} {old new : List Client} {index : ℕ} {before client : Client} {items : List Item}
    (changes : Changes old new index client) (was : slice_get old index ≡ Some before)
    (few : client.begun ≤ length (calls_of script index))
    (some : (under : UnderWay) → client.under_way ≡ Some under → 1 ≤ client.begun)
    (are : ClientsAreAnswered script old items) where
  few_now : (caller : ℕ) (its : Client) → slice_get new caller ≡ Some its → its.begun ≤ length (calls_of script caller)
  few_now caller its is = grind (arith, cases_eq)

  some_now : (caller : ℕ) (its : Client) (under : UnderWay) → slice_get new caller ≡ Some its
      → its.under_way ≡ Some under → 1 ≤ its.begun
  some_now caller its under is going = grind (arith, cases_eq)

  -- A client goes on, or begins a call, and the journal answers no more.
  pub answers_same : answered client ≡ answered before → ClientsAreAnswered script new items
  answers_same same_count = record {
    right = are.right;
    few = few_now;
    some = some_now;
    each = search (some_is, cases_eq, arith);
    every = λ caller number its is below. ⊎_elim
        (λ (same : caller ≡ index). are.every caller number before (cc) (grind arith))
        (λ (apart : caller ≢ index). are.every caller number its (search (changes.others, arith)) below)
        (cases_eq caller index);
  }

  -- The next call of a client is answered.
  module _ {call : ScriptCall} (entry : Entry) (more : answered client ≡ answered before + 1)
      (next : slice_get (calls_of script index) (answered before) ≡ Some call)
      (caller_is : entry.caller ≡ index) (call_is : entry.call ≡ answered before + 1)
      (kind_is : entry.kind ≡ call.kind) (id_is : entry.id ≡ call.id) where
    -- The script asks for it.
    is_asked : IsAsked (asked_by script) entry
    is_asked = search (slice_get-map, arith)

    -- So does it for each entry of the grown journal, which is this one, or was there before.
    each_asked : (place : ℕ) (other : Entry) → CallAt (items ++ Call entry ∷ []) place other
        → IsAsked (asked_by script) other
    each_asked place other there = elim (new_or_before items (Call entry) place (Call other) there) [
      | inl new ↦ rw (let same : entry ≡ other = cc in same) at is_asked
      | inr old ↦ are.right.each place other old.1
    ]

    -- The client's entries so far answer calls before this one.
    below : (place : ℕ) (other : Entry) → CallAt items place other → other.caller ≡ index → other.call ≤ answered before
    below place other there same = search (some_is, arith)

    -- The entries of a caller go up.
    in_order : (place later : ℕ) (one other : Entry) → place < later → CallAt (items ++ Call entry ∷ []) place one
        → CallAt (items ++ Call entry ∷ []) later other → one.caller ≡ other.caller → one.call < other.call
    in_order place later one other earlier first second callers = grind (arith, new_or_before, below)

    -- No entry answers a later call.
    each_counted : (place : ℕ) (other : Entry) → CallAt (items ++ Call entry ∷ []) place other
        → (its : Client) × (slice_get new other.caller ≡ Some its) × (other.call ≤ answered its)
    each_counted place other there = grind (arith, new_or_before, below, cases_eq)

    -- the call of this number of a caller is answered
    abbrev Answers : List Item → ℕ → ℕ → Type 0
    Answers journal caller number = (place : ℕ) × (found : Entry) × CallAt journal place found
        × (found.caller ≡ caller) × (found.call ≡ number + 1)

    answers_more : {caller : ℕ} (number : ℕ) → Answers items caller number
        → Answers (items ++ Call entry ∷ []) caller number
    answers_more number found = search (grown_has, arith)

    -- Each of the first calls is answered.
    every_answered : (caller number : ℕ) (its : Client) → slice_get new caller ≡ Some its → number < answered its
        → Answers (items ++ Call entry ∷ []) caller number
    every_answered caller number its is low = ⊎_elim
        (λ (same : caller ≡ index). ⊎_elim
        (λ (less : number < answered before). answers_more number (are.every caller number before (cc) less))
        (λ (not_less : answered before ≤ number).
        (length items, entry, last_there items (Call entry), cc, grind arith)) (cases_lt number (answered before)))
        (λ (apart : caller ≢ index).
        answers_more number (are.every caller number its (search (changes.others, arith)) low)) (cases_eq caller index)

    -- With that entry the journal answers one call more.
    pub answers_call : ClientsAreAnswered script new (items ++ Call entry ∷ [])
    answers_call = record {
      right = record { each = each_asked; order = in_order };
      few = few_now;
      some = some_now;
      each = each_counted;
      every = every_answered;
    }
