-- Calls of a script, one after the other: the turns of one call, and of the rest.
use Rattle.schedule.proofs.Words.{◌≡◌, ◌≢◌, ◌⊎◌, inl, inr, ⊎_elim, ℕ, ◌+◌, ◌-◌, ◌<◌, ◌≤◌, List, length, Some, None}
use Rattle.schedule.proofs.Words.{refl, sym, ◌∙◌, ap, arith, cond, eq-eqb, ne_eqb, slice_index_or, slice_get, true}
use Rattle.schedule.proofs.Words.{◌==◌, length-filter_more, get_or_from_slice_get, slice_get-get_or, slice_get_within}
use Rattle.schedule.proofs.Words.{ScriptCall, IsNextCall, given_of, Placed, Script, calls_of, Client, Turns}
use Rattle.schedule.proofs.Words.{IsCallOfScript, is_busy_at, AreIdle, HasTurn, BeginsOne, HaveBegun}
use Rattle.client_script.specs.InOrder.{InOrder}
use Rattle.schedule.proofs.turn.Theirs.{some_is}

-- ---- one call

-- The next call of a client that has one left has had its first turn,
pub begins_one : {script : Script} {actor : ℕ} {before after : Turns} → HasTurn script actor before after
    → AreIdle before.clients
    → ((client : Client) → slice_get before.clients actor ≡ Some client → client.begun < length (calls_of script actor))
    → BeginsOne actor before.clients after.clients
begins_one turn idle left = search arith

-- and a later one.
pub begins_more : {script : Script} {actor : ℕ} {old : List Client} {before after : Turns}
    → BeginsOne actor old before.clients → HasTurn script actor before after → is_busy_at before.clients actor ≡ true
    → BeginsOne actor old after.clients
begins_more begins turn busy = search arith

-- Once it has ended, all are idle again.
pub idle_again : {actor : ℕ} {old new : List Client} → BeginsOne actor old new → AreIdle old
    → ((client : Client) → slice_get new actor ≡ Some client → client.under_way ≡ None) → AreIdle new
idle_again begins idle ended = search arith

-- ---- the rest

-- Of no calls none was begun.
pub begun_none : (script : Script) (clients : List Client) → HaveBegun script 0 clients
begun_none script clients = search arith

-- One more call of the script is a client's, and no other's.
pub given_more : (script : Script) (given actor : ℕ) {placed : Placed} → slice_get script.calls given ≡ Some placed
    → ((actor ≡ placed.actor) × (given_of script (given + 1) actor ≡ given_of script given actor + 1))
    ⊎ ((actor ≢ placed.actor) × (given_of script (given + 1) actor ≡ given_of script given actor))
given_more script given actor {placed = placed} there = search (eq-eqb, one_more, ne_eqb, arith)
  where
    one_more : given_of script (given + 1) actor ≡ given_of script given actor + cond (placed.actor == actor) 1 0
    one_more =
        length-filter_more (λ other. other.actor == actor) script.calls given placed
        (slice_get_within script.calls given placed there)
        ∙ ap (λ (p : Placed). given_of script given actor + cond (p.actor == actor) 1 0)
        (get_or_from_slice_get script.calls given placed placed there)

-- It is one more of its client's.
pub given_own : (script : Script) (given actor : ℕ) (placed : Placed) → slice_get script.calls given ≡ Some placed
    → placed.actor ≡ actor → given_of script (given + 1) actor ≡ given_of script given actor + 1
given_own script given actor placed there is =
    elim (given_more script given actor there) [ inl own ↦ own.1 | inr other ↦ absurd (other.0 (sym is)) ]

-- The next call was begun before, or is now.
pub begun_more : (script : Script) {given : ℕ} {placed : Placed} {clients : List Client} (news : List Client)
    → slice_get script.calls given ≡ Some placed → HaveBegun script given clients
    → ((client : Client) → slice_get news placed.actor ≡ Some client
    → given_of script given placed.actor + 1 ≤ client.begun)
    → ((other : ℕ) → other ≢ placed.actor → slice_get news other ≡ slice_get clients other)
    → HaveBegun script (given + 1) news
begun_more script {given = given} news there begun now others = record {
  each = λ actor client is. ⊎_elim
      (search arith)
      (λ apart. omega (arith, apart.1, begun.each actor client (sym (others actor apart.0) ∙ is)))
      (given_more script given actor there);
}

-- A call that is given next
module _ {script : Script} {before after : InOrder} {actor number : ℕ} {call : ScriptCall} (is : before.script ≡ script)
    (next : IsNextCall before after actor number call) where
  -- leaves fewer,
  pub next_smaller : length script.calls - after.given < length script.calls - before.given
  next_smaller = search (slice_get_within, arith)

  -- and is begun then: before this,
  pub next_begun : {clients news : List Client} → HaveBegun script before.given clients
      → ((client : Client) → slice_get news actor ≡ Some client → number ≤ client.begun)
      → ((other : ℕ) → other ≢ actor → slice_get news other ≡ slice_get clients other)
      → HaveBegun script after.given news
  next_begun begun now others = search (begun_more, arith)

  -- or by this call.
  pub next_taken : {clients news : List Client} → HaveBegun script before.given clients → BeginsOne actor clients news
      → length news ≡ length clients → HaveBegun script after.given news
  next_taken {clients} {news} begun begins same = next_begun begun (λ client there.
      let low = slice_get_within news actor client there in
      let was = slice_get-get_or clients actor client (omega arith) in
      let one = begins.one (slice_index_or clients actor client) was in
      let before = begun.each actor (slice_index_or clients actor client) was in
      grind (arith, some_is, one, before)) begins.others

  -- It is a call of the script,
  pub next_is_call : IsCallOfScript script before.given actor number
  next_is_call = record {
    placed = record { actor = actor; call = call };
    there = cc;
    is = refl;
    counted = cc;
  }

  -- one of its client's,
  pub next_of_client : number ≤ length (calls_of script actor)
  next_of_client = search (slice_get_within, arith)

  -- and no more were given than there are.
  pub next_few : after.given ≤ length script.calls
  next_few = search (slice_get_within, arith)
