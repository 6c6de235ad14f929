-- What a client has before it after a turn, and how many of its calls were answered.
use Rattle.std.proofs.Common.{◌≡◌, ◌≢◌, ◌⊎◌, ⊎_elim, ℕ, ◌+◌, ◌<◌, List, length, length-append, Some, None}
use Rattle.std.proofs.Common.{true, false, refl}
use Rattle.std.proofs.Common.{sym, ◌∙◌, ap, subst, arith}
use Rattle.client_script.specs.Script.{Script, calls_of}
use Rattle.bank_trait.specs.Disk.{Disk}
use Rattle.core_state.specs.declared.item.Item.{Item}
use Rattle.core_state.specs.JournalRoom.{Journal}
use Rattle.core_turns.specs.Core.{Core, at_disk}
use Rattle.core_turns.specs.declared.turn.Turn.TheVariants.{More, Busy, Done}
use Rattle.schedule.specs.declared.progress.Progress.{Progress}
use Rattle.schedule.specs.declared.client.Client.{Client}
use Rattle.schedule.specs.declared.computing.ToCompute.TheVariants as to_compute
use Rattle.schedule.specs.Clients.{answered_of}
use Rattle.schedule.specs.InTurn.{IsTurnOf, is_busy_at, turns_by}
use Rattle.schedule.specs.Playing.{IsReady}
use Rattle.schedule.specs.Turned.{Turned}
use Rattle.schedule.specs.Turned.Turned.{Began, Went}
use Rattle.schedule.specs.Turns.{Turns, turns_of}
use Rattle.schedule.proofs.order.InTurn.{not_busy_idle}
use Rattle.schedule.proofs.order.RoundTaken.{busy_under}
use Rattle.schedule.proofs.turn.Theirs.{some_is}
use Rattle.pool_live.specs.declared.batch.Next.{Next}
use Rattle.pool_live.specs.Sharing.{AreBegun, HasFoundBusy, HaveAnswered, IsAskedNext, IsNextFor}

-- What stands between two turns has each call under way begun.
pub ready_begun : {script : Script} {turns : Turns} {room : ℕ} → IsReady script turns room → AreBegun turns.clients
ready_begun ready = record {
  each = λ index client under there going. ready.schedule.answered.some index client under there going;
}

-- A client that has no call under way asks for nothing.
pub asks_nothing : {script : Script} (actor : ℕ) {clients : List Client} → is_busy_at clients actor ≡ false
    → IsAskedNext script actor clients to_compute.Nothing
asks_nothing actor {clients} idle = record {
  can = tt;
  asked = λ client there. (
    (λ under call going is. let none = not_busy_idle clients actor idle client there in cc),
    (λ none. refl),
  );
}

module _ {script : Script} {actor : ℕ} {was now : Turns} (turn : IsTurnOf script actor was now) where
  -- The turn found another's call in its way, where nothing was listed and no call is under way.
  pub has_found_busy : length now.items ≡ length was.items → is_busy_at now.clients actor ≡ false
      → HasFoundBusy script actor now
  has_found_busy same idle =
      let none = not_busy_idle now.clients actor idle turn.now turn.changes.there in
      let turned = turn.turned in grind (arith, length-append)

  -- An answer was listed, where more is listed and no call is under way,
  pub answers_one : AreBegun was.clients → length now.items ≢ length was.items → is_busy_at now.clients actor ≡ false
      → {count : ℕ} → HaveAnswered was.clients actor count → HaveAnswered now.clients actor (count + 1)
  answers_one begun more idle {count} answered client there =
      rw (let same : turn.now ≡ client = some_is (sym turn.changes.there ∙ there) in same) at (by turn.turned)
    where
      none : turn.now.under_way ≡ None
      none = not_busy_idle now.clients actor idle turn.now turn.changes.there

      was_so : answered_of turn.client.begun turn.client.under_way ≡ count
      was_so = answered turn.client turn.there

      by : Turned (calls_of script actor) actor
          (record { state = was.state; items = was.items; client = turn.client })
          (record { state = now.state; items = now.items; client = turn.now })
          → answered_of turn.now.begun turn.now.under_way ≡ count + 1
      by (Began (More does) begins leaves) = cc
      by (Began (Busy other) begins leaves) = absurd (more (ap (λ (l : List Item). length l) leaves.0))
      by (Began (Done given) begins leaves) = let before = rw begins.idle at was_so in rw leaves.1 (omega (arith, before))
      by (Went under (More does) goes leaves) = cc
      by (Went under (Busy other) goes leaves) = absurd leaves
      by (Went under (Done given) goes leaves) =
          let before = rw goes.going at was_so in
          let some = begun.each actor turn.client under turn.there goes.going in
          rw leaves.1 (omega (arith, before, some))

  -- and none was else.
  pub answers_none : AreBegun was.clients → (length now.items ≡ length was.items) ⊎ (is_busy_at now.clients actor ≡ true)
      → {count : ℕ} → HaveAnswered was.clients actor count → HaveAnswered now.clients actor (count + 0)
  answers_none begun few {count} answered client there =
      rw (let same : turn.now ≡ client = some_is (sym turn.changes.there ∙ there) in same) at (by turn.turned)
    where
      was_so : answered_of turn.client.begun turn.client.under_way ≡ count
      was_so = answered turn.client turn.there

      -- A call that ends is listed, and none is under way then.
      ended : turn.now.under_way ≡ None → length was.items < length now.items → ⊥
      ended none longer = ⊎_elim
          (λ same. omega (arith, same, longer))
          (λ busy. let under = busy_under now.clients actor turn.changes.there busy in
          let clash : None ≡ Some under.0 = sym none ∙ under.1 in cc) few

      by : Turned (calls_of script actor) actor
          (record { state = was.state; items = was.items; client = turn.client })
          (record { state = now.state; items = now.items; client = turn.now })
          → answered_of turn.now.begun turn.now.under_way ≡ count + 0
      by (Began (More does) begins leaves) = let before = rw begins.idle at was_so in rw leaves.1 (omega (arith, before))
      by (Began (Busy other) begins leaves) = rw leaves.1 (omega (arith, was_so))
      by (Began (Done given) begins leaves) =
          absurd (ended (ap (λ (c : Client). c.under_way) leaves.1) (grind (arith, length-append)))
      by (Went under (More does) goes leaves) =
          let before = rw goes.going at was_so in rw leaves.1 (omega (arith, before))
      by (Went under (Busy other) goes leaves) = absurd leaves
      by (Went under (Done given) goes leaves) =
          absurd (ended (ap (λ (c : Client). c.under_way) leaves.1) (grind (arith, length-append)))

-- What a client has before it is told of what the clients have come to, which stays.
pub next_still : (script : Script) (core : Core) (disk : Disk) (journal : Journal) (progress now : Progress) (actor : ℕ)
    (next : Next) → now.clients.items ≡ progress.clients.items → now.turns ≡ progress.turns
    → IsNextFor script actor (turns_by core disk journal progress) progress.turns next
    → IsNextFor script actor (turns_by core disk journal now) now.turns next
next_still script core disk journal progress now actor next same counted is =
    subst (λ (n : ℕ). IsNextFor script actor (turns_by core disk journal now) n next) (sym counted)
    (subst (λ (clients : List Client). IsNextFor script actor (turns_of (at_disk core disk) journal.items clients)
    progress.turns next) (sym same) is)

-- So many more are answered.
pub answers_more : (clients : List Client) (actor before more after : ℕ)
    → HaveAnswered clients actor (before + more + after) → HaveAnswered clients actor (before + (more + after))
answers_more clients actor before more after answered =
    subst (λ (n : ℕ). HaveAnswered clients actor n) (omega arith) answered
