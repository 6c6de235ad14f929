-- A put finds no space only where the blocks and the puts of the script are many, turn by turn.
use Rattle.schedule.proofs.Words.{AreUsed, Bool, Changes, Client, Core, Entry, FindsNoSpace, HasToldWidths, HasUsedRuns}
use Rattle.schedule.proofs.Words.{IndexEntry, IsBornBehind, IsCore, IsOpenSince, Item, List, NoSpaceIsCaused, None}
use Rattle.schedule.proofs.Words.{Option, Reflow, Script, ScriptCall, Some, TurnState, Uber, [], arith, births_kept}
use Rattle.schedule.proofs.Words.{births_told_call, births_told_group, calls_of, false, fill_bytes, handed_by}
use Rattle.schedule.proofs.Words.{has_ended, has_ended_call, has_ended_group, if◌then◌else◌, inl, inr, length}
use Rattle.schedule.proofs.Words.{length_put, listed_on, mul-le-mul_left, nat_tests, no_space_call, no_space_group}
use Rattle.schedule.proofs.Words.{refl, sectors_taken, slice_get, take, take_all, taken_later, width_told_call}
use Rattle.schedule.proofs.Words.{width_told_group, ℕ, ⊎_elim, ◌*◌, ◌++◌, ◌+◌, ◌-◌, ◌∷◌, ◌≡◌, ◌≤◌}
use Rattle.std.proofs.Common.{◌==◌, true}
use Rattle.core_state.specs.declared.item.Item.TheVariants.{Call as CallItem}
use Rattle.core_turns.specs.Core.{groups_begun}
use Rattle.schedule.proofs.turn.Numbered.{turn_numbers}
use Rattle.schedule.proofs.turn.Stays.{Stays, latest_births, opened_stays, same_births}
use Rattle.schedule.proofs.turn.Using.{full_by_runs, left_next, left_same, most_next, tight_below}
use Rattle.schedule.proofs.turn.UsingTurns.{FitsPut, HasAnswered}
use Rattle.schedule.proofs.turn.UsingWorks.{FindsNone, TurnLeaves}

-- ---- what the journal tells

-- A group of the width before it ended no expansion.
same_width : (one other : ℕ) → (if one == other then false else true) ≡ false → one ≡ other
same_width one other is = grind (arith, nat_tests, is)

module _ {uber : Uber} {items : List Item} where
  -- It tells the pool's widths behind what a turn lists: a group, if it answers one,
  told_on : {old new : Core} (at : ℕ) (made : Option ℕ) → Stays old new → HasAnswered old new made
      → HasToldWidths uber items old → HasToldWidths uber (listed_on new.pool.uber.reflow items at made) new
  told_on at made stays group told = grind (
    arith,
    same_births,
    latest_births,
    width_told_group,
    births_told_group,
    births_kept,
    same_width,
    has_ended_group,
  )

  -- and an answer.
  told_answer : {core : Core} (entry : Entry) → HasToldWidths uber items core
      → HasToldWidths uber (items ++ CallItem entry ∷ []) core
  told_answer entry told = search (width_told_call, births_told_call, has_ended_call, arith)

-- Want of space that it tells of has its cause behind a group.
caused_on : {script : Script} {uber : Uber} {entries : List IndexEntry} {items : List Item} (widths : Reflow) (at : ℕ)
    (made : Option ℕ) → NoSpaceIsCaused script uber entries items
    → NoSpaceIsCaused script uber entries (listed_on widths items at made)
caused_on widths at made caused = grind (arith, no_space_group)

-- ---- a turn

module _ {script : Script} {actor : ℕ} {before after : TurnState} {clients news : List Client}
    (was : slice_get clients actor ≡ Some before.client) (changes : Changes clients news actor after.client)
    (is : IsCore before.state.core) (leaves : TurnLeaves (calls_of script actor) actor before after)
    {uber : Uber} {entries : List IndexEntry}
    (stood : HasUsedRuns script uber entries before.state.core before.items clients) where
  abbrev old : Core
  old = before.state.core

  abbrev new : Core
  new = after.state.core

  -- What was used is what was used before, and what the call uses that begins, if one does.
  used : AreUsed script uber entries new news
  used = ⊎_elim still next leaves.begins
    where
      still : (after.client.begun ≡ before.client.begun) × (leaves.more ≡ []) → AreUsed script uber entries new news
      still same = grind (arith, left_same)

      next : (after.client.begun ≡ before.client.begun + 1) × (before.client.under_way ≡ None) × (call : ScriptCall)
          × (slice_get (calls_of script actor) before.client.begun ≡ Some call) × ((uber : Uber) → IsOpenSince uber old
          → FitsPut uber leaves.more (length_put call.kind (fill_bytes call.fill)))
          → AreUsed script uber entries new news
      next (begun, idle, call, there, fits) =
          let left = left_next changes was stood.used.are_left call there begun in
          let its : FitsPut uber leaves.more (length_put left.1.call.kind (fill_bytes left.1.call.fill)) =
          rw left.2 (fits uber stood.opened) in search (most_next, leaves.goes.runs)

  -- ---- a put that finds no space

  -- how many sectors so many bytes take that are born in a group
  abbrev taken_in : ℕ → ℕ → ℕ
  taken_in len born = sectors_taken old.pool.uber.parity old.pool.uber.births len born

  -- They take as many as if they were born in a group that follows from the journal.
  abbrev IsBornAs : ℕ → Type 0
  IsBornAs len = (born : ℕ) × IsBornBehind uber before.items stood.last.group born
      × (taken_in len (old.begun + 1) ≡ taken_in len born)

  -- They are born in the group after the last one listed, or while a commit is under way in the one after that. That
  -- makes a difference only where the last one ended an expansion.
  born_beside : (len : ℕ) → old.begun ≡ stood.last.group.group + 1
      → (ended : Bool) → has_ended false uber.reflow.from before.items ≡ ended → IsBornAs len
  born_beside len begun true is_ended = (old.begun + 1, inr (omega arith, is_ended), refl)
  born_beside len begun false is_settled = (
    stood.last.group.group + 1,
    inl refl,
    grind (arith, taken_later),
  )

  born_of : (len : ℕ) → IsBornAs len
  born_of len = by old.committing is.begun
    where
      by : (committing : Option ℕ) → old.begun ≡ old.pool.uber.group + groups_begun committing → IsBornAs len
      by None begun = (old.begun + 1, search arith, refl)
      by (Some actor) begun = born_beside len (search arith) (has_ended false uber.reflow.from before.items) refl

  finds : (entry : Entry) {size : ℕ} → FindsNone (calls_of script actor) actor before entry size
      → FindsNoSpace script uber entries before.items (length before.items) entry size
  finds entry found = let born_as = born_of (length (fill_bytes found.call.fill)) in rw found.entry_is (record {
    group = stood.last.group;
    before = stood.last.latest;
    born = born_as.0;
    behind = search (all, arith);
    size_is = grind (arith, all, handed);
    tight = tight_below wide (search full_by_runs);
  })
    where
      all : before.items ≡ take (length before.items) before.items
      all = search (take_all, arith)

      -- The pool has no fewer sectors than at its opening.
      wide : uber.reflow.rows * uber.reflow.from ≤ old.pool.blocks.space.capacity
      wide = grind (arith, mul-le-mul_left)

      before_it : before.client.begun + 1 - 1 ≡ before.client.begun
      before_it = omega arith

      handed : handed_by script actor (before.client.begun + 1) ≡ fill_bytes found.call.fill
      handed = grind (arith, before_it)

  -- **What stood between two turns of what was used stands after a turn of a client.**
  pub turn_uses : HasUsedRuns script uber entries new after.items news
  turn_uses =
      let told = told_on leaves.at leaves.made leaves.goes.stays leaves.goes.group stood.told in
      let caused = caused_on new.pool.uber.reflow leaves.at leaves.made stood.caused in record {
        opened = opened_stays leaves.goes.stays stood.opened;
        used = used;
        last = turn_numbers leaves stood.last;
        told = elim leaves.lists [ inl same ↦ rw same told | inr listed ↦ rw listed.1 (told_answer listed.0 told) ];
        caused = elim leaves.lists [
          | inl same ↦ rw same caused
          | inr listed ↦ rw listed.1 (no_space_call script uber entries _ caused listed.0
              (λ size is. let found = listed.2 size is in rw found.0 (finds listed.0 found.1)))
        ];
      }
