-- A put that is refused as full, while others are under way, is one of more ids than a table has room for.
use Rattle.schedule.proofs.Words.{◌≡◌, ◌≢◌, ⊎_elim, ℕ, ◌-◌, ◌<◌, List, [], ◌∷◌, ◌++◌, length, Some, subst, arith}
use Rattle.schedule.proofs.Words.{Contains, count_by, nat_eq, ◌==◌, slice_get, is_member, unique_keys, eqb-true}
use Rattle.schedule.proofs.Words.{false≢true, sum_by-cons, IsFull, ids_of, known_ids, held_is, known_split, Answer}
use Rattle.schedule.proofs.Words.{Kind, Entry, Item, Group, Map, IsAnswerOf, World, puts_of, first_listed, rest_listed}
use Rattle.schedule.proofs.Words.{none_listed, ScriptCall, Script, calls_of, IsHeldOrPut, HasTooManyIds, unique_among}
use Rattle.schedule.proofs.Words.{unique_distinct, entry_held, map_at_end, new_or_before, call_puts, held_or_put}
use Rattle.schedule.proofs.Words.{one_too_many, PutRun, Core, IsReadKind, HoldingCall, Putting, ranges_of, Client, Work}
use Rattle.schedule.proofs.Words.{FullIsCaused, IsSchedule, IsWorldOf, Turns, AreGoing, IsWorkFor, Runs}
use Rattle.schedule.proofs.Words.{calls_under_way, held_by, Past, same_put}
use Rattle.std.proofs.Common.{true}
use Rattle.block_table.specs.Table.{ids_in_use}
use Rattle.core_state.specs.declared.answer.Answer.TheVariants as answer
use Rattle.core_state.specs.declared.answer.Kind.TheVariants as kind
use Rattle.core_state.specs.declared.item.Group.{Group as GroupItem}
use Rattle.core_state.specs.declared.item.Item.TheVariants.{Call as CallItem}
use Rattle.schedule.proofs.turn.Theirs.{whose, only_one}

-- ---- the ids that are reserved

-- An id that is reserved is counted.
member_counted : (ids : List ℕ) (id : ℕ) → is_member nat_eq ids id ≡ true → 0 < count_by (λ other. id == other) ids
member_counted [] id there = cc
member_counted (first ∷ ids) id there = rw sum_by-cons (grind (arith, member_counted ids id))

-- An id that puts under way are counted of is one of theirs.
put_counted : (calls : List HoldingCall) (id : ℕ) → 0 < puts_of (ranges_of calls) id
    → (run : PutRun) × Contains calls (Putting run) × (run.range.id ≡ id)
put_counted [] id some = absurd (omega arith)
put_counted (first ∷ calls) id some =
    grind (arith, eqb-true, sum_by-cons, first_listed, rest_listed, put_counted calls id)

-- The script asks for a put that is a client's work.
put_asked : (does : Work) (run : PutRun) (call : ScriptCall) → Contains (held_by does) (Putting run)
    → IsWorkFor call does → (call.kind ≡ kind.Put) × (call.id ≡ Some run.range.id)
put_asked does run call held asked = grind (arith, same_put, only_one, none_listed)

-- An id that is reserved is one that a call of the script puts.
reserved_put : (script : Script) {core : Core} (clients : List Client) (opening : Map) (id : ℕ)
    → AreGoing script core clients → is_member nat_eq core.pool.blocks.table.reserved id ≡ true
    → IsHeldOrPut script opening id
reserved_put script {core = core} clients opening id going there =
    let some = member_counted core.pool.blocks.table.reserved id there in
    let counted = going.are.under.reserved id in
    let found = put_counted (calls_under_way clients) id (omega arith) in
    let its = whose clients found.1 in
    let mine = going.each its.index its.client its.under its.going in
    let puts = put_asked its.under.work found.0 mine.call its.held mine.asked in
    call_puts script opening its.index (its.client.begun - 1) mine.call id mine.there puts.0 (cc)

-- ---- a put that is refused

-- Where these turns have come to what stands, the map that the run began with and the script's puts have too many ids.
abbrev pub HasManyAt : Script → Turns → Type 0
HasManyAt script turns = (world : World) (past : Past) → IsWorldOf script world
    → Runs world script past turns.state turns.items turns.clients → HasTooManyIds script world.opening

module _ {script : Script} {turns : Turns} (schedule : IsSchedule script turns) {world : World} {past : Past}
    (runs : Runs world script past turns.state turns.items turns.clients) where
  -- An id of a block is one of the map that the run began with, or one that a call of the script puts,
  block_put : (id : ℕ) → is_member nat_eq (ids_of turns.state.core.pool.blocks.table.entries) id ≡ true
      → IsHeldOrPut script world.opening id
  block_put id there = held_or_put script world.handed world.opening turns.items schedule.answered.right
      runs.recorded.right (length turns.items) id (search (map_at_end, entry_held, arith))

  -- and so is each id that is known.
  known_put : (id : ℕ) → is_member nat_eq (known_ids turns.state.core.pool.blocks.table) id ≡ true
      → IsHeldOrPut script world.opening id
  known_put id there =
      let table = turns.state.core.pool.blocks.table in
      ⊎_elim (search reserved_put)
      (search (block_put, held_is, arith)) (known_split table.reserved table.entries id there)

-- A client's put that finds no room for its id.
pub full_put : (script : Script) {turns : Turns} → IsSchedule script turns → (actor number : ℕ) (call : ScriptCall)
    (id : ℕ) → slice_get (calls_of script actor) number ≡ Some call → call.kind ≡ kind.Put → call.id ≡ Some id
    → IsFull turns.state.core.pool.blocks.table id → HasManyAt script turns
unfolding ids_in_use
full_put script {turns = turns} schedule actor number call id next asked id_is full world past handed runs =
    let known = known_ids turns.state.core.pool.blocks.table in
    one_too_many script world.opening (λ other. is_member nat_eq known other ≡ true) id (unique_keys nat_eq known)
    (λ there. false≢true (cc)) (unique_distinct known) full.all_used (unique_among known)
    (search call_puts) (known_put schedule runs)

-- ---- what a turn lists

-- Answers that the table is full have their cause after the turn, if they had it before.
abbrev pub FullStays : Script → Turns → Turns → Type 0
FullStays script before after = (world : World) (past : Past) → IsWorldOf script world
    → Runs world script past before.state before.items before.clients
    → FullIsCaused script world.opening before.items → FullIsCaused script world.opening after.items

-- A new answer that has its cause,
full_entry : {script : Script} {opening : Map} {items : List Item} (last : Entry)
    → (last.answer ≡ answer.Full → HasTooManyIds script opening) → FullIsCaused script opening items
    → FullIsCaused script opening (items ++ CallItem last ∷ [])
full_entry last new caused = grind (arith, new_or_before)

-- and a new group, which answers nothing.
full_group : {script : Script} {opening : Map} {items : List Item} (group : GroupItem)
    → FullIsCaused script opening items → FullIsCaused script opening (items ++ Group group ∷ [])
full_group group caused = grind (arith, new_or_before)

module _ (script : Script) (before after : Turns) where
  -- A turn that lists nothing,
  pub full_same : after.items ≡ before.items → FullStays script before after
  full_same items world past handed runs caused = search arith

  -- one that lists an answer,
  pub full_answer : (last : Entry) → after.items ≡ before.items ++ CallItem last ∷ []
      → (last.answer ≡ answer.Full → HasManyAt script before) → FullStays script before after
  full_answer last items many world past handed runs caused =
      rw items (full_entry last (λ is. many is world past handed runs) caused)

  -- one that lists a group,
  pub full_made : (group : GroupItem) → after.items ≡ before.items ++ Group group ∷ [] → FullStays script before after
  full_made group items world past handed runs caused = search (full_group, arith)

  -- and one that lists a group before the answer to the call that made it.
  pub full_synced : (group : GroupItem) (last : Entry)
      → after.items ≡ (before.items ++ Group group ∷ []) ++ CallItem last ∷ [] → last.answer ≢ answer.Full
      → FullStays script before after
  full_synced group last items other world past handed runs caused = search (full_entry, full_group, arith)

-- No other call than a put is answered so.
pub put_alone : {asked : Kind} {given : Answer} → asked ≢ kind.Put → IsAnswerOf asked given → given ≢ answer.Full
put_alone other of is = other (rw is at of)

pub read_no_put : {asked : Kind} → IsReadKind asked → asked ≢ kind.Put
read_no_put read is = subst IsReadKind is read
