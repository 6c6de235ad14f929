-- A turn of a client.
use Rattle.schedule.proofs.Words.{◌≡◌, ℕ, ◌+◌, ◌-◌, List, [], ◌∷◌, ◌++◌, length, Option, Some, None, refl, slice_get}
use Rattle.schedule.proofs.Words.{Disk, Reflow, Answer, Entry, Item, Call, ScriptCall, More, Busy, Done, Core}
use Rattle.schedule.proofs.Words.{CoreState, IsCore, Client, UnderWay, Work, Turned, Began, Went, BeginsCall, GoesOnBy}
use Rattle.schedule.proofs.Words.{HasTableOf, WorkGoesOn, entry_for, listed_on, listed_with, turn_state, begun_at}
use Rattle.schedule.proofs.Words.{made_by, made_in}
use Rattle.schedule.specs.Works.{commit_in}

-- The client's next call had its first turn.
module _ {calls : List ScriptCall} (actor : ℕ) (core new : Core) (disk : Disk) (items : List Item) (client : Client)
    {call : ScriptCall} (idle : client.under_way ≡ None) (next : slice_get calls client.begun ≡ Some call) where
  pub begun_more : {does : Work} {at : ℕ} → BeginsCall core new disk.devices actor call (More does)
      → HasTableOf core (More does)
      → at ≡ length items → Turned calls actor (turn_state core disk items client) (turn_state new disk items (record {
        begun = client.begun + 1;
        under_way = Some (record { at = at; work = does });
      }))
  begun_more {does = does} {at = at} did table at_is = Began (More does) (search) (refl, search)

  pub begun_busy : (by : ℕ) → BeginsCall core new disk.devices actor call (Busy by)
      → Turned calls actor (turn_state core disk items client) (turn_state new disk items client)
  begun_busy by did = Began (Busy by) (search) (refl, refl)

  pub begun_done : {given : Answer} {at : ℕ} {entry : Entry} {listed : List Item}
      → BeginsCall core new disk.devices actor call (Done given) → at ≡ length items
      → entry ≡ entry_for call actor (client.begun + 1) at given → listed ≡ items ++ Call entry ∷ []
      → Turned calls actor (turn_state core disk items client)
      (turn_state new disk listed (record { begun = client.begun + 1; under_way = client.under_way }))
  begun_done {given = given} did at_is entry_is listed_is = Began (Done given) (search) (cc, search)

-- Its call under way had its next one, in which the journal had the same items until it listed some.
module _ {calls : List ScriptCall} (actor : ℕ) {before after : CoreState} {items middle : List Item} (client : Client)
    {under : UnderWay} {call : ScriptCall} (going : client.under_way ≡ Some under)
    (is : slice_get calls (client.begun - 1) ≡ Some call) (goes : WorkGoesOn under.work before after)
    (core : IsCore after.core) (same : middle ≡ items) where
  pub went_more : {does : Work} {at now : ℕ} {widths : Reflow} {listed : List Item} {made : Option ℕ}
      → GoesOnBy before after call under.work (More does)
      → at ≡ begun_at (commit_in does) (commit_in under.work) under.at now → now ≡ length middle
      → widths ≡ after.core.pool.uber.reflow → made ≡ made_in does → listed ≡ listed_on widths middle at made
      → Turned calls actor (record { state = before; items = items; client = client }) (record {
        state = after;
        items = listed;
        client = record {
          begun = client.begun;
          under_way = Some (record { at = at; work = does });
        };
      })
  went_more {does = does} {at = at} did at_is now_is widths_is made_is rest = Went under (More does) (search) (cc, cc)

  pub went_done : {given : Answer} {widths : Reflow} {entry : Entry} {listed : List Item} {made : Option ℕ}
      {left : Option UnderWay}
      → GoesOnBy before after call under.work (Done given) → widths ≡ after.core.pool.uber.reflow
      → entry ≡ entry_for call actor client.begun under.at given
      → listed ≡ listed_with widths middle under.at entry made entry.answer → made ≡ made_by under.work → left ≡ None
      → Turned calls actor (record { state = before; items = items; client = client }) (record {
        state = after;
        items = listed;
        client = record { begun = client.begun; under_way = left };
      })
  went_done {given = given} {widths = widths} {made = made} did widths_is entry_is listed_is made_is left_is =
      Went under (Done given) (search) (cc, search)
