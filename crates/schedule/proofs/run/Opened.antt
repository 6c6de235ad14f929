-- A run of turns as an opening leaves it: no client has begun a call.
use Rattle.schedule.proofs.Words.{◌≡◌, ℕ, zero, suc, List, [], ◌∷◌, Some, None, refl, subst, arith, slice_get, Disk}
use Rattle.schedule.proofs.Words.{Later, Item, Group, Map, PutBytes, Calls, HaveParity, Kept, Setting, World, ⊎_elim}
use Rattle.schedule.proofs.Words.{Contains, contains_cases, contains_none, AreUnderWay, OpensPool, Pool, HasBank}
use Rattle.schedule.proofs.Words.{HoldsMap, state_of, Script, first_item, Core, at_disk, AreCallsOf, Stands, Client}
use Rattle.schedule.proofs.Words.{UnderWay, IsGoing, Runs, calls_under_way, blank_client, blank_clients, turns_of}
use Rattle.schedule.proofs.Words.{first_turns, Past, undamaged}
use Rattle.schedule.proofs.run.Beginning.{recorded_first}
use Rattle.core_turns.proofs.state.Damage.{none_damaged, none_listed}
use Rattle.schedule.proofs.turn.Theirs.{none_some}

-- the core of a pool of which no call is under way
abbrev pub resting : Pool → Core
resting pool = record {
  pool = pool;
  holds = [];
  begun = pool.uber.group;
  committing = None;
  copying = None;
  attaching = None;
  scrubbing = None;
  reach = pool.uber.reflow.to;
}

-- The turns begin with a core at rest, of the pool that was opened, and the item of its group.
pub begins_first : (script : Script) {pool : Pool} {core : Core} (mid : Disk) {items : List Item} → core ≡ resting pool
    → items ≡ Group (first_item pool) ∷ [] → turns_of (at_disk core mid) items (blank_clients script.clients)
    ≡ first_turns script (at_disk (resting pool) mid) (first_item pool)
begins_first script mid core_is items_are i =
    turns_of (at_disk (core_is i) mid) (items_are i) (blank_clients script.clients)

-- A client that has begun no call is one of those,
pub blank_is : (count index : ℕ) {client : Client} → slice_get (blank_clients count) index ≡ Some client
    → client ≡ blank_client
blank_is zero index there = cc
blank_is (suc count) zero there = cc
blank_is (suc count) (suc index) there = blank_is count index there

-- and has none under way.
pub none_of_blank : (count : ℕ) {index : ℕ} {client : Client} {under : UnderWay}
    → IsGoing (blank_clients count) index client under → ⊥
none_of_blank count going = search (none_some, blank_is, arith)

pub none_held : (count : ℕ) → calls_under_way (blank_clients count) ≡ []
none_held zero = refl
none_held (suc count) = none_held count

-- No call of a core is under way.
pub calls_none : {core : Core} → AreUnderWay core.pool.blocks [] → AreCallsOf core []
calls_none rest = search (contains_none, arith)

module _ {setting : Setting} {first : Kept} {later : List Kept} {pool : Pool} {silent : ℕ} {old mid : Disk}
    (calls : Calls) (handed : PutBytes)
    (begins : OpensPool setting first later pool silent old mid) where
  abbrev chosen_map : Map
  chosen_map = begins.opened.chosen.map

  -- the world of a run that begins with the chosen group's map
  abbrev pub opened_world : World
  opened_world = record {
    setting = setting;
    known = first ∷ later;
    opening = chosen_map;
    calls = calls;
    handed = handed;
  }

  only_next : (kept : Kept) → Contains (begins.opened.next ∷ []) kept → kept ≡ begins.opened.next
  only_next kept listed = ⊎_elim (λ same. same) (λ none. absurd (contains_none kept none))
      (contains_cases begins.opened.next [] kept listed)

  -- The pool stands, and holds the map of the group that was chosen.
  stands_first : HasBank pool.uber pool.out mid
      → Stands setting begins.opened.next [] chosen_map undamaged (λ actor. []) [] None (at_disk (resting pool) mid)
  stands_first bank = record {
    groups = search;
    alike = begins.group.alike;
    kept = begins.group.kept;
    spared = search contains_none;
    reads = λ block read. absurd (contains_none read.call read.listed);
    damage_is = none_damaged;
    lists = λ kept listed. none_listed kept (rw (only_next kept listed) begins.excepted);
    shape = begins.group.shape;
    tells = begins.group.tells;
    bank = bank;
    holds = subst (λ (map : Map). HoldsMap [] map (state_of pool mid)) (λ i id. begins.opened.renews.map id i)
        (rw begins.excepted at begins.holds);
    each = λ call has. absurd (contains_none call has);
  }

  -- So a run of turns begins, with its journal's first group.
  pub runs_first : HaveParity first.uber.parity (first ∷ later) → (past : Past) → past.origin ≡ old
      → past.banks 1 ≡ mid → Later old mid → HasBank pool.uber pool.out mid → (script : Script) (count : ℕ)
      → Runs opened_world script past (at_disk (resting pool) mid) (Group (first_item pool) ∷ []) (blank_clients count)
  runs_first parity past origin here opened_later bank script count = record {
    last = begins.opened.next;
    begun = [];
    contents = λ actor. [];
    commit = None;
    item = first_item pool;
    reach = setting.reach;
    recorded = search recorded_first;
    stands = search (none_held, stands_first);
    theirs = search none_of_blank;
    each = λ index client under going. absurd (none_of_blank count going);
    attaches = λ index client under run going. absurd (none_of_blank count going);
  }
