-- What callers see of a lock and of a seat.
use Rattle.std.specs.Prelude.{◌≡◌, ℕ, ◌<◌, ◌≤◌, ◌^◌, List, [], ◌∷◌, ◌++◌, length, Bool, true, false, Option, None}
use Rattle.std.specs.Prelude.{Contains}
use Rattle.atomic_table.specs.Seated.{TableId}
use Rattle.atomic_table.specs.Table.{Me}
use Rattle.turn_lock.specs.Turn.{KnowsHistory, AreAll, IsLive, entries, seen_of, seeing, telling, parting, part_of}
use Rattle.turn_lock.specs.Turn.{longer}
use Rattle.turn_lock.specs.declared.view.Event.{Event}
use Rattle.turn_lock.specs.declared.view.Member.{Member}
use Rattle.turn_lock.specs.declared.view.View.{View}

-- which lock it is, and what its histories come after
pub record Lock (K : Type 0) : Type 0 where
  pub id : TableId
  pub base : K

-- a seat of a lock, the seats that were joined into it, and whether it holds the turn
pub record Sitting (E : Type 0) : Type 0 where
  pub lock : TableId
  pub me : Member E
  pub joined : List (Member E)
  pub holds : Bool

module _ {E : Type 0} where
  -- the first seat of a lock, before the first event
  abbrev pub nobody : Member E
  nobody = record { name = []; made = 0; seen = []; own = [] }

  -- the seat itself
  abbrev pub first_of : List (Member E) → Member E
  first_of [] = nobody
  first_of (m ∷ ms) = m

  -- those that were joined into it
  abbrev pub others_of : List (Member E) → List (Member E)
  others_of [] = []
  others_of (m ∷ ms) = ms

  -- a seat of the table as callers see it
  abbrev pub sitting : TableId → View E → Sitting E
  sitting lock v = record { lock = lock; me = first_of v.members; joined = others_of v.members; holds = v.holds }

  -- the first seat of a lock
  abbrev pub first_seat : TableId → Sitting E
  first_seat lock = record { lock = lock; me = nobody; joined = []; holds = false }

  -- the seat and all that were joined into it
  abbrev pub everyone : Sitting E → List (Member E)
  everyone seat = seat.me ∷ seat.joined

  -- the seat has seen this history
  abbrev pub having_seen : List (Event E) → Sitting E → Sitting E
  having_seen history seat = record seat { me = seeing history seat.me }

  -- the seat has seen this history, and holds the turn
  abbrev pub with_turn : List (Event E) → Sitting E → Sitting E
  with_turn history seat = record seat { me = seeing history seat.me; holds = true }

  -- the turn has ended with the seat's entry
  abbrev pub after_entry : E → Sitting E → Sitting E
  after_entry entry seat = record seat { me = telling entry seat.me; holds = false }

  -- the turn has ended with no entry
  abbrev pub without_turn : Sitting E → Sitting E
  without_turn seat = record seat { holds = false }

  -- a seat was split from this one
  abbrev pub having_split : Sitting E → Sitting E
  having_split seat = record seat { me = parting seat.me }

  -- the seat that is split from this one
  abbrev pub split_from : Sitting E → Sitting E
  split_from seat = record { lock = seat.lock; me = part_of seat.me; joined = []; holds = false }

  -- another was joined into this seat, which has seen what either had
  abbrev pub with_joined : Sitting E → Sitting E → Sitting E
  with_joined seat other = record seat {
    me = seeing (longer seat.me.seen other.me.seen) seat.me;
    joined = seat.joined ++ everyone other;
  }

module _ {S E : Type 0} where
  -- A seat of the table holds nothing while it is free, and the empty slot while it holds the turn. No seat that was
  -- joined into it has seen more.
  pub record IsSeat (me : Me (Option S) (View E)) (events : ℕ) : Type 0 where
    pub live : IsLive me.0
    pub count : events ≡ length (seen_of me.0.members)
    pub most : (n : Member E) → Contains me.0.members n → length n.seen ≤ length (seen_of me.0.members)
    pub room : length (seen_of me.0.members) ≤ 2 ^ 62
    pub free : me.0.holds ≡ false → me.1 ≡ []
    pub held : me.0.holds ≡ true → (me.1 ≡ (0, None) ∷ []) × (length (seen_of me.0.members) < 2 ^ 62)

-- At the end the state stands for one history, which the seat and all that were joined into it know. Once these are all
-- seats, it is what the seat had seen.
pub record Ended {S K E : Type 0} (stands : K → List E → S → Type 0) (base : K) (seat : Sitting E) (state : S) : Type 0 where
  pub history : List (Event E)
  pub stands_for : stands base (entries history) state
  pub knows : KnowsHistory history (everyone seat)
  pub whole : AreAll (everyone seat) → seat.me.seen ≡ history
