-- The turn lock: one word, one slot, and what each seat knows of one history.
use Rattle.std.specs.Prelude.{◌≡◌, ◌≢◌, ℕ, ◌+◌, ◌*◌, ◌^◌, ◌<◌, ◌≤◌, ◌==◌, ◌&&◌, List, [], ◌∷◌, ◌++◌, length, map}
use Rattle.std.specs.Prelude.{slice_index, Bool, true, false, Option, Some, None, Contains, ⊤, nat_lt, if◌then◌else◌}
use mathlib.Core.List.{IsPrefix}
use mathlib.Core.Option.{none, some}
use lib.ListN.{get_elem?}
use Rattle.atomic_table.specs.Table.{State, Me, rest}
use Rattle.turn_lock.specs.declared.view.Event.{Event}
use Rattle.turn_lock.specs.declared.view.Member.{Member}
use Rattle.turn_lock.specs.declared.view.View.{View}

-- Two names are one. The first seat's name is empty; a seat that is split off is named by how many were split from its
-- maker before, and then as its maker.
abbrev pub is_same : List ℕ → List ℕ → Bool
is_same [] [] = true
is_same [] (y ∷ ys) = false
is_same (x ∷ xs) [] = false
is_same (x ∷ xs) (y ∷ ys) = (x == y) && is_same xs ys

module _ {E : Type 0} where
  -- the entries of a history
  abbrev pub entries : List (Event E) → List E
  entries history = map (λ (event : Event E). event.entry) history

  -- the entries of one seat in a history, in order
  abbrev pub entries_by : List ℕ → List (Event E) → List E
  entries_by name [] = []
  entries_by name (event ∷ events) = if is_same event.by name then event.entry ∷ entries_by name events else entries_by name events

  -- One of the seats has this name.
  abbrev pub IsOneOf : List (Member E) → List ℕ → Type 0
  IsOneOf members name = (m : Member E) × Contains members m × (m.name ≡ name)

  -- These are all seats: the first is one of them, and each that was split from one of them.
  abbrev pub AreAll : List (Member E) → Type 0
  AreAll members = IsOneOf members []
      × ((m : Member E) → Contains members m → (k : ℕ) → k < m.made → IsOneOf members (k ∷ m.name))

  -- The seat saw a beginning of the history, and its own entries are all that the history has of it, then as now.
  abbrev pub FitsHistory : List (Event E) → Member E → Type 0
  FitsHistory history m = IsPrefix m.seen history × (entries_by m.name history ≡ m.own) × (entries_by m.name m.seen ≡ m.own)

  -- what the seat itself saw
  abbrev pub seen_of : List (Member E) → List (Event E)
  seen_of [] = []
  seen_of (m ∷ ms) = m.seen

  -- its name
  abbrev pub name_of : List (Member E) → List ℕ
  name_of [] = []
  name_of (m ∷ ms) = m.name

  -- the seat itself is changed, and none of those that were joined into it
  abbrev pub itself : (Member E → Member E) → List (Member E) → List (Member E)
  itself change [] = []
  itself change (m ∷ ms) = change m ∷ ms

  -- the seat has seen this history
  abbrev pub seeing : List (Event E) → Member E → Member E
  seeing history m = record m { seen = history }

  -- the seat's entry comes after all that it saw
  abbrev pub telling : E → Member E → Member E
  telling entry m = record m { seen = m.seen ++ (record { by = m.name; entry = entry }) ∷ []; own = m.own ++ entry ∷ [] }

  -- the same, or no entry
  abbrev pub telling_any : Option E → Member E → Member E
  telling_any None m = m
  telling_any (Some entry) m = telling entry m

  -- a history after the turn of a seat, with its entry or none
  abbrev pub told_after : List ℕ → List (Event E) → Option E → List (Event E)
  told_after name history None = history
  told_after name history (Some entry) = history ++ (record { by = name; entry = entry }) ∷ []

  -- one more seat was split from this one
  abbrev pub parting : Member E → Member E
  parting m = record m { made = m.made + 1 }

  -- the seat that is split from one
  abbrev pub part_of : Member E → Member E
  part_of m = record { name = m.made ∷ m.name; made = 0; seen = m.seen; own = [] }

  -- the seat that is split off, alone
  abbrev pub parts_of : List (Member E) → List (Member E)
  parts_of [] = []
  parts_of (m ∷ ms) = part_of m ∷ []

  -- the maker after a split
  abbrev pub kept_at_split : View E → View E
  kept_at_split v = record v { members = itself parting v.members }

  -- the seat that a split makes
  abbrev pub made_at_split : View E → View E
  made_at_split v = record { members = parts_of v.members; holds = false; ended = false }

  -- the longer of two histories
  abbrev pub longer : List (Event E) → List (Event E) → List (Event E)
  longer one other = if nat_lt (length one) (length other) then other else one

  -- a seat with another joined into it: it has seen what either had
  abbrev pub joined : View E → View E → View E
  joined v w = record v {
    members = itself (seeing (longer (seen_of v.members) (seen_of w.members))) v.members ++ w.members;
  }

  -- what is left of a seat that was joined into another
  abbrev pub spent : View E
  spent = record { members = []; holds = false; ended = false }

  -- a seat that has seen this history
  abbrev pub looked : List (Event E) → View E → View E
  looked history v = record v { members = itself (seeing history) v.members }

  -- a seat that has seen this history, and holds the turn
  abbrev pub took : List (Event E) → View E → View E
  took history v = record v { members = itself (seeing history) v.members; holds = true }

  -- a seat whose turn has ended with its entry, or with none
  abbrev pub gave : Option E → View E → View E
  gave entry v = record v { members = itself (telling_any entry) v.members; holds = false }

  -- a seat that has ended all turns
  abbrev pub ending : View E → View E
  ending v = record v { holds = false; ended = true }

  -- The seat at this place, or one that was joined into it, is m.
  abbrev pub At : List (View E) → ℕ → Member E → Type 0
  At views i m = (v : View E) × (get_elem? views i ≡ some v) × Contains v.members m

  -- No other of the seats has the name of the first.
  abbrev pub IsNamedOnce : List (Member E) → Type 0
  IsNamedOnce [] = Unit {0}
  IsNamedOnce (m ∷ ms) = (n : Member E) → Contains ms n → n.name ≢ m.name

  -- Each seat fits the history, which has events of no others; no two have one name, and each but the first was split
  -- from one of them.
  pub record Family (views : List (View E)) (history : List (Event E)) : Type 0 where
    pub fits : (i : ℕ) (m : Member E) → At views i m → FitsHistory history m
    pub apart : (i j : ℕ) (m n : Member E) → At views i m → At views j n → m.name ≡ n.name → i ≡ j
    pub once : (i : ℕ) (v : View E) → get_elem? views i ≡ some v → IsNamedOnce v.members
    pub known : (event : Event E) → Contains history event
        → (i : ℕ) × (m : Member E) × At views i m × (m.name ≡ event.by)
    pub makers : (i : ℕ) (m : Member E) → At views i m → (k : ℕ) (name : List ℕ) → m.name ≡ k ∷ name
        → (j : ℕ) × (n : Member E) × At views j n × (n.name ≡ name) × (k < n.made)

  -- The seat knows this history: it fits, and where no seat is left beside, all events are theirs.
  pub record KnowsHistory (history : List (Event E)) (members : List (Member E)) : Type 0 where
    pub fits : (m : Member E) → Contains members m → FitsHistory history m
    pub theirs : AreAll members → (event : Event E) → Contains history event → IsOneOf members event.by

module _ {T E : Type 0} (stood : T → List (Event E) → Type 0) where
  -- At home the slot has a state that stands for the whole history, and nobody holds the turn; or one seat holds it,
  -- which has seen all; or all turns have ended, with the slot at home.
  pub data TurnState (s : State T (View E)) (history : List (Event E)) : Type 0 where
    at_home : (state : T) → s.homes ≡ some state ∷ [] → stood state history
        → slice_index s.words 0 ≡ 2 * length history
        → ((i : ℕ) (v : View E) → get_elem? s.views i ≡ some v → v.holds ≡ false) → TurnState s history
    away : (holder : ℕ) (v : View E) → s.homes ≡ none ∷ [] → slice_index s.words 0 ≡ 2 * length history + 1
        → get_elem? s.views holder ≡ some v → v.holds ≡ true → seen_of v.members ≡ history
        → ((i : ℕ) (w : View E) → get_elem? s.views i ≡ some w → w.holds ≡ true → i ≡ holder) → TurnState s history
    over : (state : T) → s.homes ≡ some state ∷ [] → stood state history → slice_index s.words 0 ≡ 2 * length history + 1
        → ((i : ℕ) (v : View E) → get_elem? s.views i ≡ some v → v.holds ≡ false) → TurnState s history

  -- All turns have ended, with the slot at home, and the seat has seen all.
  abbrev pub IsOver : State T (View E) → List (Event E) → View E → Type 0
  IsOver s history v = (state : T) × (s.homes ≡ some state ∷ []) × stood state history
      × (slice_index s.words 0 ≡ 2 * length history + 1) × (seen_of v.members ≡ history)

  -- There is one history, which each seat fits.
  pub record Rule (s : State T (View E)) : Type 0 where
    pub history : List (Event E)
    pub word : length s.words ≡ 1
    pub room : length history ≤ 2 ^ 62
    pub turned : TurnState s history
    pub last : (i : ℕ) (v : View E) → get_elem? s.views i ≡ some v → v.ended ≡ true → IsOver s history v
    pub family : Family s.views history

  -- The seat holds the turn, with a state that stands for the history; or nothing changed.
  pub record Acquires (me : Me T (View E)) (old found : ℕ) (after : Me T (View E)) : Type 0 where
    pub won : found ≡ old → (h : List (Event E)) × (state : T)
        × (after ≡ (took h me.0, (0, state) ∷ [])) × stood state h × KnowsHistory h me.0.members × (found ≡ 2 * length h)
    pub lost : found ≢ old → after ≡ me

-- Where the history has become as long as it may, the seat has seen it; else nothing changed.
pub record Observes {T E : Type 0} (me : Me T (View E)) (found : ℕ) (after : Me T (View E)) : Type 0 where
  pub full : 2 ^ 63 ≤ found → (h : List (Event E)) × (after ≡ (looked h me.0, me.1)) × KnowsHistory h me.0.members × (length h ≡ 2 ^ 62)
  pub short : found < 2 ^ 63 → after ≡ me

-- The turn has ended, with this entry or none.
abbrev pub Releases : {T E : Type 0} → Option E → Me T (View E) → Me T (View E) → Type 0
Releases entry me after = (after.0 ≡ gave entry me.0) × (after.1 ≡ rest me.1)

module _ {S K E : Type 0} (stands : K → List E → S → Type 0) where
  -- A state in the slot stands for the entries of a history.
  abbrev pub StandsFor : K → Option S → List (Event E) → Type 0
  StandsFor base None history = ⊥
  StandsFor base (Some state) history = stands base (entries history) state

  -- The same for the base that a call picked.
  abbrev pub StandsIf : Option K → Option S → List (Event E) → Type 0
  StandsIf None = λ slot history. ⊤
  StandsIf (Some base) = StandsFor base

-- the first seat of all, before the first event
abbrev pub alone : {E : Type 0} → View E
alone = record { members = (record { name = []; made = 0; seen = []; own = [] }) ∷ []; holds = false; ended = false }

module _ {E : Type 0} where
  -- what the seat has seen, and its entry or none
  abbrev pub told : View E → Option E → List (Event E)
  told v entry = told_after (name_of v.members) (seen_of v.members) entry

  -- A seat stands here, and is not spent.
  abbrev pub IsLive : View E → Type 0
  IsLive v = (m : Member E) × (rest : List (Member E)) × (v.members ≡ m ∷ rest)

module _ {T E : Type 0} where
  -- The seat has the turn, with a state that stands for the whole history, which is not full.
  abbrev pub HasAcquired : (T → List (Event E) → Type 0) → ℕ → Me T (View E) → Me T (View E) → Type 0
  HasAcquired stood events me after = (h : List (Event E)) × (state : T) × (after ≡ (took h me.0, (0, state) ∷ []))
      × stood state h × KnowsHistory h me.0.members × (events ≡ length h) × (events < 2 ^ 62)

  -- The same at any length.
  abbrev pub HasAcquiredLast : (T → List (Event E) → Type 0) → ℕ → Me T (View E) → Me T (View E) → Type 0
  HasAcquiredLast stood word me after = (h : List (Event E)) × (state : T) × (after ≡ (took h me.0, (0, state) ∷ []))
      × stood state h × KnowsHistory h me.0.members × (word ≡ 2 * length h + 1)

  -- The seat has seen a history that is as long as it may be.
  abbrev pub ObservesFull : Me T (View E) → Me T (View E) → Type 0
  ObservesFull me after = (h : List (Event E)) × (after ≡ (looked h me.0, me.1)) × KnowsHistory h me.0.members × (length h ≡ 2 ^ 62)

-- All turns have ended.
abbrev pub Closes : {T E : Type 0} → Me T (View E) → Me T (View E) → Type 0
Closes me after = (after.0 ≡ ending me.0) × (after.1 ≡ rest me.1)
