-- Where a run of sectors fits between the runs in use and the holds, and how far a walk to the lowest place has come.
use Rattle.std.specs.Prelude.{◌≡◌, ℕ, ◌+◌, ◌-◌, ◌*◌, ◌/◌, ◌%◌, ◌<◌, ◌≤◌, List, Option, Some, None, Result, Ok, Err}
use Rattle.std.specs.Prelude.{Contains, All, AllPairs, cond, get_or, length, nat_lt, take}
use Rattle.range_locks.specs.declared.hold.Hold.{Hold}
use Rattle.range_locks.specs.declared.hold.HoldKind.TheVariants.{Exclusive}
use Rattle.range_locks.specs.Holds.{HasSectors, Overlaps, IsFirstIn}
use Rattle.range_locks.specs.Order.{EndsBefore, IsInOrder}
use Rattle.space_alloc.specs.declared.refused.TakeRefused.{TakeRefused}
use Rattle.space_alloc.specs.declared.refused.TakeRefused.TheVariants.{NoSpace, Busy}
use Rattle.space_alloc.specs.declared.walk.Walk.{Walk}
use Rattle.space_alloc.specs.Space.{IsIn}
use Rattle.space_alloc.specs.Edges.{IsUnused, IsRising}

-- No hold of the list overlaps the range.
abbrev pub Spares : List Hold → ℕ → ℕ → Type 0
Spares holds start end = (hold : Hold) → Contains holds hold → Overlaps hold start end → ⊥

-- A run that starts here ends within the pool, has no sector in use, and no shared hold overlaps it.
pub record IsRoom (edges : List ℕ) (shared : List Hold) (capacity len start : ℕ) : Type 0 where
  pub within : start + len ≤ capacity
  pub unused : (sector : ℕ) → IsIn start len sector → IsUnused edges sector
  pub spares : Spares shared start (start + len)

-- A run fits here, and so does none below.
pub record IsLowest (edges : List ℕ) (shared exclusive : List Hold) (capacity len start : ℕ) : Type 0 where
  pub room : IsRoom edges shared capacity len start
  pub clear : Spares exclusive start (start + len)
  pub none : (other : ℕ) → other < start → IsRoom edges shared capacity len other
      → Spares exclusive other (other + len) → ⊥

-- The lowest room that no shared hold overlaps is hindered by this exclusive hold first.
pub record IsHinderedBy (edges : List ℕ) (shared exclusive : List Hold) (capacity len : ℕ) (hold : Hold) : Type 0 where
  pub start : ℕ
  pub room : IsRoom edges shared capacity len start
  pub lowest : (other : ℕ) → IsRoom edges shared capacity len other → start ≤ other
  pub first : IsFirstIn exclusive start (start + len) Exclusive hold

-- what hinders the lowest room below a sector, if there is any room there
abbrev pub IsHindered : List ℕ → List Hold → List Hold → ℕ → ℕ → ℕ → Option Hold → Type 0
IsHindered edges shared exclusive capacity len start None = (other : ℕ) → other < start
    → IsRoom edges shared capacity len other → ⊥
IsHindered edges shared exclusive capacity len start (Some hold) = IsHinderedBy edges shared exclusive capacity len hold

-- why there is no room: none is long enough, or an exclusive hold hinders each, this one the lowest
abbrev pub HasNoRoom : List ℕ → List Hold → List Hold → ℕ → ℕ → Option Hold → Type 0
HasNoRoom edges shared exclusive capacity len None = (other : ℕ) → IsRoom edges shared capacity len other → ⊥
HasNoRoom edges shared exclusive capacity len (Some hold) = IsHinderedBy edges shared exclusive capacity len hold
    × ((other : ℕ) → IsRoom edges shared capacity len other → Spares exclusive other (other + len) → ⊥)

-- what a search answers: the lowest place where a run fits, or what hinders it
abbrev pub IsSearched : List ℕ → List Hold → List Hold → ℕ → ℕ → Result ℕ (Option Hold) → Type 0
IsSearched edges shared exclusive capacity len (Ok start) = IsLowest edges shared exclusive capacity len start
IsSearched edges shared exclusive capacity len (Err hindered) = HasNoRoom edges shared exclusive capacity len hindered

-- what is answered where there is no room
abbrev pub refusal_of : ℕ → Option Hold → TakeRefused
refusal_of len None = NoSpace len
refusal_of len (Some hold) = Busy hold.actor

-- The holds begin one after another.
abbrev pub IsByStart : List Hold → Type 0
IsByStart holds = AllPairs (λ one later. one.lo ≤ later.lo) holds

-- what a search may rely on
pub record IsSorted (edges : List ℕ) (shared exclusive : List Hold) : Type 0 where
  pub edges_rise : IsRising edges
  pub shared_order : AllPairs IsInOrder shared
  pub exclusive_order : AllPairs EndsBefore exclusive
  pub exclusive_some : All HasSectors exclusive

-- Sectors from here up to an end are free, and the next one that is free stands at this edge or behind it.
pub record IsRunTo (edges : List ℕ) (capacity start end next : ℕ) : Type 0 where
  pub odd : next % 2 ≡ 1
  pub unused : (sector : ℕ) → start ≤ sector → sector < end → IsUnused edges sector
  pub ends : (last : ℕ) → last + 1 ≡ next → last < length edges → get_or edges last 0 ≡ end
  pub behind : (sector : ℕ) → end ≤ sector → sector < capacity → IsUnused edges sector
      → (next < length edges) × (end < get_or edges next 0) × (get_or edges next 0 ≤ sector)

-- how far a walk has come: no run fits below its start, and the holds so far end at or below it
pub record HasWalked (edges : List ℕ) (shared exclusive : List Hold) (capacity len : ℕ) (walk : Walk) : Type 0 where
  pub run : IsRunTo edges capacity walk.start walk.end walk.next
  pub seen : (edge : ℕ) → edge + 2 < walk.next → (edge < length edges) × (get_or edges edge 0 < capacity)
  pub none : (other : ℕ) → other < walk.start → IsRoom edges shared capacity len other
      → Spares exclusive other (other + len) → ⊥
  pub hindered : IsHindered edges shared exclusive capacity len walk.start walk.hindered
  pub shared_within : walk.shared ≤ length shared
  pub exclusive_within : walk.exclusive ≤ length exclusive
  pub shared_passed : All (λ hold. hold.hi ≤ walk.start) (take walk.shared shared)
  pub exclusive_passed : All (λ hold. hold.hi ≤ walk.start) (take walk.exclusive exclusive)

-- the hold at a place, if it begins below a sector
abbrev pub IsHead : List Hold → ℕ → ℕ → Option Hold → Type 0
IsHead holds at end None = (default : Hold) → at < length holds → end ≤ (get_or holds at default).lo
IsHead holds at end (Some hold) = (at < length holds)
    × ((default : Hold) → get_or holds at default ≡ hold) × (hold.lo < end)

-- whether a run begins at sector 0, as a number
abbrev pub first_run : List ℕ → ℕ → ℕ
first_run edges capacity = cond (nat_lt 0 (get_or edges 0 capacity)) 1 0

-- the most steps that lead to here from the first run on: each exclusive hold may make the search look twice at a
-- shared one
abbrev pub steps_to : Walk → ℕ
steps_to walk = walk.next / 2 + walk.shared + 2 * walk.exclusive

-- what is left to be looked at
abbrev pub left_of : List ℕ → List Hold → List Hold → ℕ → Walk → ℕ
left_of edges shared exclusive capacity walk =
    (capacity - walk.start) + (length edges - walk.next) + (length shared - walk.shared)
    + (length exclusive - walk.exclusive)

-- The list has each sector at which a run of free sectors begins.
abbrev pub HasBegins : List ℕ → ℕ → List ℕ → Type 0
HasBegins edges capacity begins = (sector : ℕ) → sector < capacity → IsUnused edges sector
    → ((before : ℕ) → before + 1 ≡ sector → IsUnused edges before → ⊥) → Contains begins sector
