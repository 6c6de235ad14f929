-- Each call on record is for a sector that there is.
use Rattle.std.proofs.Common.{◌≡◌, ◌⊎◌, inl, inr, ℕ, ◌<◌, List, [], ◌∷◌, ◌++◌, length, Some, Vec, slice_get, sym, subst}
use Rattle.std.proofs.Common.{take, get_or, arith}
use Rattle.std.specs.Prelude.{IsSome}
use Rattle.std.specs.declared.alloc.Global.{Global}
use Rattle.std.proofs.lemmas.List.Elements.{All-push, All-take}
use Rattle.bank_mem.specs.declared.record.Call.{Call}
use Rattle.bank_mem.specs.Record.{Shelf, content, called_device, called_sector}
use Rattle.bank_mem.proofs.Copied.{told_in}
use Rattle.bank_mem.specs.Sound.{AllPlaced, AllWide, HasPlaceOf}

-- The call is for a device, and for a sector of it, that there is.
abbrev pub Fits : ℕ → ℕ → Call → Type 0
Fits devices sectors call =
    (called_device call < devices) × ((x : ℕ) → called_sector call ≡ Some x → x < sectors)

-- one call more
pub placed_more : (devices sectors many : ℕ) (calls later : List Call) (call : Call)
    → later ≡ calls ++ call ∷ [] → many ≡ devices
    → called_device call < devices → ((x : ℕ) → called_sector call ≡ Some x → x < sectors)
    → AllPlaced devices sectors calls
    → AllPlaced many sectors later
placed_more devices sectors many calls later call one_more as_many device sector placed =
    subst (λ (k : ℕ). AllPlaced k sectors later) (sym as_many)
    (subst (λ (l : List Call). AllPlaced devices sectors l) (sym one_more)
    (All-push (Fits devices sectors) calls call placed (device, sector)))

-- one call more, or none
pub placed_noted : (devices sectors : ℕ) (calls later : List Call) (call : Call)
    → (later ≡ calls ++ call ∷ []) ⊎ (later ≡ calls)
    → called_device call < devices → ((x : ℕ) → called_sector call ≡ Some x → x < sectors)
    → AllPlaced devices sectors calls
    → AllPlaced devices sectors later
placed_noted devices sectors calls later call (inl noted) device sector placed =
    subst (λ (l : List Call). AllPlaced devices sectors l) (sym noted)
    (All-push (Fits devices sectors) calls call placed (device, sector))
placed_noted devices sectors calls later call (inr same) device sector placed =
    subst (λ (l : List Call). AllPlaced devices sectors l) (sym same) placed

-- A sector that there is stays one under another name.
pub same_sector : (x sectors : ℕ) → x < sectors → (y : ℕ) → Some x ≡ Some y → y < sectors
same_sector x sectors below y is =
    let same : x ≡ y = cc in
    subst (λ (k : ℕ). k < sectors) same below

-- A call's sector is in the row of its device.
pub in_row : (shelf : Shelf) (call : Call) (d x : ℕ) → HasPlaceOf shelf call → called_device call ≡ d
    → called_sector call ≡ Some x
    → (row : Vec (List ℕ) Global) → slice_get shelf d ≡ Some row → x < length row.items
in_row shelf call d x place device sector row is =
    place.1 row x (subst (λ (e : ℕ). slice_get shelf e ≡ Some row) (sym device) is) sector

-- one of the first calls on record
pub placed_at : (devices sectors until index : ℕ) (calls known : List Call) (other : Call)
    → known ≡ calls → AllPlaced devices sectors calls → index < length (take until known)
    → Fits devices sectors (get_or (take until known) index other)
placed_at devices sectors until index calls known other same placed below =
    subst (λ (l : List Call). AllPlaced devices sectors (take until l)) (sym same)
    (All-take (Fits devices sectors) until calls placed) index other below

-- A call for a sector that there is has its place on a shelf of that shape.
pub place_of : (shelf : Shelf) (devices sectors : ℕ) (call : Call) → length shelf ≡ devices
    → AllWide shelf sectors → Fits devices sectors call
    → HasPlaceOf shelf call
place_of shelf devices sectors call many wide fits = (
  omega (arith, many, fits.0),
  λ row x is sector. omega (arith, wide (called_device call) row is, fits.1 x sector),
)

-- A number below one count is below the same count.
pub below_same : (k count other : ℕ) → k < count → other ≡ count → k < other
below_same k count other below same = omega (arith, same)

-- A shelf of that shape tells what the sector of such a call holds.
pub told_call : (shelf : Shelf) (devices sectors : ℕ) (call : Call) → length shelf ≡ devices
    → AllWide shelf sectors → Fits devices sectors call
    → (x : ℕ) → called_sector call ≡ Some x → IsSome (content shelf (called_device call) x)
told_call shelf devices sectors call many wide fits x sector =
    told_in shelf devices sectors many wide (called_device call) x fits.0 (fits.1 x sector)
