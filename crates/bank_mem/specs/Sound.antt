-- How the parts of a bank in memory stand to each other.
use Rattle.std.specs.Prelude.{◌≡◌, ℕ, ◌<◌, List, length, Some, slice_get, Vec, All}
use Rattle.std.specs.declared.alloc.Global.{Global}
use Rattle.bank_mem.specs.declared.record.Call.{Call}
use Rattle.bank_mem.specs.Record.{Shelf, content, held_durably, replay, called_device, called_sector}

-- The record leads to what is held.
abbrev pub LeadsTo : Shelf → List Call → Shelf → Type 0
LeadsTo first calls now =
    (d x : ℕ) → (replay (held_durably (content first)) calls).reads d x ≡ content now d x

-- Each device has this many sectors.
abbrev pub AllWide : Shelf → ℕ → Type 0
AllWide shelf sectors = (d : ℕ) (v : Vec (List ℕ) Global) → slice_get shelf d ≡ Some v
    → length v.items ≡ sectors

-- Each call on record is for a device, and for a sector of it, that there is.
abbrev pub AllPlaced : ℕ → ℕ → List Call → Type 0
AllPlaced devices sectors calls = All (λ call. (called_device call < devices)
    × ((x : ℕ) → called_sector call ≡ Some x → x < sectors)) calls

-- The device of a call is there, and so is its sector.
abbrev pub HasPlaceOf : Shelf → Call → Type 0
HasPlaceOf shelf call = (called_device call < length shelf)
    × ((row : Vec (List ℕ) Global) (x : ℕ) → slice_get shelf (called_device call) ≡ Some row
    → called_sector call ≡ Some x
    → x < length row.items)
