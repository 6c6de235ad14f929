-- What a record of writes and syncs says of the devices: what is read, what a crash leaves for
-- certain, and what each sector could hold.
use Rattle.std.specs.Prelude.{ℕ, List, [], ◌∷◌, Option, Some, None, ◌&&◌, ◌==◌, if◌then◌else◌, Vec, slice_get}
use Rattle.std.specs.Prelude.{option_and_then, nat_lt, option_to_list, replicate}
use Rattle.std.specs.declared.alloc.Global.{Global}
use Rattle.bank_trait.specs.Disk.{Known}
use Rattle.bank_trait.specs.Regions.{zero_sector}
use Rattle.bank_mem.specs.declared.record.Call.{Call}
use Rattle.bank_mem.specs.declared.record.Call.TheVariants.{Write, FailedWrite, Sync, Spoil}

-- sectors of 512 bytes, by device
abbrev pub Shelf : Type 0
Shelf = List (Vec (List ℕ) Global)

-- what a shelf holds
abbrev pub content : Shelf → Known
content shelf d x = option_and_then (λ v. slice_get v.items x) (slice_get shelf d)

-- what is read, what a crash leaves for certain, and what each sector held at its device's last sync
-- or was handed since, the newest first
pub record Held : Type 0 where
  pub reads : Known
  pub stays : Known
  pub could : ℕ → ℕ → List (List ℕ)

-- all of it is on the devices
abbrev pub held_durably : Known → Held
held_durably known =
    record { reads = known; stays = known; could = λ d x. option_to_list (known d x) }

-- another value at one place
abbrev pub put : Known → ℕ → ℕ → Option (List ℕ) → Known
put known d x value e y = if (e == d) && (y == x) then value else known e y

-- one value more that the sector could hold
abbrev pub handed : (ℕ → ℕ → List (List ℕ)) → ℕ → ℕ → List ℕ → ℕ → ℕ → List (List ℕ)
handed could d x bytes e y = if (e == d) && (y == x) then bytes ∷ could e y else could e y

-- another list of values that one sector could hold
abbrev pub could_only : (ℕ → ℕ → List (List ℕ)) → ℕ → ℕ → List (List ℕ) → ℕ → ℕ → List (List ℕ)
could_only could d x values e y = if (e == d) && (y == x) then values else could e y

-- a sector of one byte over and over
unfoldable pub filled : ℕ → List ℕ
filled byte = replicate 512 byte

-- a write is read and not yet certain, one that failed is not read and makes its sector uncertain, a
-- sync makes certain what is read, and what spoils a sector is read and certain
abbrev pub after : Held → Call → Held
after held (Write number d x bytes) = record {
  reads = put held.reads d x (Some bytes);
  stays = put held.stays d x None;
  could = handed held.could d x bytes;
}
after held (FailedWrite number d x bytes) = record {
  reads = held.reads;
  stays = put held.stays d x None;
  could = handed held.could d x bytes;
}
after held (Sync number d) = record {
  reads = held.reads;
  stays = λ e y. if e == d then held.reads e y else held.stays e y;
  could = λ e y. if e == d then option_to_list (held.reads e y) else held.could e y;
}
after held (Spoil number d x bytes) = record {
  reads = put held.reads d x (Some bytes);
  stays = put held.stays d x (Some bytes);
  could = could_only held.could d x (bytes ∷ []);
}

-- after all of these calls, the first of them first
abbrev pub replay : Held → List Call → Held
replay held [] = held
replay held (call ∷ calls) = replay (after held call) calls

-- the device that a call is for
abbrev pub called_device : Call → ℕ
called_device (Write number d x bytes) = d
called_device (FailedWrite number d x bytes) = d
called_device (Sync number d) = d
called_device (Spoil number d x bytes) = d

-- the sector that a call is for, where it is for one
abbrev pub called_sector : Call → Option ℕ
called_sector (Write number d x bytes) = Some x
called_sector (FailedWrite number d x bytes) = Some x
called_sector (Sync number d) = None
called_sector (Spoil number d x bytes) = Some x

-- devices that hold zeros
abbrev pub blank : ℕ → ℕ → Known
blank devices sectors d x = if nat_lt d devices && nat_lt x sectors then Some zero_sector else None
