-- What a single call on record leaves at a stop.
use Rattle.std.specs.Prelude.{◌≡◌, ℕ, ◌+◌, ◌<◌, List, Option, Some, None, slice_get}
use Rattle.std.specs.declared.hash.FoldHasher.{FoldHasher}
use Rattle.std.specs.declared.hash.BuildHasherDefault.{BuildHasherDefault}
use Rattle.std.specs.HashMap.{get, HashMap}
use Rattle.bank_trait.specs.Disk.{Known}
use Rattle.bank_mem.specs.Record.{put, filled}
use Rattle.bank_mem.specs.Crash.{same_place}
use Rattle.bank_mem.specs.declared.crash.Tear.{Tear}
use Rattle.bank_mem.specs.declared.crash.Tear.TheVariants.{Kept, Filled}
use Rattle.bank_mem.specs.declared.record.Call.{Call}
use Rattle.bank_mem.specs.declared.record.Call.TheVariants.{Write, FailedWrite, Sync, Spoil}

-- how sectors are listed, by device and sector
abbrev pub TearMap : Type 0
TearMap = HashMap (ℕ × ℕ) Tear (BuildHasherDefault FoldHasher)

-- how one sector is listed
abbrev pub tear_of : TearMap → ℕ → ℕ → Option Tear
tear_of tears d x = get same_place tears (d, x)

-- The last sync of device d on record is the last of the first n calls; n is 0 where there is none.
pub record IsSyncedUpTo (calls : List Call) (d n : ℕ) : Type 0 where
  pub last : (k : ℕ) → n ≡ k + 1 → (number : ℕ) × (slice_get calls k ≡ Some (Sync number d))
  pub none_later : (k number : ℕ) → slice_get calls k ≡ Some (Sync number d) → k < n

-- what a sector that is listed so holds once these bytes were handed to it
abbrev pub torn_to : Option Tear → List ℕ → Option (List ℕ) → Option (List ℕ)
torn_to None bytes held = held
torn_to (Some Kept) bytes held = Some bytes
torn_to (Some (Filled byte)) bytes held = Some (filled byte)

-- what the sectors hold after a call that no sync of its device follows
abbrev pub torn_after : (ℕ → ℕ → Option Tear) → Known → Call → Known
torn_after listed held (Write number d x bytes) =
    put held d x (torn_to (listed d x) bytes (held d x))
torn_after listed held (FailedWrite number d x bytes) =
    put held d x (torn_to (listed d x) bytes (held d x))
torn_after listed held (Sync number d) = held
torn_after listed held (Spoil number d x bytes) = put held d x (Some bytes)
