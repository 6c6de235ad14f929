-- What a file of sectors holds, what a crash may leave of it, and what each call does to that.
use Rattle.std.specs.Prelude.{◌≡◌, ◌≢◌, ◌⊎◌, ℕ, ◌/◌, ◌%◌, ◌<◌, ◌≤◌, List, [], Option, Some, None, Result, OnOk, OnErr}
use Rattle.std.specs.Prelude.{IsSome, Contains, length, take, drop}
use Rattle.bank_trait.specs.Causes.{counted}
use Rattle.bank_trait.specs.declared.Failed.{Failed}

-- A file at one moment. Sector x is the 512 bytes from byte 512 * x on. Moments are numbers that whoever
-- makes the calls hands over, one to each write and sync.
pub record Contents : Type 0 where
  -- in bytes
  pub length : ℕ
  -- what a read gives, by sector: none where nothing is told, or where the file has no whole sector
  pub reads : ℕ → Option (List ℕ)
  -- no call that may have changed anything had a later moment
  pub last : ℕ
  -- what a crash at that moment leaves for certain, by sector
  pub leaves : ℕ → ℕ → Option (List ℕ)
  -- what each sector held at the last sync and was handed since, by moment
  pub could : ℕ → ℕ → List (List ℕ)

-- nothing is told
abbrev pub untold : ℕ → Contents
untold bytes = record {
  length = bytes;
  reads = λ sector. None;
  last = 0;
  leaves = λ moment sector. None;
  could = λ moment sector. [];
}

-- A call that failed is counted once, and one that went well is not. The count never falls.
pub record CountsFault {T E : Type 0} (before now : ℕ) (result : Result T E) : Type 0 where
  pub later : before ≤ now
  pub failed : OnErr result (now ≡ counted before)
  pub well : OnOk result (now ≡ before)

-- So many bytes at the front of the piece are those from this offset on, where its sector is told.
abbrev pub GivesBytes : Contents → ℕ → ℕ → List ℕ → Type 0
GivesBytes file offset count piece = (bytes : List ℕ) → file.reads (offset / 512) ≡ Some bytes
    → take count piece ≡ take count (drop (offset % 512) bytes)

-- A call at this moment leaves the length as it was, and what a crash before it might have left.
pub record GoesOn (old new : Contents) (moment : ℕ) : Type 0 where
  pub length : new.length ≡ old.length
  pub last : new.last ≤ moment
  pub told : (x : ℕ) → IsSome (old.reads x) → IsSome (new.reads x)
  pub past : (t : ℕ) → t < moment → (x : ℕ)
      → (new.leaves t x ≡ old.leaves t x) × (new.could t x ≡ old.could t x)

-- After a write to sector x a crash may leave any bytes there until the next sync; all else stays. One that
-- fails may leave any bytes to be read, but what the sector was handed is on record: these bytes, where the
-- write went well.
pub record Written (old new : Contents) (moment x : ℕ) (bytes : List ℕ)
    (result : Result (Unit {0}) Failed) : Type 0 where
  pub goes_on : GoesOn old new moment
  pub told : OnOk result (IsSome (old.reads x) → new.reads x ≡ Some bytes)
  pub torn : OnOk result (new.leaves moment x ≡ None)
  pub others_read : (y : ℕ) → y ≢ x → new.reads y ≡ old.reads y
  pub others_leave : (y : ℕ) → y ≢ x → new.leaves moment y ≡ old.leaves old.last y
  pub could : (b : List ℕ) → Contains (new.could moment x) b
      → (b ≡ bytes) ⊎ Contains (old.could old.last x) b
  pub handed : OnOk result (IsSome (old.reads x) → Contains (new.could moment x) bytes)
  pub still_could : (b : List ℕ) → Contains (old.could old.last x) b → Contains (new.could moment x) b
  pub others_could : (y : ℕ) → y ≢ x → new.could moment y ≡ old.could old.last y

-- After a sync a crash leaves what is read, and of what a sector was handed it could hold that alone. One that
-- fails makes nothing certain, and what a crash could change may have changed.
pub record Settled (old new : Contents) (moment : ℕ) (result : Result (Unit {0}) Failed) :
    Type 0 where
  pub goes_on : GoesOn old new moment
  pub durable : OnOk result ((x : ℕ) → new.leaves moment x ≡ old.reads x)
  pub not_durable : OnErr result ((x : ℕ) → new.leaves moment x ≡ old.leaves old.last x)
  pub reads : OnOk result ((x : ℕ) → new.reads x ≡ old.reads x)
  pub reads_certain : (x : ℕ) (bytes : List ℕ) → old.leaves old.last x ≡ Some bytes
      → new.reads x ≡ old.reads x
  pub could : OnOk result ((x : ℕ) (b : List ℕ) → Contains (new.could moment x) b
      → (old.reads x ≡ Some b) × Contains (old.could old.last x) b)
  pub kept : OnOk result ((x : ℕ) (b : List ℕ) → old.reads x ≡ Some b → Contains (old.could old.last x) b
      → Contains (new.could moment x) b)
  pub still_could : OnErr result ((x : ℕ) → new.could moment x ≡ old.could old.last x)

-- The laws of a file at any moment: what is certain to stay is what is read, where bytes are certain the
-- sector could hold no others, nothing changes after the last call, and a sector that is told has 512 bytes.
-- What is read need be none of what it was handed: a write that failed may have left any bytes.
pub record LawfulFile (file : Contents) : Type 0 where
  pub stays_read : (x : ℕ) (bytes : List ℕ) → file.leaves file.last x ≡ Some bytes
      → file.reads x ≡ Some bytes
  pub stays_could : (x : ℕ) (bytes other : List ℕ) → file.leaves file.last x ≡ Some bytes
      → Contains (file.could file.last x) other → other ≡ bytes
  pub still : (t : ℕ) → file.last ≤ t → (x : ℕ)
      → (file.leaves t x ≡ file.leaves file.last x) × (file.could t x ≡ file.could file.last x)
  pub whole : (x : ℕ) (bytes : List ℕ) → file.reads x ≡ Some bytes → length bytes ≡ 512
