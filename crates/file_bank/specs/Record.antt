-- What a record of writes and syncs says of a file in memory: what is read, what a crash leaves for
-- certain, and what each sector could hold.
use Rattle.std.specs.Prelude.{◌≡◌, ℕ, ◌*◌, ◌≤◌, List, [], ◌∷◌, Option, Some, None, ◌==◌, if◌then◌else◌, length}
use Rattle.std.specs.Prelude.{slice_get, nat_lt, option_to_list, All}
use Rattle.file_bank.specs.BlockFile.{Contents}
use Rattle.file_bank.specs.declared.record.Call.{Call}
use Rattle.file_bank.specs.declared.record.Call.TheVariants.{Write, Sync}

-- what is read, what a crash leaves for certain, and what each sector held at the last sync or was
-- handed since, the newest first
pub record FileHeld : Type 0 where
  pub reads : ℕ → Option (List ℕ)
  pub stays : ℕ → Option (List ℕ)
  pub could : ℕ → List (List ℕ)

-- all of it is on the disk
abbrev pub all_certain : List (List ℕ) → FileHeld
all_certain sectors = record {
  reads = slice_get sectors;
  stays = slice_get sectors;
  could = λ x. option_to_list (slice_get sectors x);
}

-- a write is read and not yet certain, and a sync makes certain what is read
abbrev pub after_call : FileHeld → Call → FileHeld
after_call held (Write moment x bytes) = record {
  reads = λ y. if y == x then Some bytes else held.reads y;
  stays = λ y. if y == x then None else held.stays y;
  could = λ y. if y == x then bytes ∷ held.could y else held.could y;
}
after_call held (Sync moment) = record {
  reads = held.reads;
  stays = held.reads;
  could = λ y. option_to_list (held.reads y);
}

-- the moment of a call
abbrev pub moment_of : Call → ℕ
moment_of (Write moment x bytes) = moment
moment_of (Sync moment) = moment

-- after those of these calls that came by moment t, the first of them first
abbrev pub replayed_to : ℕ → FileHeld → List Call → FileHeld
replayed_to t held [] = held
replayed_to t held (call ∷ calls) = replayed_to t (if nat_lt t (moment_of call) then held else after_call held call) calls

-- No call came later.
abbrev pub AllBy : ℕ → List Call → Type 0
AllBy last calls = All (λ call. moment_of call ≤ last) calls

-- The record leads to what is read.
abbrev pub LeadsToSectors : List (List ℕ) → ℕ → List Call → List (List ℕ) → Type 0
LeadsToSectors first last calls present =
    (x : ℕ) → (replayed_to last (all_certain first) calls).reads x ≡ slice_get present x

-- the file
abbrev pub contents_of : List (List ℕ) → List (List ℕ) → List Call → ℕ → Contents
contents_of first present calls last = record {
  length = 512 * length present;
  reads = slice_get present;
  last = last;
  leaves = λ t. (replayed_to t (all_certain first) calls).stays;
  could = λ t. (replayed_to t (all_certain first) calls).could;
}
