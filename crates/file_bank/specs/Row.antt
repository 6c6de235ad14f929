-- Sectors side by side that were written to a file and are not handed over to it yet.
use Rattle.std.specs.Prelude.{◌≡◌, ℕ, ◌+◌, ◌<◌, ◌≤◌, max, List, [], ◌∷◌, Option, Some, None, ◌==◌, if◌then◌else◌}
use Rattle.std.specs.Prelude.{length, nat_lt, Result, OnOk, IfErr, take, drop, slice_get, ⊤}
use Rattle.file_bank.specs.BlockFile.{Contents}

-- a sector that was written, with the moment of its write
pub record KeptSector : Type 0 where
  pub moment : ℕ
  pub bytes : List ℕ

abbrev pub kept_sector : ℕ → List ℕ → KeptSector
kept_sector moment bytes = record { moment = moment; bytes = bytes }

-- sectors side by side, each with the moment of its write
abbrev pub kept_row : List ℕ → List (List ℕ) → List KeptSector
kept_row [] sectors = []
kept_row (moment ∷ moments) [] = []
kept_row (moment ∷ moments) (bytes ∷ sectors) = kept_sector moment bytes ∷ kept_row moments sectors

-- what is read of a sector that was written: none where nothing is told
abbrev pub told_as : List ℕ → Option (List ℕ) → Option (List ℕ)
told_as bytes None = None
told_as bytes (Some was) = Some bytes

-- what a sector could hold that was written, where it is told
abbrev pub could_too : List ℕ → Option (List ℕ) → List (List ℕ) → List (List ℕ)
could_too bytes None others = others
could_too bytes (Some was) others = bytes ∷ others

-- a file to which sector x was written at a moment
abbrev pub with_sector : Contents → ℕ → KeptSector → Contents
with_sector file x kept = record {
  length = file.length;
  reads = λ y. if y == x then told_as kept.bytes (file.reads y) else file.reads y;
  last = max file.last kept.moment;
  leaves = λ t y. if y == x then (if nat_lt t kept.moment then file.leaves t y else None) else file.leaves t y;
  could = λ t y. if y == x then (if nat_lt t kept.moment then file.could t y else could_too kept.bytes (file.reads y)
      (file.could t y)) else file.could t y;
}

-- a file to which these were written side by side, the first of them at sector x
abbrev pub with_row : Contents → ℕ → List KeptSector → Contents
with_row file x [] = file
with_row file x (kept ∷ row) = with_row (with_sector file x kept) (x + 1) row

-- a file whose calls came by that moment
abbrev pub by_moment : ℕ → Contents → Contents
by_moment moment file = record {
  length = file.length;
  reads = file.reads;
  last = moment;
  leaves = file.leaves;
  could = file.could;
}

-- So many of these are the sectors that stand there, where these are told.
abbrev pub GivesRow : Contents → ℕ → ℕ → List (List ℕ) → Type 0
GivesRow file x count row = (i : ℕ) → i < count → (bytes : List ℕ) → file.reads (x + i) ≡ Some bytes
    → slice_get row i ≡ Some bytes

-- A piece is what stands in one of these sectors, from this byte of it on.
abbrev pub GivesPiece : List (List ℕ) → ℕ → ℕ → List ℕ → Type 0
GivesPiece sectors i start piece = (bytes : List ℕ) → slice_get sectors i ≡ Some bytes
    → piece ≡ take (length piece) (drop start bytes)

-- Both tell the same, at each moment.
pub record TellsSame (old new : Contents) : Type 0 where
  pub length : new.length ≡ old.length
  pub reads : (x : ℕ) → new.reads x ≡ old.reads x
  pub leaves : (t x : ℕ) → new.leaves t x ≡ old.leaves t x
  pub could : (t x : ℕ) → new.could t x ≡ old.could t x

-- Each was written later than the one before it, and the first of them later than that moment.
abbrev pub HasRisingMoments : ℕ → List KeptSector → Type 0
HasRisingMoments last [] = ⊤
HasRisingMoments last (kept ∷ row) = (last < kept.moment) × HasRisingMoments kept.moment row

-- None was written later.
abbrev pub AllKeptBy : ℕ → List KeptSector → Type 0
AllKeptBy last [] = ⊤
AllKeptBy last (kept ∷ row) = (kept.moment ≤ last) × AllKeptBy last row

-- Each has the bytes of a sector.
abbrev pub AllWhole : List KeptSector → Type 0
AllWhole [] = ⊤
AllWhole (kept ∷ row) = (length kept.bytes ≡ 512) × AllWhole row

-- Several sectors were handed over in one call: the file is as if each was written at its moment. A call that
-- fails has handed over so many of them, from the first on: with the others kept over it the file tells what it
-- told with all of them kept over it before.
pub record HandedOver (old new : Contents) (x : ℕ) (row : List KeptSector) (result : Result (Unit {0}) ℕ) : Type 0
  where
    pub last : (moment : ℕ) → old.last ≤ moment → AllKeptBy moment row → new.last ≤ moment
    pub done : OnOk result (TellsSame (with_row old x row) new)
    pub stopped : IfErr result (λ count. (count ≤ length row)
        × TellsSame (with_row old x row) (with_row new (x + count) (drop count row)))
