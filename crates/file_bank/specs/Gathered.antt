-- A file whose writes are gathered, as contracts see it.
use Rattle.std.specs.Prelude.{◌≡◌, ◌⊎◌, ℕ, ◌≤◌, Bool, true, false, List, [], Option, Some, None, ⊤, Result, OnOk, OnErr}
use Rattle.bank_trait.specs.Causes.{counted}
use Rattle.bank_trait.specs.declared.Failed.{Failed}
use Rattle.file_bank.specs.BlockFile.{Contents}
use Rattle.file_bank.specs.KeptRow.{sectors_kept}
use Rattle.file_bank.specs.Row.{KeptSector, by_moment, with_row}
use Rattle.file_bank.specs.declared.gathered.Gathered.{Gathered}

-- the file with what is kept over it
abbrev pub told_of : {F : Type 0} {b : _} → (F → Contents) → Gathered F b → Contents
told_of contents held = by_moment held.last (with_row (contents held.file) held.kept.first (sectors_kept held.kept))

-- how often a call has failed
abbrev pub gathered_faults : {F : Type 0} {b : _} → Gathered F b → ℕ
gathered_faults held = held.faults

-- how often a call on the file below has failed
abbrev pub faults_below : {F : Type 0} {b : _} → (F → ℕ) → Gathered F b → ℕ
faults_below faults held = faults held.file

-- A hand-over has failed.
abbrev pub is_stuck : {F : Type 0} {b : _} → Gathered F b → Bool
is_stuck held = held.stuck

-- the sectors that were not handed over yet, each with the moment of its write
abbrev pub not_handed_over : {F : Type 0} {b : _} → Gathered F b → List KeptSector
not_handed_over held = sectors_kept held.kept

-- Nothing is left to be handed over of a file, or it could not be opened.
abbrev pub KeepsNone : {F : Type 0} {b : _} → Option (Gathered F b) → Type 0
KeepsNone (Some held) = not_handed_over held ≡ []
KeepsNone None = ⊤

-- A write or sync fails where the file is stuck, which it stays, and else only where a call on the file below
-- has failed, once.
pub record FailsBelow (was_stuck stuck : Bool) (before now : ℕ) (result : Result (Unit {0}) Failed) : Type 0 where
  pub later : before ≤ now
  pub stays : was_stuck ≡ true → (stuck ≡ true) × (now ≡ before)
  pub failed : OnErr result ((was_stuck ≡ true) ⊎ (now ≡ counted before))
  pub well : OnOk result ((stuck ≡ false) × (now ≡ before))

-- A file gets stuck only where a call on the file below has failed, once, and stays so.
pub record CountsStuck (was_stuck stuck : Bool) (before now : ℕ) : Type 0 where
  pub stays : was_stuck ≡ true → stuck ≡ true
  pub failed : was_stuck ≡ false → stuck ≡ true → now ≡ counted before
  pub well : stuck ≡ was_stuck → now ≡ before
