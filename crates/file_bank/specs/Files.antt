-- Several files as the devices of one bank.
use Rattle.std.specs.Prelude.{◌≡◌, ◌≢◌, ◌⊎◌, ℕ, ◌+◌, ◌*◌, ◌<◌, ◌≤◌, ◌/◌, min, max, List, Option, Some, None, Result}
use Rattle.std.specs.Prelude.{OnOk, OnErr, IsSome, unwrap_or, length, slice_index_or}
use Rattle.bank_trait.specs.Causes.{FaultCounted, FailedOnce, NoneFailed}
use Rattle.bank_trait.specs.Disk.{Disk}
use Rattle.bank_trait.specs.declared.Failed.{Failed}
use Rattle.file_bank.specs.BlockFile.{Contents, untold}

-- what an open file holds, and nothing where it could not be opened
abbrev pub shown : {F : Type 0} → (F → Contents) → Option F → Contents
shown contents (Some file) = contents file
shown contents None = untold 0

-- what each file of a list holds
abbrev pub all_shown : {F : Type 0} → (F → Contents) → List (Option F) → ℕ → Contents
all_shown contents files device = shown contents (slice_index_or files device None)

-- how often a call on an open file has failed, and never where it could not be opened
abbrev pub faults_shown : {F : Type 0} → (F → ℕ) → Option F → ℕ
faults_shown faults (Some file) = faults file
faults_shown faults None = 0

-- how often a call on each file of a list has failed
abbrev pub all_faults : {F : Type 0} → (F → ℕ) → List (Option F) → ℕ → ℕ
all_faults faults files device = faults_shown faults (slice_index_or files device None)

-- The longest of the first n files has so many whole sectors; none where none of them was opened.
abbrev pub IsLongest : {F : Type 0} → (F → Contents) → List (Option F) → ℕ → Option ℕ → Type 0
IsLongest contents files n None = (d : ℕ) → d < n → slice_index_or files d None ≡ None
IsLongest contents files n (Some sectors) =
    ((d : ℕ) → d < n → (all_shown contents files d).length / 512 ≤ sectors)
    × ((d : ℕ) × (d < n) × IsSome (slice_index_or files d None)
    × ((all_shown contents files d).length / 512 ≡ sectors))

-- the longest, where one more file is looked at
abbrev pub longer : {F : Type 0} → (F → Contents) → Option ℕ → Option F → Option ℕ
longer contents longest None = longest
longer contents longest (Some file) =
    Some (max ((contents file).length / 512) (unwrap_or longest 0))

-- A bank over these files has the sectors of the longest one, at most so many; that many where none was
-- opened.
pub record HasLongestSectors {F : Type 0} (contents : F → Contents) (files : List (Option F))
    (most sectors : ℕ) : Type 0 where
  pub longest : Option ℕ
  pub is_longest : IsLongest contents files (length files) longest
  pub at_most : sectors ≡ min (unwrap_or longest most) most

-- sector x of device d is sector x of file d, at each moment of one clock
abbrev pub as_bank : ℕ → ℕ → (ℕ → Contents) → (ℕ → ℕ) → ℕ → Disk
as_bank devices sectors files faults clock = record {
  devices = devices;
  sectors = sectors;
  reads = λ d x. (files d).reads x;
  faults = faults;
  clock = clock;
  leaves = λ t d x. (files d).leaves t x;
  could = λ t d x. (files d).could t x;
}

-- No file but this one is changed.
abbrev pub OthersStay : (ℕ → Contents) → (ℕ → Contents) → ℕ → Type 0
OthersStay old new d = (e : ℕ) → e ≢ d → new e ≡ old e

-- The file ends before this sector does.
abbrev pub FileEndsBefore : Contents → ℕ → Type 0
FileEndsBefore file sector = file.length < 512 * sector + 512

-- No call on another file than this one has failed.
abbrev pub OtherCountsStay : (ℕ → ℕ) → (ℕ → ℕ) → ℕ → Type 0
OtherCountsStay before now d = (e : ℕ) → e ≢ d → now e ≡ before e

-- A device's call that its file lacks something for fails, and any other one fails only where the
-- file's count of faults rose, which never falls.
pub record HasFileCause (lacks : Type 0) (before now : ℕ) (result : Result (Unit {0}) Failed) : Type 0
  where
    pub later : before ≤ now
    pub failed : OnErr result (lacks ⊎ FaultCounted before now)
    pub refused : OnOk result (lacks → ⊥)

-- A call that failed is counted once, on its device alone, and one that went well is not.
pub record CountsCall (before now : ℕ → ℕ) (device : ℕ) (result : Result (Unit {0}) Failed) : Type 0 where
  pub later : (d : ℕ) → before d ≤ now d
  pub failed : OnErr result (FaultCounted (before device) (now device))
  pub once : OnErr result (FailedOnce before now device)
  pub well : OnOk result (NoneFailed before now)
