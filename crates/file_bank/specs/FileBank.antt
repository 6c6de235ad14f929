-- A bank over files as contracts see it.
use Rattle.std.specs.Prelude.{◌≡◌, ◌⊎◌, ℕ, ◌-◌, ◌^◌, ◌≤◌, None, length, slice_index, slice_index_or}
use Rattle.bank_trait.specs.Disk.{Disk}
use Rattle.file_bank.specs.BlockFile.{Contents}
use Rattle.file_bank.specs.Files.{all_shown, all_faults, as_bank, FileEndsBefore}
use Rattle.file_bank.specs.Gathered.{KeepsNone}
use Rattle.file_bank.specs.declared.bank.FileBank.{FileBank}
use Rattle.file_bank.specs.declared.gathered.Gathered.{Gathered}

-- the devices
abbrev pub disk_of : {F : Type 0} {b : _} → (F → Contents) → FileBank F b → Disk
disk_of contents bank = as_bank (length bank.files.items) bank.sectors
    (all_shown contents bank.files.items) (slice_index bank.faults.items) bank.clock

-- how often a call on a device's file has failed
abbrev pub file_faults : {F : Type 0} {b : _} → (F → ℕ) → FileBank F b → ℕ → ℕ
file_faults faults bank = all_faults faults bank.files.items

-- The file of a device could not be opened.
abbrev pub LacksFile : {F : Type 0} {b : _} → FileBank F b → ℕ → Type 0
LacksFile bank device = slice_index_or bank.files.items device None ≡ None

-- The file of a device ends before this sector does, or could not be opened.
abbrev pub LacksSector : {F : Type 0} {b : _} → (F → Contents) → FileBank F b → ℕ → ℕ → Type 0
LacksSector contents bank device sector = FileEndsBefore (all_shown contents bank.files.items device) sector

-- No moment is left for one more write or sync.
abbrev pub LacksMoment : {F : Type 0} {b : _} → FileBank F b → Type 0
LacksMoment bank = 2 ^ 64 - 1 ≤ bank.clock

-- All that was written to a device is handed over to its file, or a call on it has failed.
abbrev pub HasHandedOver : {F : Type 0} {g b : _} → FileBank (Gathered F g) b → ℕ → Type 0
HasHandedOver bank device = KeepsNone (slice_index_or bank.files.items device None)
    ⊎ (1 ≤ slice_index bank.faults.items device)
