-- How making a pool ends.
use Rattle.std.specs.Prelude.{◌≡◌, ◌⊎◌, ℕ, ◌<◌, List, Option}
use Rattle.bank_trait.specs.Causes.{FaultCounted}
use Rattle.bank_trait.specs.Disk.{Disk}
use Rattle.bank_trait.specs.Regions.{Tells, TouchesOnly}
use Rattle.core_open.specs.Regions.{IsOnBelow}
use Rattle.uberblock_ring.specs.Devices.{with_device}
use Rattle.uberblock_ring.specs.Uberblock.{first_uber}
use Rattle.core_state.specs.Create.{IsCreated, rows_for}
use Rattle.raidzx_top.specs.declared.status.Status.{Status}
use Rattle.raidzx_top.specs.declared.status.Status.TheVariants as status
use Rattle.client_script.specs.Written.{IsAdded, IsPartAdded}
use Rattle.command_words.specs.declared.command.NewPool.{NewPool}
use Rattle.raidzx_top.specs.RunText.{create_text, status_line}

-- The bank has too few devices or sectors for the pool.
abbrev pub IsSmallFor : NewPool → Disk → Type 0
IsSmallFor made disk = (disk.devices < made.width) ⊎ (disk.sectors < 256)

-- A call failed on this one device.
pub record HasFailedOn (out : ℕ) (old new : Disk) : Type 0 where
  pub device : ℕ
  pub named : out ≡ with_device 0 device
  pub rose : FaultCounted (old.faults device) (new.faults device)

-- What the status says of the bank before and after.
abbrev pub Makes : NewPool → Disk → Disk → Status → Type 0
Makes made old new status.Done = (IsSmallFor made old → ⊥)
    × TouchesOnly (IsOnBelow made.width) old new
    × (Tells old
    → IsCreated (first_uber made.id made.parity made.width (rows_for old.sectors)) new)
Makes made old new (status.TooManyFailed out) =
    (IsSmallFor made old → ⊥) × TouchesOnly (IsOnBelow made.width) old new × HasFailedOn out old new
Makes made old new status.TooSmall = IsSmallFor made old × (new ≡ old)
Makes made old new other = ⊥

-- A text was written, or, where the sink failed, a front of it.
abbrev pub IsSaid : Option (List ℕ) → Option (List ℕ) → ℕ → ℕ → List ℕ → Type 0
IsSaid before now faults faults_now text =
    IsAdded before now text ⊎ (FaultCounted faults faults_now × IsPartAdded before now text)

-- How `create` ends: what it made of the bank, and what it wrote.
abbrev pub EndsCreate : NewPool → Disk → Disk → Option (List ℕ) → Option (List ℕ) → ℕ → ℕ → Status
    → Type 0
EndsCreate made old new before now faults faults_now status.Done =
    Makes made old new status.Done
    × IsAdded before now (create_text made.parity made.width made.id (rows_for old.sectors))
EndsCreate made old new before now faults faults_now status.SinkFault =
    Makes made old new status.Done × FaultCounted faults faults_now
    × IsPartAdded before now (create_text made.parity made.width made.id (rows_for old.sectors))
EndsCreate made old new before now faults faults_now (status.TooManyFailed out) =
    Makes made old new (status.TooManyFailed out)
    × IsSaid before now faults faults_now (status_line (status.TooManyFailed out))
EndsCreate made old new before now faults faults_now status.TooSmall =
    Makes made old new status.TooSmall
    × IsSaid before now faults faults_now (status_line status.TooSmall)
EndsCreate made old new before now faults faults_now other = ⊥
