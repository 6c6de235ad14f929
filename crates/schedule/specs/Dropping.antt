-- Why an attach brought the pool no device, which is known before the attach tells of it.
use Rattle.std.specs.Prelude.{◌≡◌, ◌⊎◌, ℕ, List, Some, true}
use Rattle.bank_trait.specs.Causes.{FaultCounted}
use Rattle.bank_trait.specs.Disk.{Disk}
use Rattle.uberblock_ring.specs.Devices.{has_device}
use Rattle.core_commit.specs.declared.guest.Guest.TheVariants.{Lost}
use Rattle.core_commit.specs.declared.join_run.WhyDropped.{WhyDropped}
use Rattle.core_commit.specs.declared.join_run.WhyDropped.TheVariants as why
use Rattle.core_turns.specs.declared.attaching.AttachRun.{AttachRun}
use Rattle.core_turns.specs.declared.attaching.AttachRun.TheVariants.{Joins, Signs}
use Rattle.schedule.specs.declared.client.Client.{Client}
use Rattle.schedule.specs.declared.client.UnderWay.{UnderWay}
use Rattle.schedule.specs.declared.client.Work.TheVariants as work
use Rattle.schedule.specs.Running.{IsGoing}
use Rattle.schedule.specs.Turns.{Turns}

-- The attach goes on to tell this, unless it is cut short: a call on the new device has failed, or its commit was made
-- without one.
abbrev pub WillTell : AttachRun → WhyDropped → Type 0
WillTell (Joins join) (why.NewDeviceFailed device) = (join.guest ≡ Lost) × (join.run.uber.reflow.to ≡ device)
WillTell (Signs run because) cause = because ≡ Some cause
WillTell run cause = ⊥

-- A client's attach under way does.
pub record IsToBeTold (clients : List Client) (cause : WhyDropped) : Type 0 where
  pub index : ℕ
  pub client : Client
  pub under : UnderWay
  pub run : AttachRun
  pub going : IsGoing clients index client under
  pub attaches : under.work ≡ work.Attach run
  pub tells : WillTell run cause

-- A call on the new device has failed from one bank to the other; or the device of the pool is out.
abbrev pub IsDropCause : Disk → Disk → ℕ → WhyDropped → Type 0
IsDropCause old new out (why.NewDeviceFailed device) = FaultCounted (old.faults device) (new.faults device)
IsDropCause old new out (why.DeviceOut device) = has_device out device ≡ true

-- So it has come since, or was to be told before.
abbrev pub HasDropCause : Turns → Turns → WhyDropped → Type 0
HasDropCause start now cause = IsDropCause start.state.disk now.state.disk now.state.core.pool.out cause
    ⊎ IsToBeTold start.clients cause
