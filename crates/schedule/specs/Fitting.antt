-- What an answer is of the call that it answers, whatever the devices hold.
use Rattle.std.specs.Prelude.{◌≡◌, ◌≢◌, ◌⊎◌, ℕ, ◌<◌, ◌≤◌, ⊤}
use Rattle.uberblock_ring.specs.Devices.{count_of, IsWithin}
use Rattle.uberblock_ring.specs.Uberblock.{max_group}
use Rattle.core_state.specs.declared.answer.Answer.{Answer}
use Rattle.core_state.specs.declared.answer.Answer.TheVariants as answer
use Rattle.core_state.specs.declared.answer.Kind.{Kind}
use Rattle.core_state.specs.declared.answer.Kind.TheVariants as kind
use Rattle.core_state.specs.declared.item.Entry.{Entry}
use Rattle.core_state.specs.Legal.{IsAnswerOf}
use Rattle.core_commit.specs.declared.join_run.WhyDropped.{WhyDropped}
use Rattle.core_commit.specs.declared.join_run.WhyDropped.TheVariants as why
use Rattle.schedule.specs.Dropping.{HasDropCause}
use Rattle.schedule.specs.Turns.{Turns}

-- The call makes a group, if it goes well.
abbrev pub IsGroupKind : Kind → Type 0
IsGroupKind kind.Sync = ⊤
IsGroupKind kind.Attach = ⊤
IsGroupKind kind.Copy = ⊤
IsGroupKind other = ⊥

-- Why an attach brought no device: the new one failed, or one of the pool is out, where these have come so; or the bank
-- has no device more, or a pool may have none. A copy is paused where one of the pool's is out.
abbrev pub IsDeviceCause : ℕ → (WhyDropped → Type 0) → Answer → Type 0
IsDeviceCause devices dropped (answer.NewDeviceFailed device) = dropped (why.NewDeviceFailed device)
IsDeviceCause devices dropped (answer.DeviceOut device) = dropped (why.DeviceOut device)
IsDeviceCause devices dropped (answer.Paused device) = dropped (why.DeviceOut device)
IsDeviceCause devices dropped (answer.NoDevice there width) = (there ≡ devices) × ((width ≡ 16) ⊎ (devices ≤ width))
IsDeviceCause devices dropped other = ⊤

-- The answer is one of its call's kind. One that tells of too many devices lists more than there are parities, all of
-- them out; a limit is told where a group was to be made, and is the greatest number of one; no free is told of want of
-- memory. An attach that brought no device has its cause, in a bank of so many, and so has a copy that is paused.
pub record FitsCall (parity devices out : ℕ) (dropped : WhyDropped → Type 0) (entry : Entry) : Type 0 where
  pub of_kind : IsAnswerOf entry.kind entry.answer
  pub too_many : (listed : ℕ) → entry.answer ≡ answer.TooManyFailed listed
      → (parity < count_of listed) × IsWithin listed out
  pub limit : (reached : ℕ) → entry.answer ≡ answer.Limit reached → IsGroupKind entry.kind × (reached ≡ max_group)
  pub memory : entry.answer ≡ answer.NoMemory → entry.kind ≢ kind.Free
  pub device : IsDeviceCause devices dropped entry.answer

-- So it is of what was answered from one state to another.
abbrev pub FitsSince : Turns → Turns → Entry → Type 0
FitsSince start now entry = FitsCall start.state.core.pool.uber.parity start.state.disk.devices now.state.core.pool.out
    (HasDropCause start now) entry
