-- Attaches, turn by turn.
use Rattle.std.specs.Prelude.{◌≡◌, ◌⊎◌, ℕ, ◌+◌, ◌-◌, ◌<◌, ◌≤◌, List, [], ◌∷◌, get_or, Option, Some, None, ⊤, true}
use Rattle.std.specs.Prelude.{false}
use Rattle.bank_trait.specs.Causes.{FaultCounted}
use Rattle.bank_trait.specs.Disk.{Disk, Later, Unchanged}
use Rattle.bank_trait.specs.Regions.{TouchesOnly}
use Rattle.reflow_mark.specs.declared.reflow.Reflow.{Reflow}
use Rattle.reflow_mark.specs.Reflow.{Expands}
use Rattle.block_table.specs.Table.{IsTable}
use Rattle.uberblock_ring.specs.Devices.{has_device}
use Rattle.attach_ring.specs.Ring.{HasReadRing, ReadsSlot, RingRead}
use Rattle.mark_choice.specs.CommitChoice.{IsWiderByOne}
use Rattle.core_state.specs.declared.answer.Answer.{Answer}
use Rattle.core_state.specs.declared.answer.Answer.TheVariants as answer
use Rattle.core_state.specs.Committing.{point_of}
use Rattle.core_state.specs.Keeps.{Kept, Setting}
use Rattle.core_state.specs.Outs.{OnlyFailedGoOut}
use Rattle.core_commit.specs.declared.commit_run.Stage.TheVariants.{Lays}
use Rattle.core_commit.specs.CommitTurns.{CommitRun}
use Rattle.core_commit.specs.Spared.{IsOnInUse}
use Rattle.core_commit.specs.Widening.{IsWidenable}
use Rattle.core_commit.specs.declared.guest.Guest.TheVariants.{Laid}
use Rattle.core_commit.specs.declared.join_run.JoinStep.{JoinStep}
use Rattle.core_commit.specs.declared.join_run.JoinStep.TheVariants as step
use Rattle.core_commit.specs.declared.join_run.WhyDropped.{WhyDropped}
use Rattle.core_commit.specs.declared.join_run.WhyDropped.TheVariants as why
use Rattle.core_commit.specs.JoinRun.{JoinRun}
use Rattle.core_commit.specs.JoinTurns.{JoinSteps}
use Rattle.core_commit.specs.Joining.{GuestSoFar}
use Rattle.core_turns.specs.declared.attaching.AttachRun.{AttachRun}
use Rattle.core_turns.specs.declared.attaching.FreeDevice.{FreeDevice}
use Rattle.core_turns.specs.declared.attaching.AttachRun.TheVariants.{Reads, Checked, Joins, Signs}
use Rattle.core_turns.specs.declared.turn.Turn.{Turn}
use Rattle.core_turns.specs.declared.turn.Turn.TheVariants.{More, Busy, Done}
use Rattle.core_turns.specs.Core.{Core, CoreState}
use Rattle.core_turns.specs.Getting.{HasTooManyOut}
use Rattle.core_turns.specs.Committing.{AnswersGroup, BeginsCommitSo, IsCommitOf, IsSyncRefused, StepsCommit}

-- ---- what an attach under way is

-- The group of an attach's commit has one device more; or, where the device has not joined, the pool's widths.
abbrev pub IsMadeAt : Reflow → Option WhyDropped → Reflow → Type 0
IsMadeAt before None made = IsWiderByOne before made
IsMadeAt before (Some because) made = (before.to ≡ before.from) × (made ≡ before)

-- The commit under way is that of the attach.
pub record IsAttachCommit (core : Core) (run : CommitRun) : Type 0 where
  pub of : IsCommitOf core run
  pub under_way : core.attaching ≡ core.committing

-- The pool is at rest, and may have one device more than it reaches to.
pub record MayReachOn (core : Core) : Type 0 where
  pub rest : core.pool.uber.reflow.to ≡ core.pool.uber.reflow.from
  pub room : core.pool.uber.reflow.to < 16
  pub reach : core.reach ≡ core.pool.uber.reflow.to

-- The device is the one behind those of a pool that may have one more; an attach is under way.
pub record IsJoiningDevice (core : Core) (device : ℕ) : Type 0 where
  pub actor : ℕ
  pub under_way : core.attaching ≡ Some actor
  pub may : MayReachOn core
  pub behind : device ≡ core.pool.uber.reflow.to

-- The attach is the one under way in this core.
abbrev pub IsAttachRunOf : Core → AttachRun → Type 0
IsAttachRunOf core (Reads ring) = IsJoiningDevice core ring.device
IsAttachRunOf core (Checked found) =
    IsJoiningDevice core found.ring.device × (found.ring.slots ≡ 32) × (found.ring.taken ≡ None)
IsAttachRunOf core (Joins join) = IsAttachCommit core join.run × MayReachOn core
IsAttachRunOf core (Signs run because) = IsAttachCommit core run
    × IsMadeAt core.pool.uber.reflow because run.uber.reflow

-- the commit that an attach makes, once it has begun one
abbrev pub attach_commit : AttachRun → Option CommitRun
attach_commit (Reads ring) = None
attach_commit (Checked found) = None
attach_commit (Joins join) = Some join.run
attach_commit (Signs run because) = Some run

-- The bank has the device that is to join.
abbrev pub HasNewDevice : Disk → AttachRun → Type 0
HasNewDevice disk (Reads ring) = ring.device < disk.devices
HasNewDevice disk (Checked found) = found.ring.device < disk.devices
HasNewDevice disk (Joins join) = join.run.uber.reflow.to < disk.devices
HasNewDevice disk (Signs run because) = ⊤

-- What is known of it on the devices: what was read of the ring is what it shows; the device has come so far beside the
-- commit that it may join.
abbrev pub HoldsAttach : Setting → Kept → List Kept → Disk → AttachRun → Type 0
HoldsAttach setting last begun disk (Reads ring) = HasReadRing disk ring
HoldsAttach setting last begun disk (Checked found) = HasReadRing disk found.ring
HoldsAttach setting last begun disk (Joins join) = (next : Kept) × (begun ≡ next ∷ [])
    × IsWidenable setting last next × (join.run.stage ≡ Lays) × GuestSoFar disk next setting.reach join.guest
HoldsAttach setting last begun disk (Signs run because) = ⊤

-- ---- the first turn

-- Why no device may be attached: the pool expands; a device of it is out; or there is none to attach, or no room for
-- one.
abbrev pub IsNotAttachable : Core → ℕ → Answer → Type 0
IsNotAttachable core devices (answer.Expanding to) = Expands core.pool.uber.reflow
    × (to ≡ core.pool.uber.reflow.to)
IsNotAttachable core devices (answer.DeviceOut device) = (core.pool.uber.reflow.to ≡ core.pool.uber.reflow.from)
    × (has_device core.pool.out device ≡ true)
    × ((other : ℕ) → other < device → has_device core.pool.out other ≡ false)
IsNotAttachable core devices (answer.NoDevice there width) =
    (core.pool.uber.reflow.to ≡ core.pool.uber.reflow.from) × (core.pool.out ≡ 0) × (there ≡ devices)
    × (width ≡ core.pool.uber.reflow.to) × ((width ≡ 16) ⊎ (devices ≤ width))
IsNotAttachable core devices other = ⊥

-- A device may be attached: the pool is at rest, none of its devices is out, there is one more and room for it.
pub record IsAttachable (core : Core) (devices : ℕ) : Type 0 where
  pub rest : core.pool.uber.reflow.to ≡ core.pool.uber.reflow.from
  pub whole : core.pool.out ≡ 0
  pub room : core.pool.uber.reflow.to < 16
  pub there : core.pool.uber.reflow.to < devices

-- Another attach or commit is under way.
abbrev pub IsAttachBusy : Core → ℕ → Type 0
IsAttachBusy core by = (core.attaching ≡ Some by) ⊎ ((core.attaching ≡ None) × (core.committing ≡ Some by))

-- Why an attach ends in its first turn.
abbrev pub IsAttachRefused : Core → ℕ → Answer → Type 0
IsAttachRefused core devices (answer.TooManyFailed out) = HasTooManyOut core × (out ≡ core.pool.out)
IsAttachRefused core devices given = (HasTooManyOut core → ⊥) × (core.attaching ≡ None) × (core.committing ≡ None)
    × IsNotAttachable core devices given

-- An attach begins: nothing is read yet of the new device's ring.
pub record BeginsAttachSo (old new : Core) (devices actor : ℕ) (run : AttachRun) : Type 0 where
  pub few : HasTooManyOut old → ⊥
  pub none : (old.attaching ≡ None) × (old.committing ≡ None)
  pub may : IsAttachable old devices
  pub run_is : run ≡ Reads (record { device = old.pool.uber.reflow.to; slots = 0; taken = None })
  pub rest : new ≡ record old { attaching = Some actor }
  pub of : IsAttachRunOf new run

-- what the first turn of an attach comes to
abbrev pub BeginsAttach : Core → Core → ℕ → ℕ → Turn AttachRun → Type 0
BeginsAttach old new devices actor (More run) = BeginsAttachSo old new devices actor run
BeginsAttach old new devices actor (Busy by) = (HasTooManyOut old → ⊥) × IsAttachBusy old by × (new ≡ old)
BeginsAttach old new devices actor (Done given) = IsAttachRefused old devices given × (new ≡ old)

-- ---- later turns

-- No attach is under way any more, and nothing was written.
pub record StopsAttach (before after : CoreState) : Type 0 where
  pub core : after.core ≡ record before.core { attaching = None }
  pub unchanged : Unchanged before.disk after.disk

-- Too many devices are out.
abbrev pub IsTooMany : Core → Answer → Type 0
IsTooMany core (answer.TooManyFailed out) = HasTooManyOut core × (out ≡ core.pool.out)
IsTooMany core other = ⊥

-- Why an attach ends before its commit: a call on the new device failed, or its ring shows an uberblock, in this slot
-- and in none below.
abbrev pub IsDeviceRefused : CoreState → RingRead → CoreState → Answer → Type 0
IsDeviceRefused before ring after (answer.NewDeviceFailed device) = (HasTooManyOut before.core → ⊥)
    × (device ≡ ring.device) × FaultCounted (before.disk.faults device) (after.disk.faults device)
IsDeviceRefused before ring after (answer.Taken slot) = (HasTooManyOut before.core → ⊥) × (ring.slots ≡ 32)
    × (ring.taken ≡ Some slot)
IsDeviceRefused before ring after given = IsTooMany before.core given

-- The next slot of the ring was read.
pub record ReadsNext (before : CoreState) (ring : RingRead) (after : CoreState) (next : RingRead) : Type 0 where
  pub few : HasTooManyOut before.core → ⊥
  pub left : ring.slots < 32
  pub reads : ReadsSlot before.disk ring next
  pub core : after.core ≡ before.core
  pub unchanged : Unchanged before.disk after.disk

-- The last data sector of a device with so many data rows was read: this is the first byte of what stands there, where
-- that is told.
abbrev pub HasReadLast : Disk → ℕ → ℕ → ℕ → Type 0
HasReadLast disk device rows byte =
    (known : List ℕ) → disk.reads device (192 + rows - 1) ≡ Some known → get_or known 0 byte ≡ byte

-- The ring shows no uberblock, and the device has as many data rows as the pool: the last one was read.
pub record FindsFree (before : CoreState) (ring : RingRead) (after : CoreState) (found : FreeDevice) : Type 0 where
  pub few : HasTooManyOut before.core → ⊥
  pub whole : ring.slots ≡ 32
  pub free : ring.taken ≡ None
  pub same : found.ring ≡ ring
  pub last : HasReadLast before.disk ring.device before.core.pool.uber.reflow.rows found.last
  pub core : after.core ≡ before.core
  pub unchanged : Unchanged before.disk after.disk

-- Another's commit is under way, so that of the attach waits.
pub record WaitsForCommit (before : CoreState) (found : FreeDevice) (after : CoreState) (next : FreeDevice) : Type 0
  where
    pub few : HasTooManyOut before.core → ⊥
    pub by : ℕ
    pub busy : before.core.committing ≡ Some by
    pub same : next ≡ found
    pub state : after ≡ before

-- The commit of the attach begins, which calls no device.
pub record BeginsJoining (before : CoreState) (after : CoreState) (join : JoinRun) : Type 0 where
  pub actor : ℕ
  pub under_way : before.core.attaching ≡ Some actor
  pub begins : BeginsCommitSo before.core after.core actor join.run
  pub table : IsTable before.core.pool.blocks.table
  pub guest : join.guest ≡ Laid 0
  pub disk : after.disk ≡ before.disk

-- In a step of the first half devices go out.
pub record StepsJoin (before : CoreState) (join : JoinRun) (after : CoreState) (result : JoinStep) : Type 0 where
  pub few : HasTooManyOut before.core → ⊥
  pub steps : JoinSteps join (point_of before.core.pool.out before.disk) result
      (point_of after.core.pool.out after.disk)

-- The core where only devices went out, and where it reaches to one more.
abbrev pub OnlyGoOut : CoreState → CoreState → Type 0
OnlyGoOut before after =
    after.core ≡ record before.core { pool = record before.core.pool { out = after.core.pool.out } }

abbrev pub GoOutAndReach : CoreState → CoreState → Type 0
GoOutAndReach before after = after.core ≡ record before.core {
  pool = record before.core.pool { out = after.core.pool.out };
  reach = before.core.reach + 1;
}

-- The first uberblock write was made, once it was decided whether the device joins.
abbrev pub Decides : CoreState → JoinRun → CoreState → CommitRun → Option WhyDropped → Type 0
Decides before join after run None = StepsJoin before join after (step.Joined run) × GoOutAndReach before after
Decides before join after run (Some because) =
    StepsJoin before join after (step.Dropped run because) × OnlyGoOut before after

-- what is answered with the group of an attach's commit
abbrev pub attach_answer : Option WhyDropped → ℕ → ℕ → Answer
attach_answer None width group = answer.Attached width group
attach_answer (Some (why.NewDeviceFailed device)) width group = answer.NewDeviceFailed device
attach_answer (Some (why.DeviceOut device)) width group = answer.DeviceOut device

-- The group is answered, and the attach with it.
pub record EndsAttach (before : CoreState) (run : CommitRun) (because : Option WhyDropped) (after : CoreState)
    (given : Answer) : Type 0 where
  pub answered : CoreState
  pub answers : AnswersGroup before run answered before.core.begun
  pub core : after.core ≡ record answered.core { attaching = None }
  pub disk : after.disk ≡ answered.disk
  pub given_is : given ≡ attach_answer because after.core.pool.uber.reflow.to before.core.begun

-- what a later turn of an attach comes to
abbrev pub StepsAttach : CoreState → AttachRun → CoreState → Turn AttachRun → Type 0
StepsAttach before (Reads ring) after (More (Reads next)) = ReadsNext before ring after next
StepsAttach before (Reads ring) after (More (Checked found)) = FindsFree before ring after found
StepsAttach before (Reads ring) after (Done given) =
    StopsAttach before after × IsDeviceRefused before ring after given
StepsAttach before (Checked found) after (More (Checked next)) = WaitsForCommit before found after next
StepsAttach before (Checked found) after (More (Joins join)) = BeginsJoining before after join
StepsAttach before (Checked found) after (Done given) =
    StopsAttach before after × IsSyncRefused before.core given
StepsAttach before (Joins join) after (More (Joins next)) =
    StepsJoin before join after (step.GoesOn next) × OnlyGoOut before after
StepsAttach before (Joins join) after (More (Signs run because)) = Decides before join after run because
StepsAttach before (Joins join) after (Done given) = StopsAttach before after × IsTooMany before.core given
StepsAttach before (Signs run because) after (More (Signs next same)) =
    (same ≡ because) × StepsCommit before run after (More next)
StepsAttach before (Signs run because) after (Done given) =
    (StopsAttach before after × IsTooMany before.core given) ⊎ EndsAttach before run because after given
StepsAttach before run after turn = ⊥

-- An attach that goes on is the one under way, and its device is there.
abbrev pub IsMoreAttach : Core → Disk → Turn AttachRun → Type 0
IsMoreAttach core disk (More run) = IsAttachRunOf core run × HasNewDevice disk run
IsMoreAttach core disk other = ⊤

-- What each turn of an attach does: as each turn, but that the device behind the pool's may be called too, and may
-- join.
pub record AttachGoesOn (before after : CoreState) : Type 0 where
  pub parity : after.core.pool.uber.parity ≡ before.core.pool.uber.parity
  pub reach : (after.core.reach ≡ before.core.reach) ⊎ (after.core.reach ≡ before.core.reach + 1)
  pub rows : after.core.pool.uber.reflow.rows ≡ before.core.pool.uber.reflow.rows
  pub later : Later before.disk after.disk
  pub out : OnlyFailedGoOut (point_of before.core.pool.out before.disk)
      (point_of after.core.pool.out after.disk)
  pub only : TouchesOnly (IsOnInUse (before.core.reach + 1) before.core.pool.out) before.disk after.disk
