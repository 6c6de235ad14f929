-- What an attach is answered that made no group.
use Rattle.schedule.proofs.Words.{◌≡◌, ℕ, List, length, arith, ⊤, true, FaultCounted, Disk, has_device, HasReadRing}
use Rattle.schedule.proofs.Words.{RingRead, Answer, Entry, Item, IsAnswerOf, IsGroupBefore, Map, PutBytes}
use Rattle.schedule.proofs.Words.{map_after_answer, World, WhyDropped, IsAttachRefused, IsDeviceRefused, IsSyncRefused}
use Rattle.schedule.proofs.Words.{Core, CoreState, HasTooManyOut, IsAnswerCause, IsDeviceCause, IsRightNext}
use Rattle.core_state.specs.declared.answer.Answer.TheVariants as answer
use Rattle.core_state.specs.declared.answer.Kind.TheVariants as kind
use Rattle.core_state.specs.declared.item.Group.{Group as GroupItem}
use Rattle.core_commit.specs.declared.join_run.WhyDropped.TheVariants as why

-- Why no device was attached, but that no number was left for a group.
abbrev pub IsRefusal : Answer → Type 0
IsRefusal (answer.TooManyFailed out) = ⊤
IsRefusal answer.NoMemory = ⊤
IsRefusal (answer.Expanding to) = ⊤
IsRefusal (answer.DeviceOut device) = ⊤
IsRefusal (answer.NoDevice devices width) = ⊤
IsRefusal (answer.NewDeviceFailed device) = ⊤
IsRefusal (answer.Taken slot) = ⊤
IsRefusal other = ⊥

-- It is an answer to an attach, and changes no map.
pub refusal_answers : (given : Answer) → IsRefusal given → IsAnswerOf kind.Attach given
refusal_answers given refusal = grind arith

pub refusal_map : (handed : PutBytes) (map : Map) (entry : Entry) (given : Answer) → IsRefusal given
    → map_after_answer handed map entry given ≡ map
refusal_map handed map entry given refusal = grind arith

-- It is right wherever it is listed, with its cause.
pub refusal_right : {world : World} {items : List Item} {entry : Entry} {disk : Disk} → entry.kind ≡ kind.Attach
    → IsRefusal entry.answer → IsAnswerCause items (length items) disk entry.answer → IsRightNext world items entry disk
refusal_right {world = world} {items = items} {entry = entry} {disk = disk} asked refusal caused = grind arith

-- ---- the first turn

pub refused_is : (core : Core) (devices : ℕ) (given : Answer) → IsAttachRefused core devices given → IsRefusal given
refused_is core devices given refused = grind arith

-- Where it tells of too many devices they are out.
pub refused_tells : (core : Core) (devices : ℕ) (given : Answer) → IsAttachRefused core devices given → (listed : ℕ)
    → given ≡ answer.TooManyFailed listed → HasTooManyOut core × (listed ≡ core.pool.out)
refused_tells core devices given refused listed is = grind arith

-- ---- before its commit

pub device_refusal : (before : CoreState) (ring : RingRead) (after : CoreState) (given : Answer)
    → IsDeviceRefused before ring after given → IsRefusal given
device_refusal before ring after given refused = grind arith

pub device_tells : (before : CoreState) (ring : RingRead) (after : CoreState) (given : Answer)
    → IsDeviceRefused before ring after given → (listed : ℕ) → given ≡ answer.TooManyFailed listed
    → HasTooManyOut before.core × (listed ≡ before.core.pool.out)
device_tells before ring after given refused listed is = grind arith

-- ---- the causes of what is told of devices

-- in a first turn,
pub refused_cause : (devices : ℕ) (dropped : WhyDropped → Type 0) (core : Core) (given : Answer)
    → IsAttachRefused core devices given
    → ((device : ℕ) → has_device core.pool.out device ≡ true → dropped (why.DeviceOut device))
    → IsDeviceCause devices dropped given
refused_cause devices dropped core given refused known = grind (arith, known)

-- before the commit,
pub device_cause : (devices : ℕ) (dropped : WhyDropped → Type 0) (before : CoreState) (ring : RingRead)
    (after : CoreState) (given : Answer) → IsDeviceRefused before ring after given
    → ((device : ℕ) → FaultCounted (before.disk.faults device) (after.disk.faults device)
    → dropped (why.NewDeviceFailed device)) → IsDeviceCause devices dropped given
device_cause devices dropped before ring after given refused known = grind (arith, known)

-- and as it is begun, which tells of none.
pub sync_cause : (devices : ℕ) (dropped : WhyDropped → Type 0) (core : Core) (given : Answer) → IsSyncRefused core given
    → IsDeviceCause devices dropped given
sync_cause devices dropped core given refused = grind arith

-- ---- the causes that the journal tells

-- in a first turn, where the last group listed has the pool's widths,
pub refused_caused : (core : Core) (devices : ℕ) {items : List Item} {item : GroupItem} {index : ℕ} (disk : Disk)
    (given : Answer) → IsGroupBefore items index item → core.pool.uber.reflow.from ≡ item.from
    → core.pool.uber.reflow.to ≡ item.to → IsAttachRefused core devices given → IsAnswerCause items index disk given
refused_caused core devices {items = items} {item = item} {index = index} disk given latest from_is to_is refused
    = grind arith

-- and before the commit, where the device is the one behind the pool's and its ring was read.
pub device_caused : (before : CoreState) (ring : RingRead) (after : CoreState) (given : Answer) {items : List Item}
    {item : GroupItem} {index : ℕ} → IsGroupBefore items index item → ring.device ≡ before.core.pool.uber.reflow.to
    → before.core.pool.uber.reflow.to ≡ item.to → HasReadRing after.disk ring
    → IsDeviceRefused before ring after given → IsAnswerCause items index after.disk given
device_caused before ring after (answer.Taken slot) {item = item} latest behind to_is read refused =
    (ring.device, (item, latest, cc), search arith)
device_caused before ring after given latest behind to_is read refused = grind arith
