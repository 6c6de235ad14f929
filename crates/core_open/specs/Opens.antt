-- What an opening keeps of what images kept when it began, and the group with which it ends.
use Rattle.std.specs.Prelude.{◌≡◌, ◌⊎◌, ℕ, ◌^◌, ◌+◌, ◌<◌, ◌≤◌, true, List, [], ◌∷◌, ◌++◌, length, Contains, Result, Ok}
use Rattle.std.specs.Prelude.{Err}
use Rattle.bank_trait.specs.Causes.{FaultCounted}
use Rattle.bank_trait.specs.Disk.{Image, Disk, Unchanged}
use Rattle.bank_trait.specs.Regions.{Tells, TouchesOnly}
use Rattle.block_record.specs.declared.entry.IndexEntry.{IndexEntry}
use Rattle.uberblock_ring.specs.Devices.{has_device, count_below, count_of, IsWithin}
use Rattle.uberblock_ring.specs.Uberblock.{Uber, max_group}
use Rattle.uberblock_ring.specs.Valid.{AreAlike}
use Rattle.core_state.specs.Shown.{Shape}
use Rattle.core_state.specs.Choosing.{IsChosen, IsOutAtOpening}
use Rattle.core_state.specs.Keeps.{HaveParity, Kept, Setting, Renews}
use Rattle.core_state.specs.Collision.{BankKeeps}
use Rattle.core_state.specs.Certain.{IsCertain, Knows}
use Rattle.core_state.specs.Committing.{Point}
use Rattle.core_state.specs.Moment.{KeepsSince}
use Rattle.core_commit.specs.declared.committing.TooManyOut.{TooManyOut}
use Rattle.core_commit.specs.Spread.{SpreadKeeps}
use Rattle.core_commit.specs.Writing.{IsSpreadOf, WritesOnly}
use Rattle.core_commit.specs.Spared.{HaveGoneOut, SparesData, StopsInTime, TouchesGroup}
use Rattle.core_open.specs.declared.why.OpenWhy.{OpenWhy}
use Rattle.core_open.specs.declared.why.OpenWhy.TheVariants as reason
use Rattle.core_open.specs.Causes.{AreOutIn, IsChoiceWithout, IsShownChoice}
use Rattle.core_open.specs.Failing.{HaveFailed}
use Rattle.core_open.specs.Holds.{HoldsImage, HoldsNoOther, shape_of}
use Rattle.core_open.specs.Lacking.{HasAllBut}
use Rattle.core_open.specs.Regions.{IsOnBelow}
pub use Rattle.core_open.specs.Writes.{every_device, renewed_by, WritesInOrder}

-- Each image that a crash may leave keeps these groups, all of one parity; the bank tells what it holds,
-- and no uberblock or page in that is another's by chance.
pub record MayOpen (setting : Setting) (first : Kept) (later : List Kept) (disk : Disk) : Type 0 where
  pub keeps : BankKeeps setting first later disk
  pub shape : setting.shape ≡ shape_of disk
  pub tells : Tells disk
  pub no_other : HoldsNoOther setting (first ∷ later) disk
  pub parity : HaveParity first.uber.parity (first ∷ later)

-- At most one group joins these, which renews one of them.
pub record AddsOne (groups joined : List Kept) : Type 0 where
  pub one : length joined ≤ 1
  pub renews : (next : Kept) → Contains joined next
      → (chosen : Kept) × Contains groups chosen × Renews chosen next

-- Those of these devices that are below a number are among the others.
abbrev pub IsWithinBelow : ℕ → ℕ → ℕ → Type 0
IsWithinBelow width devices others = (device : ℕ) → device < width
    → has_device devices device ≡ true
    → has_device others device ≡ true

-- Where the silent devices of the pool and those to be borne may fail, each image since the opening began
-- keeps some of the groups that were kept then and the one that it adds.
pub record OpeningKeeps (silent borne : ℕ) (old new : Disk) : Type 0 where
  pub since : (setting : Setting) (first : Kept) (later : List Kept)
      → MayOpen setting first later old
      → IsWithinBelow first.uber.reflow.to silent setting.failed → IsWithin borne setting.failed
      → (joined : List Kept) × AddsOne (first ∷ later) joined
      × KeepsSince setting ((first ∷ later) ++ joined) old.clock new

-- An opening was cut short when it had begun to write: too many devices failed, or memory was exhausted for
-- what it had read.
pub record CutsOpening (old new : Disk) : Type 0 where
  -- Devices were silent: each failed in it. But for them the devices choose a group of this width and parity.
  pub silent : ℕ
  pub failed : HaveFailed old new silent
  pub width : ℕ
  pub parity : ℕ
  -- Some devices have to be borne, with the silent ones of the pool and those that the group which was begun
  -- lists as out. They are no more than there are parities, and each was out at opening or failed.
  pub borne : ℕ
  pub few : count_of borne ≤ parity
  pub missed : IsWithinBelow width silent borne
  pub each : (image : Image) → HoldsImage old image
      → AreOutIn old new silent width parity borne image
  -- Where these may fail, what was kept is kept; and no device is touched but those of the pool.
  pub keeps : OpeningKeeps silent borne old new
  pub only : TouchesOnly (IsOnBelow width) old new
  -- What it wrote, it wrote in this order.
  pub writes : (renewed : Uber) × WritesInOrder old new silent renewed

-- A refusal changes nothing but counts of faults. Where too many devices are out it may have been cut short:
-- those that have to be borne are then among the ones that are told.
abbrev pub LeavesBank : OpenWhy → Disk → Disk → Type 0
LeavesBank reason.NotPool old new = Unchanged old new
LeavesBank (reason.TooManyFailed out) old new =
    Unchanged old new ⊎ ((cut : CutsOpening old new) × IsWithin cut.borne out)
LeavesBank (reason.Limit group) old new = Unchanged old new
LeavesBank reason.NoMemory old new = Unchanged old new

-- Nothing is changed but counts of faults; or no device is touched but those of the pool that the devices
-- show.
abbrev pub LeavesOthers : Disk → Disk → Type 0
LeavesOthers old new = Unchanged old new
    ⊎ ((image : Image) → HoldsImage old image → (shown : IsShownChoice old new image)
    × TouchesOnly (IsOnBelow shown.choice.uber.reflow.to) old new)

-- The bank has the pool's data rows, and each device of the pool that isn't out.
pub record HasBank (uber : Uber) (out : ℕ) (disk : Disk) : Type 0 where
  pub room : 192 + uber.reflow.rows ≤ disk.sectors
  pub devices : HasAllBut disk uber.reflow.to out

-- A pool was opened with this uberblock and index: they are those of a group that renews one of the groups
-- kept before, which the devices choose but for the silent ones. It is the one kept now, what it asks for is
-- certain, and each image since the opening began keeps some of the groups in a row, it being the last.
pub record HasOpened (setting : Setting) (first : Kept) (later : List Kept) (uber : Uber)
    (entries : List IndexEntry) (silent : ℕ) (old new : Disk) : Type 0 where
  pub chosen : Kept
  pub listed : Contains (first ∷ later) chosen
  pub next : Kept
  pub renews : Renews chosen next
  pub alike : AreAlike uber next.uber
  pub entries_are : entries ≡ next.entries
  pub knows : Knows setting next [] new
  pub known : IsCertain setting new (next ∷ []) uber
  pub since : KeepsSince setting ((first ∷ later) ++ next ∷ []) old.clock new
  pub choice : (image : Image) → HoldsImage old image
      → (shown : IsChoiceWithout (shape_of old) silent image)
      × (shown.uber.group ≡ chosen.uber.group)

-- The uberblock has as many devices and parities as one of these groups.
pub record IsSizedAsOne (groups : List Kept) (uber : Uber) : Type 0 where
  pub kept : Kept
  pub listed : Contains groups kept
  pub width_is : uber.reflow.to ≡ kept.uber.reflow.to
  pub parity_is : uber.parity ≡ kept.uber.parity

-- A pool is opened with this uberblock and index, wherever its silent devices and all those that are out may
-- fail. It has the size of a group that was kept where the silent ones may.
pub record IsOpenedWith (uber : Uber) (entries : List IndexEntry) (silent out : ℕ) (old new : Disk) : Type 0
  where
    pub sized : (setting : Setting) (first : Kept) (later : List Kept)
        → MayOpen setting first later old
        → IsWithinBelow first.uber.reflow.to silent setting.failed
        → IsSizedAsOne (first ∷ later) uber
    pub kept : (setting : Setting) (first : Kept) (later : List Kept)
        → MayOpen setting first later old
        → IsWithinBelow first.uber.reflow.to silent setting.failed → IsWithin out setting.failed
        → HasOpened setting first later uber entries silent old new

-- The uberblock is the one that the devices choose but for the silent ones, with this index: only its number
-- is two more, and it lists other devices as out.
pub record RenewsChoice (shape : Shape) (silent : ℕ) (image : Image) (uber : Uber)
    (entries : List IndexEntry) : Type 0 where
  pub device : ℕ
  pub chosen : Uber
  pub choice : IsChosen shape silent image device chosen entries
  pub renewed : uber ≡ renewed_by chosen uber.out

-- No device fails in a call.
abbrev pub NoneFails : Disk → Disk → Type 0
NoneFails old new = (device : ℕ) → FaultCounted (old.faults device) (new.faults device) → ⊥

-- No device is out where all answer, whatever they choose.
abbrev pub NoneIsOut : Disk → Type 0
NoneIsOut disk = (image : Image) (shower : ℕ) (uber : Uber) (entries : List IndexEntry) (device : ℕ)
    → HoldsImage disk image → IsChosen (shape_of disk) 0 image shower uber entries
    → IsOutAtOpening (shape_of disk) 0 image uber device
    → ⊥

-- Nothing hinders a look at a pool: images keep groups, no device fails in it, and none is out.
pub record IsInSight (setting : Setting) (first : Kept) (later : List Kept) (old new : Disk) : Type 0 where
  pub may : MayOpen setting first later old
  pub works : NoneFails old new
  pub in_use : NoneIsOut old

-- Nothing hinders an opening: beside that, none of the groups is too near the greatest number.
pub record IsUnhindered (setting : Setting) (first : Kept) (later : List Kept) (old new : Disk) : Type 0 where
  pub may : MayOpen setting first later old
  pub limit : (kept : Kept) → Contains (first ∷ later) kept → kept.uber.group + 2 ≤ max_group
  pub works : NoneFails old new
  pub in_use : NoneIsOut old

-- Then nothing but memory may be exhausted.
abbrev pub IsForMemory : Disk → Disk → OpenWhy → Type 0
IsForMemory old new why = (setting : Setting) (first : Kept) (later : List Kept)
    → IsUnhindered setting first later old new
    → why ≡ reason.NoMemory

-- A group was brought to devices, or as far as that went.
pub record HasSpread (uber : Uber) (entries : List IndexEntry) (lack_page lack_uber : ℕ)
    (before after : Point) (result : Result (Unit {0}) TooManyOut) : Type 0 where
  pub keeps : SpreadKeeps uber entries lack_page lack_uber before after result
  pub writes : WritesOnly (IsSpreadOf uber entries lack_page lack_uber before.out) before.disk after.disk
  pub gone : HaveGoneOut before before.out after
  pub spares : SparesData before after
  pub touches : TouchesGroup uber before after
  pub stops : StopsInTime uber.parity before after

-- The chosen group was brought to the devices that lack it, and then the next one's uberblock to each.
pub record HasRenewed (uber : Uber) (entries : List IndexEntry) (lack_page lack_uber : ℕ)
    (before : Point) (renewed : Uber) (after : Point) (result : Result (Unit {0}) TooManyOut) : Type 0
  where
    pub mid : Point
    pub value : Unit {0}
    pub brought : HasSpread uber entries lack_page lack_uber before mid (Ok value)
    pub few : (mid.out < 2 ^ uber.reflow.to) × (count_below mid.out uber.reflow.to ≤ uber.parity)
    pub renewed_is : renewed ≡ renewed_by uber mid.out
    pub spread : HasSpread renewed entries 0 every_device mid after result

-- Too many devices went out while the chosen group was brought to them.
pub record StopsSpreading (uber : Uber) (entries : List IndexEntry) (lack_page lack_uber : ℕ)
    (before after : Point) : Type 0 where
  pub why : TooManyOut
  pub brought : HasSpread uber entries lack_page lack_uber before after (Err why)

-- Too many went out among the writes of the next one's uberblock.
pub record StopsRenewing (uber : Uber) (entries : List IndexEntry) (lack_page lack_uber : ℕ)
    (before after : Point) : Type 0 where
  pub why : TooManyOut
  pub renewed : Uber
  pub ran : HasRenewed uber entries lack_page lack_uber before renewed after (Err why)

-- how the writes of an opening end
abbrev pub EndsRenewal : Uber → List IndexEntry → ℕ → ℕ → Point → Point → Result Uber OpenWhy → Type 0
EndsRenewal uber entries lack_page lack_uber before after (Ok renewed) =
    (value : Unit {0}) × HasRenewed uber entries lack_page lack_uber before renewed after (Ok value)
    × (count_of after.out ≤ uber.parity)
EndsRenewal uber entries lack_page lack_uber before after (Err why) =
    (why ≡ reason.TooManyFailed after.out) × (uber.parity < count_of after.out)
    × (StopsSpreading uber entries lack_page lack_uber before after
    ⊎ StopsRenewing uber entries lack_page lack_uber before after)
