-- Which uberblocks of a pool are candidates, and those of the greatest group that has any.
use Rattle.std.specs.Prelude.{◌≡◌, ◌⊎◌, ℕ, ◌+◌, ◌<◌, ◌≤◌, List, [], ◌∷◌, ◌++◌, Option, Some, None, length, All}
use Rattle.std.specs.Prelude.{Contains, slice_get, false}
use Rattle.std.specs.declared.alloc.Global.{Global}
use Rattle.std.specs.Prelude.{Vec}
use Rattle.bank_trait.specs.Disk.{Image, Disk}
use Rattle.block_record.specs.declared.entry.IndexEntry.{IndexEntry}
use Rattle.block_record.specs.Page.{IsIndex}
use Rattle.uberblock_ring.specs.Devices.{has_device}
use Rattle.uberblock_ring.specs.Uberblock.{Uber}
use Rattle.core_state.specs.Index.{IsFitting}
use Rattle.core_state.specs.Shown.{Shape, Gives, IsCandidate}
use Rattle.core_state.specs.Choosing.{IsChosenPool, IsNotPool}
use Rattle.core_open.specs.declared.candidates.GivenIndex.{GivenIndex}
use Rattle.core_open.specs.declared.ring_uber.RingUber.{RingUber}
use Rattle.core_open.specs.RingUbers.{AreOfOneGroup}
use Rattle.core_open.specs.Lacking.{IsFirstGiver}

-- The data rows are on the devices, and one outside the set gives the page, which fits.
pub record HasIndex (shape : Shape) (silent : ℕ) (image : Image) (uber : Uber)
    (entries : List IndexEntry) : Type 0 where
  pub room : 192 + uber.reflow.rows ≤ shape.sectors
  pub giver : ℕ
  pub giver_reads : has_device silent giver ≡ false
  pub gives : Gives shape image uber entries giver
  pub fitting : IsFitting uber entries

-- The uberblock has this index, or none.
abbrev pub IsIndexChoice : Shape → ℕ → Image → Uber → Option GivenIndex → Type 0
IsIndexChoice shape silent image uber (Some index) =
    HasIndex shape silent image uber index.entries.items
IsIndexChoice shape silent image uber None =
    (entries : List IndexEntry) → HasIndex shape silent image uber entries → ⊥

-- The device gives this index, which fits, or none that fits.
abbrev pub IsGivenIndex : Shape → Image → Uber → ℕ → Option (Vec IndexEntry Global) → Type 0
IsGivenIndex shape image uber device (Some entries) = Gives shape image uber entries.items device
IsGivenIndex shape image uber device None =
    (entries : List IndexEntry) → Gives shape image uber entries device → IsFitting uber entries → ⊥

-- The entries are an index that may be the uberblock's.
pub record IsIndexFor (uber : Uber) (entries : List IndexEntry) : Type 0 where
  pub index : IsIndex entries
  pub counted : length entries ≡ uber.count
  pub fitting : IsFitting uber entries

-- The same of the first uberblock, if there is one,
abbrev pub FirstFits : List RingUber → List IndexEntry → Type 0
FirstFits ubers entries =
    (first : RingUber) → slice_get ubers 0 ≡ Some first → IsIndexFor first.uber entries

-- that its data rows are within so many sectors of a device,
abbrev pub FirstHasRoom : ℕ → List RingUber → Type 0
FirstHasRoom sectors ubers = (first : RingUber) → slice_get ubers 0 ≡ Some first
    → 192 + first.uber.reflow.rows ≤ sectors

-- that this device is the first that gives the page of these entries,
abbrev pub FirstIsGiven : Disk → ℕ → List RingUber → List IndexEntry → ℕ → Type 0
FirstIsGiven disk silent ubers entries giver = (first : RingUber)
    → slice_get ubers 0 ≡ Some first → IsFirstGiver disk silent first.uber entries giver

-- and that it has this index.
abbrev pub FirstHas : Shape → ℕ → Image → List RingUber → List IndexEntry → Type 0
FirstHas shape silent image ubers entries = (first : RingUber) → slice_get ubers 0 ≡ Some first
    → HasIndex shape silent image first.uber entries

-- The uberblock was added if its uberblock has an index, and only then.
abbrev pub IsConsidered : Shape → ℕ → Image → RingUber → List RingUber → List RingUber → Type 0
IsConsidered shape silent image ring_uber before after =
    ((after ≡ before ++ ring_uber ∷ [])
    × ((entries : List IndexEntry) × HasIndex shape silent image ring_uber.uber entries))
    ⊎ ((after ≡ before)
    × ((entries : List IndexEntry) → HasIndex shape silent image ring_uber.uber entries → ⊥))

-- They are the pool's candidates of the greatest group that has any, by device, on devices that
-- aren't silent; and the entries are the first one's.
pub record AreNewest (shape : Shape) (silent : ℕ) (image : Image) (pool : ℕ)
    (ubers : List RingUber) (entries : List IndexEntry) : Type 0 where
  pub each : All (λ ring_uber. (has_device silent ring_uber.device ≡ false)
      × ((listed : List IndexEntry)
      × IsCandidate shape silent pool image ring_uber.device ring_uber.uber listed)) ubers
  pub every : (device : ℕ) (uber : Uber) (listed : List IndexEntry)
      → has_device silent device ≡ false
      → IsCandidate shape silent pool image device uber listed
      → Contains ubers (record { device = device; uber = uber })
      ⊎ ((ring_uber : RingUber) × Contains ubers ring_uber × (uber.group < ring_uber.uber.group))
  pub order : AreOfOneGroup ubers
  pub first : (ring_uber : RingUber) → slice_get ubers 0 ≡ Some ring_uber
      → IsCandidate shape silent pool image ring_uber.device ring_uber.uber entries

-- They are those of the pool that is chosen. If there are none there is nothing to open.
pub record AreChosen (shape : Shape) (silent : ℕ) (image : Image) (ubers : List RingUber)
    (entries : List IndexEntry) : Type 0 where
  pub none : ubers ≡ [] → IsNotPool shape silent image
  pub some : (first : RingUber) → slice_get ubers 0 ≡ Some first
      → IsChosenPool shape silent image first.uber.pool
      × AreNewest shape silent image first.uber.pool ubers entries
