-- An image keeps these groups and no others of the pool.
use Rattle.std.specs.Prelude.{◌≡◌, ◌≢◌, ◌⊎◌, ℕ, zero, suc, ◌+◌, ◌<◌, ◌≤◌, List, [], ◌∷◌, All, AllPairs, true, false}
use Rattle.std.specs.Prelude.{◌++◌, Contains, map, nat_eq, if◌then◌else◌}
use Rattle.std.specs.List.{IsDistinct}
use Rattle.bank_trait.specs.Disk.{Image}
use Rattle.block_record.specs.declared.entry.IndexEntry.{IndexEntry}
use Rattle.uberblock_ring.specs.Devices.{has_device, count_below, IsWithin}
use Rattle.uberblock_ring.specs.Uberblock.{Uber}
use Rattle.uberblock_ring.specs.Valid.{AreAlike}
use Rattle.core_state.specs.Index.{IsListing, KeptBlock}
use Rattle.core_state.specs.Map.{Map, SameMap}
use Rattle.core_state.specs.Shown.{Shape, read_devices, Shows, Gives, IsCandidate}
use Rattle.core_state.specs.Choosing.{Names, Outvotes}
use Rattle.core_state.specs.Whole.{Excepted, IsWhole}

-- a group: its uberblock but for the out set, its index, the blocks that it keeps beside those of its ids, its map, and
-- what may be wrong of all these blocks
pub record Kept : Type 0 where
  pub uber : Uber
  pub entries : List IndexEntry
  pub others : List KeptBlock
  pub map : Map
  pub excepted : Excepted

-- the blocks that a group keeps, the others first: where there are none these are the entries
abbrev pub blocks_of : Kept → List IndexEntry
blocks_of kept = map (λ block. block.entry) kept.others ++ kept.entries

-- the bank, the pool, how many devices it has at least and at most, and the devices that have failed
pub record Setting : Type 0 where
  pub shape : Shape
  pub pool : ℕ
  pub base : ℕ
  pub reach : ℕ
  pub failed : ℕ

-- The groups have this parity.
abbrev pub HaveParity : ℕ → List Kept → Type 0
HaveParity parity groups = (kept : Kept) → Contains groups kept → kept.uber.parity ≡ parity

-- Of none of the groups anything may be wrong.
abbrev pub NoneExcepted : List Kept → Type 0
NoneExcepted groups = (kept : Kept) → Contains groups kept → kept.excepted ≡ []

-- A device shows a candidate of the pool, with a page that some device gives.
abbrev pub ShowsCandidate : Setting → Image → ℕ → Uber → List IndexEntry → Type 0
ShowsCandidate setting image device uber entries =
    IsCandidate setting.shape 0 setting.pool image device uber entries

-- An uberblock is that of one of these groups but for its out set, whole for the group's map with
-- its index, and lists only failed devices as out.
pub record IsKept (setting : Setting) (image : Image) (groups : List Kept) (uber : Uber) : Type 0
  where
    pub kept : Kept
    pub listed : Contains groups kept
    pub alike : AreAlike uber kept.uber
    pub listing : IsListing kept.entries kept.others uber.count
    pub whole : IsWhole setting.shape.devices kept.excepted image uber kept.entries kept.others kept.map
    pub out : IsWithin uber.out setting.failed

-- Each valid uberblock of the pool from the first group on, on any device, is of these groups,
-- whether a device gives its page or not.
abbrev pub ShowsOnly : Setting → Kept → List Kept → Image → Type 0
ShowsOnly setting first later image = (device : ℕ) (uber : Uber)
    → first.uber.group ≤ uber.group → Shows setting.shape image device uber
    → uber.pool ≡ setting.pool
    → IsKept setting image (first ∷ later) uber

-- A device shows a candidate of the group, with its index.
abbrev pub ShowsGroup : Setting → Image → Kept → ℕ → Type 0
ShowsGroup setting image kept device = (uber : Uber) × (uber.group ≡ kept.uber.group)
    × ShowsCandidate setting image device uber kept.entries

-- Each device of the pool that hasn't failed gives the group's page. Those that its uberblocks list
-- as out have failed.
abbrev pub HasPages : Setting → Image → Kept → Type 0
HasPages setting image kept = (device : ℕ) → device < kept.uber.reflow.to
    → has_device setting.failed device ≡ false
    → Gives setting.shape image kept.uber kept.entries device

-- The first group stands on a device that hasn't failed, and on each such device of the pool, with
-- its page.
pub record StandsThere (setting : Setting) (first : Kept) (image : Image) : Type 0 where
  pub device : ℕ
  pub works : has_device setting.failed device ≡ false
  pub shown : ShowsGroup setting image first device
  pub each : (other : ℕ) → other < first.uber.reflow.to → has_device setting.failed other ≡ false
      → ShowsGroup setting image first other
  pub pages : HasPages setting image first

-- The groups have the same index, map and uberblock but for its out set.
pub record SameGroup (one other : Kept) : Type 0 where
  pub entries : one.entries ≡ other.entries
  pub others : one.others ≡ other.others
  pub map : SameMap one.map other.map
  pub alike : AreAlike one.uber other.uber
  pub excepted : one.excepted ≡ other.excepted

-- The group of an opening: the index page, the map and all else of the chosen one, numbered two more.
-- Its out set is made up at its first uberblock write.
pub record Renews (chosen next : Kept) : Type 0 where
  pub entries : next.entries ≡ chosen.entries
  pub others : next.others ≡ chosen.others
  pub map : SameMap next.map chosen.map
  pub alike : AreAlike next.uber (record chosen.uber { group = chosen.uber.group + 2 })
  pub excepted : next.excepted ≡ chosen.excepted

-- The widths of two groups differ by one device at most.
pub record AreNearWidths (one other : Kept) : Type 0 where
  pub up : other.uber.reflow.to ≤ one.uber.reflow.to + 1
  pub down : one.uber.reflow.to ≤ other.uber.reflow.to + 1

-- The group is the next one, at most one device wider or narrower, with its page in the other index area, or that of an
-- opening which chose the first.
abbrev pub IsNextOf : Kept → Kept → Type 0
IsNextOf first next =
    ((next.uber.group ≡ first.uber.group + 1) × (next.uber.area ≢ first.uber.area) × AreNearWidths first next)
    ⊎ Renews first next

-- No device that is the pool's or may join it, and hasn't failed, shows an uberblock of another pool: creating
-- cleared its ring, and an attach refuses a device that shows one. In a failed one's place another disk may stand.
abbrev pub ShowsNoOther : Setting → Image → Type 0
ShowsNoOther setting image = (device : ℕ) (uber : Uber) → device < setting.reach
    → has_device setting.failed device ≡ false
    → Shows setting.shape image device uber
    → uber.pool ≡ setting.pool

-- the devices below a number that haven't failed, downwards
abbrev pub left_below : ℕ → ℕ → List ℕ
left_below failed zero = []
left_below failed (suc device) =
    if has_device failed device then left_below failed device else device ∷ left_below failed device

-- A device outside the pool names another pool.
pub record NamesOther (setting : Setting) (image : Image) (other device : ℕ) : Type 0
  where
    pub outside : setting.reach ≤ device
    pub names : Names setting.shape 0 image other device

-- A failed device of the pool shows an uberblock of another pool, maybe below one of this pool: a write of this pool's
-- may yet tear that.
pub record ShowsOther (setting : Setting) (image : Image) (other device : ℕ) : Type 0
  where
    pub within : device < setting.reach
    pub failed : has_device setting.failed device ≡ true
    pub uber : Uber
    pub shows : Shows setting.shape image device uber
    pub pool_is : uber.pool ≡ other

-- A device may vote for another pool.
abbrev pub MayVoteFor : Setting → Image → ℕ → ℕ → Type 0
MayVoteFor setting image other device = NamesOther setting image other device ⊎ ShowsOther setting image other device

-- The devices of this pool that are left outvote each other pool. So this pool is chosen, whichever of the devices that
-- have failed, or are outside the pool, are silent. Where no failed device shows another pool, as many devices outside
-- may name one as are left of this pool: theirs are the higher numbers.
abbrev pub IsNotOutvoted : Setting → Image → Type 0
IsNotOutvoted setting image = (other : ℕ) (others : List ℕ) → other ≢ setting.pool
    → IsDistinct nat_eq others → All (MayVoteFor setting image other) others
    → Outvotes (left_below setting.failed setting.base) others

-- So many devices are no fewer than the pool has at least, and no more than it has at most.
pub record IsWidthIn (setting : Setting) (width : ℕ) : Type 0 where
  pub least : setting.base ≤ width
  pub most : width ≤ setting.reach

abbrev pub HasWidthIn : Setting → Kept → Type 0
HasWidthIn setting kept = IsWidthIn setting kept.uber.reflow.to

-- A pool that has these groups reaches no further than the widest of them.
pub record ReachesNoFurther (groups : List Kept) (reach : ℕ) : Type 0 where
  pub widest : Kept
  pub listed : Contains groups widest
  pub within : reach ≤ widest.uber.reflow.to

-- Each device that is the pool's or may join it, and hasn't failed, is read.
abbrev pub HasDevices : Setting → Type 0
HasDevices setting = (device : ℕ) → device < setting.reach → has_device setting.failed device ≡ false
    → device < read_devices setting.shape

-- The image shows the first group and maybe later ones of the list, each whole, and nothing else
-- from there on.
pub record Keeps (setting : Setting) (first : Kept) (later : List Kept) (image : Image) : Type 0
  where
    pub few : count_below setting.failed 16 ≤ first.uber.parity
    pub wide : first.uber.parity < setting.base
    pub only : ShowsOnly setting first later image
    pub there : StandsThere setting first image
    pub ascending : AllPairs (λ one other. one.uber.group < other.uber.group) (first ∷ later)
    pub further : All (IsNextOf first) later
    pub widths : All (HasWidthIn setting) (first ∷ later)
    pub inside : HasDevices setting
    pub own : ShowsNoOther setting image
    pub votes : IsNotOutvoted setting image
