-- What an opening writes, in order.
use Rattle.std.specs.Prelude.{◌≡◌, ◌↔◌, ℕ, ◌+◌, ◌-◌, ◌^◌, List, true}
use Rattle.bank_trait.specs.Disk.{Image, Disk}
use Rattle.block_record.specs.declared.entry.IndexEntry.{IndexEntry}
use Rattle.uberblock_ring.specs.Devices.{has_device}
use Rattle.uberblock_ring.specs.Uberblock.{Uber}
use Rattle.core_state.specs.Choosing.{IsChosen, IsOutAtOpening}
use Rattle.core_commit.specs.Writing.{IsSpreadOf, IsSpreadUber, WritesOnly}
use Rattle.core_open.specs.Finding.{ShowsTwin}
use Rattle.core_open.specs.Holds.{HoldsImage, shape_of}
use Rattle.core_open.specs.Lacking.{LacksPage}

-- all devices that a mask can have
abbrev pub every_device : ℕ
every_device = 2 ^ 64 - 1

-- the uberblock of an opening's group
abbrev pub renewed_by : Uber → ℕ → Uber
renewed_by uber out = record uber { group = uber.group + 2; out = out }

-- The bytes are the uberblock of an opening's group. Every device counts as lacking it.
abbrev pub IsRenewal : Uber → ℕ → ℕ → ℕ → List ℕ → Type 0
IsRenewal renewed out device device_sector bytes =
    IsSpreadUber renewed every_device out device device_sector bytes

-- First the group that the devices choose was written, and nothing else: its index page to devices that
-- lack it, and its uberblock to devices that show none of that group. Then the uberblock that renews it was
-- written, and nothing else. No device was written that was out at opening. Each of the two may have written all of
-- that, some of it, or nothing.
pub record WritesInOrder (old new : Disk) (silent : ℕ) (renewed : Uber) : Type 0 where
  -- The devices choose this group but for the silent ones, and these devices are out then.
  pub device : ℕ
  pub chosen : Uber
  pub entries : List IndexEntry
  pub choice : (image : Image) → HoldsImage old image
      → IsChosen (shape_of old) silent image device chosen entries
  pub out : ℕ
  pub is_out : (image : Image) → HoldsImage old image → (other : ℕ) → has_device out other ≡ true
      ↔ IsOutAtOpening (shape_of old) silent image chosen other
  -- These devices lack its index page, and these its uberblock.
  pub lack_page : ℕ
  pub lacks_page : (other : ℕ) → has_device lack_page other ≡ true
      → LacksPage old chosen other entries
  pub lack_uber : ℕ
  pub lacks_uber : (image : Image) → HoldsImage old image → (other : ℕ)
      → has_device lack_uber other ≡ true → ShowsTwin (shape_of old) silent image chosen other → ⊥
  -- Up to this point that alone was written, and from here on the uberblock that renews it.
  pub mid : Disk
  pub brought : WritesOnly (IsSpreadOf chosen entries lack_page lack_uber out) old mid
  pub renewed_is : renewed ≡ renewed_by chosen renewed.out
  pub renewal : WritesOnly (IsRenewal renewed out) mid new
