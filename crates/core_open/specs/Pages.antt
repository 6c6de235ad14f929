-- An uberblock's index page, as a device of a bank gives it.
use Rattle.std.specs.Prelude.{◌≡◌, ◌↔◌, ℕ, ◌+◌, ◌*◌, ◌<◌, List, Bool, length, Some, take, drop, IsTrue}
use Rattle.sha2.specs.Sha256.{sha256}
use Rattle.bank_trait.specs.Disk.{Image, Disk}
use Rattle.block_record.specs.declared.entry.IndexEntry.{IndexEntry}
use Rattle.block_record.specs.Page.{page_sectors, index_page, IsIndex, IsPageOf}
use Rattle.uberblock_ring.specs.Uberblock.{Uber, area_sector}
use Rattle.core_state.specs.Shown.{Gives, sectors_from}
use Rattle.core_open.specs.Holds.{HoldsImage, shape_of}

-- the 512 bytes of one sector of a page
abbrev pub page_piece : List ℕ → ℕ → List ℕ
page_piece page part = take 512 (drop (512 * part) page)

-- These are so many whole sectors of a device, from one on: each that the bank tells, and all of
-- them as each image has them that the bank holds.
pub record AreDeviceSectors (disk : Disk) (device first count : ℕ) (bytes : List ℕ) : Type 0 where
  pub wide : length bytes ≡ 512 * count
  pub told : (part : ℕ) (sector : List ℕ) → part < count
      → disk.reads device (first + part) ≡ Some sector → sector ≡ page_piece bytes part
  pub each : (image : Image) → HoldsImage disk image
      → bytes ≡ sectors_from image device first count

-- The bytes have the recorded digest, and are the page of these entries.
pub record IsRecordedPage (uber : Uber) (bytes : List ℕ) (entries : List IndexEntry) : Type 0 where
  pub digest : sha256 bytes ≡ uber.digest
  pub page : IsPageOf bytes uber.count entries

-- As many entries as the uberblock counts, an index whatever the bank tells; on the device, each
-- sector of the page that the bank tells is that of their page, and each image that the bank holds
-- gives the page with them.
pub record IsGivenPage (disk : Disk) (uber : Uber) (device : ℕ) (entries : List IndexEntry) :
    Type 0 where
  pub index : IsIndex entries
  pub counted : length entries ≡ uber.count
  pub parts : (part : ℕ) (bytes : List ℕ) → part < page_sectors uber.count
      → disk.reads device (area_sector uber.area + part) ≡ Some bytes
      → bytes ≡ page_piece (index_page entries) part
  pub each : (image : Image) → HoldsImage disk image
      → Gives (shape_of disk) image uber entries device

-- No image that the bank holds gives the page on the device.
pub record IsNotGiven (disk : Disk) (uber : Uber) (device : ℕ) : Type 0 where
  pub none : (image : Image) (entries : List IndexEntry) → HoldsImage disk image
      → Gives (shape_of disk) image uber entries device → ⊥

-- What stands where a device has the uberblock's page is the page of these entries, or isn't.
pub record IsComparedPage (disk : Disk) (uber : Uber) (device : ℕ) (entries : List IndexEntry)
    (same : Bool) : Type 0 where
  pub bytes : List ℕ
  pub are : AreDeviceSectors disk device (area_sector uber.area) (page_sectors uber.count) bytes
  pub is : IsTrue same ↔ (bytes ≡ index_page entries)
