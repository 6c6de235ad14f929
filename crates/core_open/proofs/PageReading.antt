-- How an index page is read, sector by sector, and what it shows then.
use Rattle.std.proofs.Common.{◌≡◌, ℕ, zero, suc, ◌+◌, ◌<◌, List, [], ◌++◌, length, Option, None, Some, true, refl, sym}
use Rattle.std.proofs.Common.{◌∙◌, ap, subst, arith, append_assoc, length-append, length-drop, add-one, ⊎_elim, ◌*◌}
use Rattle.std.proofs.Common.{◌≤◌, take, drop}
use Rattle.std.specs.Prelude.{Bool, IsTrue, ◌↔◌, min, IfNone}
use Rattle.std.proofs.lemmas.Bool.{cases_lt}
use Rattle.std.proofs.lemmas.List.{append-nil, drop-append-le, drop_at, length-take-le, take-append-le, take_all}
use Rattle.sha2.specs.Sha256.{sha256}
use Rattle.bank_trait.specs.Disk.{Image, Disk, Unchanged}
use Rattle.block_record.specs.declared.entry.IndexEntry.{IndexEntry}
use Rattle.block_record.specs.Page.{index_page, page_sectors, IsIndex, IsPageOf}
use Rattle.block_record.proofs.Reading.{front_more}
use Rattle.block_record.proofs.Sectors.{length-index_page}
use Rattle.block_record.proofs.Spelling.{split_front}
use Rattle.uberblock_ring.specs.Uberblock.{Uber, area_sector}
use Rattle.core_state.specs.Shown.{page_on, sectors_from}
use Rattle.core_open.specs.Pages.{page_piece, AreDeviceSectors, IsComparedPage, IsGivenPage, IsNotGiven, IsRecordedPage}
use Rattle.core_open.specs.Holds.{HoldsImage}
use Rattle.core_open.proofs.Unchanged.{unchanged_none, unchanged_then}

-- One sector more stands at the end.
sectors_and_next : (image : Image) (device first count : ℕ)
    → sectors_from image device first (suc count)
    ≡ sectors_from image device first count ++ image device (first + count)
sectors_and_next image device first zero =
    let same : first ≡ first + 0 = omega arith in
    append-nil (image device first) ∙ ap (image device) same
sectors_and_next image device first (suc more) =
    let one = image device first in
    let rest = sectors_from image device (first + 1) more in
    let same : first + 1 + more ≡ first + suc more = omega arith in
    ap (λ (l : List ℕ). one ++ l) (sectors_and_next image device (first + 1) more)
    ∙ sym (append_assoc one rest (image device (first + 1 + more)))
    ∙ ap (λ (place : ℕ). one ++ rest ++ image device place) same

-- So many sectors were read, and nothing was changed.
pub record IsReadTo (old : Disk) (device first count : ℕ) (new : Disk) (bytes : List ℕ) : Type 0
  where
    pub same : Unchanged old new
    pub are : AreDeviceSectors old device first count bytes

-- What was read before stays where it is, and the next sector stands behind it.
part_before : (bytes sector : List ℕ) (count part : ℕ) → length bytes ≡ 512 * count → part < count
    → page_piece (bytes ++ sector) part ≡ page_piece bytes part
part_before bytes sector count part wide low =
    ap (λ (rest : List ℕ). take 512 rest)
    (drop-append-le (512 * part) bytes sector (omega (arith, wide, low)))
    ∙ take-append-le 512 (drop (512 * part) bytes) sector
    (omega (arith, length-drop (512 * part) bytes, wide, low))

part_next : (bytes sector : List ℕ) (count : ℕ) → length bytes ≡ 512 * count → length sector ≡ 512
    → page_piece (bytes ++ sector) count ≡ sector
part_next bytes sector count wide full =
    ap (λ (rest : List ℕ). take 512 rest) (drop_at bytes sector (512 * count) wide)
    ∙ take_all 512 sector (omega (arith, full))

pub read_more : (old mid new : Disk) (device first count : ℕ) (bytes sector : List ℕ)
    → device < old.devices → first + count < old.sectors
    → IsReadTo old device first count mid bytes → Unchanged mid new → length sector ≡ 512
    → ((told : List ℕ) → mid.reads device (first + count) ≡ Some told → sector ≡ told)
    → IsReadTo old device first (count + 1) new (bytes ++ sector)
read_more old mid new device first count bytes sector in_bank on_device so_far same wide told =
    record {
      same = unchanged_then so_far.same same;
      are = record {
        wide = omega (arith, length-append bytes sector, so_far.are.wide, wide);
        told = λ part there low is. ⊎_elim
            (λ (before : part < count). so_far.are.told part there before is
            ∙ sym (part_before bytes sector count part so_far.are.wide before))
            (λ (after : count ≤ part). let last : part ≡ count = omega (arith, low, after) in
            sym (told there (so_far.same.reads device (first + count)
            ∙ subst (λ (k : ℕ). old.reads device (first + k) ≡ Some there) last is))
            ∙ sym (part_next bytes sector count so_far.are.wide wide)
            ∙ ap (page_piece (bytes ++ sector)) (sym last))
            (cases_lt part count);
        each = λ image holds.
            let place = first + count in
            let next : sector ≡ image device place = told (image device place)
            (so_far.same.reads device place ∙ holds.each device place in_bank on_device) in
            ap (λ (front : List ℕ). front ++ sector) (so_far.are.each image holds)
            ∙ ap (λ (last : List ℕ). sectors_from image device first count ++ last) next
            ∙ sym (sectors_and_next image device first count)
            ∙ ap (sectors_from image device first) (sym (add-one count));
      };
    }

-- The sectors of a page are those of its area.
pub page_sectors_are : (uber : Uber) (disk : Disk) (device first count : ℕ) (read bytes : List ℕ)
    → first ≡ area_sector uber.area → count ≡ page_sectors uber.count → bytes ≡ read
    → AreDeviceSectors disk device first count read
    → AreDeviceSectors disk device (area_sector uber.area) (page_sectors uber.count) bytes
page_sectors_are uber disk device first count read bytes area long is are =
    subst (AreDeviceSectors disk device (area_sector uber.area) (page_sectors uber.count)) (sym is)
    (subst (λ (count : ℕ). AreDeviceSectors disk device (area_sector uber.area) count read) long
    (subst (λ (first : ℕ). AreDeviceSectors disk device first count read) area are))

-- The bytes that were read are the page in each image that the bank holds.
pub page_given : (uber : Uber) (disk : Disk) (device : ℕ) (bytes : List ℕ)
    (entries : List IndexEntry) → device < min disk.devices 16
    → AreDeviceSectors disk device (area_sector uber.area) (page_sectors uber.count) bytes
    → ((image : Image) → HoldsImage disk image → sha256 bytes ≡ uber.digest)
    → IsPageOf bytes uber.count entries
    → IsGivenPage disk uber device entries
unfolding page_on
page_given uber disk device bytes entries below are digest page = record {
  index = page.index;
  counted = page.counted;
  parts = λ part told low is. are.told part told low is
      ∙ ap (λ (page : List ℕ). page_piece page part) page.page;
  each = λ image holds. record {
    device_in = below;
    digest = subst (λ (page : List ℕ). sha256 page ≡ uber.digest) (are.each image holds)
        (digest image holds);
    page = subst (λ (page : List ℕ). IsPageOf page uber.count entries) (are.each image holds) page;
  };
}

pub page_not_given : (uber : Uber) (disk : Disk) (device : ℕ) (bytes : List ℕ)
    → AreDeviceSectors disk device (area_sector uber.area) (page_sectors uber.count) bytes
    → ((entries : List IndexEntry) → IsRecordedPage uber bytes entries → ⊥)
    → IsNotGiven disk uber device
unfolding page_on
page_not_given uber disk device bytes are nothing = record {
  none = λ image entries holds gives. let is = sym (are.each image holds) in
      nothing entries (record {
        digest = subst (λ (page : List ℕ). sha256 page ≡ uber.digest) is gives.digest;
        page = subst (λ (page : List ℕ). IsPageOf page uber.count entries) is gives.page;
      });
}

-- What follows where there is no value.
pub none_then : {X P Q : Type 0} (given : Option X) → IfNone given P → (P → Q) → IfNone given Q
none_then None nothing follows = follows nothing
none_then (Some value) nothing follows = nothing

-- So many sectors were read, and compared with the first of a page.
pub record IsComparedTo (old : Disk) (device first count : ℕ) (new : Disk) (page : List ℕ)
    (same : Bool) : Type 0 where
  pub bytes : List ℕ
  pub read : IsReadTo old device first count new bytes
  pub is : IsTrue same ↔ (bytes ≡ take (512 * count) page)

pub compared_none : (disk : Disk) (device first : ℕ) (page : List ℕ)
    → IsComparedTo disk device first 0 disk page true
compared_none disk device first page = record {
  bytes = [];
  read = record {
    same = unchanged_none disk;
    are = record {
      wide = refl;
      told = λ part sector low. absurd (omega (arith, low));
      each = λ image holds. refl;
    };
  };
  is = (λ yes. refl, λ none. refl);
}

-- The front of a page and the next sector are a longer front.
front_and_next : (page : List ℕ) (count : ℕ)
    → take (512 * (count + 1)) page ≡ take (512 * count) page ++ page_piece page count
front_and_next page count =
    let more : 512 * (count + 1) ≡ 512 * count + 512 = omega arith in
    ap (λ (n : ℕ). take n page) more ∙ front_more (512 * count) 512 page

pub compared_more : (old mid new : Disk) (device first count : ℕ) (page sector : List ℕ)
    (before now : Bool) → device < old.devices → first + count < old.sectors
    → IsComparedTo old device first count mid page before → Unchanged mid new
    → length sector ≡ 512
    → ((told : List ℕ) → mid.reads device (first + count) ≡ Some told → sector ≡ told)
    → 512 * count ≤ length page
    → (IsTrue now ↔ (IsTrue before × (sector ≡ page_piece page count)))
    → IsComparedTo old device first (count + 1) new page now
compared_more old mid new device first count page sector before now in_bank on_device so_far same
    wide told long tells = record {
      bytes = so_far.bytes ++ sector;
      read = read_more old mid new device first count so_far.bytes sector in_bank on_device so_far.read
          same wide told;
      is = (
        λ yes. let both = tells.0 yes in
            ap (λ (front : List ℕ). front ++ sector) (so_far.is.0 both.0)
            ∙ ap (λ (last : List ℕ). take (512 * count) page ++ last) both.1
            ∙ sym (front_and_next page count),
        λ all. let both = split_front so_far.bytes (take (512 * count) page) sector (page_piece page count)
            (all ∙ front_and_next page count)
            (so_far.read.are.wide ∙ sym (length-take-le (512 * count) page long)) in
            tells.1 (so_far.is.1 both.0, both.1),
      );
    }

-- All of its sectors were.
pub compared_all : (uber : Uber) (disk new : Disk) (device first count : ℕ)
    (entries : List IndexEntry) (same : Bool) → IsIndex entries → length entries ≡ uber.count
    → first ≡ area_sector uber.area → count ≡ page_sectors (length entries)
    → IsComparedTo disk device first count new (index_page entries) same
    → IsComparedPage disk uber device entries same
compared_all uber disk new device first count entries same index counted area long compared = record {
  bytes = compared.bytes;
  are = page_sectors_are uber disk device first count compared.bytes compared.bytes area
      (long ∙ ap page_sectors counted) refl compared.read.are;
  is = (λ yes. compared.is.0 yes ∙ whole, λ all. compared.is.1 (all ∙ sym whole));
}
  where
    whole : take (512 * count) (index_page entries) ≡ index_page entries
    whole = take_all (512 * count) (index_page entries)
        (omega (arith, length-index_page entries index.each, long))
