-- From what is certain on the devices to what each image keeps.
use Rattle.std.proofs.Common.{◌≡◌, ℕ, suc, ◌+◌, ◌<◌, ◌≤◌, List, [], ◌∷◌, ◌++◌, length, Some, false, refl, sym, ◌∙◌, ap}
use Rattle.std.proofs.Common.{subst, arith, inl, inr, ⊎_elim}
use Rattle.std.proofs.lemmas.List.Elements.{Contains-append_left, Contains-append_right}
use Rattle.std.specs.Prelude.{Contains, map, slice_get}
use Rattle.sha2.specs.Sha256.{sha256}
use Rattle.bank_trait.specs.Disk.{Image, Disk, Fits}
use Rattle.width_map.specs.declared.birth.Birth.{Birth}
use Rattle.reflow_mark.specs.declared.reflow.Reflow.{Reflow}
use Rattle.shadow_write.specs.Required.{IsRequiredPlace, front_after_stop}
use Rattle.block_record.specs.declared.entry.IndexEntry.{IndexEntry}
use Rattle.block_record.specs.Page.{page_sectors, index_page}
use Rattle.uberblock_ring.specs.Devices.{has_device}
use Rattle.uberblock_ring.specs.Uberblock.{Uber, encoded, slot_of, area_sector}
use Rattle.uberblock_ring.specs.Valid.{AreAlike}
use Rattle.core_state.specs.Index.{IsFitting, KeptBlock}
use Rattle.core_state.specs.Shown.{read_devices, Shows, Gives, page_on, sectors_from}
use Rattle.core_state.specs.Whole.{Cell, IsCellOf, KeepsBlock}
use Rattle.core_state.specs.Keeps.{Kept, blocks_of, Setting, Keeps, IsKept, ShowsGroup}
use Rattle.core_state.specs.Collision.{MightStand, BankKeeps}
use Rattle.core_state.specs.Certain.{Asks, joined, PageOn, IsSound, IsCertain, Knows, certain}
use Rattle.core_state.proofs.Fresh.{none_in}
use Rattle.core_state.proofs.Knowing.{might_show}
use Rattle.core_state.proofs.Widths.{below_first, first_within}
use Rattle.core_state.proofs.Listed.{contains_cases, contains_head, contains_none, contains_tail}

-- The sectors of a page, end to end.
sectors_are : (image : Image) (device first : ℕ) (parts : List (List ℕ))
    → ((part : ℕ) (bytes : List ℕ) → slice_get parts part ≡ Some bytes
    → image device (first + part) ≡ bytes)
    → sectors_from image device first (length parts) ≡ joined parts
sectors_are image device first [] is = refl
sectors_are image device first (part ∷ parts) is =
    ap (λ (l : List ℕ). l ++ sectors_from image device (first + 1) (length parts))
    (subst (λ k. image device k ≡ part) (omega arith) (is 0 part refl))
    ∙ ap (λ (l : List ℕ). part ++ l) (sectors_are image device (first + 1) parts
    (λ k bytes at. subst (λ y. image device y ≡ bytes) (omega arith) (is (suc k) bytes at)))

-- A page that is known on a device is given there, for each uberblock of the group.
pub page_given : (setting : Setting) (disk : Disk) (image : Image) (kept : Kept) (uber : Uber)
    (device : ℕ) → Fits (certain disk) image → IsSound setting kept → AreAlike uber kept.uber
    → device < read_devices setting.shape → PageOn (certain disk) kept device
    → Gives setting.shape image uber kept.entries device
unfolding page_on
page_given setting disk image kept uber device fits sound alike inside page =
    let area : uber.area ≡ kept.uber.area = ap (λ (u : Uber). u.area) alike in
    let count : uber.count ≡ kept.uber.count = ap (λ (u : Uber). u.count) alike in
    let digest : uber.digest ≡ kept.uber.digest = ap (λ (u : Uber). u.digest) alike in
    let whole : page_on image uber device ≡ index_page kept.entries =
    ap (λ n. sectors_from image device (area_sector n) (page_sectors uber.count)) area
    ∙ ap (λ n. sectors_from image device (area_sector kept.uber.area) n)
    (ap page_sectors count ∙ sym page.counted)
    ∙ sectors_are image device (area_sector kept.uber.area) page.parts
    (λ part bytes at. fits.at device (area_sector kept.uber.area + part) bytes
    (page.each part bytes at))
    ∙ page.page in
    record {
      device_in = inside;
      digest = ap sha256 whole ∙ sound.digest ∙ sym digest;
      page = record { index = sound.index; counted = sound.counted ∙ sym count; page = whole };
    }

-- An index fits each uberblock of its group.
pub fitting_alike : (uber other : Uber) (entries : List IndexEntry) → AreAlike uber other
    → IsFitting other entries
    → IsFitting uber entries
fitting_alike uber other entries alike fits =
    let bare : IsFitting (record other { out = 0 }) entries =
    record { births = fits.births; below = fits.below; apart = fits.apart } in
    let moved : IsFitting (record uber { out = 0 }) entries =
    subst (λ (u : Uber). IsFitting u entries) (sym alike) bare in
    record { births = moved.births; below = moved.below; apart = moved.apart }

-- A group without other blocks keeps those of its entries.
pub blocks_alone : (kept : Kept) → kept.others ≡ [] → blocks_of kept ≡ kept.entries
blocks_alone kept none = ap (λ (others : List KeptBlock). map (λ block. block.entry) others ++ kept.entries) none

-- Each block that it keeps is an entry's.
pub kept_listed : (kept : Kept) (entry : IndexEntry) (content : List ℕ) → kept.others ≡ []
    → KeepsBlock kept.entries kept.others kept.map entry content
    → Contains kept.entries entry × (kept.map entry.id ≡ Some content)
kept_listed kept entry content none (inl of) = of
kept_listed kept entry content none (inr of) = absurd (contains_none _
    (subst (λ (others : List KeptBlock). Contains others (record { entry = entry; content = content })) none of))

-- What a block is kept as, it is among the group's blocks.
among_others : (others : List KeptBlock) (block : KeptBlock) → Contains others block
    → Contains (map (λ block. block.entry) others) block.entry
among_others [] block has = absurd (contains_none block has)
among_others (one ∷ others) block has = ⊎_elim
    (λ same. subst (λ (b : KeptBlock). Contains (map (λ block. block.entry) (one ∷ others)) b.entry) (sym same)
    (contains_head one.entry (map (λ block. block.entry) others)))
    (λ later. contains_tail one.entry (map (λ block. block.entry) others) block.entry (among_others others block later))
    (contains_cases one others block has)

pub among_blocks : (kept : Kept) (entry : IndexEntry) (content : List ℕ)
    → KeepsBlock kept.entries kept.others kept.map entry content → Contains (blocks_of kept) entry
among_blocks kept entry content (inl of) =
    Contains-append_right (map (λ block. block.entry) kept.others) kept.entries entry of.0
among_blocks kept entry content (inr of) =
    Contains-append_left (map (λ block. block.entry) kept.others) kept.entries entry
    (among_others kept.others (record { entry = entry; content = content }) of)

pub fits_alone : (kept : Kept) → kept.others ≡ [] → IsFitting kept.uber (blocks_of kept)
    → IsFitting kept.uber kept.entries
fits_alone kept none fits = subst (λ (blocks : List IndexEntry). IsFitting kept.uber blocks) (blocks_alone kept none) fits

pub alone_fits : (kept : Kept) → kept.others ≡ [] → IsFitting kept.uber kept.entries
    → IsFitting kept.uber (blocks_of kept)
alone_fits kept none fits =
    subst (λ (blocks : List IndexEntry). IsFitting kept.uber blocks) (sym (blocks_alone kept none)) fits

-- What an uberblock's own fields ask for, its group asks for.
unfoldable pub asks_alike : (uber : Uber) (kept : Kept) (cell : Cell) (device device_sector : ℕ)
    → AreAlike uber kept.uber
    → IsCellOf uber.parity uber.births kept.entries kept.others kept.map cell
    → IsRequiredPlace uber.reflow (front_after_stop uber.reflow) cell.row_end cell.sector device
    device_sector
    → Asks kept device device_sector cell.bytes
asks_alike uber kept cell device device_sector alike of place =
    let parity : uber.parity ≡ kept.uber.parity = ap (λ (u : Uber). u.parity) alike in
    let births : uber.births ≡ kept.uber.births = ap (λ (u : Uber). u.births) alike in
    let reflow : uber.reflow ≡ kept.uber.reflow = ap (λ (u : Uber). u.reflow) alike in
    record {
      cell = cell;
      cell_is = subst (λ (n : ℕ). IsCellOf n kept.uber.births kept.entries kept.others kept.map cell) parity
          (subst (λ (bs : List Birth). IsCellOf uber.parity bs kept.entries kept.others kept.map cell) births of);
      place = subst
          (λ (r : Reflow). IsRequiredPlace r (front_after_stop r) cell.row_end cell.sector device
          device_sector) reflow place;
      bytes_are = refl;
    }

module _ (setting : Setting) (first : Kept) (later : List Kept) (disk : Disk)
    (knows : Knows setting first later disk) (image : Image)
    (might : MightStand setting.shape disk disk.clock image) where
  -- Each uberblock that the image shows from the first group on is one of the groups, whole.
  kept_from : (device : ℕ) (uber : Uber) → first.uber.group ≤ uber.group
      → Shows setting.shape image device uber → uber.pool ≡ setting.pool
      → IsKept setting image (first ∷ later) uber
  unfolding asks_alike
  kept_from device uber above shows pool_is =
      let is : IsCertain setting disk (first ∷ later) uber = knows.only device uber
      (record {
        device_in = shows.device_in;
        slot_in = shows.slot_in;
        right = shows.valid.right;
        could = might.written.ring device uber shows;
      }) pool_is above in
      record {
        kept = is.kept;
        listed = is.listed;
        alike = is.alike;
        listing = is.listing;
        whole = record {
          index = is.indexes;
          right = λ cell e of e_in in_use. record {
            at = λ x place not_odd. ap (λ (b : List ℕ). Some b) (might.fits.at e x cell.bytes
                ((is.cells e e_in in_use).at x cell.bytes
                (asks_alike uber is.kept cell e x is.alike of place) not_odd));
          };
        };
        out = is.out;
      }

  first_in : (device : ℕ) → device < first.uber.reflow.to → device < setting.reach
  first_in device below = first_within setting first later device knows.row.widths below

  -- Each device of the first group that hasn't failed shows a candidate of it.
  shows_first : (device : ℕ) → device < first.uber.reflow.to
      → has_device setting.failed device ≡ false
      → ShowsGroup setting image first device
  shows_first device below works =
      let slot = knows.slots device below works in
      let sound = knows.sound in
      let inside = knows.row.inside device (first_in device below) works in
      let group : slot.uber.group ≡ first.uber.group = ap (λ (u : Uber). u.group) slot.alike in
      let rows : slot.uber.reflow.rows ≡ first.uber.reflow.rows =
      ap (λ (u : Uber). u.reflow.rows) slot.alike in
      let low : slot_of slot.uber.group < 32 = omega arith in
      let large = slot.right.rows in (
        slot.uber,
        group,
        record {
          shows = record {
            device_in = inside;
            slot_in = omega (arith, low, sound.room, rows, large);
            valid = record {
              right = slot.right;
              slot_is = refl;
              bytes_are = might.fits.at device (slot_of slot.uber.group) (encoded slot.uber device)
                  (subst (λ n. certain disk device (slot_of n) ≡ Some (encoded slot.uber device))
                  (sym group) slot.shown);
            };
          };
          pool_is = ap (λ (u : Uber). u.pool) slot.alike ∙ sound.pool_is;
          room = omega (arith, sound.room, rows);
          giver = device;
          giver_reads = none_in device;
          gives = page_given setting disk image first slot.uber device might.fits sound slot.alike
              inside (knows.pages device below works);
          fitting = fitting_alike slot.uber first.uber first.entries slot.alike
              (fits_alone first sound.none_else sound.fitting);
        },
      )

  knows_keeps : Keeps setting first later image
  knows_keeps = record {
    few = knows.row.few;
    wide = knows.row.wide;
    only = kept_from;
    there = record {
      device = knows.row.device;
      works = knows.row.works;
      shown = shows_first knows.row.device
          (below_first setting first later knows.row.device knows.row.widths knows.row.below) knows.row.works;
      each = shows_first;
      pages = λ device below works.
          page_given setting disk image first first.uber device might.fits knows.sound refl
          (knows.row.inside device (first_in device below) works) (knows.pages device below works);
    };
    ascending = knows.row.ascending;
    further = knows.row.further;
    widths = knows.row.widths;
    inside = knows.row.inside;
    own = λ device uber below works shows. knows.own device uber
        (record {
          device_in = shows.device_in;
          slot_in = shows.slot_in;
          right = shows.valid.right;
          could = might.written.ring device uber shows;
        }) below works;
    votes = knows.votes image (might_show setting.shape disk disk.clock image might);
  }

-- What is certain on the devices says what each image keeps.
pub knows_keep : (setting : Setting) (first : Kept) (later : List Kept) (disk : Disk)
    → Knows setting first later disk
    → BankKeeps setting first later disk
knows_keep setting first later disk knows image might =
    knows_keeps setting first later disk knows image might
