-- From what each image keeps to what is certain on the devices.
use Rattle.std.proofs.Common.{◌≡◌, inl, inr, ⊎_elim, ℕ, zero, suc, ◌+◌, ◌-◌, ◌<◌, ◌≤◌, List, [], ◌∷◌, ◌++◌, length}
use Rattle.std.proofs.Common.{false, Option, Some, None, refl, sym, ◌∙◌, ap, subst, arith, length-append}
use Rattle.std.specs.Prelude.{Contains, slice_get}
use Rattle.std.proofs.lemmas.Bool.{cases_eq}
use Rattle.sha2.specs.Sha256.{sha256}
use Rattle.bank_trait.specs.Disk.{Image, Disk, Fits, Lawful, Other}
use Rattle.bank_trait.proofs.Moments.{patched, patched-same, patched-other, place_cases}
use Rattle.width_map.specs.declared.birth.Birth.{Birth}
use Rattle.reflow_mark.specs.declared.reflow.Reflow.{Reflow}
use Rattle.shadow_write.specs.Required.{IsRequiredPlace, front_after_stop}
use Rattle.block_record.specs.Page.{page_sectors}
use Rattle.uberblock_ring.specs.Devices.{has_device, count_below}
use Rattle.uberblock_ring.specs.Uberblock.{Uber, encoded, slot_of, area_sector}
use Rattle.uberblock_ring.specs.Valid.{AreAlike}
use Rattle.core_state.specs.Index.{IsIndexOf}
use Rattle.core_state.specs.Whole.{Cell, IsCellOf}
use Rattle.core_state.specs.Shown.{Shape, Shows, page_on, sectors_from}
use Rattle.core_state.specs.Keeps.{Kept, Setting, Keeps, IsKept}
use Rattle.core_state.specs.Collision.{MightStand, BankKeeps}
use Rattle.core_state.specs.Certain.{Asks, joined, PageOn, SlotOn, IsSound, IsAble, IsCertain, Knows, certain, able}
use Rattle.core_state.proofs.Fresh.{lacks_one, count_grows}
use Rattle.core_state.proofs.Reader.{same_group, shown_alike}
use Rattle.core_state.proofs.Listed.{contains_head}
use Rattle.core_state.proofs.Places.{asks_sector, right_widths, IsDataSector}
use Rattle.core_state.proofs.Keeping.{alone_fits, fitting_alike}
use Rattle.core_state.proofs.Knowing.{present, shows_same, encoded_some}
use Rattle.core_state.proofs.Showing.{completed, completed_might, shown_votes}
use Rattle.core_state.proofs.Widths.{first_width}

no_both : (o : Option (List ℕ)) (b : List ℕ) → o ≡ None → o ≡ Some b → ⊥
no_both o b none some = cc

patched_here : (image : Image) (d x : ℕ) (value : List ℕ) → patched image d x value d x ≡ value
patched_here image d x value = patched-same image d x value

-- A crash may leave an image that is patched where the sector may hold that value.
fits_patched : (disk : Disk) (image : Image) (d x : ℕ) (value : List ℕ) → Fits (certain disk) image
    → ((b : List ℕ) → certain disk d x ≡ Some b → value ≡ b)
    → Fits (certain disk) (patched image d x value)
fits_patched disk image d x value fits may = record {
  at = λ e y. place_cases (λ e y. (b : List ℕ) → certain disk e y ≡ Some b
      → patched image d x value e y ≡ b) d x e y
      (λ b known. patched_here image d x value ∙ may b known)
      (λ other b known. patched-other image d x value e y other ∙ fits.at e y b known);
}

-- Outside the rings a patch makes no uberblock.
might_data : (shape : Shape) (disk : Disk) (image : Image) (d x : ℕ) (value : List ℕ) → 32 ≤ x
    → MightStand shape disk disk.clock image
    → ((b : List ℕ) → certain disk d x ≡ Some b → value ≡ b)
    → MightStand shape disk disk.clock (patched image d x value)
might_data shape disk image d x value high might may = record {
  fits = fits_patched disk image d x value might.fits may;
  written = record {
    ring = λ e uber shows. might.written.ring e uber
        (shows_same shape (patched image d x value) image e uber
        (λ slot low. patched-other image d x value e slot
        (inr (λ same. omega (arith, same, low, high)))) shows);
  };
}

-- In a slot it makes one only where that could stand there.
might_slot : (shape : Shape) (disk : Disk) (image : Image) (d x : ℕ) (value : List ℕ)
    → MightStand shape disk disk.clock image
    → ((b : List ℕ) → certain disk d x ≡ Some b → value ≡ b)
    → ((uber : Uber) → slot_of uber.group ≡ x → value ≡ encoded uber d
    → Contains (able disk d x) (encoded uber d))
    → MightStand shape disk disk.clock (patched image d x value)
might_slot shape disk image d x value might may could = record {
  fits = fits_patched disk image d x value might.fits may;
  written = record { ring = λ e uber shows. ring e uber shows };
}
  where
    ring : (e : ℕ) (uber : Uber) → Shows shape (patched image d x value) e uber
        → Contains (able disk e (slot_of uber.group)) (encoded uber e)
    ring e uber shows = ⊎_elim
        (λ same_d. ⊎_elim
        (λ same_x.
        let at : patched image d x value d x ≡ encoded uber d =
        subst (λ k. patched image d x value k x ≡ encoded uber k) same_d
        (subst (λ k. patched image d x value e k ≡ encoded uber e) same_x shows.valid.bytes_are) in
        subst (λ k. Contains (able disk k (slot_of uber.group)) (encoded uber k)) (sym same_d)
        (subst (λ k. Contains (able disk d k) (encoded uber d)) (sym same_x)
        (could uber same_x (sym (patched_here image d x value) ∙ at))))
        (λ ne. elsewhere (inr ne)) (cases_eq (slot_of uber.group) x))
        (λ ne. elsewhere (inl ne)) (cases_eq e d)
      where
        elsewhere : Other d x e (slot_of uber.group)
            → Contains (able disk e (slot_of uber.group)) (encoded uber e)
        elsewhere other = might.written.ring e uber (record {
          device_in = shows.device_in;
          slot_in = shows.slot_in;
          valid = record {
            right = shows.valid.right;
            slot_is = shows.valid.slot_is;
            bytes_are = sym (patched-other image d x value e (slot_of uber.group) other) ∙ shows.valid.bytes_are;
          };
        })

-- Sectors end to end are the same where each is,
sectors_same : (one other : Image) (d first count : ℕ)
    → ((x : ℕ) → first ≤ x → x < first + count → one d x ≡ other d x)
    → sectors_from one d first count ≡ sectors_from other d first count
sectors_same one other d first zero same = refl
sectors_same one other d first (suc count) same =
    ap (λ (l : List ℕ). l ++ sectors_from one d (first + 1) count) (same first (omega arith) (omega arith))
    ∙ ap (λ (l : List ℕ). other d first ++ l) (sectors_same one other d (first + 1) count
    (λ x low high. same x (omega (arith, low)) (omega (arith, high))))

-- and longer by one byte where one of them is.
longer_by_one : (image : Image) (d first count x : ℕ) → first ≤ x → x < first + count
    → length (sectors_from (patched image d x (0 ∷ image d x)) d first count)
    ≡ length (sectors_from image d first count) + 1
longer_by_one image d first zero x low high = absurd (omega (arith, low, high))
longer_by_one image d first (suc count) x low high = ⊎_elim
    (λ here.
    let head : patched image d x (0 ∷ image d x) d first ≡ 0 ∷ image d first =
    subst (λ k. patched image d x (0 ∷ image d x) d k ≡ 0 ∷ image d k) here
    (patched_here image d x (0 ∷ image d x)) in
    let tail : sectors_from (patched image d x (0 ∷ image d x)) d (first + 1) count
    ≡ sectors_from image d (first + 1) count =
    sectors_same (patched image d x (0 ∷ image d x)) image d (first + 1) count
    (λ y above below. patched-other image d x (0 ∷ image d x) d y
    (inr (λ same. omega (arith, same, here, above)))) in
    let all : length (sectors_from (patched image d x (0 ∷ image d x)) d first (suc count))
    ≡ length ((0 ∷ image d first) ++ sectors_from image d (first + 1) count) =
    ap (λ (l : List ℕ). length (l ++ sectors_from (patched image d x (0 ∷ image d x)) d (first + 1) count)) head
    ∙ ap (λ (l : List ℕ). length ((0 ∷ image d first) ++ l)) tail in
    omega (
      arith,
      all,
      length-append (0 ∷ image d first) (sectors_from image d (first + 1) count),
      length-append (image d first) (sectors_from image d (first + 1) count),
    ))
    (λ other.
    let head : patched image d x (0 ∷ image d x) d first ≡ image d first =
    patched-other image d x (0 ∷ image d x) d first (inr (λ same. other (sym same))) in
    let more = longer_by_one image d (first + 1) count x (omega (arith, low, other)) (omega (arith, high)) in
    let all : length (sectors_from (patched image d x (0 ∷ image d x)) d first (suc count))
    ≡ length (image d first ++ sectors_from (patched image d x (0 ∷ image d x)) d (first + 1) count) =
    ap (λ (l : List ℕ). length (l ++ sectors_from (patched image d x (0 ∷ image d x)) d (first + 1) count)) head in
    omega (
      arith,
      all,
      more,
      length-append (image d first) (sectors_from (patched image d x (0 ∷ image d x)) d (first + 1) count),
      length-append (image d first) (sectors_from image d (first + 1) count),
    ))
    (cases_eq x first)

-- the sectors of a device as a list
sectors_list : Image → ℕ → ℕ → ℕ → List (List ℕ)
sectors_list image d first zero = []
sectors_list image d first (suc count) = image d first ∷ sectors_list image d (first + 1) count

length-sectors_list : (image : Image) (d first count : ℕ)
    → length (sectors_list image d first count) ≡ count
unfolding sectors_list
length-sectors_list image d first zero = refl
length-sectors_list image d first (suc count) =
    omega (arith, length-sectors_list image d (first + 1) count)

sector_at : (image : Image) (d first count part : ℕ) (bytes : List ℕ)
    → slice_get (sectors_list image d first count) part ≡ Some bytes
    → (image d (first + part) ≡ bytes) × (part < count)
unfolding sectors_list
sector_at image d first zero part bytes is = absurd (cc)
sector_at image d first (suc count) zero bytes is =
    let same : image d first ≡ bytes = cc in
    (subst (λ k. image d k ≡ bytes) (omega arith) same, omega arith)
sector_at image d first (suc count) (suc part) bytes is =
    let rest = sector_at image d (first + 1) count part bytes is in
    (subst (λ k. image d k ≡ bytes) (omega arith) rest.0, omega (arith, rest.1))

joined-sectors_list : (image : Image) (d first count : ℕ)
    → joined (sectors_list image d first count) ≡ sectors_from image d first count
unfolding sectors_list
joined-sectors_list image d first zero = refl
joined-sectors_list image d first (suc count) =
    ap (λ (l : List ℕ). image d first ++ l) (joined-sectors_list image d (first + 1) count)

data_above : (x : ℕ) → IsDataSector x → 32 ≤ x
data_above x (inl scratch) = scratch.0
data_above x (inr rows) = omega (arith, rows)

some_same : (one other : List ℕ) → ◌≡◌ {A = Option (List ℕ)} (Some one) (Some other) → one ≡ other
some_same one other same = cc

moved_cell : (kept other : Kept) → kept ≡ other → (cell : Cell) {parity : ℕ} {births : List Birth}
    → IsCellOf parity births kept.entries kept.others kept.map cell
    → IsCellOf parity births other.entries other.others other.map cell
moved_cell kept other same cell {parity = parity} {births = births} of =
    subst (λ (k : Kept). IsCellOf parity births k.entries k.others k.map cell) same of

-- What a group asks for, told by the fields of one of its uberblocks.
asks_of : (kept : Kept) (uber : Uber) (e x : ℕ) (bytes : List ℕ) → AreAlike uber kept.uber
    → Asks kept e x bytes
    → (cell : Cell) × IsCellOf uber.parity uber.births kept.entries kept.others kept.map cell
    × IsRequiredPlace uber.reflow (front_after_stop uber.reflow) cell.row_end cell.sector e x
    × (cell.bytes ≡ bytes)
asks_of kept uber e x bytes alike asks =
    let parity : kept.uber.parity ≡ uber.parity = sym (ap (λ (u : Uber). u.parity) alike) in
    let births : kept.uber.births ≡ uber.births = sym (ap (λ (u : Uber). u.births) alike) in
    let reflow : kept.uber.reflow ≡ uber.reflow = sym (ap (λ (u : Uber). u.reflow) alike) in (
      asks.cell,
      subst (λ (n : ℕ). IsCellOf n uber.births kept.entries kept.others kept.map asks.cell) parity
          (subst (λ (bs : List Birth). IsCellOf kept.uber.parity bs kept.entries kept.others kept.map asks.cell)
          births asks.cell_is),
      subst (λ (r : Reflow). IsRequiredPlace r (front_after_stop r) asks.cell.row_end
          asks.cell.sector e x) reflow asks.place,
      asks.bytes_are,
    )

module _ (setting : Setting) (first : Kept) (later : List Kept) (disk : Disk)
    (lawful : Lawful disk) (here : MightStand setting.shape disk disk.clock (present disk))
    (keeps : BankKeeps setting first later disk) where
  kept_here : Keeps setting first later (present disk)
  kept_here = keeps (present disk) here

  -- The slots of the first group are certain: otherwise an image would not show it.
  slot_from : (d : ℕ) → d < first.uber.reflow.to → has_device setting.failed d ≡ false
      → SlotOn (certain disk) first d
  slot_from d below works = by (certain disk d (slot_of first.uber.group)) refl
    where
      by : (o : Option (List ℕ)) → certain disk d (slot_of first.uber.group) ≡ o
          → SlotOn (certain disk) first d
      by (Some b) is =
          let shown = kept_here.there.each d below works in
          let shows = shown.2.shows in
          record {
            uber = shown.0;
            right = shows.valid.right;
            alike = shown_alike setting first later (present disk) d shown.0 first kept_here
                (contains_head first later) (omega arith) shows shown.2.pool_is shown.1;
            shown = is ∙ ap (λ (k : List ℕ). Some k)
                (sym (here.fits.at d (slot_of first.uber.group) b is)
                ∙ subst (λ n. present disk d (slot_of n) ≡ encoded shown.0 d) shown.1 shows.valid.bytes_are);
          }
      by None is =
          let slot = slot_of first.uber.group in
          let might = might_slot setting.shape disk (present disk) d slot [] here
          (λ b known. absurd (no_both (certain disk d slot) b is known))
          (λ uber same_x none. absurd (encoded_some uber d (sym none))) in
          let shown = (keeps (patched (present disk) d slot []) might).there.each d below works in
          absurd (encoded_some shown.0 d (sym shown.2.shows.valid.bytes_are
          ∙ subst (λ n. patched (present disk) d slot [] d (slot_of n) ≡ []) (sym shown.1)
          (patched_here (present disk) d slot [])))

  -- So are its pages.
  page_sector_known : (d part : ℕ) → d < first.uber.reflow.to
      → has_device setting.failed d ≡ false → part < page_sectors first.uber.count
      → certain disk d (area_sector first.uber.area + part)
      ≡ Some (present disk d (area_sector first.uber.area + part))
  unfolding page_on
  page_sector_known d part below works low =
      by (certain disk d (area_sector first.uber.area + part)) refl
    where
      by : (o : Option (List ℕ)) → certain disk d (area_sector first.uber.area + part) ≡ o
          → certain disk d (area_sector first.uber.area + part)
          ≡ Some (present disk d (area_sector first.uber.area + part))
      by (Some b) is = is ∙ ap (λ (k : List ℕ). Some k)
          (sym (here.fits.at d (area_sector first.uber.area + part) b is))
      by None is =
          let x = area_sector first.uber.area + part in
          let value = 0 ∷ present disk d x in
          let might = might_data setting.shape disk (present disk) d x value (omega arith) here
          (λ b known. absurd (no_both (certain disk d x) b is known)) in
          let now = (kept_here.there.pages d below works).page.page in
          let then = ((keeps (patched (present disk) d x value) might).there.pages d below works).page.page in
          let same : length (sectors_from (patched (present disk) d x value) d (area_sector first.uber.area) (page_sectors first.uber.count))
          ≡ length (sectors_from (present disk) d (area_sector first.uber.area) (page_sectors first.uber.count)) =
          ap length (then ∙ sym now) in
          let longer = longer_by_one (present disk) d (area_sector first.uber.area)
          (page_sectors first.uber.count) x (omega arith) (omega (arith, low)) in
          absurd (omega (arith, same, longer))

  page_from : (d : ℕ) → d < first.uber.reflow.to → has_device setting.failed d ≡ false
      → PageOn (certain disk) first d
  unfolding page_on
  page_from d below works =
      let start = area_sector first.uber.area in
      let count = page_sectors first.uber.count in
      record {
        parts = sectors_list (present disk) d start count;
        counted = length-sectors_list (present disk) d start count;
        each = λ part bytes is.
            let at = sector_at (present disk) d start count part bytes is in
            page_sector_known d part below works at.1 ∙ ap (λ (k : List ℕ). Some k) at.0;
        page = joined-sectors_list (present disk) d start count
            ∙ (kept_here.there.pages d below works).page.page;
      }

  -- An image in which a slot shows what it could.
  showing : ℕ → Uber → Image
  showing d uber = patched (present disk) d (slot_of uber.group) (encoded uber d)

  showing_might : (d : ℕ) (uber : Uber) → IsAble setting.shape disk d uber
      → MightStand setting.shape disk disk.clock (showing d uber)
  unfolding showing
  showing_might d uber is = might_slot setting.shape disk (present disk) d (slot_of uber.group)
      (encoded uber d) here
      (λ b known. lawful.stays_could d (slot_of uber.group) b (encoded uber d) known is.could)
      (λ other same_x bytes.
      subst (λ (k : List ℕ). Contains (able disk d (slot_of uber.group)) k) bytes is.could)

  showing_shows : (d : ℕ) (uber : Uber) → IsAble setting.shape disk d uber
      → Shows setting.shape (showing d uber) d uber
  unfolding showing
  showing_shows d uber is = record {
    device_in = is.device_in;
    slot_in = is.slot_in;
    valid = record {
      right = is.right;
      slot_is = refl;
      bytes_are = patched_here (present disk) d (slot_of uber.group) (encoded uber d);
    };
  }

  -- What an uberblock asks for that a slot may come to show is certain: otherwise an image that shows
  -- it would not be whole.
  certain_from : (d : ℕ) (uber : Uber) → IsAble setting.shape disk d uber
      → uber.pool ≡ setting.pool → first.uber.group ≤ uber.group
      → IsCertain setting disk (first ∷ later) uber
  unfolding asks_of
  certain_from d uber is pool_is above =
      let might = showing_might d uber is in
      let shows = showing_shows d uber is in
      let held = (keeps (showing d uber) might).only d uber above shows pool_is in
      record {
        kept = held.kept;
        listed = held.listed;
        alike = held.alike;
        listing = held.listing;
        indexes = held.whole.index;
        cells = λ e inside in_use. record {
          at = λ x bytes asks not_odd. by held might shows e x bytes inside in_use asks not_odd
              (certain disk e x) refl;
        };
        out = held.out;
      }
    where
      -- in an image that shows it, a block's sector is right
      right_in : (image : Image) (held : IsKept setting image (first ∷ later) uber) (kept : Kept)
          → kept ≡ held.kept → AreAlike uber kept.uber → (e x : ℕ) (bytes : List ℕ)
          → e < setting.shape.devices → has_device uber.out e ≡ false → (asks : Asks kept e x bytes)
          → (Contains kept.excepted (asks.cell.sector, (e, x)) → ⊥)
          → image e x ≡ bytes
      right_in image held kept same alike e x bytes inside in_use asks not_odd =
          let own = asks_of kept uber e x bytes alike asks in
          let moved = moved_cell kept held.kept same own.0 own.1 in
          let right = (held.whole.right own.0 e moved inside in_use).at x own.2
          (subst (λ (k : Kept). Contains k.excepted (asks.cell.sector, (e, x)) → ⊥) same not_odd) in
          some_same (image e x) own.0.bytes right ∙ own.3

      by : (held : IsKept setting (showing d uber) (first ∷ later) uber)
          → MightStand setting.shape disk disk.clock (showing d uber)
          → Shows setting.shape (showing d uber) d uber
          → (e x : ℕ) (bytes : List ℕ) → e < setting.shape.devices
          → has_device uber.out e ≡ false → (asks : Asks held.kept e x bytes)
          → (Contains held.kept.excepted (asks.cell.sector, (e, x)) → ⊥) → (o : Option (List ℕ)) → certain disk e x ≡ o
          → certain disk e x ≡ Some bytes
      by held might shows e x bytes inside in_use asks not_odd (Some b) known =
          known ∙ ap (λ (k : List ℕ). Some k) (sym (might.fits.at e x b known)
          ∙ right_in (showing d uber) held held.kept refl held.alike e x bytes inside in_use asks not_odd)
      by held might shows e x bytes inside in_use asks not_odd None none =
          let high : 32 ≤ x = data_above x (asks_sector held.kept e x bytes asks) in
          let other = patched (showing d uber) e x (0 ∷ bytes) in
          let might_other = might_data setting.shape disk (showing d uber) e x (0 ∷ bytes) high might
          (λ b known. absurd (no_both (certain disk e x) b none known)) in
          let shows_other = shows_same setting.shape (showing d uber) other d uber
          (λ slot low. sym (patched-other (showing d uber) e x (0 ∷ bytes) d slot
          (inr (λ same. omega (arith, same, low, high))))) shows in
          let keeps_other = keeps other might_other in
          let held_other = keeps_other.only d uber above shows_other pool_is in
          let same : held.kept ≡ held_other.kept = same_group (first ∷ later) held.kept
          held_other.kept kept_here.ascending held.listed held_other.listed
          (sym (ap (λ (u : Uber). u.group) held.alike) ∙ ap (λ (u : Uber). u.group) held_other.alike) in
          let wrong : 0 ∷ bytes ≡ bytes = sym (patched_here (showing d uber) e x (0 ∷ bytes))
          ∙ right_in other held_other held.kept same held.alike e x bytes inside in_use asks not_odd in
          let long : length (0 ∷ bytes) ≡ length bytes = ap length wrong in
          absurd (omega (arith, long))

  own_from : (d : ℕ) (uber : Uber) → IsAble setting.shape disk d uber
      → d < setting.reach → has_device setting.failed d ≡ false
      → uber.pool ≡ setting.pool
  own_from d uber is below works =
      (keeps (showing d uber) (showing_might d uber is)).own d uber below works (showing_shows d uber is)

  -- Some device of the pool has not failed.
  some_works : (device : ℕ) × (device < setting.base) × (has_device setting.failed device ≡ false)
  some_works =
      let shown = kept_here.there.shown in
      let right = shown.2.shows.valid.right in
      let alike = shown_alike setting first later (present disk) kept_here.there.device shown.0 first
      kept_here (contains_head first later) (omega arith) shown.2.shows shown.2.pool_is shown.1 in
      let parity : shown.0.parity ≡ first.uber.parity = ap (λ (u : Uber). u.parity) alike in
      let to : shown.0.reflow.to ≡ first.uber.reflow.to = ap (λ (u : Uber). u.reflow.to) alike in
      let widths = right_widths shown.0 right in
      let low = (first_width setting first later kept_here.widths).least in
      let n = setting.base in
      let rest : n + (16 - n) ≡ 16 = omega (arith, right.widths, to, low) in
      let all : count_below setting.failed (n + (16 - n)) ≡ count_below setting.failed 16 =
      ap (count_below setting.failed) rest in
      lacks_one setting.failed n
      (omega (
        arith,
        all,
        kept_here.few,
        kept_here.wide,
        right.widths,
        widths,
        parity,
        to,
        count_grows setting.failed n (16 - n),
      ))

  sound_from : IsSound setting first
  sound_from =
      let shown = kept_here.there.shown in
      let candidate = shown.2 in
      let alike = shown_alike setting first later (present disk) kept_here.there.device shown.0 first
      kept_here (contains_head first later) (omega arith) candidate.shows candidate.pool_is shown.1 in
      let held = kept_here.only kept_here.there.device shown.0 (omega (arith, shown.1)) candidate.shows
      candidate.pool_is in
      let same : held.kept ≡ first = same_group (first ∷ later) held.kept first kept_here.ascending
      held.listed (contains_head first later)
      (sym (ap (λ (u : Uber). u.group) held.alike) ∙ shown.1) in
      let page = candidate.gives.page in
      let none : first.others ≡ [] = subst (λ (k : Kept). k.others ≡ []) same held.listing.none_else in
      record {
        uber = shown.0;
        alike = alike;
        right = candidate.shows.valid.right;
        pool_is = sym (ap (λ (u : Uber). u.pool) alike) ∙ candidate.pool_is;
        room = (let rows = ap (λ (u : Uber). u.reflow.rows) alike in omega (arith, candidate.room, rows));
        index = page.index;
        counted = page.counted ∙ ap (λ (u : Uber). u.count) alike;
        digest = ap sha256 (sym page.page) ∙ candidate.gives.digest ∙ ap (λ (u : Uber). u.digest) alike;
        none_else = none;
        fitting = alone_fits first none
            (fitting_alike first.uber shown.0 first.entries (sym alike) candidate.fitting);
        indexes = subst (λ (k : Kept). IsIndexOf k.entries k.map) same held.whole.index;
      }

  -- What each image keeps says what is certain on the devices.
  pub keeps_know : Knows setting first later disk
  keeps_know = record {
    row = record {
      few = kept_here.few;
      wide = kept_here.wide;
      ascending = kept_here.ascending;
      further = kept_here.further;
      widths = kept_here.widths;
      inside = kept_here.inside;
      device = some_works.0;
      below = some_works.1;
      works = some_works.2;
    };
    sound = sound_from;
    slots = slot_from;
    pages = page_from;
    only = certain_from;
    own = own_from;
    votes = λ image might. shown_votes setting disk lawful here image might
        (keeps (completed setting disk lawful here image might)
        (completed_might setting disk lawful here image might)).votes;
  }
