-- The chosen group may be spread to the devices that lack it.
use Rattle.std.proofs.Common.{◌≡◌, ◌≢◌, ◌⊎◌, inl, inr, ⊎_elim, ℕ, ◌+◌, ◌*◌, ◌<◌, ◌≤◌, List, [], ◌∷◌, Bool, true, false}
use Rattle.std.proofs.Common.{Some, refl, sym, ◌∙◌, ap, subst, arith}
use Rattle.std.specs.Prelude.{IsSome, take, drop, unwrap_or}
use Rattle.std.proofs.lemmas.Bool.{cases_eq}
use Rattle.bank_trait.specs.Disk.{Disk, Lawful, Unchanged}
use Rattle.bank_trait.specs.Regions.{Tells}
use Rattle.block_record.specs.declared.entry.IndexEntry.{IndexEntry}
use Rattle.block_record.specs.Page.{page_sectors, index_page}
use Rattle.uberblock_ring.specs.Devices.{has_device}
use Rattle.uberblock_ring.specs.Uberblock.{Uber, slot_of, area_sector}
use Rattle.uberblock_ring.specs.Valid.{AreAlike}
use Rattle.core_state.specs.Shown.{Shape, Gives, IsCandidate}
use Rattle.core_state.specs.Choosing.{IsChosen}
use Rattle.core_state.specs.Keeps.{Keeps, Kept, Setting, Renews}
use Rattle.core_state.specs.Collision.{HasNoOtherPage, MightStand}
use Rattle.core_state.specs.Certain.{SlotOn, Knows}
use Rattle.core_state.specs.Committing.{Point}
use Rattle.core_state.proofs.Frames.{Nowhere, none_lost, unchanged_frames}
use Rattle.core_state.proofs.Keeping.{knows_keep}
use Rattle.core_state.proofs.Knowing.{present, knows_frame, certain_frame}
use Rattle.core_state.proofs.Places.{page_place, slot_low}
use Rattle.core_state.proofs.Chosen.{chosen_pool, first_candidate, chosen_held, chosen_group, chosen_same}
use Rattle.core_state.proofs.Chosen.{chosen_certain, twin_alike, chosen_next, chosen_page}
use Rattle.core_commit.specs.Spread.{Spread, IsInUse, MaySpread}
use Rattle.core_open.proofs.Present.{told_bytes}

-- What was read of the devices in use: which of them lack page or uberblock of the chosen group.
pub record AreRead (shape : Shape) (silent : ℕ) (disk : Disk) (uber : Uber) (entries : List IndexEntry)
    (lack_page lack_uber : ℕ) (point : Point) : Type 0 where
  pub inside : (on : ℕ) → IsInUse uber point on → on < disk.devices
  pub room : 192 ≤ disk.sectors
  pub lacks : (on : ℕ) → IsInUse uber point on → has_device lack_page on ≡ true
      → Gives shape (present disk) uber entries on
      → ⊥
  pub gives : (on part : ℕ) (bytes : List ℕ) → IsInUse uber point on → has_device lack_page on ≡ false
      → part < page_sectors uber.count
      → disk.reads on (area_sector uber.area + part) ≡ Some bytes
      → bytes ≡ take 512 (drop (512 * part) (index_page entries))
  pub none : (on : ℕ) (twin : Uber) (listed : List IndexEntry) → IsInUse uber point on
      → has_device lack_uber on ≡ true
      → IsCandidate shape silent uber.pool (present disk) on twin listed
      → twin.group ≢ uber.group
  pub shows : (on : ℕ) → IsInUse uber point on → has_device lack_uber on ≡ false
      → (twin : Uber) × (listed : List IndexEntry)
      × IsCandidate shape silent uber.pool (present disk) on twin listed
      × (twin.group ≡ uber.group)

module _ (setting : Setting) (first : Kept) (later : List Kept) (disk : Disk)
    (knows : Knows setting first later disk) (lawful : Lawful disk)
    (stands : MightStand setting.shape disk disk.clock (present disk)) (silent : ℕ)
    (within : (device : ℕ) → device < first.uber.reflow.to → has_device silent device ≡ true
    → has_device setting.failed device ≡ true)
    (no_other : HasNoOtherPage setting (first ∷ later) (present disk)) (device : ℕ) (uber : Uber)
    (entries : List IndexEntry)
    (chosen : IsChosen setting.shape silent (present disk) device uber entries)
    (tells : Tells disk) (point : Point) (same : Unchanged disk point.disk)
    (lack_page lack_uber : ℕ)
    (read : AreRead setting.shape silent disk uber entries lack_page lack_uber point) where
  keeps : Keeps setting first later (present disk)
  keeps = knows_keep setting first later disk knows (present disk) stands

  abbrev kept : Kept
  kept = (chosen_held setting first later disk knows stands silent within no_other device uber entries chosen).0.kept

  alike : AreAlike uber kept.uber
  alike = (chosen_held setting first later disk knows stands silent within no_other device uber entries chosen).0.alike

  abbrev pub spread : Spread
  spread = record { setting = setting; first = first; later = later; kept = kept; map = kept.map }

  -- Where the chosen group is the first, or renews it, its devices are the first one's.
  below_first : (kept ≡ first) ⊎ Renews first kept → (on : ℕ) → IsInUse uber point on → on < first.uber.reflow.to
  below_first near on in_use = let below = in_use.0 in
      let to : uber.reflow.to ≡ kept.uber.reflow.to = ap (λ (u : Uber). u.reflow.to) alike in
      let same_to : kept.uber.reflow.to ≡ first.uber.reflow.to =
      ⊎_elim (λ is. ap (λ (k : Kept). k.uber.reflow.to) is) (λ renews. ap (λ (u : Uber). u.reflow.to) renews.alike) near in
      omega (arith, below, to, same_to)

  told : (on device_sector : ℕ) → IsInUse uber point on → device_sector < 192
      → IsSome (disk.reads on device_sector)
  told on device_sector in_use low =
      tells on device_sector (read.inside on in_use) (let room = read.room in omega (arith, low, room))

  slot_on : (on : ℕ) → IsInUse uber point on → has_device lack_uber on ≡ false
      → SlotOn disk.reads (record kept { uber = uber; entries = entries }) on
  slot_on on in_use has =
      let shown = read.shows on in_use has in
      let bytes = told_bytes (disk.reads on (slot_of uber.group))
      (told on (slot_of uber.group) in_use (let low = slot_low uber.group in omega (arith, low))) in
      record {
        uber = shown.0;
        right = shown.2.shows.valid.right;
        alike = twin_alike setting first later disk knows stands silent within no_other device uber entries chosen on
            shown.0 shown.1 shown.3 shown.2;
        shown = bytes.1 ∙ ap (λ (b : List ℕ). Some b)
            (sym (ap (λ o. unwrap_or o []) bytes.1)
            ∙ (ap (λ (g : ℕ). present disk on (slot_of g)) (sym shown.3) ∙ shown.2.shows.valid.bytes_are));
      }

  spared_page : (on : ℕ) → IsInUse uber point on → has_device lack_page on ≡ true
      → (first.uber.area ≢ uber.area) ⊎ (has_device setting.failed on ≡ true)
  spared_page on in_use lacks = by (has_device setting.failed on) refl
    where
      near : (kept ≡ first) ⊎ Renews first kept → has_device setting.failed on ≡ false
          → (first.uber.area ≢ uber.area) ⊎ (has_device setting.failed on ≡ true)
      near is works = ⊎_elim
          (λ same. absurd (read.lacks on in_use lacks
          (chosen_page setting first later disk knows stands silent within no_other device uber entries chosen on
          (below_first is on in_use) works same)))
          (λ apart. inl apart) (cases_eq first.uber.area uber.area)

      by : (b : Bool) → has_device setting.failed on ≡ b
          → (first.uber.area ≢ uber.area) ⊎ (has_device setting.failed on ≡ true)
      by true fails = inr fails
      by false works = ⊎_elim (λ is. near (inl is) works)
          (λ next. ⊎_elim
          (λ one. inl (λ area. one.1 (sym (ap (λ (u : Uber). u.area) alike) ∙ sym area)))
          (λ renews. near (inr renews) works) next)
          (chosen_next setting first later disk knows stands silent within no_other device uber entries chosen)

  spared_slot : (on : ℕ) → IsInUse uber point on → has_device lack_uber on ≡ true
      → (slot_of uber.group ≢ slot_of first.uber.group) ⊎ (has_device setting.failed on ≡ true)
  spared_slot on in_use lacks = by (has_device setting.failed on) refl
    where
      group : uber.group ≡ kept.uber.group
      group = chosen_group setting first later disk knows stands silent within no_other device uber entries chosen

      by : (b : Bool) → has_device setting.failed on ≡ b
          → (slot_of uber.group ≢ slot_of first.uber.group) ⊎ (has_device setting.failed on ≡ true)
      by true fails = inr fails
      by false works = ⊎_elim
          (λ same.
          let candidate = first_candidate setting first later (present disk) keeps silent within device uber
          entries chosen on (below_first (inl same) on in_use) works in
          absurd (read.none on candidate.0 first.entries in_use lacks candidate.2
          (candidate.1 ∙ sym (ap (λ (k : Kept). k.uber.group) same) ∙ sym group)))
          (λ next. inl (λ slot. ⊎_elim
          (λ one. let number = one.0 in omega (arith, slot, number, group))
          (λ renews. let number : kept.uber.group ≡ first.uber.group + 2 = ap (λ (u : Uber). u.group) renews.alike in
          omega (arith, slot, number, group))
          next))
          (chosen_next setting first later disk knows stands silent within no_other device uber entries chosen)

  pub may_spread : MaySpread spread uber entries lack_page lack_uber point
  may_spread = record {
    knows = knows_frame Nowhere none_lost setting first later disk point.disk lawful (unchanged_frames same)
        (λ d x nowhere. absurd nowhere) knows;
    listed = (chosen_held setting first later disk knows stands silent within no_other device uber entries chosen).0.listed;
    same = chosen_same setting first later disk knows stands silent within no_other device uber entries chosen;
    pool_is = chosen_pool setting first later (present disk) keeps silent within device uber entries chosen;
    known = certain_frame Nowhere none_lost setting disk point.disk (first ∷ later) uber (unchanged_frames same)
        (λ k d x bytes listed asks nowhere. absurd nowhere)
        (chosen_certain setting first later disk knows stands silent within no_other device uber entries chosen);
    told = λ on x below in_use low.
        subst (λ o. IsSome o) (sym (same.reads on x)) (told on x (below, in_use) low);
    pages = λ on part in_use has low.
        let right = chosen.candidate.shows.valid.right in
        let bytes = told_bytes (disk.reads on (area_sector uber.area + part))
        (told on (area_sector uber.area + part) in_use (page_place uber part right.area right.count low).2) in
        same.reads on (area_sector uber.area + part) ∙ bytes.1
        ∙ ap (λ (b : List ℕ). Some b) (read.gives on part bytes.0 in_use has low bytes.1);
    slots = λ on in_use has.
        let slot = slot_on on in_use has in
        record {
          uber = slot.uber;
          right = slot.right;
          alike = slot.alike;
          shown = same.reads on (slot_of uber.group) ∙ slot.shown;
        };
    page_spared = spared_page;
    slot_spared = spared_slot;
  }
