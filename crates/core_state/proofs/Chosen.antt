-- What an opening chooses from what is read, where devices that may fail may be silent and no page in it
-- is another's by chance.
use Rattle.std.proofs.Common.{◌≡◌, ◌⊎◌, inl, inr, ⊎_elim, ℕ, ◌<◌, ◌≤◌, List, ◌∷◌, true, false, refl, sym, ◌∙◌, ap}
use Rattle.std.proofs.Common.{subst, arith}
use Rattle.sha2.specs.Sha256.{sha256}
use Rattle.bank_trait.specs.Disk.{Image, Disk}
use Rattle.block_record.specs.declared.entry.IndexEntry.{IndexEntry}
use Rattle.block_record.specs.Page.{index_page}
use Rattle.block_record.proofs.Pages.{page_same}
use Rattle.uberblock_ring.specs.Devices.{has_device}
use Rattle.uberblock_ring.specs.Uberblock.{Uber}
use Rattle.uberblock_ring.specs.Valid.{AreAlike}
use Rattle.core_state.specs.Index.{IsFitting}
use Rattle.core_state.specs.Shown.{Shape, Gives, IsCandidate, page_on}
use Rattle.core_state.specs.Choosing.{IsChosen}
use Rattle.core_state.specs.Keeps.{Kept, Setting, Keeps, IsKept, IsNextOf, SameGroup}
use Rattle.core_state.specs.Collision.{HasNoOtherPage, MightStand}
use Rattle.core_state.specs.Certain.{IsSound, IsAble, IsCertain, Knows}
use Rattle.core_state.proofs.Fresh.{none_in}
use Rattle.core_state.proofs.Keeping.{knows_keep, alone_fits, fitting_alike}
use Rattle.core_state.proofs.Knowing.{present}
use Rattle.core_state.proofs.Reader.{candidate_kept, same_group, shown_alike}
use Rattle.core_state.proofs.Listed.{contains_head, contains_cases}
use Rattle.core_state.proofs.PoolChosen.{pool_chosen, reads_left}
use Rattle.core_state.proofs.Widths.{below_first}

-- The page of one uberblock is that of another with the same area, count and digest.
pub gives_same : (shape : Shape) (image : Image) (one other : Uber) (entries : List IndexEntry) (device : ℕ)
    → one.area ≡ other.area → one.count ≡ other.count → one.digest ≡ other.digest
    → Gives shape image one entries device
    → Gives shape image other entries device
unfolding page_on
gives_same shape image one other entries device area count digest gives = record {
  device_in = gives.device_in;
  digest = ap sha256 (sym page) ∙ gives.digest ∙ digest;
  page = record {
    index = gives.page.index;
    counted = gives.page.counted ∙ count;
    page = sym page ∙ gives.page.page;
  };
}
  where
    page : page_on image one device ≡ page_on image other device
    page = ap (λ (a : ℕ). page_on image (record one { area = a }) device) area
        ∙ ap (λ (c : ℕ). page_on image (record one { area = other.area; count = c }) device) count

module _ (setting : Setting) (first : Kept) (later : List Kept) (image : Image)
    (keeps : Keeps setting first later image) (silent : ℕ)
    (within : (device : ℕ) → device < first.uber.reflow.to → has_device silent device ≡ true
    → has_device setting.failed device ≡ true)
    (shower : ℕ) (uber : Uber) (entries : List IndexEntry)
    (chosen : IsChosen setting.shape silent image shower uber entries) where
  pub chosen_pool : uber.pool ≡ setting.pool
  chosen_pool = pool_chosen setting first later image keeps silent within uber.pool chosen.pool

  -- A device of the first group that hasn't failed shows a candidate of it.
  pub first_candidate : (device : ℕ) → device < first.uber.reflow.to → has_device setting.failed device ≡ false
      → (shown : Uber) × (shown.group ≡ first.uber.group)
      × IsCandidate setting.shape silent uber.pool image device shown first.entries
  first_candidate device below works =
      let there = keeps.there.each device below works in
      let alike = shown_alike setting first later image device there.0 first keeps (contains_head first later)
      (omega arith) there.2.shows there.2.pool_is there.1 in (
        there.0,
        there.1,
        record {
          shows = there.2.shows;
          pool_is = there.2.pool_is ∙ sym chosen_pool;
          room = there.2.room;
          giver = device;
          giver_reads = reads_left setting first later image keeps silent within device below works;
          gives = gives_same setting.shape image first.uber there.0 first.entries device
              (sym (ap (λ (u : Uber). u.area) alike)) (sym (ap (λ (u : Uber). u.count) alike))
              (sym (ap (λ (u : Uber). u.digest) alike)) (keeps.there.pages device below works);
          fitting = there.2.fitting;
        },
      )

  -- So the chosen group is not below the first one, with such a device.
  pub above_first : (device : ℕ) → device < first.uber.reflow.to → has_device setting.failed device ≡ false
      → first.uber.group ≤ uber.group
  above_first device below works =
      let candidate = first_candidate device below works in
      let group = candidate.1 in
      ⊎_elim (λ less. omega (arith, less, group)) (λ same. let number = same.0 in omega (arith, number, group))
      (chosen.first device candidate.0 first.entries
      (reads_left setting first later image keeps silent within device below works) candidate.2)

module _ (setting : Setting) (first : Kept) (later : List Kept) (disk : Disk)
    (knows : Knows setting first later disk) (stands : MightStand setting.shape disk disk.clock (present disk)) (silent : ℕ)
    (within : (device : ℕ) → device < first.uber.reflow.to → has_device silent device ≡ true
    → has_device setting.failed device ≡ true)
    (pages : HasNoOtherPage setting (first ∷ later) (present disk)) (device : ℕ) (uber : Uber)
    (entries : List IndexEntry)
    (chosen : IsChosen setting.shape silent (present disk) device uber entries) where
  abbrev image : Image
  image = present disk

  keeps : Keeps setting first later image
  keeps = knows_keep setting first later disk knows image stands

  pool_is : uber.pool ≡ setting.pool
  pool_is = chosen_pool setting first later image keeps silent within device uber entries chosen

  -- A candidate among devices that are read is one among all.
  pub candidate_all : (on : ℕ) (shown : Uber) (listed : List IndexEntry)
      → IsCandidate setting.shape silent uber.pool image on shown listed
      → IsCandidate setting.shape 0 setting.pool image on shown listed
  candidate_all on shown listed candidate = record {
    shows = candidate.shows;
    pool_is = candidate.pool_is ∙ pool_is;
    room = candidate.room;
    giver = candidate.giver;
    giver_reads = none_in candidate.giver;
    gives = candidate.gives;
    fitting = candidate.fitting;
  }

  works_below : knows.row.device < first.uber.reflow.to
  works_below = below_first setting first later knows.row.device knows.row.widths knows.row.below

  above : first.uber.group ≤ uber.group
  above = above_first setting first later image keeps silent within device uber entries chosen knows.row.device
      works_below knows.row.works

  -- A candidate from the first group on is of one of the groups, with its index.
  pub candidate_is : (on : ℕ) (shown : Uber) (listed : List IndexEntry) → first.uber.group ≤ shown.group
      → IsCandidate setting.shape silent uber.pool image on shown listed
      → (held : IsKept setting image (first ∷ later) shown) × (listed ≡ held.kept.entries)
  candidate_is on shown listed above candidate =
      let found = candidate_kept setting first later image on shown listed keeps pages above
      (candidate_all on shown listed candidate) in (
        found.0,
        page_same (index_page listed) shown.count listed found.0.kept.entries
            (record {
              index = candidate.gives.page.index;
              counted = candidate.gives.page.counted;
              page = refl;
            })
            (record {
              index = found.0.listing.index;
              counted = found.0.listing.counted;
              page = found.1;
            }),
      )

  pub chosen_held : (held : IsKept setting image (first ∷ later) uber) × (entries ≡ held.kept.entries)
  chosen_held = candidate_is device uber entries above chosen.candidate

  abbrev kept : Kept
  kept = chosen_held.0.kept

  alike : AreAlike uber kept.uber
  alike = chosen_held.0.alike

  pub chosen_group : uber.group ≡ kept.uber.group
  chosen_group = ap (λ (u : Uber). u.group) alike

  pub chosen_same : SameGroup kept (record {
    uber = uber;
    entries = entries;
    others = kept.others;
    map = kept.map;
    excepted = kept.excepted;
  })
  chosen_same = record {
    entries = sym chosen_held.1;
    others = refl;
    map = λ id. refl;
    alike = sym alike;
    excepted = refl;
  }

  pub chosen_able : IsAble setting.shape disk device uber
  chosen_able = record {
    device_in = chosen.candidate.shows.device_in;
    slot_in = chosen.candidate.shows.slot_in;
    right = chosen.candidate.shows.valid.right;
    could = stands.written.ring device uber chosen.candidate.shows;
  }

  pub chosen_certain : IsCertain setting disk (first ∷ later) uber
  chosen_certain = knows.only device uber chosen_able pool_is above

  pub chosen_sound : IsSound setting kept
  chosen_sound = record {
    uber = uber;
    alike = alike;
    right = chosen.candidate.shows.valid.right;
    pool_is = sym (ap (λ (u : Uber). u.pool) alike) ∙ pool_is;
    room = (let rows = ap (λ (u : Uber). u.reflow.rows) alike in let room = chosen.candidate.room in
        omega (arith, room, rows));
    index = chosen_held.0.listing.index;
    counted = chosen_held.0.listing.counted ∙ ap (λ (u : Uber). u.count) alike;
    digest = ap (λ (es : List IndexEntry). sha256 (index_page es)) (sym chosen_held.1)
        ∙ ap sha256 (sym chosen.candidate.gives.page.page) ∙ chosen.candidate.gives.digest
        ∙ ap (λ (u : Uber). u.digest) alike;
    none_else = chosen_held.0.listing.none_else;
    fitting = alone_fits kept chosen_held.0.listing.none_else
        (subst (λ (es : List IndexEntry). IsFitting kept.uber es) chosen_held.1
        (fitting_alike kept.uber uber entries (sym alike) chosen.candidate.fitting));
    indexes = chosen_held.0.whole.index;
  }

  -- Another candidate of the group differs in its out set alone.
  pub twin_alike : (on : ℕ) (twin : Uber) (listed : List IndexEntry) → twin.group ≡ uber.group
      → IsCandidate setting.shape silent uber.pool image on twin listed
      → AreAlike twin uber
  twin_alike on twin listed group candidate =
      let low : first.uber.group ≤ twin.group = omega (arith, above, group) in
      let found = candidate_is on twin listed low candidate in
      let number : twin.group ≡ found.0.kept.uber.group = ap (λ (u : Uber). u.group) found.0.alike in
      let same : found.0.kept ≡ kept = same_group (first ∷ later) found.0.kept kept keeps.ascending
      found.0.listed chosen_held.0.listed (sym number ∙ group ∙ chosen_group) in
      found.0.alike ∙ ap (λ (k : Kept). record k.uber { out = 0 }) same ∙ sym alike

  -- It is the first group, or next to it.
  pub chosen_next : (kept ≡ first) ⊎ IsNextOf first kept
  chosen_next = ⊎_elim (λ same. inl same)
      (λ listed. inr (subst (λ (k : Kept). IsNextOf first k) listed.2
      (knows.row.further listed.0 kept listed.1)))
      (contains_cases first later kept chosen_held.0.listed)

  -- A device that may not fail gives the page, where the first group's stands in the same area.
  pub chosen_page : (on : ℕ) → on < first.uber.reflow.to → has_device setting.failed on ≡ false
      → first.uber.area ≡ uber.area
      → Gives setting.shape image uber entries on
  chosen_page on below works area = ⊎_elim
      (λ same. moved (ap (λ (k : Kept). k.uber.count) (sym same)) (ap (λ (k : Kept). k.uber.digest) (sym same))
      (ap (λ (k : Kept). k.entries) (sym same)))
      (λ next. ⊎_elim
      (λ one. absurd (one.1 (sym (ap (λ (u : Uber). u.area) alike) ∙ sym area)))
      (λ renews. moved (sym (ap (λ (u : Uber). u.count) renews.alike)) (sym (ap (λ (u : Uber). u.digest) renews.alike))
      (sym renews.entries))
      next)
      chosen_next
    where
      moved : first.uber.count ≡ kept.uber.count → first.uber.digest ≡ kept.uber.digest
          → first.entries ≡ kept.entries
          → Gives setting.shape image uber entries on
      moved count digest listed = subst (λ (es : List IndexEntry). Gives setting.shape image uber es on)
          (listed ∙ sym chosen_held.1)
          (gives_same setting.shape image first.uber uber first.entries on area
          (count ∙ sym (ap (λ (u : Uber). u.count) alike)) (digest ∙ sym (ap (λ (u : Uber). u.digest) alike))
          (keeps.there.pages on below works))
