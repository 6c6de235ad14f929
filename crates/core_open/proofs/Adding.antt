-- A run may begin on a bank that has further devices, or more sectors, than the one that kept the groups.
use Rattle.std.proofs.Common.{get_or, ◌≡◌, ◌≢◌, inl, inr, ⊎_elim, ℕ, ◌<◌, ◌≤◌, List, ◌∷◌, refl, sym, ap, subst, arith}
use Rattle.std.specs.Prelude.{Contains, min}
use Rattle.std.proofs.lemmas.Bool.{cases_lt}
use Rattle.std.proofs.lemmas.Bool.Decides.{nat_tests}
use Rattle.std.proofs.lemmas.List.Elements.{All-contains}
use Rattle.bank_trait.specs.Disk.{Image, Disk}
use Rattle.bank_trait.specs.Regions.{Tells}
use Rattle.block_record.specs.declared.entry.IndexEntry.{IndexEntry}
use Rattle.uberblock_ring.specs.Uberblock.{Uber, encoded, slot_of}
use Rattle.uberblock_ring.specs.Valid.{AreAlike}
use Rattle.core_state.specs.Shown.{Gives, IsCandidate, Shape, Shows}
use Rattle.core_state.specs.Keeps.{HasWidthIn, IsKept, IsNotOutvoted, Keeps, Kept, MayVoteFor, Setting}
use Rattle.core_state.specs.Collision.{MightStand}
use Rattle.core_state.proofs.Places.{asks_device, right_widths}
use Rattle.core_open.specs.Holds.{HoldsNoOther, shape_of}
use Rattle.core_open.specs.Opening.{MayBegin}
use Rattle.core_open.specs.Adding.{ExtendsBank, MayBeAdded, setting_on}

-- A slot is one of the first 32 sectors.
slot_below : (group sectors : ℕ) → 32 ≤ sectors → slot_of group < sectors
slot_below group sectors enough = omega (arith, enough)

more_read : (few many : ℕ) → few ≤ many → min few 16 ≤ min many 16
more_read few many more = grind (arith, nat_tests, more)

-- What is shown, given and a candidate on some devices is so where there are more.
module _ (old new : Shape) (devices : old.devices ≤ new.devices) (sectors : old.sectors ≤ new.sectors) (image : Image) where
  wider_shows : (device : ℕ) (uber : Uber) → Shows old image device uber → Shows new image device uber
  wider_shows device uber shows = record {
    device_in = (let low = shows.device_in in let more = more_read old.devices new.devices devices in omega (arith, low, more));
    slot_in = (let low = shows.slot_in in omega (arith, low, sectors));
    valid = shows.valid;
  }

  wider_gives : (uber : Uber) (entries : List IndexEntry) (device : ℕ) → Gives old image uber entries device
      → Gives new image uber entries device
  wider_gives uber entries device gives = record {
    device_in = (let low = gives.device_in in let more = more_read old.devices new.devices devices in omega (arith, low, more));
    digest = gives.digest;
    page = gives.page;
  }

  wider_candidate : (silent pool device : ℕ) (uber : Uber) (entries : List IndexEntry)
      → IsCandidate old silent pool image device uber entries → IsCandidate new silent pool image device uber entries
  wider_candidate silent pool device uber entries candidate = record {
    shows = wider_shows device uber candidate.shows;
    pool_is = candidate.pool_is;
    room = (let room = candidate.room in omega (arith, room, sectors));
    giver = candidate.giver;
    giver_reads = candidate.giver_reads;
    gives = wider_gives uber entries candidate.giver candidate.gives;
    fitting = candidate.fitting;
  }

  -- And back, on a device that both have.
  narrower_shows : 32 ≤ old.sectors → (device : ℕ) (uber : Uber) → device < old.devices
      → Shows new image device uber → Shows old image device uber
  narrower_shows enough device uber inside shows = record {
    device_in = (let low = shows.device_in in grind (arith, nat_tests, inside, low));
    slot_in = slot_below uber.group old.sectors enough;
    valid = shows.valid;
  }

-- An image keeps on more devices what it keeps on some that have the whole pool, where the further ones show nothing of
-- the pool and outvote it in favour of no other.
module _ (setting : Setting) (shape : Shape) (devices : setting.shape.devices ≤ shape.devices)
    (sectors : setting.shape.sectors ≤ shape.sectors) (pool : setting.reach ≤ setting.shape.devices) (image : Image)
    (blank : (device : ℕ) (uber : Uber) → setting.shape.devices ≤ device → Shows shape image device uber
    → uber.pool ≢ setting.pool)
    (votes : IsNotOutvoted (record setting { shape = shape }) image) (first : Kept) (later : List Kept)
    (keeps : Keeps setting first later image) where
  enough : 32 ≤ setting.shape.sectors
  enough = let room = keeps.there.shown.2.room in omega (arith, room)

  back : (device : ℕ) (uber : Uber) → device < setting.shape.devices → Shows shape image device uber
      → Shows setting.shape image device uber
  back device uber inside shows = narrower_shows setting.shape shape devices sectors image enough device uber inside shows

  -- Of a group that is kept nothing is asked on a further device.
  none_beyond : (uber : Uber) (kept : Kept) → Contains (first ∷ later) kept → AreAlike uber kept.uber
      → uber.reflow.to ≤ setting.shape.devices
  none_beyond uber kept listed alike =
      let narrow = (All-contains (λ (k : Kept). HasWidthIn setting k) (first ∷ later) kept keeps.widths listed).most in
      let same : uber.reflow.to ≡ kept.uber.reflow.to = ap (λ (u : Uber). u.reflow.to) alike in
      omega (arith, narrow, same, pool)

  kept_on : (device : ℕ) (uber : Uber) → Shows shape image device uber → IsKept setting image (first ∷ later) uber
      → IsKept (record setting { shape = shape }) image (first ∷ later) uber
  kept_on device uber shows is = record {
    kept = is.kept;
    listed = is.listed;
    alike = is.alike;
    listing = is.listing;
    whole = record {
      index = is.whole.index;
      right = λ cell other cell_is inside used. ⊎_elim
          (λ (low : other < setting.shape.devices). is.whole.right cell other cell_is low used)
          (λ (high : setting.shape.devices ≤ other). record {
            at = λ device_sector place not_excepted. absurd (
                let below = asks_device (record is.kept { uber = uber }) other
                device_sector cell.bytes (right_widths uber shows.valid.right)
                (record { cell = cell; cell_is = cell_is; place = place; bytes_are = refl }) in
                let narrow = none_beyond uber is.kept is.listed is.alike in omega (arith, below, narrow, high));
          })
          (cases_lt other setting.shape.devices);
    };
    out = is.out;
  }

  wider_keeps : Keeps (record setting { shape = shape }) first later image
  wider_keeps = record {
    few = keeps.few;
    wide = keeps.wide;
    only = λ device uber low shows pool_is. ⊎_elim
        (λ inside. kept_on device uber shows (keeps.only device uber low (back device uber inside shows) pool_is))
        (λ outside. absurd (blank device uber outside shows pool_is))
        (cases_lt device setting.shape.devices);
    there = record {
      device = keeps.there.device;
      works = keeps.there.works;
      shown = (keeps.there.shown.0, keeps.there.shown.1, candidate keeps.there.device keeps.there.shown.0 keeps.there.shown.2);
      each = λ other low works. let shown = keeps.there.each other low works in
          (shown.0, shown.1, candidate other shown.0 shown.2);
      pages = λ device low works. wider_gives setting.shape shape devices sectors image first.uber first.entries device
          (keeps.there.pages device low works);
    };
    ascending = keeps.ascending;
    further = keeps.further;
    widths = λ k d within. let width = keeps.widths k d within in record { least = width.least; most = width.most };
    inside = λ device low works.
        let read = keeps.inside device low works in
        let more = more_read setting.shape.devices shape.devices devices in omega (arith, read, more);
    own = λ device uber low works shows.
        keeps.own device uber low works (back device uber (omega (arith, low, pool)) shows);
    votes = votes;
  }
    where
      candidate : (device : ℕ) (uber : Uber) → IsCandidate setting.shape 0 setting.pool image device uber first.entries
          → IsCandidate shape 0 setting.pool image device uber first.entries
      candidate device uber is = wider_candidate setting.shape shape devices sectors image 0 setting.pool device uber first.entries is

-- What might stand on a further bank might stand on the one that it begins with.
might_before : (old new : Disk) → ExtendsBank old new → (image : Image) → MightStand (shape_of new) new new.clock image
    → MightStand (shape_of old) old old.clock image
might_before old new begins image might = record {
  fits = record { at = λ d x bytes is. might.fits.at d x bytes (begins.leaves d x bytes is) };
  written = record {
    ring = λ device uber shows.
        let low : device < old.devices = (let in_old = shows.device_in in grind (arith, nat_tests, in_old)) in
        begins.could device (slot_of uber.group) (encoded uber device) low shows.slot_in
        (might.written.ring device uber
        (wider_shows (shape_of old) (shape_of new) begins.devices begins.sectors image device uber shows));
  };
}

module _ (setting : Setting) (first : Kept) (later : List Kept) (old new : Disk)
    (may : MayBegin setting first later old) (added : MayBeAdded setting (first ∷ later) old new) where
  shape_is : setting.shape ≡ shape_of old
  shape_is = may.may.shape

  old_devices : setting.shape.devices ≡ old.devices
  old_devices = ap (λ (s : Shape). s.devices) shape_is

  old_sectors : setting.shape.sectors ≡ old.sectors
  old_sectors = ap (λ (s : Shape). s.sectors) shape_is

  keeps_on : (image : Image) → MightStand (shape_of new) new new.clock image
      → Keeps (setting_on setting new) first later image
  keeps_on image might = wider_keeps setting (shape_of new)
      (let more = added.begins.devices in omega (arith, old_devices, more))
      (let more = added.begins.sectors in omega (arith, old_sectors, more))
      (let whole = added.pool in omega (arith, old_devices, whole)) image
      (λ device uber outside shows. added.blank image device uber might (omega (arith, old_devices, outside)) shows)
      (added.votes image might) first later
      (may.may.keeps image (subst (λ (s : Shape). MightStand s old old.clock image) (sym shape_is)
      (might_before old new added.begins image might)))

  -- Law: A run may begin on a bank that has further devices, or more sectors, than the one that kept the groups.
  pub added_begins : MayBegin (setting_on setting new) first later new
  added_begins = record {
    may = record {
      keeps = keeps_on;
      shape = refl;
      tells = added.tells;
      no_other = added.no_other;
      parity = may.may.parity;
    };
    excepted = may.excepted;
    bytes = may.bytes;
  }

-- Devices that show no uberblock at all may be added: nobody names another pool by them.
module _ (setting : Setting) (first : Kept) (later : List Kept) (old new : Disk)
    (may : MayBegin setting first later old) (begins : ExtendsBank old new) (pool : setting.reach ≤ old.devices)
    (none : (image : Image) (device : ℕ) (uber : Uber) → MightStand (shape_of new) new new.clock image
    → old.devices ≤ device → Shows (shape_of new) image device uber → ⊥) where
  shown_before : (image : Image) (device : ℕ) (uber : Uber) → MightStand (shape_of new) new new.clock image
      → 32 ≤ old.sectors → Shows (shape_of new) image device uber → Shows setting.shape image device uber
  shown_before image device uber might enough shows =
      subst (λ (s : Shape). Shows s image device uber) (sym may.may.shape) (⊎_elim
      (λ (inside : device < old.devices). narrower_shows (shape_of old) (shape_of new) begins.devices begins.sectors
      image enough device uber inside shows)
      (λ (outside : old.devices ≤ device). absurd (none image device uber might outside shows))
      (cases_lt device old.devices))

  shown_still : (image : Image) (device : ℕ) (uber : Uber) → Shows setting.shape image device uber
      → Shows (shape_of new) image device uber
  shown_still image device uber shows = wider_shows (shape_of old) (shape_of new) begins.devices begins.sectors image
      device uber (subst (λ (s : Shape). Shows s image device uber) may.may.shape shows)

  voted_before : (image : Image) → MightStand (shape_of new) new new.clock image → 32 ≤ old.sectors → (other device : ℕ)
      → MayVoteFor (setting_on setting new) image other device → MayVoteFor setting image other device
  voted_before image might enough other device (inl out) = inl (record {
    outside = out.outside;
    names = record {
      reads = out.names.reads;
      uber = out.names.uber;
      shows = shown_before image device out.names.uber might enough out.names.shows;
      greatest = λ uber shows. out.names.greatest uber (shown_still image device uber shows);
      pool_is = out.names.pool_is;
    };
  })
  voted_before image might enough other device (inr gone) = inr (record {
    within = gone.within;
    failed = gone.failed;
    uber = gone.uber;
    shows = shown_before image device gone.uber might enough gone.shows;
    pool_is = gone.pool_is;
  })

  -- Law: Devices that show no uberblock may be added to a bank that keeps groups.
  pub blank_devices_may_be_added : Tells new → HoldsNoOther (setting_on setting new) (first ∷ later) new
      → MayBeAdded setting (first ∷ later) old new
  blank_devices_may_be_added tells no_other = record {
    begins = begins;
    pool = pool;
    blank = λ image device uber might outside shows pool_is. none image device uber might outside shows;
    votes = λ image might other others apart distinct named.
        let stood = might_before old new begins image might in
        let keeps = may.may.keeps image (subst (λ (s : Shape). MightStand s old old.clock image) (sym may.may.shape) stood) in
        let sectors = ap (λ (s : Shape). s.sectors) may.may.shape in
        let room = keeps.there.shown.2.room in
        keeps.votes other others apart distinct
        (λ k d within. voted_before image might (omega (arith, room, sectors)) other (get_or others k d)
        (named k d within));
    tells = tells;
    no_other = no_other;
  }
