-- Which devices lack an index page, device by device.
use Rattle.std.proofs.Common.{◌≡◌, ⊎_elim, ℕ, ◌+◌, ◌^◌, ◌<◌, ◌≤◌, List, true, false, refl, sym, ◌∙◌, subst, arith}
use Rattle.std.proofs.lemmas.Bool.{cases_Bool, cases_eq, cases_lt, false≢true, true≢false}
use Rattle.std.specs.Prelude.{Bool, min}
use Rattle.sha2.specs.Sha256.{sha256}
use Rattle.bank_trait.specs.Causes.{FaultCounted}
use Rattle.bank_trait.specs.Disk.{Disk, Unchanged}
use Rattle.block_record.specs.declared.entry.IndexEntry.{IndexEntry}
use Rattle.uberblock_ring.specs.Devices.{has_device, with_device, IsWithin}
use Rattle.uberblock_ring.specs.Uberblock.{Uber}
use Rattle.uberblock_ring.proofs.DeviceSets.{has_with, none_in, others_with, with_below, within_with}
use Rattle.core_state.specs.Shown.{Shape, Gives, page_on, read_devices}
use Rattle.core_open.specs.Failing.{HaveFailedSince}
use Rattle.core_open.specs.Holds.{shape_of}
use Rattle.core_open.specs.Lacking.{AreLacking, GivesOrLacks, HasAllBut, LacksPage}
use Rattle.core_open.specs.Pages.{IsComparedPage, IsGivenPage}
use Rattle.core_open.proofs.Failures.{since_none, since_on, since_with}
use Rattle.core_open.proofs.PageReading.{page_given}
use Rattle.core_open.proofs.Unchanged.{holds_then, shape_then, unchanged_none, unchanged_then}

-- What a device gives after some reads it gave before them,
pub given_before : (old mid : Disk) (uber : Uber) (device : ℕ) (entries : List IndexEntry)
    → Unchanged old mid → IsGivenPage mid uber device entries
    → IsGivenPage old uber device entries
given_before old mid uber device entries same given = record {
  index = given.index;
  counted = given.counted;
  parts = λ part bytes low is. given.parts part bytes low (same.reads device _ ∙ is);
  each = λ image holds. subst (λ (shape : Shape). Gives shape image uber entries device)
      (shape_then same) (given.each image (holds_then same holds));
}

-- and what it lacks it lacked.
pub lacked_before : (old mid : Disk) (uber : Uber) (device : ℕ) (entries : List IndexEntry)
    → Unchanged old mid → LacksPage mid uber device entries
    → LacksPage old uber device entries
lacked_before old mid uber device entries same lacks = record {
  none = λ image holds gives. lacks.none image (holds_then same holds)
      (subst (λ (shape : Shape). Gives shape image uber entries device) (sym (shape_then same))
      gives);
}

-- Where one device gives the page of these entries, a comparison of what another has with that page tells
-- whether it gives it: equal bytes have the recorded digest, and others are no page of them.
pub compared_gives : (disk : Disk) (uber : Uber) (giver device : ℕ) (entries : List IndexEntry)
    (same : Bool) → IsGivenPage disk uber giver entries → device < min disk.devices 16
    → IsComparedPage disk uber device entries same → GivesOrLacks disk uber device entries same
unfolding page_on
compared_gives disk uber giver device entries true given below compared =
    let is = compared.is.0 refl in
    page_given uber disk device compared.bytes entries below compared.are
    (λ image holds. let gives = given.each image holds in
    subst (λ (page : List ℕ). sha256 page ≡ uber.digest) (gives.page.page ∙ sym is) gives.digest)
    (record { index = given.index; counted = given.counted; page = is })
compared_gives disk uber giver device entries false given below compared = record {
  none = λ image holds gives. false≢true (compared.is.1 (compared.are.each image holds ∙ gives.page.page));
}

-- At first none lacks it.
pub lacking_none : (disk : Disk) (uber : Uber) (entries : List IndexEntry) (out : ℕ)
    → AreLacking disk uber entries 0 out 0
lacking_none disk uber entries out = record {
  in_use = λ device has. absurd (true≢false (sym has ∙ none_in device));
  lack = λ device has. absurd (true≢false (sym has ∙ none_in device));
  give = λ device low. absurd (omega (arith, low));
}

module _ (disk : Disk) (uber : Uber) (entries : List IndexEntry) (width out lacking : ℕ)
    (so_far : AreLacking disk uber entries width out lacking) where
  -- Of the first devices, one is the last or before it.
  at_or_before : (P : ℕ → Type 0) → P width → ((device : ℕ) → device < width → P device)
      → (device : ℕ) → device < width + 1
      → P device
  at_or_before P here before device low = ⊎_elim
      (λ (less : device < width). before device less)
      (λ (above : width ≤ device). let same : width ≡ device = omega (arith, low, above) in
      subst P same here)
      (cases_lt device width)

  -- A device that is out is passed over,
  pub lacking_past : has_device out width ≡ true
      → AreLacking disk uber entries (width + 1) out lacking
  lacking_past gone = record {
    in_use = λ device has. let used = so_far.in_use device has in
        (omega (arith, used.0), used.1);
    lack = so_far.lack;
    give = at_or_before
        (λ device. has_device out device ≡ false → has_device lacking device ≡ false
        → IsGivenPage disk uber device entries)
        (λ used. absurd (true≢false (sym gone ∙ used)))
        so_far.give;
  }

  -- or goes out as it is asked,
  pub lacking_failed : AreLacking disk uber entries (width + 1) (with_device out width) lacking
  lacking_failed = record {
    in_use = λ device has.
        let used = so_far.in_use device has in
        let less = used.0 in (
          omega (arith, less),
          others_with out width device (λ (same : device ≡ width). omega (arith, less, same)) ∙ used.1,
        );
    lack = so_far.lack;
    give = at_or_before
        (λ device. has_device (with_device out width) device ≡ false
        → has_device lacking device ≡ false → IsGivenPage disk uber device entries)
        (λ used. absurd (true≢false (sym (has_with out width) ∙ used)))
        (λ device less used. so_far.give device less
        (sym (others_with out width device (λ (same : device ≡ width). omega (arith, less, same)))
        ∙ used));
  }

  -- or gives the page,
  pub lacking_given : IsGivenPage disk uber width entries
      → AreLacking disk uber entries (width + 1) out lacking
  lacking_given given = record {
    in_use = λ device has. let used = so_far.in_use device has in
        (omega (arith, used.0), used.1);
    lack = so_far.lack;
    give = at_or_before
        (λ device. has_device out device ≡ false → has_device lacking device ≡ false
        → IsGivenPage disk uber device entries)
        (λ used has. given)
        so_far.give;
  }

  -- or lacks it.
  pub lacking_more : has_device out width ≡ false → LacksPage disk uber width entries
      → AreLacking disk uber entries (width + 1) out (with_device lacking width)
  lacking_more used lacks = record {
    in_use = λ device. this_or_other (λ k. (k < width + 1) × (has_device out k ≡ false))
        (omega arith, used)
        (λ other has. let before = so_far.in_use other has in (omega (arith, before.0), before.1))
        device;
    lack = λ device. this_or_other (λ k. LacksPage disk uber k entries) lacks so_far.lack device;
    give = at_or_before
        (λ device. has_device out device ≡ false
        → has_device (with_device lacking width) device ≡ false → IsGivenPage disk uber device entries)
        (λ here has. absurd (true≢false (sym (has_with lacking width) ∙ has)))
        (λ device less here has. so_far.give device less here
        (sym (others_with lacking width device
        (λ (same : device ≡ width). omega (arith, less, same))) ∙ has));
  }
    where
      this_or_other : (P : ℕ → Type 0) → P width
          → ((device : ℕ) → has_device lacking device ≡ true → P device)
          → (device : ℕ) → has_device (with_device lacking width) device ≡ true
          → P device
      this_or_other P here others device has = ⊎_elim
          (λ (same : device ≡ width). subst P (sym same) here)
          (λ apart. others device (sym (others_with lacking width device apart) ∙ has))
          (cases_eq device width)

-- A device outside a set is outside each set within it.
pub not_within : (devices others device : ℕ) → IsWithin devices others
    → has_device others device ≡ false → has_device devices device ≡ false
not_within devices others device within outside = ⊎_elim
    (λ has. absurd (true≢false (sym (within device has) ∙ outside)))
    (λ outside. outside)
    (cases_Bool (has_device devices device))

-- The devices below one were asked, and these went out.
pub record AreAskedTo (old : Disk) (uber : Uber) (entries : List IndexEntry) (before device : ℕ)
    (new : Disk) (out lacking : ℕ) : Type 0 where
  pub unchanged : Unchanged old new
  pub below : out < 2 ^ uber.reflow.to
  pub within : IsWithin before out
  pub since : HaveFailedSince old new before out
  pub lacks : AreLacking old uber entries device out lacking

pub asked_at : {old new : Disk} {uber : Uber} {entries : List IndexEntry} {before device : ℕ}
    {out lacking : ℕ} (out_now lacking_now : ℕ) → out_now ≡ out → lacking_now ≡ lacking
    → AreAskedTo old uber entries before device new out lacking
    → AreAskedTo old uber entries before device new out_now lacking_now
asked_at {old = old} {new = new} {uber = uber} {entries = entries} {before = before}
    {device = device} {out = out} {lacking = lacking} out_now lacking_now out_is lacking_is asked =
    subst (λ set. AreAskedTo old uber entries before device new set lacking_now) (sym out_is)
    (subst (λ set. AreAskedTo old uber entries before device new out set) (sym lacking_is) asked)

pub asked_none : (disk : Disk) (uber : Uber) (entries : List IndexEntry) (out : ℕ)
    → out < 2 ^ uber.reflow.to → AreAskedTo disk uber entries out 0 disk out 0
asked_none disk uber entries out below = record {
  unchanged = unchanged_none disk;
  below = below;
  within = λ device has. has;
  since = since_none disk out;
  lacks = lacking_none disk uber entries out;
}

module _ (old mid : Disk) (uber : Uber) (entries : List IndexEntry) (before device out lacking : ℕ)
    (so_far : AreAskedTo old uber entries before device mid out lacking) where
  -- The next one is out already,
  pub asked_past : has_device out device ≡ true
      → AreAskedTo old uber entries before (device + 1) mid out lacking
  asked_past gone = record {
    unchanged = so_far.unchanged;
    below = so_far.below;
    within = so_far.within;
    since = so_far.since;
    lacks = lacking_past old uber entries device out lacking so_far.lacks gone;
  }

  module _ (new : Disk) (same : Unchanged mid new) where
    -- or it fails,
    pub asked_failed : HasAllBut old uber.reflow.to before → uber.reflow.to ≤ 16
        → has_device out device ≡ false → device < uber.reflow.to
        → FaultCounted (mid.faults device) (new.faults device)
        → AreAskedTo old uber entries before (device + 1) new (with_device out device) lacking
    asked_failed others narrow used low rose = record {
      unchanged = unchanged_then so_far.unchanged same;
      below = with_below out device uber.reflow.to so_far.below low;
      within = λ other has. within_with out device other (so_far.within other has);
      since = since_with old mid new before out device so_far.since so_far.unchanged same in_bank
          rose;
      lacks = lacking_failed old uber entries device out lacking so_far.lacks;
    }
      where
        was_used : has_device before device ≡ false
        was_used = not_within before out device so_far.within used

        in_bank : device < read_devices (shape_of mid)
        in_bank = omega (
          arith,
          others device low was_used,
          low,
          narrow,
          so_far.unchanged.goes_on.later.devices,
        )

    -- or it gives the page,
    pub asked_given : GivesOrLacks mid uber device entries true
        → AreAskedTo old uber entries before (device + 1) new out lacking
    asked_given given = record {
      unchanged = unchanged_then so_far.unchanged same;
      below = so_far.below;
      within = so_far.within;
      since = since_on old mid new before out so_far.since same;
      lacks = lacking_given old uber entries device out lacking so_far.lacks
          (given_before old mid uber device entries so_far.unchanged given);
    }

    -- or it lacks it.
    pub asked_lacked : has_device out device ≡ false
        → GivesOrLacks mid uber device entries false
        → AreAskedTo old uber entries before (device + 1) new out (with_device lacking device)
    asked_lacked used lacks = record {
      unchanged = unchanged_then so_far.unchanged same;
      below = so_far.below;
      within = so_far.within;
      since = since_on old mid new before out so_far.since same;
      lacks = lacking_more old uber entries device out lacking so_far.lacks used
          (lacked_before old mid uber device entries so_far.unchanged lacks);
    }
