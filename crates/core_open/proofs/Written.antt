-- What the writes of an opening keep, and who is out after them.
use Rattle.std.proofs.Common.{◌≡◌, ◌⊎◌, inl, inr, ⊎_elim, ℕ, ◌+◌, ◌^◌, ◌<◌, ◌≤◌, List, Bool, true, false, Result, Ok}
use Rattle.std.proofs.Common.{refl, sym, ◌∙◌, ap, subst, arith, ◌∷◌}
use Rattle.std.proofs.lemmas.Bool.{cases_lt}
use Rattle.bank_trait.specs.Causes.{FaultCounted}
use Rattle.bank_trait.specs.Disk.{Image, Disk, Lawful, Later, Unchanged}
use Rattle.bank_trait.specs.Regions.{Tells}
use Rattle.bank_trait.proofs.Moments.{later_trans}
use Rattle.uberblock_ring.specs.Devices.{has_device, count_of, IsWithin}
use Rattle.uberblock_ring.specs.Uberblock.{Uber}
use Rattle.uberblock_ring.specs.Valid.{IsRightUber}
use Rattle.uberblock_ring.proofs.DeviceSets.{none_above, count_none}
use Rattle.core_state.specs.Map.{no_blocks}
use Rattle.core_state.specs.Shown.{Shape, Gives}
use Rattle.core_state.specs.Choosing.{IsOutAtOpening}
use Rattle.core_state.specs.Keeps.{Kept, Setting}
use Rattle.core_state.specs.Committing.{Point, point_of}
use Rattle.core_state.proofs.Calls.{true_false}
use Rattle.core_state.proofs.Knowing.{present}
use Rattle.core_commit.specs.declared.committing.TooManyOut.{TooManyOut}
use Rattle.core_commit.proofs.Going.{rose_wider}
use Rattle.core_open.specs.declared.finding.Found.{Found}
use Rattle.core_open.specs.declared.why.OpenWhy.{OpenWhy}
use Rattle.core_open.specs.Causes.{IsChoiceWithout, IsShownChoice, AreTooMany}
use Rattle.core_open.specs.Failing.{HaveFailed}
use Rattle.core_open.specs.Finding.{IsFoundIn, FitsOpening}
use Rattle.core_open.specs.Holds.{HoldsImage, shape_of}
use Rattle.core_open.specs.Opens.{IsSizedAsOne, MayOpen, IsWithinBelow, HasOpened, OpeningKeeps, CutsOpening}
use Rattle.core_open.specs.Opens.{IsOpenedWith, HasRenewed, HasSpread, every_device}
use Rattle.core_open.specs.OpensFound.{WritesFound}
use Rattle.core_open.proofs.ChosenSpread.{AreRead}
use Rattle.core_open.specs.Writes.{IsRenewal, renewed_by}
use Rattle.core_commit.proofs.Writing.{writes_none}
use Rattle.core_open.proofs.InOrder.{in_order, renewed_in_order}
use Rattle.core_open.proofs.Others.{found_touches}
use Rattle.core_open.proofs.Present.{present_held}
use Rattle.core_open.proofs.Ends.{sized_as_chosen, since_spread, since_renewed, opened_next}
use Rattle.uberblock_ring.proofs.DeviceSets.{count_within}
use Rattle.core_open.proofs.Unchanged.{unchanged_then, holds_then}

-- It lists no device.
pub none_listed : (most : ℕ) → count_of 0 ≤ most
unfolding count_of
none_listed most = let none = count_none 64 in omega (arith, none)

module _ (found : Found) (old mid new : Disk) (lawful : Lawful old) (same_found : Unchanged old mid)
    (found_in : (image : Image) → HoldsImage old image → IsFoundIn (shape_of old) image found)
    (right : IsRightUber found.uber) (silent_failed : HaveFailed old mid found.silent)
    (fits : FitsOpening mid found) (later_all : Later mid new) where
  rose_on : (device : ℕ) → FaultCounted (old.faults device) (mid.faults device)
      → FaultCounted (old.faults device) (new.faults device)
  rose_on device rose = rose_wider (old.faults device) (old.faults device) (mid.faults device) (new.faults device)
      (omega arith) rose (later_all.faults device)

  pub silent_now : HaveFailed old new found.silent
  silent_now device has = ((silent_failed device has).0, rose_on device (silent_failed device has).1)

  abbrev pub choice : (image : Image) → HoldsImage old image → IsChoiceWithout (shape_of old) found.silent image
  choice image holds = record {
    device = found.device;
    uber = found.uber;
    entries = found.entries.items;
    chosen = (found_in image holds).chosen;
  }

  abbrev pub shown_by : (image : Image) → HoldsImage old image → IsShownChoice old new image
  shown_by image holds = record {
    silent = found.silent;
    failed = silent_now;
    choice = choice image holds;
  }

  -- A device that was out when the writes began was found so, or failed.
  out_found : (image : Image) → HoldsImage old image → (device : ℕ) → has_device found.out device ≡ true
      → IsOutAtOpening (shape_of old) found.silent image found.uber device
  out_found image holds device has = ((found_in image holds).out no_blocks device).0 has

  -- No group can be numbered two more.
  pub limit_caused : 2 ^ 62 < found.uber.group + 2 → (image : Image) → HoldsImage old image
      → (shown : IsShownChoice old new image) × (2 ^ 62 < shown.choice.uber.group + 2)
  limit_caused high image holds = (shown_by image holds, high)

  -- Too many were found to be out.
  pub many_caused : found.uber.parity < count_of found.out → (image : Image) → HoldsImage old image
      → AreTooMany old new image found.out
  many_caused many image holds = record {
    shown = shown_by image holds;
    many = many;
    each = λ device has. inl (out_found image holds device has);
  }

  module _ (out : ℕ) (result : Result Uber OpenWhy) (writes : WritesFound found mid new out result) where
    abbrev before : Point
    before = point_of writes.asked_out writes.asked

    same_asked : Unchanged old writes.asked
    same_asked = unchanged_then same_found writes.same

    shapes : shape_of mid ≡ shape_of old
    shapes = ap (λ (n : ℕ). record { devices = n; sectors = mid.sectors }) same_found.goes_on.later.devices
        ∙ ap (λ (n : ℕ). record { devices = old.devices; sectors = n }) same_found.goes_on.later.sectors

    found_used : (device : ℕ) → has_device writes.asked_out device ≡ false → has_device found.out device ≡ false
    found_used device used = by (has_device found.out device) refl
      where
        by : (b : Bool) → has_device found.out device ≡ b → has_device found.out device ≡ false
        by false none = none
        by true gone = absurd (true_false (sym (writes.stay device gone) ∙ used))

    -- Of a bank that tells what it holds this was read.
    are_read : Tells old → AreRead (shape_of old) found.silent old found.uber found.entries.items writes.lack_page
        found.lacks_uber before
    are_read tells =
        let holds = present_held old tells in
        let facts = found_in (present old) holds in
        record {
          inside = λ on in_use. let low = fits.devices on in_use.0 (found_used on in_use.1) in
              let same = same_found.goes_on.later.devices in omega (arith, low, same);
          room = (let room = fits.room in let same = same_found.goes_on.later.sectors in omega (arith, room, same));
          lacks = λ on in_use lacks gives. (writes.lacking.lack on lacks).none (present old)
              (holds_then same_found holds)
              (subst (λ (s : Shape). Gives s (present old) found.uber found.entries.items on) (sym shapes) gives);
          gives = λ on part bytes in_use has low is. (writes.lacking.give on in_use.0 in_use.1 has).parts part bytes low
              (same_found.reads on _ ∙ is);
          none = λ on twin listed in_use lacks. (((facts.lacks_uber no_blocks) on).0 lacks).2 twin listed;
          shows = λ on in_use has. facts.shows on in_use.0 (found_used on in_use.1) has;
        }

    -- The chosen uberblock lists none as out that isn't.
    lists : Tells old → IsWithin found.uber.out writes.asked_out
    lists tells device listed = writes.stay device
        ((((found_in (present old) (present_held old tells)).out no_blocks) device).1 (
          below,
          inl (record {
            other = found.device;
            reads = (found_in (present old) (present_held old tells)).chosen.reads;
            twin = found.uber;
            entries = found.entries.items;
            candidate = (found_in (present old) (present_held old tells)).chosen.candidate;
            group = refl;
            out = listed;
          }),
        ))
      where
        below : device < found.uber.reflow.to
        below = ⊎_elim (λ less. less)
            (λ above. absurd (true_false (sym listed ∙ none_above found.uber.out found.uber.reflow.to device right.out.0 above)))
            (cases_lt device found.uber.reflow.to)

    -- The writes go on in time, and who is out after them was before, or failed.
    pub record Went (to : Disk) (out_to : ℕ) : Type 0 where
      pub later : Later writes.asked to
      pub each : (device : ℕ) → has_device out_to device ≡ true
          → (has_device writes.asked_out device ≡ true)
          ⊎ FaultCounted (writes.asked.faults device) (to.faults device)

    pub went_spread : (after : Point) (ended : Result (Unit {0}) TooManyOut)
        → HasSpread found.uber found.entries.items writes.lack_page found.lacks_uber before after ended
        → Went after.disk after.out
    went_spread after ended spread = record { later = spread.spares.later; each = spread.gone.each }

    pub went_renewed : (renewed : Uber) (after : Point) (ended : Result (Unit {0}) TooManyOut)
        → HasRenewed found.uber found.entries.items writes.lack_page found.lacks_uber before renewed after ended
        → Went after.disk after.out
    went_renewed renewed after ended ran =
        let first = went_spread ran.mid (Ok ran.value) ran.brought in
        record {
          later = later_trans first.later ran.spread.spares.later;
          each = λ device has. ⊎_elim
              (λ was. ⊎_elim (λ asked. inl asked)
              (λ rose. inr (rose_wider (writes.asked.faults device) (writes.asked.faults device)
              (ran.mid.disk.faults device) (after.disk.faults device) (omega arith) rose
              (ran.spread.spares.later.faults device)))
              (first.each device was))
              (λ rose. inr (rose_wider (writes.asked.faults device) (ran.mid.disk.faults device)
              (after.disk.faults device) (after.disk.faults device) (first.later.faults device) rose (omega arith)))
              (ran.spread.gone.each device has);
        }

    -- Whoever is out was found so, or failed in this call.
    pub out_caused : Went new out → (image : Image) → HoldsImage old image → (device : ℕ)
        → has_device out device ≡ true
        → IsOutAtOpening (shape_of old) found.silent image found.uber device
        ⊎ FaultCounted (old.faults device) (new.faults device)
    out_caused went image holds device has = ⊎_elim
        (λ asked. ⊎_elim (λ was. inl (out_found image holds device was))
        (λ failed. inr (rose_wider (old.faults device) (mid.faults device) (writes.asked.faults device)
        (new.faults device) (same_found.goes_on.later.faults device) failed.1 (went.later.faults device)))
        (writes.gone device asked))
        (λ rose. inr (rose_wider (old.faults device) (writes.asked.faults device) (new.faults device)
        (new.faults device) (same_asked.goes_on.later.faults device) rose (omega arith)))
        (went.each device has)

    pub many_gone : Went new out → found.uber.parity < count_of out → (image : Image) → HoldsImage old image
        → AreTooMany old new image out
    many_gone went many image holds = record {
      shown = shown_by image holds;
      many = many;
      each = λ device has. out_caused went image holds device has;
    }

    -- The devices that were silent are out from the beginning.
    found_missed : IsWithinBelow found.uber.reflow.to found.silent found.out
    found_missed device below gone = fits.silent device below gone

    gone_listed : (listed : ℕ) → IsWithin writes.asked_out listed → IsWithin found.out listed
    gone_listed listed stay device was = stay device (writes.stay device was)

    pub missed : (listed : ℕ) → IsWithin writes.asked_out listed
        → IsWithinBelow found.uber.reflow.to found.silent listed
    missed listed stay device below gone = gone_listed listed stay device (found_missed device below gone)

    -- An opening that stopped while it brought the chosen group to devices,
    pub keeps_spread : (ended : Result (Unit {0}) TooManyOut)
        → HasSpread found.uber found.entries.items writes.lack_page found.lacks_uber before (point_of out new) ended
        → OpeningKeeps found.silent found.out old new
    keeps_spread ended spread = record {
      since = λ setting first later may within all. since_spread setting first later old may lawful before same_asked
          found.silent found.device found.uber found.entries.items
          (found_in (present old) (present_held old may.tells)).chosen writes.lack_page found.lacks_uber
          (are_read may.tells) right within
          (point_of out new) ended spread;
    }

    -- or after them,
    pub keeps_renewed : (renewed : Uber) (ended : Result (Unit {0}) TooManyOut)
        → (ran : HasRenewed found.uber found.entries.items writes.lack_page found.lacks_uber before renewed
        (point_of out new) ended)
        → OpeningKeeps found.silent ran.mid.out old new
    keeps_renewed renewed ended ran = record {
      since = λ setting first later may within all. since_renewed setting first later old may lawful before same_asked
          found.silent found.device found.uber found.entries.items
          (found_in (present old) (present_held old may.tells)).chosen writes.lack_page found.lacks_uber
          (are_read may.tells) right within
          ran.mid ran.value ran.brought all (lists may.tells) ran.few writes.limit
          (point_of out new) ended
          (subst (λ (u : Uber). HasSpread u found.entries.items 0 every_device ran.mid (point_of out new) ended)
          ran.renewed_is ran.spread);
    }

    -- The chosen group has the size of one of the groups that were kept.
    size_kept : (setting : Setting) (first : Kept) (later : List Kept) → MayOpen setting first later old
        → IsWithinBelow first.uber.reflow.to found.silent setting.failed
        → IsSizedAsOne (first ∷ later) found.uber
    size_kept setting first later may within = sized_as_chosen setting first later old may lawful before same_asked
        found.silent found.device found.uber found.entries.items
        (found_in (present old) (present_held old may.tells)).chosen writes.lack_page found.lacks_uber
        (are_read may.tells) right within

    -- and one that ended.
    pub kept_renewed : (renewed : Uber) (value : Unit {0})
        → HasRenewed found.uber found.entries.items writes.lack_page found.lacks_uber before renewed
        (point_of out new) (Ok value)
        → IsOpenedWith renewed found.entries.items found.silent out old new
    kept_renewed renewed value ran =
        record {
          sized = λ setting first later may within.
              let one = size_kept setting first later may within in
              record {
                kept = one.kept;
                listed = one.listed;
                width_is = ap (λ (u : Uber). u.reflow.to) ran.renewed_is ∙ one.width_is;
                parity_is = ap (λ (u : Uber). u.parity) ran.renewed_is ∙ one.parity_is;
              };
          kept = λ setting first later may within all.
              let listed : IsWithin ran.mid.out setting.failed =
              λ device has. all device (ran.spread.gone.stay device has) in
              subst (λ (u : Uber). HasOpened setting first later u found.entries.items found.silent old new)
              (sym ran.renewed_is)
              (opened_next setting first later old may lawful before same_asked
              found.silent found.device found.uber found.entries.items
              (found_in (present old) (present_held old may.tells)).chosen writes.lack_page found.lacks_uber
              (are_read may.tells) right within
              ran.mid ran.value ran.brought listed (lists may.tells) ran.few writes.limit
              (point_of out new) value
              (subst (λ (u : Uber). HasSpread u found.entries.items 0 every_device ran.mid (point_of out new) (Ok value))
              ran.renewed_is ran.spread) all
              (λ image holds. (choice image holds, refl)));
        }

    -- The group that is written lists no more devices than there are parities.
    pub few_renewed : (renewed : Uber) (ended : Result (Unit {0}) TooManyOut)
        → (ran : HasRenewed found.uber found.entries.items writes.lack_page found.lacks_uber before renewed
        (point_of out new) ended)
        → count_of ran.mid.out ≤ found.uber.parity
    few_renewed renewed ended ran =
        let wide = right.widths.1 in
        let all = count_within ran.mid.out found.uber.reflow.to ran.few.0 (omega (arith, wide)) in
        let few = ran.few.1 in
        omega (arith, few, all)

    -- It was cut short there,
    pub cut_spread : (ended : Result (Unit {0}) TooManyOut)
        → HasSpread found.uber found.entries.items writes.lack_page found.lacks_uber before (point_of out new) ended
        → (cut : CutsOpening old new) × IsWithin cut.borne out
    cut_spread ended spread = (
      record {
        silent = found.silent;
        failed = silent_now;
        width = found.uber.reflow.to;
        parity = found.uber.parity;
        borne = found.out;
        few = writes.few;
        missed = found_missed;
        each = λ image holds. record {
          choice = choice image holds;
          width_is = refl;
          parity_is = refl;
          each = λ device has. inl (out_found image holds device has);
        };
        keeps = keeps_spread ended spread;
        only = found_touches found out result same_found writes;
        writes = (
          renewed_by found.uber 0,
          in_order found old mid new same_found found_in out result writes (renewed_by found.uber 0) new spread.writes
              refl (writes_none (IsRenewal (renewed_by found.uber 0) found.out) new),
        );
      },
      gone_listed out spread.gone.stay,
    )

    -- or after them.
    pub cut_renewed : (renewed : Uber) (ended : Result (Unit {0}) TooManyOut)
        → HasRenewed found.uber found.entries.items writes.lack_page found.lacks_uber before renewed
        (point_of out new) ended
        → (cut : CutsOpening old new) × IsWithin cut.borne out
    cut_renewed renewed ended ran = (
      record {
        silent = found.silent;
        failed = silent_now;
        width = found.uber.reflow.to;
        parity = found.uber.parity;
        borne = ran.mid.out;
        few = few_renewed renewed ended ran;
        missed = missed ran.mid.out ran.brought.gone.stay;
        each = λ image holds. record {
          choice = choice image holds;
          width_is = refl;
          parity_is = refl;
          each = λ device has. out_caused (went_renewed renewed (point_of out new) ended ran) image holds device
              (ran.spread.gone.stay device has);
        };
        keeps = keeps_renewed renewed ended ran;
        only = found_touches found out result same_found writes;
        writes = (renewed, renewed_in_order found old mid new same_found found_in out result writes renewed ended ran);
      },
      ran.spread.gone.stay,
    )
