-- What an opening promises, from what was found and what was done with it.
use Rattle.std.proofs.Common.{◌≡◌, ◌⊎◌, inl, inr, ⊎_elim, ℕ, ◌+◌, ◌^◌, ◌<◌, ◌≤◌, List, Bool, true, false, Result, Ok}
use Rattle.std.proofs.Common.{Err, refl, sym, ◌∙◌, ap, subst, arith}
use Rattle.std.specs.Prelude.{IfOk, IfErr}
use Rattle.std.proofs.lemmas.Bool.{cases_lt}
use Rattle.bank_trait.specs.Disk.{Image, Disk, Lawful, Later, Unchanged}
use Rattle.bank_trait.specs.Regions.{TouchesOnly}
use Rattle.bank_trait.proofs.Moments.{later_trans}
use Rattle.block_record.specs.declared.entry.IndexEntry.{IndexEntry}
use Rattle.uberblock_ring.specs.Devices.{has_device, count_of, IsWithin}
use Rattle.uberblock_ring.specs.Uberblock.{Uber}
use Rattle.uberblock_ring.specs.Valid.{IsRightUber}
use Rattle.core_state.proofs.Calls.{true_false}
use Rattle.core_state.specs.Committing.{Point, point_of}
use Rattle.core_commit.specs.Spared.{SparesData}
use Rattle.core_commit.proofs.Going.{in_use_before}
use Rattle.core_open.specs.declared.finding.Found.{Found}
use Rattle.core_open.specs.declared.opening.Opened.{Opened}
use Rattle.core_open.specs.declared.why.OpenWhy.{OpenWhy}
use Rattle.core_open.specs.declared.why.OpenWhy.TheVariants as reason
use Rattle.core_open.specs.Candidates.{IsIndexFor}
use Rattle.core_open.specs.Causes.{AreTooMany, AreOutOf, IsOpenCause}
use Rattle.core_open.specs.Failing.{HaveFailed}
use Rattle.core_open.specs.Finding.{IsFoundIn, FitsOpening}
use Rattle.core_open.specs.Holds.{HoldsImage, shape_of}
use Rattle.core_open.specs.Opens.{OpeningKeeps, IsWithinBelow, LeavesBank, LeavesOthers, HasBank, IsOpenedWith}
use Rattle.core_open.specs.Opens.{RenewsChoice, WritesInOrder, StopsSpreading, StopsRenewing, renewed_by}
use Rattle.core_open.specs.Regions.{IsOnBelow}
use Rattle.core_open.specs.OpensFound.{WritesFound, OpensFound}
use Rattle.core_open.proofs.Renewal.{right_with}
use Rattle.core_open.proofs.Unchanged.{unchanged_none, unchanged_then}
use Rattle.core_open.proofs.Others.{found_touches}
use Rattle.core_open.proofs.InOrder.{renewed_in_order}
use Rattle.core_open.proofs.Written.{silent_now, choice, shown_by, limit_caused, many_caused, went_spread, went_renewed}
use Rattle.core_open.proofs.Written.{out_caused, many_gone, missed, keeps_renewed, kept_renewed, cut_spread}
use Rattle.core_open.proofs.Written.{cut_renewed}

within_trans : (one two three : ℕ) → IsWithin one two → IsWithin two three → IsWithin one three
within_trans one two three first next device has = next device (first device has)

-- A device that isn't in a set wasn't in a smaller one.
still : (before after device : ℕ) → IsWithin before after → has_device after device ≡ false
    → has_device before device ≡ false
still before after device within used = by (has_device before device) refl
  where
    by : (b : Bool) → has_device before device ≡ b → has_device before device ≡ false
    by false none = none
    by true gone = absurd (true_false (sym (within device gone) ∙ used))

-- Where no call was made nothing is changed.
nothing_called : (before after : Point) → after ≡ before → Unchanged before.disk after.disk
nothing_called before after none =
    subst (λ (p : Point). Unchanged before.disk p.disk) (sym none) (unchanged_none before.disk)

-- What is known of a pool that was opened.
pub record IsOpen (old new : Disk) (opened : Opened) : Type 0 where
  pub right : IsRightUber opened.uber
  pub index : IsIndexFor opened.uber opened.entries.items
  pub few : count_of opened.out ≤ opened.uber.parity
  pub below : opened.out < 2 ^ opened.uber.reflow.to
  pub bank : HasBank opened.uber opened.out new
  pub group : 3 ≤ opened.uber.group
  pub silent : HaveFailed old new opened.silent
  pub out : AreOutOf old new opened.silent opened.uber opened.out
  pub missed : IsWithinBelow opened.uber.reflow.to opened.silent opened.uber.out
  pub renews : (image : Image) → HoldsImage old image
      → RenewsChoice (shape_of old) opened.silent image opened.uber opened.entries.items
  pub spares : SparesData (point_of opened.out old) (point_of opened.out new)
  pub kept : IsOpenedWith opened.uber opened.entries.items opened.silent opened.out old new
  pub since : OpeningKeeps opened.silent opened.uber.out old new
  pub only : TouchesOnly (IsOnBelow opened.uber.reflow.to) old new
  pub others : LeavesOthers old new
  pub writes : WritesInOrder old new opened.silent opened.uber

-- What is known of a pool that wasn't.
pub record FailsToOpen (old new : Disk) (why : OpenWhy) : Type 0 where
  pub cause : IsOpenCause old new why
  pub untouched : LeavesBank why old new
  pub others : LeavesOthers old new

module _ (found : Found) (old mid new : Disk) (lawful : Lawful old) (same_found : Unchanged old mid)
    (found_in : (image : Image) → HoldsImage old image → IsFoundIn (shape_of old) image found)
    (right : IsRightUber found.uber) (silent_failed : HaveFailed old mid found.silent)
    (fits : FitsOpening mid found) where
  -- An index that fits the chosen uberblock fits the one that renews it.
  index_renewed : (uber : Uber) (out : ℕ) → uber ≡ renewed_by found.uber out
      → IsIndexFor found.uber found.entries.items
      → IsIndexFor uber found.entries.items
  index_renewed uber out is index =
      subst (λ (u : Uber). IsIndexFor u found.entries.items) (sym is) (record {
        index = index.index;
        counted = index.counted;
        fitting = record {
          births = λ k default low. let birth = index.fitting.births k default low in omega (arith, birth);
          below = index.fitting.below;
          apart = index.fitting.apart;
        };
      })

  -- The bank has what the pool needs of it, but for devices that went out.
  bank_renewed : (uber : Uber) (out listed : ℕ) → uber ≡ renewed_by found.uber listed → IsWithin found.out out
      → Later mid new
      → HasBank uber out new
  bank_renewed uber out listed is stay later = record {
    room = (let rows : uber.reflow.rows ≡ found.uber.reflow.rows = ap (λ (u : Uber). u.reflow.rows) is in
        let room = fits.room in let sectors = later.sectors in omega (arith, room, rows, sectors));
    devices = λ device below used.
        let wide : uber.reflow.to ≡ found.uber.reflow.to = ap (λ (u : Uber). u.reflow.to) is in
        let low = fits.devices device (omega (arith, below, wide)) (still found.out out device stay used) in
        let devices = later.devices in omega (arith, low, devices);
  }

  opened_is : (opened : Opened) → IsIndexFor found.uber found.entries.items → OpensFound found mid new (Ok opened)
      → IsOpen old new opened
  opened_is opened index (entries_is, silent_is, writes) =
      let ran = writes.ends.1 in
      let later = later_trans writes.same.goes_on.later
      (later_trans ran.brought.spares.later ran.spread.spares.later) in
      let kept = kept_renewed found old mid new lawful same_found found_in right silent_failed fits later opened.out
      (Ok opened.uber) writes opened.uber writes.ends.0 ran in
      let keeps = keeps_renewed found old mid new lawful same_found found_in right silent_failed fits later opened.out
      (Ok opened.uber) writes opened.uber (Ok writes.ends.0) ran in
      let went = went_renewed found old mid new lawful same_found found_in right silent_failed fits later opened.out
      (Ok opened.uber) writes opened.uber (point_of opened.out new) (Ok writes.ends.0) ran in
      let few = writes.ends.2 in
      let items = ap (λ v. v.items) entries_is in
      let out_is : opened.uber.out ≡ ran.mid.out = ap (λ (u : Uber). u.out) ran.renewed_is in
      let parity : opened.uber.parity ≡ found.uber.parity = ap (λ (u : Uber). u.parity) ran.renewed_is in
      let wide : opened.uber.reflow.to ≡ found.uber.reflow.to = ap (λ (u : Uber). u.reflow.to) ran.renewed_is in
      record {
        right = right_with found.uber opened.uber ran.mid.out right ran.renewed_is writes.limit ran.few;
        index = subst (λ (es : List IndexEntry). IsIndexFor opened.uber es) (sym items)
            (index_renewed opened.uber ran.mid.out ran.renewed_is index);
        few = omega (arith, few, parity);
        below = subst (λ (n : ℕ). opened.out < 2 ^ n) (sym wide) writes.below;
        bank = bank_renewed opened.uber opened.out ran.mid.out ran.renewed_is
            (within_trans found.out writes.asked_out opened.out writes.stay
            (within_trans writes.asked_out ran.mid.out opened.out ran.brought.gone.stay ran.spread.gone.stay)) later;
        group = (let number : opened.uber.group ≡ found.uber.group + 2 = ap (λ (u : Uber). u.group) ran.renewed_is in
            let least = right.group.0 in omega (arith, number, least));
        silent = subst (λ (n : ℕ). HaveFailed old new n) (sym silent_is)
            (silent_now found old mid new lawful same_found found_in right silent_failed fits later);
        out = subst (λ (n : ℕ). AreOutOf old new n opened.uber opened.out) (sym silent_is) (record {
          lists = λ device listed. ran.spread.gone.stay device
              (subst (λ (n : ℕ). has_device n device ≡ true) out_is listed);
          each = λ image holds. record {
            choice = choice found old mid new lawful same_found found_in right silent_failed fits later image holds;
            width_is = sym wide;
            parity_is = sym parity;
            each = λ device has. out_caused found old mid new lawful same_found found_in right silent_failed fits later
                opened.out (Ok opened.uber) writes went image holds device has;
          };
        });
        missed = λ device below gone. subst (λ (n : ℕ). has_device n device ≡ true) (sym out_is)
            (missed found old mid new lawful same_found found_in right silent_failed fits later opened.out
            (Ok opened.uber) writes ran.mid.out ran.brought.gone.stay device (omega (arith, below, wide))
            (subst (λ (n : ℕ). has_device n device ≡ true) silent_is gone));
        renews = λ image holds. subst (λ (n : ℕ). RenewsChoice (shape_of old) n image opened.uber opened.entries.items)
            (sym silent_is)
            (subst (λ (es : List IndexEntry). RenewsChoice (shape_of old) found.silent image opened.uber es) (sym items)
            (record {
              device = found.device;
              chosen = found.uber;
              choice = (found_in image holds).chosen;
              renewed = ran.renewed_is ∙ ap (λ (n : ℕ). renewed_by found.uber n) (sym out_is);
            }));
        writes = subst (λ (n : ℕ). WritesInOrder old new n opened.uber) (sym silent_is)
            (renewed_in_order found old mid new same_found found_in opened.out (Ok opened.uber) writes opened.uber
            (Ok writes.ends.0) ran);
        spares = record {
          later = later_trans same_found.goes_on.later later;
          reads = λ device x used region.
              ran.spread.spares.reads device x used region
              ∙ ran.brought.spares.reads device x
              (in_use_before ran.mid (point_of opened.out new) device ran.spread.gone.stay used) region
              ∙ writes.same.reads device x ∙ same_found.reads device x;
        };
        kept = subst (λ (n : ℕ). IsOpenedWith opened.uber opened.entries.items n opened.out old new) (sym silent_is)
            (subst (λ (es : List IndexEntry). IsOpenedWith opened.uber es found.silent opened.out old new)
            (sym items) kept);
        since = subst (λ (n : ℕ). OpeningKeeps n opened.uber.out old new) (sym silent_is)
            (subst (λ (n : ℕ). OpeningKeeps found.silent n old new) (sym out_is) keeps);
        only = subst (λ (n : ℕ). TouchesOnly (IsOnBelow n) old new) (sym wide)
            (found_touches found opened.out (Ok opened.uber) same_found writes);
        others = inr (λ image holds. (
          shown_by found old mid new lawful same_found found_in right silent_failed fits later image holds,
          found_touches found opened.out (Ok opened.uber) same_found writes,
        ));
      }

  -- Too many went out among the writes.
  refused_writes : (out : ℕ) → WritesFound found mid new out (Err (reason.TooManyFailed out))
      → FailsToOpen old new (reason.TooManyFailed out)
  refused_writes out writes = by writes.ends.2
    where
      by : StopsSpreading found.uber found.entries.items writes.lack_page found.lacks_uber
          (point_of writes.asked_out writes.asked) (point_of out new)
          ⊎ StopsRenewing found.uber found.entries.items writes.lack_page found.lacks_uber
          (point_of writes.asked_out writes.asked) (point_of out new)
          → FailsToOpen old new (reason.TooManyFailed out)
      by (inl stops) =
          let later = later_trans writes.same.goes_on.later stops.brought.spares.later in
          let went = went_spread found old mid new lawful same_found found_in right silent_failed fits later out
          (Err (reason.TooManyFailed out)) writes (point_of out new) (Err stops.why) stops.brought in
          record {
            cause = inr (many_gone found old mid new lawful same_found found_in right silent_failed fits later out
                (Err (reason.TooManyFailed out)) writes went writes.ends.1);
            untouched = ⊎_elim
                (λ many. inl (unchanged_then same_found (unchanged_then writes.same
                (nothing_called (point_of writes.asked_out writes.asked) (point_of out new)
                (stops.brought.stops.none many)))))
                (λ few. inr (cut_spread found old mid new lawful same_found found_in right silent_failed fits later out
                (Err (reason.TooManyFailed out)) writes (Err stops.why) stops.brought))
                (cases_lt found.uber.parity (count_of writes.asked_out));
            others = inr (λ image holds. (
              shown_by found old mid new lawful same_found found_in right silent_failed fits later image holds,
              found_touches found out (Err (reason.TooManyFailed out)) same_found writes,
            ));
          }
      by (inr stops) =
          let later = later_trans writes.same.goes_on.later
          (later_trans stops.ran.brought.spares.later stops.ran.spread.spares.later) in
          let went = went_renewed found old mid new lawful same_found found_in right silent_failed fits later out
          (Err (reason.TooManyFailed out)) writes stops.renewed (point_of out new) (Err stops.why) stops.ran in
          record {
            cause = inr (many_gone found old mid new lawful same_found found_in right silent_failed fits later out
                (Err (reason.TooManyFailed out)) writes went writes.ends.1);
            untouched = inr (cut_renewed found old mid new lawful same_found found_in right silent_failed fits later out
                (Err (reason.TooManyFailed out)) writes stops.renewed (Err stops.why) stops.ran);
            others = inr (λ image holds. (
              shown_by found old mid new lawful same_found found_in right silent_failed fits later image holds,
              found_touches found out (Err (reason.TooManyFailed out)) same_found writes,
            ));
          }

  -- A pool that was not opened.
  pub refused_promises : (why : OpenWhy) → OpensFound found mid new (Err why)
      → FailsToOpen old new why
  refused_promises reason.NotPool refuses = absurd refuses
  refused_promises (reason.Limit group) refuses =
      let same = unchanged_then same_found refuses.0 in
      record {
        cause = limit_caused found old mid new lawful same_found found_in right silent_failed fits
            refuses.0.goes_on.later refuses.1;
        untouched = same;
        others = inl same;
      }
  refused_promises reason.NoMemory refuses =
      let same = unchanged_then same_found refuses in
      record { cause = tt; untouched = same; others = inl same }
  refused_promises (reason.TooManyFailed out) (inl read) = record {
    cause = inr (subst (λ (n : ℕ). (image : Image) → HoldsImage old image → AreTooMany old new image n) (sym read.1)
        (many_caused found old mid new lawful same_found found_in right silent_failed fits read.0.goes_on.later
        (subst (λ (n : ℕ). found.uber.parity < count_of n) read.1 read.2)));
    untouched = inl (unchanged_then same_found read.0);
    others = inl (unchanged_then same_found read.0);
  }
  refused_promises (reason.TooManyFailed out) (inr writes) = refused_writes out writes

  -- Either way.
  pub promises : (result : Result Opened OpenWhy) → IsIndexFor found.uber found.entries.items
      → OpensFound found mid new result
      → IfOk result (IsOpen old new) × IfErr result (FailsToOpen old new)
  promises (Ok opened) index opens = (opened_is opened index opens, tt)
  promises (Err why) index opens = (tt, refused_promises why opens)

-- One of the things that are known.
pub known : {P : Opened → Type 0} {old new : Disk} (result : Result Opened OpenWhy)
    → ((opened : Opened) → IsOpen old new opened → P opened)
    → IfOk result (IsOpen old new)
    → IfOk result P
known (Ok opened) tells told = tells opened told
known (Err why) tells told = tt

pub refused : {P : OpenWhy → Type 0} {old new : Disk} (result : Result Opened OpenWhy)
    → ((why : OpenWhy) → FailsToOpen old new why → P why)
    → IfErr result (FailsToOpen old new)
    → IfErr result P
refused (Ok opened) tells told = tt
refused (Err why) tells told = tells why told

-- The bank goes on to fit what was found.
pub fits_then : (found : Found) (old mid : Disk) → Unchanged old mid → FitsOpening old found
    → FitsOpening mid found
fits_then found old mid same fits = record {
  room = (let room = fits.room in let sectors = same.goes_on.later.sectors in omega (arith, room, sectors));
  devices = λ device below used. let low = fits.devices device below used in
      let devices = same.goes_on.later.devices in omega (arith, low, devices);
  below = fits.below;
  silent = fits.silent;
}

-- What is promised of an opening whose pool was found.
pub opens_promises : {found : Found} {old mid : Disk} (new : Disk) (result : Result Opened OpenWhy) → Lawful old
    → Unchanged old mid
    → ((image : Image) → HoldsImage old image → IsFoundIn (shape_of old) image found)
    → IsRightUber found.uber
    → HaveFailed old mid found.silent
    → FitsOpening old found
    → IsIndexFor found.uber found.entries.items
    → OpensFound found mid new result
    → IfOk result (IsOpen old new) × IfErr result (FailsToOpen old new)
opens_promises {found} {old} {mid} new result lawful same found_in right silent fits index opens =
    promises found old mid new lawful same found_in right silent (fits_then found old mid same fits) result index
    opens

-- However it was refused, an opening that only read leaves the bank.
pub untouched_all : (result : Result Opened OpenWhy) (old new : Disk) → Unchanged old new
    → IfErr result (λ why. LeavesBank why old new)
untouched_all (Ok opened) old new same = tt
untouched_all (Err reason.NotPool) old new same = same
untouched_all (Err (reason.TooManyFailed out)) old new same = inl same
untouched_all (Err (reason.Limit group)) old new same = same
untouched_all (Err reason.NoMemory) old new same = same

-- Either way no other device is touched.
pub others_of : {old new : Disk} (result : Result Opened OpenWhy) → IfOk result (IsOpen old new)
    → IfErr result (FailsToOpen old new)
    → LeavesOthers old new
others_of (Ok opened) opens refuses = opens.others
others_of (Err why) opens refuses = refuses.others
