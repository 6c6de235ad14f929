-- A group is brought to devices: from what it may begin with to what each device has for certain.
use Rattle.std.proofs.Common.{◌≡◌, ◌⊎◌, inl, inr, ⊎_elim, ℕ, ◌+◌, ◌*◌, ◌<◌, List, [], ◌∷◌, length, Bool, true, false}
use Rattle.std.proofs.Common.{Some, Ok, Err, refl, sym, ◌∙◌, ap, subst, ◌≤◌}
use Rattle.std.specs.Prelude.{All, slice_get}
use Rattle.std.proofs.lemmas.List.{append-nil}
use Rattle.bank_trait.specs.Disk.{Lawful}
use Rattle.block_record.specs.declared.entry.IndexEntry.{IndexEntry}
use Rattle.block_record.specs.Page.{page_sectors, IsIndex, index_page}
use Rattle.block_record.proofs.Sectors.{length-index_page}
use Rattle.uberblock_ring.specs.Devices.{has_device, IsWithin}
use Rattle.uberblock_ring.specs.Uberblock.{Uber, area_sector, slot_of}
use Rattle.uberblock_ring.specs.Valid.{IsRightUber}
use Rattle.commit_job.specs.declared.call.CommitCall.{CommitCall}
use Rattle.commit_job.specs.declared.call.CommitCall.TheVariants.{IndexWrite, BaseSync, UberWrite, UberSync}
use Rattle.commit_job.specs.Stages.{device_of, spread_of, calls_left, after_next}
use Rattle.core_state.specs.Keeps.{Kept, Setting, SameGroup}
use Rattle.core_state.specs.Certain.{SlotOn, certain}
use Rattle.core_state.specs.Committing.{Among, Point, Signed, page_part, IsSealed}
use Rattle.core_state.specs.Moment.{IsRowOf, KeepsSince}
use Rattle.core_state.proofs.Laying.{IsPaged}
use Rattle.core_state.proofs.Signing.{IsSigner, signed_passed, signed_laid, signed_signed, signed_sealed}
use Rattle.core_state.proofs.Since.{since_more, since_now}
use Rattle.core_state.proofs.Widths.{listed_width, width_like}
use Rattle.core_commit.specs.declared.committing.TooManyOut.{TooManyOut}
use Rattle.core_commit.specs.Ran.{MadeOne, Step, Ran, RanBy, IsCallInPool}
use Rattle.core_commit.specs.Spread.{Spread, group_spread, IsInUse, IsSpreadTo, StaysKnown, MaySpread, SpreadKeeps}
use Rattle.core_commit.specs.Spared.{SparesData, HaveGoneOut}
use Rattle.core_commit.proofs.Plans.{by_next, by_none}
use Rattle.core_commit.proofs.Halves.{goes_on, stays_out, sound_paged}
use Rattle.core_commit.proofs.Going.{Went, AreInside, went_all, all_inside, in_use_before}
use Rattle.core_commit.proofs.Spreading.{SpreadDue, SpreadOrdered, spread_ordered, spread_lay, spread_sign, spread_seal}

-- Page and uberblock of a group are those of the same group.
sealed_same : (one other : Kept) (known : ℕ → ℕ → _) (device : ℕ) → SameGroup one other
    → IsSealed known other device
    → IsSealed known one device
sealed_same one other known device same sealed =
    let count : one.uber.count ≡ other.uber.count = ap (λ (u : Uber). u.count) same.alike in
    let area : one.uber.area ≡ other.uber.area = ap (λ (u : Uber). u.area) same.alike in
    let group : one.uber.group ≡ other.uber.group = ap (λ (u : Uber). u.group) same.alike in (
      record {
        parts = sealed.0.parts;
        counted = sealed.0.counted ∙ sym (ap page_sectors count);
        each = λ part bytes is. ap (λ (a : ℕ). known device (64 + 64 * a + part)) area
            ∙ sealed.0.each part bytes is;
        page = sealed.0.page ∙ sym (ap index_page same.entries);
      },
      record {
        uber = sealed.1.uber;
        right = sealed.1.right;
        alike = sealed.1.alike ∙ sym same.alike;
        shown = ap (λ (g : ℕ). known device (slot_of g)) group ∙ sealed.1.shown;
      },
    )

module _ (devices parts lack_page lack_uber : ℕ) where
  spread_next : (out : ℕ) (plan : List CommitCall) (call : CommitCall)
      → slice_get (calls_left out plan) 0 ≡ Some call
      → SpreadOrdered devices parts lack_page lack_uber plan
      → SpreadDue devices parts lack_page lack_uber call (after_next out plan)
      × SpreadOrdered devices parts lack_page lack_uber (after_next out plan)
  spread_next out plan call is =
      by_next (λ plan rest. SpreadOrdered devices parts lack_page lack_uber plan
      → SpreadDue devices parts lack_page lack_uber call rest × SpreadOrdered devices parts lack_page lack_uber rest)
      out call (λ rest ordered. ordered) (λ first plan rest gone is later ordered. later ordered.1) plan is

-- The calls of such a list are to devices and sectors that are there.
spread_inside : (uber : Uber) (lack_page lack_uber : ℕ) (plan : List CommitCall)
    → SpreadOrdered uber.reflow.to (page_sectors uber.count) lack_page lack_uber plan
    → AreInside uber plan
spread_inside uber lack_page lack_uber [] ordered other among = absurd among
spread_inside uber lack_page lack_uber (call ∷ plan) ordered other among = ⊎_elim
    (λ same. subst (IsCallInPool uber) (sym same) (inside call plan ordered.0))
    (λ later. spread_inside uber lack_page lack_uber plan ordered.1 other later) among
  where
    inside : (call : CommitCall) (rest : List CommitCall)
        → SpreadDue uber.reflow.to (page_sectors uber.count) lack_page lack_uber call rest
        → IsCallInPool uber call
    inside (IndexWrite device part) rest due = (due.0, due.1)
    inside (BaseSync device) rest due = absurd due
    inside (UberWrite device) rest due = due.0
    inside (UberSync device) rest due = due.0

pub spread_all_inside : (uber : Uber) (lack_page lack_uber : ℕ) (plan : List CommitCall)
    → plan ≡ spread_of uber.reflow.to uber.count lack_page lack_uber
    → All (IsCallInPool uber) plan
spread_all_inside uber lack_page lack_uber plan is = subst (All (IsCallInPool uber)) (sym is)
    (all_inside uber (spread_of uber.reflow.to uber.count lack_page lack_uber)
    (spread_inside uber lack_page lack_uber (spread_of uber.reflow.to uber.count lack_page lack_uber)
    (spread_ordered uber.reflow.to uber.count lack_page lack_uber)))

module _ (uber : Uber) (entries : List IndexEntry) (lack_page lack_uber : ℕ) (before : Point)
    (right : IsRightUber uber) (index : IsIndex entries) (counted : length entries ≡ uber.count) where
  abbrev devices : ℕ
  devices = uber.reflow.to

  abbrev parts : ℕ
  parts = page_sectors uber.count

  abbrev plan : List CommitCall
  plan = spread_of devices uber.count lack_page lack_uber

  module _ (spread : Spread) (may : MaySpread spread uber entries lack_page lack_uber before)
      (lawful : Lawful before.disk) (groups : List Kept) (time : ℕ)
      (row : IsRowOf groups spread.first spread.later) where
    abbrev made : Kept
    made = group_spread spread uber entries

    abbrev setting : Setting
    setting = spread.setting

    paged_first : IsPaged spread.first
    paged_first = sound_paged setting spread.first may.knows.sound

    paged_made : IsPaged made
    paged_made = record {
      area = right.area;
      count = right.count;
      wide = length-index_page entries index.each ∙ ap (λ (n : ℕ). 512 * page_sectors n) counted;
    }

    made_reach : made.uber.reflow.to ≤ setting.reach
    made_reach = (width_like setting spread.kept made (ap (λ (u : Uber). u.reflow.to) may.same.alike)
        (listed_width setting (spread.first ∷ spread.later) spread.kept may.knows.row.widths may.listed)).most

    signer : IsSigner setting spread.first made uber
    signer = record { right = right; alike = refl; pool_is = may.pool_is; reach = made_reach }

    -- The calls have come so far; devices in use were in use before.
    record HasSpreadSoFar (left : List CommitCall) (point : Point) : Type 0 where
      pub signed : Signed setting spread.first spread.later made uber left point
      pub ordered : SpreadOrdered devices parts lack_page lack_uber left
      pub stay : IsWithin before.out point.out
      pub since : KeepsSince setting groups time point.disk

    begins : KeepsSince setting groups time before.disk → HasSpreadSoFar plan before
    begins since = record {
      signed = record {
        knows = may.knows;
        known = may.known;
        lawful = lawful;
        told = may.told;
        laid = λ device part below in_use low. by_page device part below in_use low (has_device lack_page device) refl;
        signed = λ device below in_use. by_uber device below in_use (has_device lack_uber device) refl;
        sealed = λ device below in_use. inl (spread_seal devices uber.count lack_page lack_uber device below);
      };
      ordered = spread_ordered devices uber.count lack_page lack_uber;
      stay = λ device out. out;
      since = since;
    }
      where
        by_page : (device part : ℕ) → device < devices → has_device before.out device ≡ false → part < parts
            → (b : Bool) → has_device lack_page device ≡ b
            → Among plan (IndexWrite device part)
            ⊎ (before.disk.reads device (area_sector uber.area + part) ≡ Some (page_part made part))
        by_page device part below in_use low true lacks =
            inl (spread_lay devices uber.count lack_page lack_uber device part below lacks low)
        by_page device part below in_use low false has = inr (may.pages device part (below, in_use) has low)

        by_uber : (device : ℕ) → device < devices → has_device before.out device ≡ false → (b : Bool)
            → has_device lack_uber device ≡ b
            → Among plan (UberWrite device) ⊎ SlotOn before.disk.reads made device
        by_uber device below in_use true lacks =
            inl (spread_sign devices uber.count lack_page lack_uber device below lacks)
        by_uber device below in_use false has = inr (may.slots device (below, in_use) has)

    spreads : (call : CommitCall) (rest : List CommitCall) (now after : Point)
        → (device : ℕ) → SpreadDue devices parts lack_page lack_uber call rest
        → MadeOne uber entries call now after → IsWithin before.out now.out
        → Signed setting spread.first spread.later made uber (call ∷ rest) now
        → Signed setting spread.first spread.later made uber rest after
    spreads (IndexWrite device part) rest now after other due made_one stay s =
        signed_laid setting spread.first spread.later made uber paged_first paged_made signer device part rest now
        after made_one.result due.0 due.1
        (may.page_spared device (due.0, in_use_before before now device stay made_one.called.in_use) due.2)
        due.3 made_one.called made_one.made s
    spreads (BaseSync device) rest now after other due made_one stay s = absurd due
    spreads (UberWrite device) rest now after other due made_one stay s =
        signed_signed setting spread.first spread.later made uber paged_first paged_made signer device rest now after
        made_one.result due.0
        (may.slot_spared device (due.0, in_use_before before now device stay made_one.called.in_use) due.1)
        due.2 made_one.called made_one.made s
    spreads (UberSync device) rest now after other due made_one stay s =
        signed_sealed setting spread.first spread.later made uber paged_first paged_made signer device rest now after
        made_one.result due.0 due.1 due.2 made_one.called made_one.made s

    spread_step : (left : List CommitCall) (call : CommitCall) (now after : Point)
        → slice_get (calls_left now.out left) 0 ≡ Some call → MadeOne uber entries call now after
        → HasSpreadSoFar left now
        → HasSpreadSoFar (after_next now.out left) after
    spread_step left call now after is made_one so_far =
        let due = spread_next devices parts lack_page lack_uber now.out left call is so_far.ordered in
        let signed = spreads call (after_next now.out left) now after 0 due.0 made_one so_far.stay
        (by_next (λ plan rest. Signed setting spread.first spread.later made uber plan now
        → Signed setting spread.first spread.later made uber (call ∷ rest) now) now.out call
        (λ rest s. s)
        (λ one plan rest gone is more s. more (signed_passed setting spread.first spread.later made uber paged_first
        paged_made signer one plan now gone s))
        left is so_far.signed) in
        record {
          signed = signed;
          ordered = due.1;
          stay = λ device out. stays device (so_far.stay device out);
          since = since_more setting groups time spread.first spread.later now.disk after.disk row
              (goes_on uber entries call now after made_one) signed.knows so_far.since;
        }
      where
        stays : (device : ℕ) → has_device now.out device ≡ true → has_device after.out device ≡ true
        stays device out = stays_out (device_of call) made_one.result now after made_one.called device out

    spread_run : (steps : List Step) (left : List CommitCall) (now : Point)
        → RanBy uber entries steps plan before left now → KeepsSince setting groups time before.disk
        → HasSpreadSoFar left now
    spread_run [] left now ran since =
        subst (λ (l : List CommitCall). HasSpreadSoFar l now) (sym ran.0)
        (subst (λ (n : Point). HasSpreadSoFar plan n) (sym ran.1) (begins since))
    spread_run (step ∷ steps) left now ran since =
        subst (λ (l : List CommitCall). HasSpreadSoFar l now) (sym ran.4)
        (subst (λ (n : Point). HasSpreadSoFar (after_next step.before.out ran.0) n) (sym ran.5)
        (spread_step ran.0 step.call step.before step.after ran.2 ran.3
        (spread_run steps ran.0 step.before ran.1 since)))

    has_spread : (steps : List Step) (left : List CommitCall) (now : Point)
        → RanBy uber entries steps plan before left now → KeepsSince setting groups time before.disk
        → calls_left now.out left ≡ [] → (device : ℕ) → IsInUse uber now device
        → IsSpreadTo spread uber entries now device
    has_spread steps left now ran since none device in_use =
        let ended = by_none (λ l. Signed setting spread.first spread.later made uber l now) now.out
        (λ call plan gone s. signed_passed setting spread.first spread.later made uber paged_first paged_made signer
        call plan now gone s)
        left none (spread_run steps left now ran since).signed in
        record {
          sealed = sealed_same spread.kept made (certain now.disk) device may.same
              (⊎_elim (λ none_left. absurd none_left) (λ known. known) (ended.sealed device in_use.0 in_use.1));
          page = λ part low. ⊎_elim (λ none_left. absurd none_left) (λ read. read)
              (ended.laid device part in_use.0 in_use.1 low);
        }

  module _ (calls left : List CommitCall) (after : Point) (calls_are : calls ≡ plan)
      (ran : Ran uber entries calls before left after) where
    ran_plan : Ran uber entries plan before left after
    ran_plan = subst (λ (p : List CommitCall). Ran uber entries p before left after) calls_are ran

    went : Went before after
    went = (went_all uber entries right.area right.count ran_plan.0 plan left before after ran_plan.1
        (spread_inside uber lack_page lack_uber plan (spread_ordered devices uber.count lack_page lack_uber))).0

    pub spread_gone : HaveGoneOut before before.out after
    spread_gone = record { earlier = λ device out. out; stay = went.stay; each = went.each }

    pub spread_spares : SparesData before after
    spread_spares = went.spares

    own_row : (spread : Spread) → IsRowOf (spread.first ∷ spread.later) spread.first spread.later
    own_row spread = record { before = []; after = []; row = sym (append-nil (spread.first ∷ spread.later)) }

    module _ (lawful : Lawful before.disk) where
      spread_since : (spread : Spread) (groups : List Kept) (time : ℕ)
          → MaySpread spread uber entries lack_page lack_uber before
          → IsRowOf groups spread.first spread.later → KeepsSince spread.setting groups time before.disk
          → KeepsSince spread.setting groups time after.disk
      spread_since spread groups time may row since =
          (spread_run spread may lawful groups time row ran_plan.0 left after ran_plan.1 since).since

      start : (spread : Spread) → MaySpread spread uber entries lack_page lack_uber before
          → KeepsSince spread.setting (spread.first ∷ spread.later) before.disk.clock before.disk
      start spread may = since_now spread.setting (spread.first ∷ spread.later) spread.first spread.later before.disk
          (own_row spread) may.knows

      spread_stays : (spread : Spread) → MaySpread spread uber entries lack_page lack_uber before
          → StaysKnown spread uber entries after
      spread_stays spread may =
          let signed = (spread_run spread may lawful (spread.first ∷ spread.later) before.disk.clock
          (own_row spread) ran_plan.0 left after ran_plan.1 (start spread may)).signed in
          record { knows = signed.knows; known = signed.known; told = signed.told }

      pub spread_short : (why : TooManyOut) → SpreadKeeps uber entries lack_page lack_uber before after (Err why)
      spread_short why = record { since = spread_since; stays = spread_stays; done = tt }

      pub spread_whole : (value : Unit {0}) → calls_left after.out left ≡ []
          → SpreadKeeps uber entries lack_page lack_uber before after (Ok value)
      spread_whole value none = record {
        since = spread_since;
        stays = spread_stays;
        done = λ spread may device in_use. has_spread spread may lawful (spread.first ∷ spread.later)
            before.disk.clock (own_row spread) ran_plan.0 left after ran_plan.1 (start spread may) none device in_use;
      }
