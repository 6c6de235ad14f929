-- What the two halves of a commit keep, call by call.
use Rattle.std.proofs.Common.{◌≡◌, ◌≢◌, inl, ℕ, ◌*◌, ◌<◌, List, [], ◌∷◌, Bool, true, false, Some, Result, sym, ◌∙◌, ap}
use Rattle.std.proofs.Common.{subst, arith}
use Rattle.std.specs.Prelude.{slice_get, ◌||◌}
use Rattle.bank_trait.specs.declared.Failed.{Failed}
use Rattle.bank_trait.specs.Disk.{Continues, Wrote}
use Rattle.block_record.specs.declared.entry.IndexEntry.{IndexEntry}
use Rattle.block_record.specs.Page.{page_sectors}
use Rattle.block_record.proofs.Sectors.{length-index_page}
use Rattle.uberblock_ring.specs.Devices.{has_device, IsWithin}
use Rattle.uberblock_ring.specs.Uberblock.{Uber, encoded, slot_of}
use Rattle.commit_job.specs.declared.call.CommitCall.{CommitCall}
use Rattle.commit_job.specs.declared.call.CommitCall.TheVariants.{IndexWrite, BaseSync, UberWrite, UberSync}
use Rattle.commit_job.specs.Stages.{device_of, calls_left, after_next}
use Rattle.core_state.specs.Keeps.{Kept, Setting}
use Rattle.core_state.specs.Certain.{IsSound}
use Rattle.core_state.specs.Committing.{Among, Point, Called, lost_by, Unsigned, Signed}
use Rattle.core_state.specs.Moment.{IsRowOf, KeepsSince}
use Rattle.core_state.proofs.Calls.{true_false}
use Rattle.core_state.proofs.Laying.{IsPaged, unsigned_passed, unsigned_laid, unsigned_settled}
use Rattle.core_state.proofs.Signing.{IsSigner, signed_passed, signed_signed, signed_sealed}
use Rattle.core_state.proofs.Since.{since_more}
use Rattle.core_commit.specs.Ran.{MadeOne, IsLaying}
use Rattle.core_commit.specs.Ordered.{Due, Ordered}
use Rattle.core_commit.proofs.Running.{next_is}
use Rattle.core_commit.proofs.Plans.{by_next, by_none, next_among, rest_among, next_due, signing_stays}

-- Each call goes on in time.
pub goes_on : (uber : Uber) (entries : List IndexEntry) (call : CommitCall) (before after : Point)
    → MadeOne uber entries call before after
    → Continues before.disk after.disk
goes_on uber entries (IndexWrite device part) before after made = made.made.goes_on
goes_on uber entries (BaseSync device) before after made = made.made.goes_on
goes_on uber entries (UberWrite device) before after made = made.made.goes_on
goes_on uber entries (UberSync device) before after made = made.made.goes_on

-- A device that is out stays out.
pub stays_out : (device : ℕ) (result : Result (Unit {0}) Failed) (before after : Point)
    → Called device result before after
    → IsWithin before.out after.out
stays_out device result before after called other out =
    called.out other ∙ ap (λ (b : Bool). b || lost_by device result other) out

-- The next call is made on a device in use.
pub next_in_use : (out : ℕ) (plan : List CommitCall) (call : CommitCall)
    → slice_get (calls_left out plan) 0 ≡ Some call
    → has_device out (device_of call) ≡ false
next_in_use out plan call is = (next_is (λ c. Unit {0}) out plan call (λ k d low. tt) is).in_use

-- A sound group's page has its area, and whole sectors.
pub sound_paged : (setting : Setting) (kept : Kept) → IsSound setting kept → IsPaged kept
sound_paged setting kept sound =
    let area : sound.uber.area ≡ kept.uber.area = ap (λ (u : Uber). u.area) sound.alike in
    let count : sound.uber.count ≡ kept.uber.count = ap (λ (u : Uber). u.count) sound.alike in
    let right = sound.right in
    record {
      area = omega (arith, right.area, area);
      count = omega (arith, right.count, count);
      wide = length-index_page kept.entries sound.index.each
          ∙ ap (λ (n : ℕ). 512 * page_sectors n) sound.counted;
    }

module _ (setting : Setting) (groups : List Kept) (time : ℕ) (first : Kept) (later : List Kept)
    (next : Kept) (paged_first : IsPaged first) (paged : IsPaged next)
    (apart : first.uber.area ≢ next.uber.area) (row : IsRowOf groups first later) where
  abbrev devices : ℕ
  devices = next.uber.reflow.to

  abbrev parts : ℕ
  parts = page_sectors next.uber.count

  -- The first half has come so far.
  pub record HasLaid (plan : List CommitCall) (point : Point) : Type 0 where
    pub unsigned : Unsigned setting first later next plan point
    pub ordered : Ordered devices parts plan
    pub unsaid : (device : ℕ) → device < devices
        → Among plan (UberWrite device) × Among plan (UberSync device)
    pub since : KeepsSince setting groups time point.disk

  -- One call of the first half.
  lays : (call : CommitCall) (rest : List CommitCall) (before after : Point) → IsLaying call
      → Due devices parts call rest → MadeOne next.uber next.entries call before after
      → Unsigned setting first later next (call ∷ rest) before
      → Unsigned setting first later next rest after
  lays (IndexWrite device part) rest before after laying due made u =
      unsigned_laid setting first later next paged_first paged device part rest before after made.result
      due.0 due.1 apart due.2 made.called made.made u
  lays (BaseSync device) rest before after laying due made u =
      unsigned_settled setting first later next paged_first paged device rest before after made.result
      due.0 due.1 made.called made.made u
  lays (UberWrite device) rest before after laying due made u = absurd (laying tt)
  lays (UberSync device) rest before after laying due made u = absurd (laying tt)

  pub lays_next : (plan : List CommitCall) (call : CommitCall) (before after : Point) → IsLaying call
      → slice_get (calls_left before.out plan) 0 ≡ Some call
      → MadeOne next.uber next.entries call before after → HasLaid plan before
      → HasLaid (after_next before.out plan) after
  lays_next plan call before after laying is made so_far =
      let due = next_due devices parts before.out plan call is so_far.ordered in
      let unsigned = lays call (after_next before.out plan) before after laying due.0 made
      (by_next (λ plan rest. Unsigned setting first later next plan before
      → Unsigned setting first later next (call ∷ rest) before) before.out call
      (λ rest u. u)
      (λ one plan rest gone is more u. more (unsigned_passed setting first later next paged_first paged one plan
      before gone u))
      plan is so_far.unsigned) in
      record {
        unsigned = unsigned;
        ordered = due.1;
        unsaid = λ device below. (
          signing_stays devices parts before.out plan call (UberWrite device) is laying tt so_far.ordered
              (so_far.unsaid device below).0,
          signing_stays devices parts before.out plan call (UberSync device) is laying tt so_far.ordered
              (so_far.unsaid device below).1,
        );
        since = since_more setting groups time first later before.disk after.disk row
            (goes_on next.uber next.entries call before after made) unsigned.knows so_far.since;
      }

module _ (setting : Setting) (groups : List Kept) (time : ℕ) (first : Kept) (later : List Kept)
    (next : Kept) (uber : Uber) (paged_first : IsPaged first) (paged : IsPaged next)
    (signer : IsSigner setting first next uber)
    (slots : slot_of next.uber.group ≢ slot_of first.uber.group)
    (same_group : uber.group ≡ next.uber.group) (row : IsRowOf groups first later) where
  abbrev devices_signed : ℕ
  devices_signed = next.uber.reflow.to

  abbrev parts_signed : ℕ
  parts_signed = page_sectors next.uber.count

  -- The second half has come so far.
  pub record HasSigned (plan : List CommitCall) (point : Point) : Type 0 where
    pub signed : Signed setting first later next uber plan point
    pub ordered : Ordered devices_signed parts_signed plan
    pub spent : (call : CommitCall) → Among plan call → IsLaying call
        → has_device point.out (device_of call) ≡ true
    pub since : KeepsSince setting groups time point.disk

  signs : (call : CommitCall) (rest : List CommitCall) (before after : Point) → (IsLaying call → ⊥)
      → Due devices_signed parts_signed call rest → MadeOne uber next.entries call before after
      → Signed setting first later next uber (call ∷ rest) before
      → Signed setting first later next uber rest after
  signs (IndexWrite device part) rest before after signing due made s = absurd (signing (λ is. is))
  signs (BaseSync device) rest before after signing due made s = absurd (signing (λ is. is))
  signs (UberWrite device) rest before after signing due made s =
      signed_signed setting first later next uber paged_first paged signer device rest before after
      made.result due.0 (inl slots) due.1 made.called
      (subst (λ (slot : ℕ). Wrote before.disk after.disk device slot (encoded uber device) made.result)
      (ap slot_of same_group) made.made) s
  signs (UberSync device) rest before after signing due made s =
      signed_sealed setting first later next uber paged_first paged signer device rest before after
      made.result due.0 due.1 (λ part. due.2 device part) made.called made.made s

  pub signs_next : (plan : List CommitCall) (call : CommitCall) (before after : Point)
      → slice_get (calls_left before.out plan) 0 ≡ Some call
      → MadeOne uber next.entries call before after → HasSigned plan before
      → HasSigned (after_next before.out plan) after
  signs_next plan call before after is made so_far =
      let due = next_due devices_signed parts_signed before.out plan call is so_far.ordered in
      let signed = signs call (after_next before.out plan) before after
      (λ laying. true_false (sym (so_far.spent call (next_among before.out plan call is) laying)
      ∙ next_in_use before.out plan call is))
      due.0 made
      (by_next (λ plan rest. Signed setting first later next uber plan before
      → Signed setting first later next uber (call ∷ rest) before) before.out call
      (λ rest s. s)
      (λ one plan rest gone is more s. more (signed_passed setting first later next uber paged_first paged signer
      one plan before gone s))
      plan is so_far.signed) in
      record {
        signed = signed;
        ordered = due.1;
        spent = λ other among laying. stays_out (device_of call) made.result before after made.called
            (device_of other) (so_far.spent other (rest_among before.out plan call other is among) laying);
        since = since_more setting groups time first later before.disk after.disk row
            (goes_on uber next.entries call before after made) signed.knows so_far.since;
      }

  -- Where none is left but on devices that are out, none is left.
  pub signs_end : (plan : List CommitCall) (point : Point) → calls_left point.out plan ≡ []
      → Signed setting first later next uber plan point
      → Signed setting first later next uber [] point
  signs_end plan point none s = by_none (λ plan. Signed setting first later next uber plan point) point.out
      (λ call plan gone s. signed_passed setting first later next uber paged_first paged signer call plan point gone s)
      plan none s
