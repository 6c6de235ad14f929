-- The first half of a commit: the index page is written, then each device synced.
use Rattle.std.proofs.Common.{◌≡◌, ◌≢◌, ◌⊎◌, inl, inr, ⊎_elim, ℕ, ◌+◌, ◌*◌, ◌<◌, ◌≤◌, List, ◌∷◌, length, true, false}
use Rattle.std.proofs.Common.{Some, Result, sym, ◌∙◌, ap, subst, arith}
use Rattle.std.specs.Prelude.{Contains}
use Rattle.std.proofs.lemmas.Bool.{cases_eq}
use Rattle.bank_trait.specs.declared.Failed.{Failed}
use Rattle.bank_trait.specs.Disk.{Wrote, Synced}
use Rattle.block_record.specs.Page.{page_sectors, index_page}
use Rattle.uberblock_ring.specs.Devices.{has_device}
use Rattle.uberblock_ring.specs.Uberblock.{area_sector}
use Rattle.commit_job.specs.Stages.{device_of}
use Rattle.commit_job.specs.declared.call.CommitCall.{CommitCall}
use Rattle.commit_job.specs.declared.call.CommitCall.TheVariants.{IndexWrite, BaseSync}
use Rattle.core_state.specs.Keeps.{Kept, Setting}
use Rattle.core_state.specs.Certain.{Asks, certain}
use Rattle.core_state.specs.Free.{IsSpare}
use Rattle.core_state.specs.Committing.{Among, Point, Called, page_part, HasBase, Unsigned}
use Rattle.core_state.proofs.Places.{asks_sector, data_is_no_page, page_place}
use Rattle.core_state.proofs.Frames.{IsPlace, Nowhere}
use Rattle.core_state.proofs.Knowing.{knows_frame, page_frame, cells_frame, cells_read}
use Rattle.core_state.proofs.Calls.{true_false, Moves, write_moves, sync_moves, written_read, synced_certain}
use Rattle.core_state.proofs.Calls.{page_known}

-- A group's page is in one of the two areas, and not too long.
pub record IsPaged (kept : Kept) : Type 0 where
  pub area : kept.uber.area ≤ 1
  pub count : kept.uber.count ≤ 512
  pub wide : length (index_page kept.entries) ≡ 512 * page_sectors kept.uber.count

-- On this device another group's page may be written: it isn't the first one's, or is not relied on.
abbrev pub IsPageSpared : Setting → Kept → Kept → ℕ → Type 0
IsPageSpared setting first next device =
    (first.uber.area ≢ next.uber.area) ⊎ (has_device setting.failed device ≡ true)

-- A sector of the next page is spare.
pub page_is_spare : (setting : Setting) (first : Kept) (later : List Kept) (next : Kept)
    (device part : ℕ) → IsPaged first → IsPaged next → IsPageSpared setting first next device
    → part < page_sectors next.uber.count
    → IsSpare setting first later device (area_sector next.uber.area + part)
page_is_spare setting first later next device part paged_first paged_next spared low =
    let here = page_place next.uber part paged_next.area paged_next.count low in
    record {
      ring = omega (arith, here.0);
      page = λ below works other other_low same. ⊎_elim
          (λ apart. let there = page_place first.uber other paged_first.area paged_first.count other_low in
          apart (omega (arith, same, here.0, here.1, there.0, there.1, paged_first.area, paged_next.area)))
          (λ failed. true_false (sym failed ∙ works)) spared;
      cells = λ kept bytes listed asks. absurd (data_is_no_page (area_sector next.uber.area + part)
          (asks_sector kept device (area_sector next.uber.area + part) bytes asks) (omega (arith, here.0)) here.2);
    }

module _ (setting : Setting) (first : Kept) (later : List Kept) (next : Kept)
    (paged_first : IsPaged first) (paged : IsPaged next) where
  -- A call that touches spare sectors, none of the next group's blocks, and of its page and synced
  -- bases only what is still to be called for.
  pub unsigned_frame : (here : ℕ → ℕ → Type 0) (plan : List CommitCall) (before after : Point)
      → Moves here before after
      → ((d x : ℕ) → here d x → IsSpare setting first later d x)
      → ((d x : ℕ) (bytes : List ℕ) → here d x → (asks : Asks next d x bytes)
      → Contains next.excepted (asks.cell.sector, (d, x)))
      → ((d part : ℕ) → part < page_sectors next.uber.count → Among plan (IndexWrite d part)
      ⊎ (here d (area_sector next.uber.area + part) → ⊥))
      → ((d : ℕ) → Among plan (BaseSync d)
      ⊎ ((part : ℕ) → part < page_sectors next.uber.count
      → here d (area_sector next.uber.area + part) → ⊥))
      → Unsigned setting first later next plan before
      → Unsigned setting first later next plan after
  unsigned_frame here plan before after moves spare unasked own_lay own_settle u = record {
    knows = knows_frame here moves.lost setting first later before.disk after.disk u.lawful
        moves.frames spare u.knows;
    lawful = moves.lawful;
    told = λ d x below in_use low. moves.told d x (u.told d x below (moves.used d in_use).0 low);
    cells = λ d below in_use. cells_read here moves.lost before.disk after.disk next d
        moves.frames (moves.used d in_use).1 (λ x bytes asks h. unasked d x bytes h asks)
        (u.cells d below (moves.used d in_use).0);
    laid = λ d part below in_use low. ⊎_elim (λ left. inl left)
        (λ was. ⊎_elim (λ left. inl left)
        (λ away. inr (moves.frames.reads d (area_sector next.uber.area + part)
        (page_part next part) away (moves.used d in_use).1 was)) (own_lay d part low))
        (u.laid d part below (moves.used d in_use).0 low);
    settled = λ d below in_use. ⊎_elim (λ left. inl left)
        (λ was. ⊎_elim (λ left. inl left)
        (λ away. inr (
          page_frame here moves.lost before.disk after.disk next d moves.frames away was.0,
          cells_frame here moves.lost before.disk after.disk next d moves.frames
              (λ x bytes asks h. unasked d x bytes h asks) was.1,
        )) (own_settle d))
        (u.settled d below (moves.used d in_use).0);
  }

  -- A call less is to be made, where what it is for is done on the devices in use.
  unsigned_less : (call : CommitCall) (rest : List CommitCall) (point : Point)
      → ((d part : ℕ) → d < next.uber.reflow.to → has_device point.out d ≡ false
      → part < page_sectors next.uber.count → IndexWrite d part ≡ call
      → point.disk.reads d (area_sector next.uber.area + part) ≡ Some (page_part next part))
      → ((d : ℕ) → d < next.uber.reflow.to → has_device point.out d ≡ false → BaseSync d ≡ call
      → HasBase setting (certain point.disk) next d)
      → Unsigned setting first later next (call ∷ rest) point
      → Unsigned setting first later next rest point
  unsigned_less call rest point laid settled u = record {
    knows = u.knows;
    lawful = u.lawful;
    told = u.told;
    cells = u.cells;
    laid = λ d part below in_use low. ⊎_elim
        (λ left. ⊎_elim (λ it. inr (laid d part below in_use low it)) (λ more. inl more) left)
        (λ read. inr read) (u.laid d part below in_use low);
    settled = λ d below in_use. ⊎_elim
        (λ left. ⊎_elim (λ it. inr (settled d below in_use it)) (λ more. inl more) left)
        (λ known. inr known) (u.settled d below in_use);
  }

  -- A device that is out is passed over.
  pub unsigned_passed : (call : CommitCall) (rest : List CommitCall) (point : Point)
      → has_device point.out (device_of call) ≡ true
      → Unsigned setting first later next (call ∷ rest) point
      → Unsigned setting first later next rest point
  unsigned_passed call rest point out u = unsigned_less call rest point
      (λ d part below in_use low it. absurd (clash d in_use (ap device_of it)))
      (λ d below in_use it. absurd (clash d in_use (ap device_of it))) u
    where
      clash : (d : ℕ) → has_device point.out d ≡ false → d ≡ device_of call → ⊥
      clash d in_use same = true_false (sym out ∙ subst (λ k. has_device point.out k ≡ false) same in_use)

  -- A sector of the page is written.
  pub unsigned_laid : (device part : ℕ) (rest : List CommitCall) (before after : Point)
      (result : Result (Unit {0}) Failed) → device < next.uber.reflow.to
      → part < page_sectors next.uber.count → first.uber.area ≢ next.uber.area
      → Among rest (BaseSync device) → Called device result before after
      → Wrote before.disk after.disk device (area_sector next.uber.area + part) (page_part next part)
      result
      → Unsigned setting first later next (IndexWrite device part ∷ rest) before
      → Unsigned setting first later next rest after
  unsigned_laid device part rest before after result below low apart settle called wrote u =
      let here = page_place next.uber part paged.area paged.count low in
      unsigned_less (IndexWrite device part) rest after
      (λ d k below_d in_use low_k it.
      let same_d : device ≡ d = cc in
      let same_k : part ≡ k = cc in
      subst (λ a. after.disk.reads a (area_sector next.uber.area + k) ≡ Some (page_part next k)) same_d
      (subst (λ b. after.disk.reads device (area_sector next.uber.area + b) ≡ Some (page_part next b)) same_k
      (written_read device (area_sector next.uber.area + part) (page_part next part) result
      before after called wrote (subst (λ a. has_device after.out a ≡ false) (sym same_d) in_use)
      (u.told device (area_sector next.uber.area + part) below called.in_use here.2))))
      (λ d below_d in_use it. absurd (cc))
      (unsigned_frame (IsPlace device (area_sector next.uber.area + part))
      (IndexWrite device part ∷ rest) before after
      (write_moves device (area_sector next.uber.area + part) (page_part next part) result before
      after called wrote)
      (λ d x h. subst (λ a. IsSpare setting first later a x) (sym h.0)
      (subst (λ b. IsSpare setting first later device b) (sym h.1) (page_is_spare setting first later next device part
      paged_first paged (inl apart) low)))
      (λ d x bytes h asks. absurd (let at = h.1 in data_is_no_page x (asks_sector next d x bytes asks)
      (omega (arith, at, here.0)) (omega (arith, at, here.2))))
      (λ d k low_k. ⊎_elim
      (λ same_d. ⊎_elim (λ same_k. inl (inl (same_call d k same_d same_k)))
      (λ ne. inr (λ h. let at = h.1 in ne (omega (arith, at)))) (cases_eq k part))
      (λ ne. inr (λ h. ne h.0)) (cases_eq d device))
      (λ d. ⊎_elim (λ same. inl (inr (subst (λ a. Among rest (BaseSync a)) (sym same) settle)))
      (λ ne. inr (λ k low_k h. ne h.0)) (cases_eq d device)) u)
    where
      same_call : (d k : ℕ) → d ≡ device → k ≡ part → IndexWrite d k ≡ IndexWrite device part
      same_call d k same_d same_k = cc

  -- A device is synced, all of whose page is written.
  pub unsigned_settled : (device : ℕ) (rest : List CommitCall) (before after : Point)
      (result : Result (Unit {0}) Failed) → device < next.uber.reflow.to
      → ((part : ℕ) → Among rest (IndexWrite device part) → ⊥) → Called device result before after
      → Synced before.disk after.disk device result
      → Unsigned setting first later next (BaseSync device ∷ rest) before
      → Unsigned setting first later next rest after
  unsigned_settled device rest before after result below none called synced u =
      unsigned_less (BaseSync device) rest after
      (λ d part below_d in_use low it. absurd (cc))
      (λ d below_d in_use it. let same : device ≡ d = cc in
      subst (λ a. HasBase setting (certain after.disk) next a) same
      (base (subst (λ a. has_device after.out a ≡ false) (sym same) in_use)))
      (unsigned_frame Nowhere (BaseSync device ∷ rest) before after
      (sync_moves device result before after u.lawful called synced)
      (λ d x h. absurd h) (λ d x bytes h asks. absurd h) (λ d part low. inr (λ h. h))
      (λ d. inr (λ part low h. h)) u)
    where
      base : has_device after.out device ≡ false → HasBase setting (certain after.disk) next device
      base in_use = (
        page_known (certain after.disk) next device paged.wide (λ part low.
            synced_certain device result before after called synced in_use (area_sector next.uber.area + part)
            ∙ ⊎_elim
            (λ left. ⊎_elim (λ it. absurd (cc)) (λ more. absurd (none part more)) left)
            (λ read. read) (u.laid device part below called.in_use low)),
        record {
          at = λ x bytes asks not_odd.
              synced_certain device result before after called synced in_use x
              ∙ (u.cells device below called.in_use).at x bytes asks not_odd;
        },
      )
