-- The second half of a commit, and the copies of an opening: an uberblock that images may show is
-- written, and each device synced.
use Rattle.std.proofs.Common.{◌≡◌, ◌≢◌, ◌⊎◌, inl, inr, ⊎_elim, ℕ, ◌+◌, ◌<◌, List, ◌∷◌, true, false, Some, Result, sym}
use Rattle.std.proofs.Common.{◌∙◌, ap, subst, arith, ◌≤◌}
use Rattle.std.proofs.lemmas.Bool.{cases_eq}
use Rattle.bank_trait.specs.declared.Failed.{Failed}
use Rattle.bank_trait.specs.Disk.{Wrote, Synced}
use Rattle.block_record.specs.Page.{page_sectors}
use Rattle.uberblock_ring.specs.Devices.{has_device}
use Rattle.uberblock_ring.specs.Uberblock.{Uber, encoded, slot_of, area_sector}
use Rattle.uberblock_ring.specs.Valid.{IsRightUber, AreAlike}
use Rattle.commit_job.specs.Stages.{device_of}
use Rattle.commit_job.specs.declared.call.CommitCall.{CommitCall}
use Rattle.commit_job.specs.declared.call.CommitCall.TheVariants.{IndexWrite, UberWrite, UberSync}
use Rattle.core_state.specs.Keeps.{Kept, Setting}
use Rattle.core_state.specs.Certain.{SlotOn, IsCertain, Knows, certain}
use Rattle.core_state.specs.Free.{IsSpare}
use Rattle.core_state.specs.Committing.{Among, Point, Called, page_part, IsSealed, Signed}
use Rattle.core_state.proofs.Places.{asks_sector, data_is_no_slot, page_place, slot_low}
use Rattle.core_state.proofs.Frames.{IsPlace, Nowhere}
use Rattle.core_state.proofs.Knowing.{knows_frame, knows_one_more, certain_frame, page_frame}
use Rattle.core_state.proofs.Calls.{true_false, Moves, write_moves, sync_moves, written_read, synced_certain}
use Rattle.core_state.proofs.Calls.{page_known}
use Rattle.core_state.proofs.Laying.{IsPaged, IsPageSpared, page_is_spare}

-- The uberblock is the group's, and may be written over what stands in its slot on a device.
pub record IsSigner (setting : Setting) (first next : Kept) (uber : Uber) : Type 0 where
  pub right : IsRightUber uber
  pub alike : AreAlike uber next.uber
  pub pool_is : uber.pool ≡ setting.pool
  pub reach : next.uber.reflow.to ≤ setting.reach

abbrev pub IsSlotSpared : Setting → Kept → Kept → ℕ → Type 0
IsSlotSpared setting first next device =
    (slot_of next.uber.group ≢ slot_of first.uber.group) ⊎ (has_device setting.failed device ≡ true)

module _ (setting : Setting) (first : Kept) (later : List Kept) (next : Kept) (uber : Uber)
    (paged_first : IsPaged first) (paged : IsPaged next) (signer : IsSigner setting first next uber)
  where
    -- A call of whose places in the page and slot what matters is still to be called for.
    pub signed_frame : (here : ℕ → ℕ → Type 0) (plan : List CommitCall) (before after : Point)
        → Moves here before after → Knows setting first later after.disk
        → IsCertain setting after.disk (first ∷ later) uber
        → ((d : ℕ) → (Among plan (UberWrite d) × Among plan (UberSync d))
        ⊎ (here d (slot_of next.uber.group) → ⊥))
        → ((d part : ℕ) → part < page_sectors next.uber.count → Among plan (IndexWrite d part)
        ⊎ (here d (area_sector next.uber.area + part) → ⊥))
        → ((d : ℕ) → Among plan (UberSync d)
        ⊎ ((part : ℕ) → part < page_sectors next.uber.count
        → here d (area_sector next.uber.area + part) → ⊥))
        → Signed setting first later next uber plan before
        → Signed setting first later next uber plan after
    signed_frame here plan before after moves knows known own_slot own_lay own_seal s = record {
      knows = knows;
      known = known;
      lawful = moves.lawful;
      told = λ d x below in_use low. moves.told d x (s.told d x below (moves.used d in_use).0 low);
      laid = λ d part below in_use low. ⊎_elim (λ left. inl left)
          (λ was. ⊎_elim (λ left. inl left)
          (λ away. inr (moves.frames.reads d (area_sector next.uber.area + part)
          (page_part next part) away (moves.used d in_use).1 was)) (own_lay d part low))
          (s.laid d part below (moves.used d in_use).0 low);
      signed = λ d below in_use. ⊎_elim (λ left. inl left)
          (λ was. ⊎_elim (λ left. inl left.0)
          (λ away. inr (record {
            uber = was.uber;
            right = was.right;
            alike = was.alike;
            shown = moves.frames.reads d (slot_of next.uber.group) (encoded was.uber d) away
                (moves.used d in_use).1 was.shown;
          })) (own_slot d))
          (s.signed d below (moves.used d in_use).0);
      sealed = λ d below in_use. ⊎_elim (λ left. inl left)
          (λ was. ⊎_elim (λ left. inl left.1)
          (λ away. ⊎_elim (λ left. inl left)
          (λ off. inr (
            page_frame here moves.lost before.disk after.disk next d moves.frames off was.0,
            record {
              uber = was.1.uber;
              right = was.1.right;
              alike = was.1.alike;
              shown = moves.frames.stays d (slot_of next.uber.group) (encoded was.1.uber d) away
                  was.1.shown;
            },
          )) (own_seal d)) (own_slot d))
          (s.sealed d below (moves.used d in_use).0);
    }

    -- A call less is to be made, where what it is for is done on the devices in use.
    signed_less : (call : CommitCall) (rest : List CommitCall) (point : Point)
        → ((d part : ℕ) → d < next.uber.reflow.to → has_device point.out d ≡ false
        → part < page_sectors next.uber.count → IndexWrite d part ≡ call
        → point.disk.reads d (area_sector next.uber.area + part) ≡ Some (page_part next part))
        → ((d : ℕ) → d < next.uber.reflow.to → has_device point.out d ≡ false → UberWrite d ≡ call
        → SlotOn point.disk.reads next d)
        → ((d : ℕ) → d < next.uber.reflow.to → has_device point.out d ≡ false → UberSync d ≡ call
        → IsSealed (certain point.disk) next d)
        → Signed setting first later next uber (call ∷ rest) point
        → Signed setting first later next uber rest point
    signed_less call rest point laid signed sealed s = record {
      knows = s.knows;
      known = s.known;
      lawful = s.lawful;
      told = s.told;
      laid = λ d part below in_use low. ⊎_elim
          (λ left. ⊎_elim (λ it. inr (laid d part below in_use low it)) (λ more. inl more) left)
          (λ read. inr read) (s.laid d part below in_use low);
      signed = λ d below in_use. ⊎_elim
          (λ left. ⊎_elim (λ it. inr (signed d below in_use it)) (λ more. inl more) left)
          (λ read. inr read) (s.signed d below in_use);
      sealed = λ d below in_use. ⊎_elim
          (λ left. ⊎_elim (λ it. inr (sealed d below in_use it)) (λ more. inl more) left)
          (λ known. inr known) (s.sealed d below in_use);
    }

    -- A device that is out is passed over.
    pub signed_passed : (call : CommitCall) (rest : List CommitCall) (point : Point)
        → has_device point.out (device_of call) ≡ true
        → Signed setting first later next uber (call ∷ rest) point
        → Signed setting first later next uber rest point
    signed_passed call rest point out s = signed_less call rest point
        (λ d part below in_use low it. absurd (clash d in_use (ap device_of it)))
        (λ d below in_use it. absurd (clash d in_use (ap device_of it)))
        (λ d below in_use it. absurd (clash d in_use (ap device_of it))) s
      where
        clash : (d : ℕ) → has_device point.out d ≡ false → d ≡ device_of call → ⊥
        clash d in_use same = true_false (sym out ∙ subst (λ k. has_device point.out k ≡ false) same in_use)

    -- A copy of a sector of the page is written.
    pub signed_laid : (device part : ℕ) (rest : List CommitCall) (before after : Point)
        (result : Result (Unit {0}) Failed) → device < next.uber.reflow.to
        → part < page_sectors next.uber.count → IsPageSpared setting first next device
        → Among rest (UberSync device) → Called device result before after
        → Wrote before.disk after.disk device (area_sector next.uber.area + part) (page_part next part)
        result
        → Signed setting first later next uber (IndexWrite device part ∷ rest) before
        → Signed setting first later next uber rest after
    signed_laid device part rest before after result below low spared seal called wrote s =
        let here = page_place next.uber part paged.area paged.count low in
        let moves = write_moves device (area_sector next.uber.area + part) (page_part next part) result
        before after called wrote in
        let spare : (d x : ℕ) → IsPlace device (area_sector next.uber.area + part) d x
        → IsSpare setting first later d x =
        λ d x h. subst (λ a. IsSpare setting first later a x) (sym h.0)
        (subst (λ b. IsSpare setting first later device b) (sym h.1)
        (page_is_spare setting first later next device part paged_first paged spared low)) in
        signed_less (IndexWrite device part) rest after
        (λ d k below_d in_use low_k it.
        let same_d : device ≡ d = cc in
        let same_k : part ≡ k = cc in
        subst (λ a. after.disk.reads a (area_sector next.uber.area + k) ≡ Some (page_part next k)) same_d
        (subst (λ b. after.disk.reads device (area_sector next.uber.area + b) ≡ Some (page_part next b)) same_k
        (written_read device (area_sector next.uber.area + part) (page_part next part) result
        before after called wrote (subst (λ a. has_device after.out a ≡ false) (sym same_d) in_use)
        (s.told device (area_sector next.uber.area + part) below called.in_use here.2))))
        (λ d below_d in_use it. absurd (cc)) (λ d below_d in_use it. absurd (cc))
        (signed_frame (IsPlace device (area_sector next.uber.area + part))
        (IndexWrite device part ∷ rest) before after moves
        (knows_frame (IsPlace device (area_sector next.uber.area + part)) moves.lost setting first
        later before.disk after.disk s.lawful moves.frames spare s.knows)
        (certain_frame (IsPlace device (area_sector next.uber.area + part)) moves.lost setting
        before.disk after.disk (first ∷ later) uber moves.frames
        (λ kept d x bytes listed asks h. (spare d x h).cells kept bytes listed asks) s.known)
        (λ d. inr (λ h. let at = h.1 in omega (arith, at, here.0, slot_low next.uber.group)))
        (λ d k low_k. ⊎_elim
        (λ same_d. ⊎_elim (λ same_k. inl (inl (same_call d k same_d same_k)))
        (λ ne. inr (λ h. let at = h.1 in ne (omega (arith, at)))) (cases_eq k part))
        (λ ne. inr (λ h. ne h.0)) (cases_eq d device))
        (λ d. ⊎_elim (λ same. inl (inr (subst (λ a. Among rest (UberSync a)) (sym same) seal)))
        (λ ne. inr (λ k low_k h. ne h.0)) (cases_eq d device)) s)
      where
        same_call : (d k : ℕ) → d ≡ device → k ≡ part → IndexWrite d k ≡ IndexWrite device part
        same_call d k same_d same_k = cc

    -- The uberblock is written.
    pub signed_signed : (device : ℕ) (rest : List CommitCall) (before after : Point)
        (result : Result (Unit {0}) Failed) → device < next.uber.reflow.to
        → IsSlotSpared setting first next device → Among rest (UberSync device)
        → Called device result before after
        → Wrote before.disk after.disk device (slot_of next.uber.group) (encoded uber device) result
        → Signed setting first later next uber (UberWrite device ∷ rest) before
        → Signed setting first later next uber rest after
    signed_signed device rest before after result below spared seal called wrote s =
        let group : uber.group ≡ next.uber.group = ap (λ (u : Uber). u.group) signer.alike in
        let to : uber.reflow.to ≡ next.uber.reflow.to = ap (λ (u : Uber). u.reflow.to) signer.alike in
        let slot : slot_of uber.group ≡ slot_of next.uber.group = ap slot_of group in
        let moves = write_moves device (slot_of next.uber.group) (encoded uber device) result before after
        called wrote in
        let off_page : (k : ℕ) → area_sector next.uber.area + k ≡ slot_of next.uber.group → ⊥ =
        λ k same. omega (arith, same, slot_low next.uber.group) in
        let widths = signer.right.widths in
        signed_less (UberWrite device) rest after
        (λ d part below_d in_use low it. absurd (cc))
        (λ d below_d in_use it. let same : device ≡ d = cc in
        subst (λ a. SlotOn after.disk.reads next a) same (record {
          uber = uber;
          right = signer.right;
          alike = signer.alike;
          shown = written_read device (slot_of next.uber.group) (encoded uber device) result before
              after called wrote (subst (λ a. has_device after.out a ≡ false) (sym same) in_use)
              (s.told device (slot_of next.uber.group) below called.in_use
              (let low = slot_low next.uber.group in omega (arith, low)));
        }))
        (λ d below_d in_use it. absurd (cc))
        (signed_frame (IsPlace device (slot_of next.uber.group)) (UberWrite device ∷ rest) before after
        moves
        (knows_one_more setting first later before.disk after.disk device uber result s.lawful
        (subst (λ k. Wrote before.disk after.disk device k (encoded uber device) result) (sym slot) wrote)
        (let reach = signer.reach in omega (arith, below, reach)) (omega (arith, widths, to, below))
        signer.right signer.pool_is s.known
        (⊎_elim (λ ne. inl (λ same. ne (sym slot ∙ same))) (λ failed. inr failed) spared) s.knows)
        (certain_frame (IsPlace device (slot_of next.uber.group)) moves.lost setting before.disk
        after.disk (first ∷ later) uber moves.frames
        (λ kept d x bytes listed asks h. absurd (data_is_no_slot x (asks_sector kept d x bytes asks)
        (let at = h.1 in omega (arith, at, slot_low next.uber.group)))) s.known)
        (λ d. ⊎_elim
        (λ same. inl (inl (ap (λ k. UberWrite k) same), inr (subst (λ a. Among rest (UberSync a)) (sym same) seal)))
        (λ ne. inr (λ h. ne h.0)) (cases_eq d device))
        (λ d k low. inr (λ h. off_page k h.1)) (λ d. inr (λ k low h. off_page k h.1)) s)

    -- A device is synced, on which page and uberblock are written.
    pub signed_sealed : (device : ℕ) (rest : List CommitCall) (before after : Point)
        (result : Result (Unit {0}) Failed) → device < next.uber.reflow.to
        → (Among rest (UberWrite device) → ⊥)
        → ((part : ℕ) → Among rest (IndexWrite device part) → ⊥) → Called device result before after
        → Synced before.disk after.disk device result
        → Signed setting first later next uber (UberSync device ∷ rest) before
        → Signed setting first later next uber rest after
    signed_sealed device rest before after result below no_write no_lay called synced s =
        let moves = sync_moves device result before after s.lawful called synced in
        signed_less (UberSync device) rest after
        (λ d part below_d in_use low it. absurd (cc)) (λ d below_d in_use it. absurd (cc))
        (λ d below_d in_use it. let same : device ≡ d = cc in
        subst (λ a. IsSealed (certain after.disk) next a) same
        (sealed_now (subst (λ a. has_device after.out a ≡ false) (sym same) in_use)))
        (signed_frame Nowhere (UberSync device ∷ rest) before after moves
        (knows_frame Nowhere moves.lost setting first later before.disk after.disk s.lawful
        moves.frames (λ d x h. absurd h) s.knows)
        (certain_frame Nowhere moves.lost setting before.disk after.disk (first ∷ later) uber
        moves.frames (λ kept d x bytes listed asks h. absurd h) s.known)
        (λ d. inr (λ h. h)) (λ d part low. inr (λ h. h)) (λ d. inr (λ part low h. h)) s)
      where
        slot_read : SlotOn before.disk.reads next device
        slot_read = ⊎_elim (λ left. ⊎_elim (λ it. absurd (cc)) (λ more. absurd (no_write more)) left)
            (λ read. read) (s.signed device below called.in_use)

        sealed_now : has_device after.out device ≡ false → IsSealed (certain after.disk) next device
        sealed_now in_use = (
          page_known (certain after.disk) next device paged.wide (λ part low.
              synced_certain device result before after called synced in_use (area_sector next.uber.area + part)
              ∙ ⊎_elim (λ left. ⊎_elim (λ it. absurd (cc)) (λ more. absurd (no_lay part more)) left)
              (λ read. read) (s.laid device part below called.in_use low)),
          record {
            uber = slot_read.uber;
            right = slot_read.right;
            alike = slot_read.alike;
            shown = synced_certain device result before after called synced in_use
                (slot_of next.uber.group) ∙ slot_read.shown;
          },
        )
