-- How far a device has come that may join, over calls on it and beside it.
use Rattle.std.proofs.Common.{◌≡◌, ◌≢◌, inl, inr, ⊎_elim, ℕ, ◌+◌, ◌<◌, ◌≤◌, List, Some, Result, Ok, Err, sym, ◌∙◌, ap}
use Rattle.std.proofs.Common.{subst, arith}
use Rattle.std.specs.Prelude.{Contains, IsSome}
use Rattle.std.proofs.lemmas.Bool.{cases_eq}
use Rattle.bank_trait.specs.declared.Failed.{Failed}
use Rattle.bank_trait.specs.Disk.{Disk, Synced, Unchanged, Wrote}
use Rattle.bank_trait.specs.Regions.{TouchesOnly}
use Rattle.block_record.specs.declared.entry.IndexEntry.{IndexEntry}
use Rattle.block_record.specs.Page.{page_sectors}
use Rattle.uberblock_ring.specs.Uberblock.{Uber, area_sector, slot_of}
use Rattle.commit_job.specs.declared.call.CommitCall.{CommitCall}
use Rattle.commit_job.specs.declared.call.CommitCall.TheVariants.{IndexWrite, BaseSync, UberWrite, UberSync}
use Rattle.commit_job.specs.Stages.{device_of}
use Rattle.core_state.specs.Keeps.{Kept}
use Rattle.core_state.specs.Committing.{Point, page_part}
use Rattle.core_state.specs.Rings.{IsRingSettled, ReadsNoUber}
use Rattle.core_state.proofs.Laying.{IsPaged}
use Rattle.core_state.proofs.Places.{page_place, slot_low}
use Rattle.core_commit.proofs.Settled.{settled_by_sync}
use Rattle.core_commit.specs.Ran.{MadeOne, index_part}
use Rattle.core_commit.specs.declared.guest.Guest.{Guest}
use Rattle.core_commit.specs.declared.guest.Guest.TheVariants.{Laid, Settled, Lost}
use Rattle.core_commit.specs.JoinTurns.{guest_after}
use Rattle.core_commit.specs.Joining.{GuestSoFar, LeavesHead, ReadsParts}

-- Law: A write on another device leaves a device's head.
pub write_leaves : (device other device_sector : ℕ) (bytes : List ℕ) (result : Result (Unit {0}) Failed)
    (old new : Disk) → other ≢ device → Wrote old new other device_sector bytes result → LeavesHead device old new
write_leaves device other device_sector bytes result old new apart wrote = record {
  reads = λ sector low. wrote.others_read device sector (inl (λ same. apart (sym same)));
  could = λ slot low. wrote.others_could device slot (inl (λ same. apart (sym same)));
}

-- Law: A sync of another device leaves a device's head.
pub sync_leaves : (device other : ℕ) (result : Result (Unit {0}) Failed) (old new : Disk) → other ≢ device
    → Synced old new other result → LeavesHead device old new
sync_leaves device other result old new apart synced = record {
  reads = λ sector low. synced.others_read device sector (λ same. apart (sym same));
  could = λ slot low. synced.others_could device slot (λ same. apart (sym same));
}

-- Law: A read leaves a device's head.
pub read_leaves : (device : ℕ) (old new : Disk) → Unchanged old new → LeavesHead device old new
read_leaves device old new same = record {
  reads = λ sector low. same.reads device sector;
  could = λ slot low. ap (λ (t : ℕ). new.could t device slot) same.clock
      ∙ (same.goes_on.later.past old.clock (omega arith) device slot).1;
}

-- So does a run of calls that touches nothing there but data.
pub touched_leaves : (P : ℕ → ℕ → Type 0) (device : ℕ) (old new : Disk)
    → ((device_sector : ℕ) → device_sector < 192 → P device device_sector → ⊥) → TouchesOnly P old new
    → LeavesHead device old new
touched_leaves P device old new away touched = record {
  reads = λ sector low. touched.reads device sector (away sector low);
  could = λ slot low. (touched.moments new.clock touched.later.clock (omega arith) device slot
      (away slot (omega (arith, low)))).1;
}

-- A call of the pool's commit is on another device.
pub made_leaves : (uber : Uber) (entries : List IndexEntry) (device : ℕ) (call : CommitCall) (before after : Point)
    → device_of call ≢ device → MadeOne uber entries call before after → LeavesHead device before.disk after.disk
made_leaves uber entries device (IndexWrite other part) before after apart made =
    write_leaves device other (area_sector uber.area + part) _ made.result before.disk after.disk apart made.made
made_leaves uber entries device (BaseSync other) before after apart made =
    sync_leaves device other made.result before.disk after.disk apart made.made
made_leaves uber entries device (UberWrite other) before after apart made =
    write_leaves device other (slot_of uber.group) _ made.result before.disk after.disk apart made.made
made_leaves uber entries device (UberSync other) before after apart made =
    sync_leaves device other made.result before.disk after.disk apart made.made

module _ (next : Kept) (paged : IsPaged next) (device : ℕ) (old new : Disk) where
  -- where a sector of the page stands
  low_part : (part : ℕ) → part < page_sectors next.uber.count → area_sector next.uber.area + part < 192
  low_part part low = (page_place next.uber part paged.area paged.count low).2

  blank_same : ((slot : ℕ) → slot < 32 → new.reads device slot ≡ old.reads device slot) → ReadsNoUber old device
      → ReadsNoUber new device
  blank_same same blank = record {
    none = λ uber right is. blank.none uber right (sym (same (slot_of uber.group) (slot_low uber.group)) ∙ is);
  }

  settled_same : LeavesHead device old new → IsRingSettled old device → IsRingSettled new device
  settled_same leaves settled = record {
    only = λ slot bytes low has. leaves.reads slot (omega (arith, low))
        ∙ settled.only slot bytes low (subst (λ (l : List (List ℕ)). Contains l bytes) (leaves.could slot low) has);
  }

  -- Beside calls that leave its head a device stays as far as it has come.
  pub guest_beside : (guest : Guest) → LeavesHead device old new → GuestSoFar old next device guest
      → GuestSoFar new next device guest
  guest_beside (Laid parts) leaves was = record {
    blank = blank_same (λ slot low. leaves.reads slot (omega (arith, low))) was.blank;
    told = λ sector low. subst IsSome (sym (leaves.reads sector low)) (was.told sector low);
    page = λ part below low. leaves.reads (area_sector next.uber.area + part) (low_part part low)
        ∙ was.page part below low;
  }
  guest_beside Settled leaves was = record {
    settled = settled_same leaves was.settled;
    blank = blank_same (λ slot low. leaves.reads slot (omega (arith, low))) was.blank;
    told = λ sector low. subst IsSome (sym (leaves.reads sector low)) (was.told sector low);
    page = λ part low. leaves.reads (area_sector next.uber.area + part) (low_part part low) ∙ was.page part low;
  }
  guest_beside Lost leaves was = tt

  -- A sector of the page was written to it.
  pub guest_written : (part : ℕ) (entries : List IndexEntry) (result : Result (Unit {0}) Failed)
      → part < page_sectors next.uber.count → entries ≡ next.entries
      → Wrote old new device (area_sector next.uber.area + part) (index_part entries part) result
      → ReadsParts old next device part
      → GuestSoFar new next device (guest_after result (Laid (part + 1)))
  guest_written part entries (Err failed) low same wrote was = tt
  guest_written part entries (Ok value) low same wrote was =
      let place = page_place next.uber part paged.area paged.count low in
      let made = subst (λ (es : List IndexEntry). Wrote old new device (area_sector next.uber.area + part)
      (index_part es part) (Ok value)) same wrote in
      record {
        blank = blank_same (λ slot below. made.others_read device slot
            (inr (λ is. absurd (omega (arith, is, below, place.0))))) was.blank;
        told = λ sector below. made.goes_on.later.told device sector (was.told sector below);
        page = λ other below inside. ⊎_elim
            (λ (is : other ≡ part). subst (λ (k : ℕ). new.reads device (area_sector next.uber.area + k)
            ≡ Some (page_part next k)) (sym is) (made.told (was.told (area_sector next.uber.area + part) place.2)))
            (λ (ne : other ≢ part). made.others_read device (area_sector next.uber.area + other)
            (inr (λ is. ne (omega (arith, is))))
            ∙ was.page other (omega (arith, below, ne)) inside)
            (cases_eq other part);
      }

  -- It was synced with all of the page.
  pub guest_settled : (parts : ℕ) (result : Result (Unit {0}) Failed) → page_sectors next.uber.count ≤ parts
      → Synced old new device result → ReadsParts old next device parts
      → GuestSoFar new next device (guest_after result Settled)
  guest_settled parts (Err failed) all synced was = tt
  guest_settled parts (Ok value) all synced was = record {
    settled = settled_by_sync device value old new synced;
    blank = blank_same (λ slot low. synced.reads slot) was.blank;
    told = λ sector low. subst IsSome (sym (synced.reads sector)) (was.told sector low);
    page = λ part low. synced.reads (area_sector next.uber.area + part) ∙ was.page part (omega (arith, low, all)) low;
  }
