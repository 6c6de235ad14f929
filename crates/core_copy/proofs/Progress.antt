-- A job's progress with a cell: it begins, goes on by a sector, is left as it was by other calls, and ends.
use Rattle.std.proofs.Common.{◌≡◌, ◌≢◌, ◌⊎◌, inl, inr, ⊎_elim, ℕ, ◌+◌, ◌<◌, ◌≤◌, Bool, true, false, List, Some, Result}
use Rattle.std.proofs.Common.{Ok, refl, sym, ◌∙◌, ap, subst, arith}
use Rattle.std.specs.Prelude.{Contains, IsSome}
use Rattle.std.proofs.lemmas.Bool.{cases_eq}
use Rattle.bank_trait.specs.declared.Failed.{Failed}
use Rattle.bank_trait.specs.Disk.{Disk, Known, Wrote}
use Rattle.reflow_mark.specs.declared.reflow.Reflow.{Reflow}
use Rattle.reflow_mark.specs.Reflow.{sectors_of}
use Rattle.shadow_write.specs.Required.{IsRequiredPlace}
use Rattle.reflow_copier.specs.declared.job.Job.{Job}
use Rattle.reflow_copier.specs.Jobs.{job_begin, job_end, target_of}
use Rattle.uberblock_ring.specs.Devices.{has_device, IsWithin}
use Rattle.core_state.specs.Whole.{Excepted, Cell, RightAt}
use Rattle.core_state.specs.JobTurns.{MayRun, IsCopied}
use Rattle.core_state.proofs.Calls.{true_false}
use Rattle.core_state.proofs.Frames.{IsPlace, other_place}
use Rattle.shadow_write.specs.Band.{IsWidening, IsFrontOf, copied_of}
use Rattle.shadow_write.proofs.Apart.{in_band_once}
use Rattle.shadow_write.proofs.Within.{copied_within, front_stays}
use Rattle.core_copy.specs.Around.{IsClose}
use Rattle.core_copy.specs.Progress.{CopiesSector, HasComeTo, IsPlaceSoFar, IsSource, IsTarget}
use Rattle.core_copy.proofs.Places.{source_required, target_free, targets_once, required_behind}

-- Law: What a job reads of a sector of a cell that is right is the cell.
pub reads_cell : (reflow : Reflow) (done : ℕ) (job : Job) (known : Known) (out : ℕ) (excepted : Excepted) (cell : Cell)
    (device device_sector : ℕ) → IsFrontOf reflow done → MayRun reflow done job → CopiesSector reflow job cell.sector
    → cell.sector < cell.row_end → IsSource reflow job cell.sector device device_sector
    → RightAt known reflow done out excepted cell → has_device out device ≡ false
    → (Contains excepted (cell.sector, (device, device_sector)) → ⊥)
    → known device device_sector ≡ Some cell.bytes
reads_cell reflow done job known out excepted cell device device_sector front may inside below at right =
    right.at device device_sector
    (source_required reflow done job cell.row_end cell.sector device device_sector front may inside below at)

-- A copied cell is read where the job wrote it.
copied_at : (reflow : Reflow) (job : Job) (disk : Disk) (out : ℕ) (excepted : Excepted) (cell : Cell) (device device_sector : ℕ)
    → IsCopied excepted disk out (target_of reflow job cell.sector) cell
    → IsTarget reflow job cell.sector device device_sector
    → has_device out device ≡ false → (Contains excepted (cell.sector, (device, device_sector)) → ⊥)
    → disk.reads device device_sector ≡ Some cell.bytes
copied_at reflow job disk out excepted cell device device_sector copied at in_use not_excepted =
    let spot = target_of reflow job cell.sector in
    subst (λ (d : ℕ). disk.reads d device_sector ≡ Some cell.bytes) (sym at.device_is)
    (subst (λ (x : ℕ). disk.reads spot.1.device x ≡ Some cell.bytes) (sym at.sector_is)
    (copied.there (subst (λ (d : ℕ). has_device out d ≡ false) at.device_is in_use)
    (λ listed. not_excepted (subst (λ (d : ℕ). Contains excepted (cell.sector, (d, device_sector))) (sym at.device_is)
    (subst (λ (x : ℕ). Contains excepted (cell.sector, (spot.1.device, x))) (sym at.sector_is) listed)))))

-- Law: Of a cell outside the sectors that a job has copied no more is asked than that it is right at the front.
pub come_outside : (reflow : Reflow) (done : ℕ) (job : Job) (next : ℕ) (disk : Disk) (out : ℕ) (excepted : Excepted) (cell : Cell)
    → (cell.sector < job_begin job) ⊎ (next ≤ cell.sector) → RightAt disk.reads reflow done out excepted cell
    → HasComeTo reflow done job next disk out excepted cell
come_outside reflow done job next disk out excepted cell outside right = record {
  right = right;
  copied = λ low high. absurd (⊎_elim (λ before. omega (arith, before, low)) (λ behind. omega (arith, behind, high)) outside);
}

-- Law: A job begins where each cell is right at the front, with no sector copied.
pub job_begins : (reflow : Reflow) (done : ℕ) (job : Job) (disk : Disk) (out : ℕ) (excepted : Excepted) (cell : Cell)
    → RightAt disk.reads reflow done out excepted cell
    → HasComeTo reflow done job (job_begin job) disk out excepted cell
job_begins reflow done job disk out excepted cell right =
    record { right = right; copied = λ low high. absurd (omega (arith, low, high)) }

-- A device that is in use now was in use while fewer were out.
pub still_used : (out after device : ℕ) → IsWithin out after → has_device after device ≡ false → has_device out device ≡ false
still_used out after device within in_use = by (has_device out device) refl
  where
    by : (was : Bool) → has_device out device ≡ was → has_device out device ≡ false
    by false is = is
    by true is = absurd (true_false (sym (within device is) ∙ in_use))

-- Law: Other calls leave how far a job has come with a cell, where they leave what is read of it.
pub stays_come : (reflow : Reflow) (done : ℕ) (job : Job) (next : ℕ) (old new : Disk) (out after : ℕ) (excepted : Excepted)
    (cell : Cell) → IsWithin out after
    → ((device device_sector : ℕ) → IsPlaceSoFar reflow done job next cell device device_sector
    → has_device after device ≡ false → new.reads device device_sector ≡ old.reads device device_sector)
    → HasComeTo reflow done job next old out excepted cell
    → HasComeTo reflow done job next new after excepted cell
stays_come reflow done job next old new out after excepted cell within same come = record {
  right = record {
    at = λ d x required in_use not_excepted. same d x (inl required) in_use
        ∙ come.right.at d x required (still_used out after d within in_use) not_excepted;
  };
  copied = λ low high. record {
    there = λ in_use not_excepted. same _ _ (inr (low, high, record { device_is = refl; sector_is = refl })) in_use
        ∙ (come.copied low high).there (still_used out after _ within in_use) not_excepted;
  };
}

-- Law: A device that goes out leaves how far a job has come.
pub stays_out : (reflow : Reflow) (done : ℕ) (job : Job) (next : ℕ) (disk : Disk) (out after : ℕ) (excepted : Excepted) (cell : Cell)
    → IsWithin out after → HasComeTo reflow done job next disk out excepted cell
    → HasComeTo reflow done job next disk after excepted cell
stays_out reflow done job next disk out after excepted cell within come =
    stays_come reflow done job next disk disk out after excepted cell within (λ d x place in_use. refl) come

-- Law: A device that goes out leaves each cell right: fewer places are asked for.
pub stays_right : (known : Known) (reflow : Reflow) (done out after : ℕ) (excepted : Excepted) (cell : Cell) → IsWithin out after
    → RightAt known reflow done out excepted cell → RightAt known reflow done after excepted cell
stays_right known reflow done out after excepted cell within right = record {
  at = λ d x required in_use not_excepted. right.at d x required (still_used out after d within in_use) not_excepted;
}

-- A place that is another's, told where it is.
target_there : (reflow : Reflow) (job : Job) (sector device device_sector d x : ℕ) → IsPlace device device_sector d x
    → IsTarget reflow job sector device device_sector → IsTarget reflow job sector d x
target_there reflow job sector device device_sector d x here at =
    record { device_is = here.0 ∙ at.device_is; sector_is = here.1 ∙ at.sector_is }

-- A write of a job's sector is to no place of a cell so far,
pub target_apart : (reflow : Reflow) (done : ℕ) (job : Job) (sector : ℕ) (cell : Cell) (device device_sector d x : ℕ)
    → IsWidening reflow → IsFrontOf reflow done → MayRun reflow done job → CopiesSector reflow job sector → IsClose reflow cell
    → IsTarget reflow job sector device device_sector → IsPlaceSoFar reflow done job sector cell d x
    → IsPlace device device_sector d x → ⊥
target_apart reflow done job sector cell device device_sector d x widening front may inside close at place here =
    let there : IsTarget reflow job sector d x = target_there reflow job sector device device_sector d x here at in
    ⊎_elim
    (λ required. target_free reflow done job sector cell.row_end cell.sector d x widening front may inside close.near close.inside there required)
    (λ copied. let same = targets_once reflow job cell.sector sector d x copied.2 there in omega (arith, same, copied.1))
    place

-- Law: A write of a job leaves what was right, and what was copied, whether it comes off or not.
pub write_stays : (reflow : Reflow) (done : ℕ) (job : Job) (sector : ℕ) (bytes : List ℕ) (result : Result (Unit {0}) Failed)
    (old new : Disk) (out after : ℕ) (excepted : Excepted) (cell : Cell) (device device_sector : ℕ)
    → IsWidening reflow → IsFrontOf reflow done → MayRun reflow done job → CopiesSector reflow job sector → IsClose reflow cell
    → IsTarget reflow job sector device device_sector → Wrote old new device device_sector bytes result
    → IsWithin out after → HasComeTo reflow done job sector old out excepted cell
    → HasComeTo reflow done job sector new after excepted cell
write_stays reflow done job sector bytes result old new out after excepted cell device device_sector widening front may inside close at wrote within come =
    stays_come reflow done job sector old new out after excepted cell within
    (λ d x place in_use. wrote.others_read d x (other_place device device_sector d x
    (target_apart reflow done job sector cell device device_sector d x widening front may inside close at place)))
    come

-- and where the sector reads right at its target, or its device is out, the job has come past it.
come_past : (reflow : Reflow) (done : ℕ) (job : Job) (sector : ℕ) (disk : Disk) (out : ℕ) (excepted : Excepted) (cell : Cell)
    → (cell.sector ≡ sector → IsCopied excepted disk out (target_of reflow job sector) cell)
    → HasComeTo reflow done job sector disk out excepted cell
    → HasComeTo reflow done job (sector + 1) disk out excepted cell
come_past reflow done job sector disk out excepted cell here come = record {
  right = come.right;
  copied = λ low high. ⊎_elim
      (λ (same : cell.sector ≡ sector). subst (λ (s : ℕ). IsCopied excepted disk out (target_of reflow job s) cell) (sym same) (here same))
      (λ (apart : cell.sector ≢ sector). come.copied low (omega (arith, high, apart)))
      (cases_eq cell.sector sector);
}

-- Law: With the write of a sector the job comes past it.
pub job_goes_on : (reflow : Reflow) (done : ℕ) (job : Job) (sector : ℕ) (bytes : List ℕ) (value : Unit {0}) (old new : Disk)
    (out : ℕ) (excepted : Excepted) (cell : Cell) (device device_sector : ℕ)
    → IsWidening reflow → IsFrontOf reflow done → MayRun reflow done job → CopiesSector reflow job sector → IsClose reflow cell
    → IsTarget reflow job sector device device_sector
    → (cell.sector ≡ sector → (Contains excepted (cell.sector, (device, device_sector)) → ⊥) → bytes ≡ cell.bytes)
    → IsSome (old.reads device device_sector) → Wrote old new device device_sector bytes (Ok value)
    → HasComeTo reflow done job sector old out excepted cell
    → HasComeTo reflow done job (sector + 1) new out excepted cell
job_goes_on reflow done job sector bytes value old new out excepted cell device device_sector widening front may inside close at same told wrote come =
    come_past reflow done job sector new out excepted cell
    (λ is. record {
      there = λ in_use not_excepted. subst (λ (d : ℕ). new.reads d ((target_of reflow job sector).0 + (target_of reflow job sector).1.row) ≡ Some cell.bytes)
          at.device_is (subst (λ (x : ℕ). new.reads device x ≡ Some cell.bytes) at.sector_is
          (wrote.told told ∙ ap (λ (b : List ℕ). Some b) (same is (λ listed. not_excepted
          (subst (λ (d : ℕ). Contains excepted (cell.sector, (d, (target_of reflow job sector).0 + (target_of reflow job sector).1.row))) at.device_is
          (subst (λ (x : ℕ). Contains excepted (cell.sector, (device, x))) at.sector_is listed))))));
    })
    (write_stays reflow done job sector bytes (Ok value) old new out out excepted cell device device_sector widening front may inside close
    at wrote (λ d has. has) come)

-- Law: Where the write fails its device is out, and the job has come past the sector on each device in use.
pub job_fails : (reflow : Reflow) (done : ℕ) (job : Job) (sector : ℕ) (bytes : List ℕ) (result : Result (Unit {0}) Failed)
    (old new : Disk) (out after : ℕ) (excepted : Excepted) (cell : Cell) (device device_sector : ℕ)
    → IsWidening reflow → IsFrontOf reflow done → MayRun reflow done job → CopiesSector reflow job sector → IsClose reflow cell
    → IsTarget reflow job sector device device_sector → Wrote old new device device_sector bytes result
    → IsWithin out after → has_device after device ≡ true
    → HasComeTo reflow done job sector old out excepted cell
    → HasComeTo reflow done job (sector + 1) new after excepted cell
job_fails reflow done job sector bytes result old new out after excepted cell device device_sector widening front may inside close at wrote within gone come =
    come_past reflow done job sector new after excepted cell
    (λ is. record {
      there = λ in_use not_excepted.
          absurd (true_false (sym (subst (λ (d : ℕ). has_device after d ≡ true) at.device_is gone) ∙ in_use));
    })
    (write_stays reflow done job sector bytes result old new out after excepted cell device device_sector widening front may inside close
    at wrote within come)

-- A write of another sector at a place where it is required is to no place of the cell so far.
required_apart : (reflow : Reflow) (done : ℕ) (job : Job) (next row_end other : ℕ) (cell : Cell) (device device_sector d x : ℕ)
    → IsWidening reflow → IsFrontOf reflow done → MayRun reflow done job → next ≤ job_end reflow job → IsClose reflow cell
    → row_end ≤ other + reflow.from → other < sectors_of reflow → other ≢ cell.sector
    → IsRequiredPlace reflow done row_end other device device_sector → IsPlaceSoFar reflow done job next cell d x
    → IsPlace device device_sector d x → ⊥
required_apart reflow done job next row_end other cell device device_sector d x widening front may within close near inside apart required place here =
    let there : IsRequiredPlace reflow done row_end other d x =
    subst (λ (a : ℕ). IsRequiredPlace reflow done row_end other a x) (sym here.0)
    (subst (λ (b : ℕ). IsRequiredPlace reflow done row_end other device b) (sym here.1) required) in
    let stays = front_stays reflow done widening front in
    ⊎_elim
    (λ its. apart (in_band_once reflow (copied_of reflow done) widening (copied_within reflow done front) other cell.sector d x
    (stays row_end other d x near inside there) (stays cell.row_end cell.sector d x close.near close.inside its)))
    (λ copied. target_free reflow done job cell.sector row_end other d x widening front may
    (copied.0, omega (arith, copied.1, within)) near inside copied.2 there)
    place

-- Law: A put's write of another sector, to where that is required, leaves how far a job has come with a cell.
pub put_stays : (reflow : Reflow) (done : ℕ) (job : Job) (next row_end other : ℕ) (bytes : List ℕ) (result : Result (Unit {0}) Failed)
    (old new : Disk) (out after : ℕ) (excepted : Excepted) (cell : Cell) (device device_sector : ℕ)
    → IsWidening reflow → IsFrontOf reflow done → MayRun reflow done job → next ≤ job_end reflow job → IsClose reflow cell
    → row_end ≤ other + reflow.from → other < sectors_of reflow → other ≢ cell.sector
    → IsRequiredPlace reflow done row_end other device device_sector → Wrote old new device device_sector bytes result
    → IsWithin out after → HasComeTo reflow done job next old out excepted cell
    → HasComeTo reflow done job next new after excepted cell
put_stays reflow done job next row_end other bytes result old new out after excepted cell device device_sector widening front may below close near inside apart required wrote within come =
    stays_come reflow done job next old new out after excepted cell within
    (λ d x place in_use. wrote.others_read d x (other_place device device_sector d x
    (required_apart reflow done job next row_end other cell device device_sector d x widening front may below close near inside apart required place)))
    come

-- Law: Copied up to the job's end, each cell is right at the front that the job leaves.
pub job_ends : (reflow : Reflow) (done : ℕ) (job : Job) (disk : Disk) (out : ℕ) (excepted : Excepted) (cell : Cell)
    → MayRun reflow done job → HasComeTo reflow done job (job_end reflow job) disk out excepted cell
    → RightAt disk.reads reflow (job_end reflow job) out excepted cell
job_ends reflow done job disk out excepted cell may come = record {
  at = λ d x required in_use not_excepted. ⊎_elim
      (λ was. come.right.at d x was in_use not_excepted)
      (λ copied. copied_at reflow job disk out excepted cell d x (come.copied copied.0.0 copied.0.1) copied.1 in_use not_excepted)
      (required_behind reflow done job cell.row_end cell.sector d x may required);
}
