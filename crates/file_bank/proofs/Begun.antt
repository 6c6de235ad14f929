-- A call on one device, before which syncs of others were begun.
use Rattle.std.proofs.Common.{◌≡◌, inl, inr, ℕ, List, Some, Result, Ok, Err, sym, ◌∙◌}
use Rattle.std.proofs.Common.{ap, subst, arith, ⊎_elim}
use Rattle.std.specs.Prelude.{◌↔◌, Contains, ◌==◌, if◌then◌else◌}
use Rattle.bank_trait.specs.declared.Failed.{Failed}
use Rattle.bank_trait.specs.Causes.{FaultCounted, NoneFailed, counted}
use Rattle.bank_trait.specs.Disk.{Disk, Continues, Synced, Unchanged}
use Rattle.bank_trait.proofs.Moments.{later_trans}
use Rattle.file_bank.specs.Files.{HasFileCause}

pub caused_after : (lacked lacks : Type 0) (before mid now : ℕ) (result : Result (Unit {0}) Failed)
    → (lacks ↔ lacked) → mid ≡ before → HasFileCause lacks mid now result → HasFileCause lacked before now result
caused_after lacked lacks before mid now (Ok done) same at cause = record {
  later = omega (arith, at, cause.later);
  failed = tt;
  refused = λ without. cause.refused (same.1 without);
}
caused_after lacked lacks before mid now (Err e) same at cause = record {
  later = omega (arith, at, cause.later);
  failed = ⊎_elim (λ without. inl (same.0 without)) (λ rose. inr (subst (λ (n : ℕ). FaultCounted n now) at rose))
      cause.failed;
  refused = tt;
}

-- Nothing was changed before, and no call has failed.
module _ (old mid new : Disk) (same : Unchanged old mid) (counts : NoneFailed old.faults mid.faults) where
  still : (e x : ℕ) → mid.leaves mid.clock e x ≡ old.leaves old.clock e x
  still e x = ap (λ (t : ℕ). mid.leaves t e x) same.clock ∙ (same.goes_on.later.past old.clock (omega arith) e x).0

  still_could : (e x : ℕ) → mid.could mid.clock e x ≡ old.could old.clock e x
  still_could e x = ap (λ (t : ℕ). mid.could t e x) same.clock ∙ (same.goes_on.later.past old.clock (omega arith) e x).1

  continued : Continues mid new → Continues old new
  continued next = record {
    later = later_trans same.goes_on.later next.later;
    present = λ t above until e x. next.present t (omega (arith, above, same.clock)) until e x;
  }

  certain : (e x : ℕ) (bytes : List ℕ) → old.leaves old.clock e x ≡ Some bytes
      → mid.leaves mid.clock e x ≡ Some bytes
  certain e x bytes is = still e x ∙ is

  pub synced_after : (d : ℕ) (result : Result (Unit {0}) Failed) → Synced mid new d result → Synced old new d result
  synced_after d (Ok done) synced = record {
    goes_on = continued synced.goes_on;
    failed = tt;
    once = tt;
    well = λ e. synced.well e ∙ counts e;
    durable = λ x. synced.durable x ∙ same.reads d x;
    not_durable = tt;
    reads = λ x. synced.reads x ∙ same.reads d x;
    reads_certain = λ x bytes is. synced.reads_certain x bytes (certain d x bytes is) ∙ same.reads d x;
    others_read = λ e x other. synced.others_read e x other ∙ same.reads e x;
    others_leave = λ e x other. synced.others_leave e x other ∙ still e x;
    could = λ x b has. (
      sym (same.reads d x) ∙ (synced.could x b has).0,
      subst (λ (l : List (List ℕ)). Contains l b) (still_could d x) (synced.could x b has).1,
    );
    kept = λ x b is has. synced.kept x b (same.reads d x ∙ is)
        (subst (λ (l : List (List ℕ)). Contains l b) (sym (still_could d x)) has);
    still_could = tt;
    others_could = λ e x other. synced.others_could e x other ∙ still_could e x;
  }
  synced_after d (Err e) synced = record {
    goes_on = continued synced.goes_on;
    failed = subst (λ (n : ℕ). FaultCounted n (new.faults d)) (counts d) synced.failed;
    once = λ f. synced.once f ∙ ap (λ (n : ℕ). if f == d then counted n else n) (counts f);
    well = tt;
    durable = tt;
    not_durable = λ x. synced.not_durable x ∙ still d x;
    reads = tt;
    reads_certain = λ x bytes is. synced.reads_certain x bytes (certain d x bytes is) ∙ same.reads d x;
    others_read = λ e x other. synced.others_read e x other ∙ same.reads e x;
    others_leave = λ e x other. synced.others_leave e x other ∙ still e x;
    could = tt;
    kept = tt;
    still_could = λ x. synced.still_could x ∙ still_could d x;
    others_could = λ e x other. synced.others_could e x other ∙ still_could e x;
  }
