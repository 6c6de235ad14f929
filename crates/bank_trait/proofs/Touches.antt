-- Which sectors a run of calls touches.
use Rattle.std.proofs.Common.{◌≡◌, inl, inr, ⊎_elim, ℕ, ◌≤◌, List, Result, refl, sym, ◌∙◌, ap, subst, arith}
use Rattle.std.proofs.lemmas.Bool.{cases_eq, cases_lt}
use Rattle.bank_trait.specs.declared.Failed.{Failed}
use Rattle.bank_trait.specs.Disk.{Disk, Lawful, Later, Continues, Other, Wrote, Synced}
use Rattle.bank_trait.specs.Regions.{Tells, TouchesOnly}
use Rattle.bank_trait.proofs.Moments.{later_refl, later_trans, left_cases, left_now, left_last, now_left, before_write}
use Rattle.bank_trait.proofs.Moments.{before_sync}

-- At each moment of one call a sector is as it is after it, or as it was before.
call_moments : {old new : Disk} → Continues old new → (d x : ℕ)
    → new.leaves new.clock d x ≡ old.leaves old.clock d x
    → new.could new.clock d x ≡ old.could old.clock d x
    → (t : ℕ) → old.clock ≤ t → t ≤ new.clock
    → (new.leaves t d x ≡ old.leaves old.clock d x) × (new.could t d x ≡ old.could old.clock d x)
call_moments {old = old} {new = new} one d x leaves could t low high = ⊎_elim
    (λ after. ((one.present t after high d x).0 ∙ leaves, (one.present t after high d x).1 ∙ could))
    (λ early. let same : t ≡ old.clock = omega (arith, early, low) in (
      (one.later.past t early d x).0 ∙ ap (λ s. old.leaves s d x) same,
      (one.later.past t early d x).1 ∙ ap (λ s. old.could s d x) same,
    ))
    (cases_lt old.clock t)

-- no call
pub touches_none : (P : ℕ → ℕ → Type 0) (disk : Disk) → TouchesOnly P disk disk
touches_none P disk = record {
  later = later_refl disk;
  reads = λ d x not_p. refl;
  leaves = λ d x not_p. refl;
  crash = λ image left. (image, left_now image left, λ d x not_p. refl);
  moments = λ t low high d x not_p. let same : t ≡ disk.clock = omega (arith, low, high) in
      (ap (λ s. disk.leaves s d x) same, ap (λ s. disk.could s d x) same);
}

-- calls that touch one region, then calls that touch another
pub touches_then : (P Q R : ℕ → ℕ → Type 0) {old mid new : Disk} → ((d x : ℕ) → P d x → R d x)
    → ((d x : ℕ) → Q d x → R d x) → TouchesOnly P old mid → TouchesOnly Q mid new
    → TouchesOnly R old new
touches_then P Q R {old = old} {mid = mid} {new = new} from_p from_q first next = record {
  later = later_trans first.later next.later;
  reads = λ d x not_r.
      next.reads d x (λ q. not_r (from_q d x q)) ∙ first.reads d x (λ p. not_r (from_p d x p));
  leaves = λ d x not_r.
      next.leaves d x (λ q. not_r (from_q d x q)) ∙ first.leaves d x (λ p. not_r (from_p d x p));
  crash = λ image left. ⊎_elim
      (λ early. let was = first.crash image early in
      (was.0, was.1, λ d x not_r. was.2 d x (λ p. not_r (from_p d x p))))
      (λ late. let between = next.crash image late in
      let was = first.crash between.0 (now_left old.clock mid between.0 first.later.clock between.1) in (
        was.0,
        was.1,
        λ d x not_r.
            between.2 d x (λ q. not_r (from_q d x q)) ∙ was.2 d x (λ p. not_r (from_p d x p)),
      ))
      (left_cases old image next.later left);
  moments = λ t low high d x not_r.
      let before = first.moments mid.clock first.later.clock (omega arith) d x
      (λ p. not_r (from_p d x p)) in
      ⊎_elim
      (λ late. let after = next.moments t (omega (arith, late)) high d x (λ q. not_r (from_q d x q)) in
      (after.0 ∙ before.0, after.1 ∙ before.1))
      (λ early. let past = next.later.past t early d x in
      let so_far = first.moments t low early d x (λ p. not_r (from_p d x p)) in
      (past.0 ∙ so_far.0, past.1 ∙ so_far.1))
      (cases_lt mid.clock t);
}

-- A place outside a region is another than one in it.
pub other_than : (P : ℕ → ℕ → Type 0) (d x e y : ℕ) → P d x → (P e y → ⊥) → Other d x e y
other_than P d x e y here not_p = ⊎_elim
    (λ same_d. ⊎_elim
    (λ same_x. absurd (not_p (subst (λ k. P k y) (sym same_d) (subst (λ k. P d k) (sym same_x) here))))
    (λ ne. inr ne) (cases_eq y x))
    (λ ne. inl ne) (cases_eq e d)

pub wrote_touches : (P : ℕ → ℕ → Type 0) {old new : Disk} {d x : ℕ} {bytes : List ℕ}
    {result : Result (Unit {0}) Failed} → P d x → Wrote old new d x bytes result
    → TouchesOnly P old new
wrote_touches P {d = d} {x = x} here wrote = record {
  later = wrote.goes_on.later;
  reads = λ e y not_p. wrote.others_read e y (other_than P d x e y here not_p);
  leaves = λ e y not_p. wrote.others_leave e y (other_than P d x e y here not_p);
  crash = λ image left. ⊎_elim
      (λ early. (image, early, λ e y not_p. refl))
      (λ now. let was = before_write wrote image now in
      (was.0, was.1, λ e y not_p. was.2 e y (other_than P d x e y here not_p)))
      (left_last image wrote.goes_on left);
  moments = λ t low high e y not_p. let other = other_than P d x e y here not_p in
      call_moments wrote.goes_on e y (wrote.others_leave e y other) (wrote.others_could e y other)
      t low high;
}

pub synced_touches : (P : ℕ → ℕ → Type 0) {old new : Disk} {d : ℕ}
    {result : Result (Unit {0}) Failed} → ((x : ℕ) → P d x) → Lawful old → Synced old new d result
    → TouchesOnly P old new
synced_touches P {d = d} {result = result} here lawful synced = record {
  later = synced.goes_on.later;
  reads = λ e y not_p.
      synced.others_read e y (λ same. not_p (subst (λ k. P k y) (sym same) (here y)));
  leaves = λ e y not_p.
      synced.others_leave e y (λ same. not_p (subst (λ k. P k y) (sym same) (here y)));
  crash = λ image left. ⊎_elim
      (λ early. (image, early, λ e y not_p. refl))
      (λ now. (image, before_sync result lawful synced image now, λ e y not_p. refl))
      (left_last image synced.goes_on left);
  moments = λ t low high e y not_p.
      call_moments synced.goes_on e y
      (synced.others_leave e y (λ same. not_p (subst (λ k. P k y) (sym same) (here y))))
      (synced.others_could e y (λ same. not_p (subst (λ k. P k y) (sym same) (here y))))
      t low high;
}

-- a larger region
pub touches_widen : (P R : ℕ → ℕ → Type 0) {old new : Disk} → ((d x : ℕ) → P d x → R d x)
    → TouchesOnly P old new
    → TouchesOnly R old new
touches_widen P R wider only = record {
  later = only.later;
  reads = λ d x not_r. only.reads d x (λ p. not_r (wider d x p));
  leaves = λ d x not_r. only.leaves d x (λ p. not_r (wider d x p));
  crash = λ image left. let was = only.crash image left in
      (was.0, was.1, λ d x not_r. was.2 d x (λ p. not_r (wider d x p)));
  moments = λ t low high d x not_r. only.moments t low high d x (λ p. not_r (wider d x p));
}

-- A bank goes on telling what it told.
pub tells_later : {old new : Disk} → Later old new → Tells old → Tells new
tells_later later tells d x d_in x_in =
    later.told d x (tells d x (omega (arith, later.devices)) (omega (arith, later.sectors)))
