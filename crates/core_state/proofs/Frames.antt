-- What one device call leaves of what is certain, of what could stand where, and of what is read.
use Rattle.std.proofs.Common.{◌≡◌, ◌≢◌, inl, inr, ⊎_elim, ℕ, List, Bool, false, Some, Result, Ok, Err, sym, ◌∙◌, ap}
use Rattle.std.proofs.Common.{subst, arith}
use Rattle.std.specs.Prelude.{Contains}
use Rattle.std.proofs.lemmas.Bool.{cases_eq}
use Rattle.std.proofs.lemmas.Bool.Decides.{nat_tests}
use Rattle.bank_trait.specs.declared.Failed.{Failed}
use Rattle.bank_trait.specs.Disk.{Disk, Other, Unchanged, Wrote, Synced, Lawful}
use Rattle.core_state.specs.Certain.{certain, able}
use Rattle.core_state.specs.Committing.{lost_by}

-- Outside the places `here`: what was certain is, and could stand there still if it could before, nothing more could
-- stand there, and, on devices that the call didn't lose, the same is read.
pub record Frames (here : ℕ → ℕ → Type 0) (lost : ℕ → Bool) (old new : Disk) : Type 0 where
  pub stays : (d x : ℕ) (bytes : List ℕ) → (here d x → ⊥) → certain old d x ≡ Some bytes
      → certain new d x ≡ Some bytes
  pub held : (d x : ℕ) (bytes : List ℕ) → (here d x → ⊥) → certain old d x ≡ Some bytes
      → Contains (able old d x) bytes
      → Contains (able new d x) bytes
  pub could : (d x : ℕ) (bytes : List ℕ) → (here d x → ⊥) → Contains (able new d x) bytes
      → Contains (able old d x) bytes
  pub reads : (d x : ℕ) (bytes : List ℕ) → (here d x → ⊥) → lost d ≡ false
      → old.reads d x ≡ Some bytes
      → new.reads d x ≡ Some bytes

-- one place
abbrev pub IsPlace : ℕ → ℕ → ℕ → ℕ → Type 0
IsPlace d x e y = (e ≡ d) × (y ≡ x)

abbrev pub Nowhere : ℕ → ℕ → Type 0
Nowhere e y = ⊥

abbrev pub none_lost : ℕ → Bool
none_lost e = false

pub other_place : (d x e y : ℕ) → (IsPlace d x e y → ⊥) → Other d x e y
other_place d x e y away = ⊎_elim
    (λ same_d. ⊎_elim (λ same_x. absurd (away (same_d, same_x))) (λ ne. inr ne) (cases_eq y x))
    (λ ne. inl ne) (cases_eq e d)

pub wrote_frames : {old new : Disk} {d x : ℕ} {bytes : List ℕ} {result : Result (Unit {0}) Failed}
    → Wrote old new d x bytes result
    → Frames (IsPlace d x) none_lost old new
wrote_frames {d = d} {x = x} wrote = record {
  stays = λ e y b away is. wrote.others_leave e y (other_place d x e y away) ∙ is;
  held = λ e y b away is has. subst (λ (l : List (List ℕ)). Contains l b)
      (sym (wrote.others_could e y (other_place d x e y away))) has;
  could = λ e y b away is.
      subst (λ (l : List (List ℕ)). Contains l b) (wrote.others_could e y (other_place d x e y away)) is;
  reads = λ e y b away kept is. wrote.others_read e y (other_place d x e y away) ∙ is;
}

lost_elsewhere : (d e : ℕ) (f : Failed) → lost_by d (Err f) e ≡ false → e ≢ d
lost_elsewhere d e f is same = grind (arith, nat_tests, is, same)

pub synced_frames : {old new : Disk} {d : ℕ} (result : Result (Unit {0}) Failed) → Lawful old
    → Synced old new d result
    → Frames Nowhere (lost_by d result) old new
synced_frames {old = old} {new = new} {d = d} (Ok v) lawful synced = record {
  stays = λ e y b away is. ⊎_elim
      (λ same. subst (λ k. certain new k y ≡ Some b) (sym same)
      (synced.durable y
      ∙ lawful.stays_read d y b (subst (λ k. certain old k y ≡ Some b) same is)))
      (λ ne. synced.others_leave e y ne ∙ is) (cases_eq e d);
  held = λ e y b away is has. ⊎_elim
      (λ same. subst (λ k. Contains (able new k y) b) (sym same)
      (synced.kept y b (lawful.stays_read d y b (subst (λ k. certain old k y ≡ Some b) same is))
      (subst (λ k. Contains (able old k y) b) same has)))
      (λ ne. subst (λ (l : List (List ℕ)). Contains l b) (sym (synced.others_could e y ne)) has)
      (cases_eq e d);
  could = λ e y b away is. ⊎_elim
      (λ same. subst (λ k. Contains (able old k y) b) (sym same)
      (synced.could y b (subst (λ k. Contains (able new k y) b) same is)).1)
      (λ ne. subst (λ (l : List (List ℕ)). Contains l b) (synced.others_could e y ne) is)
      (cases_eq e d);
  reads = λ e y b away kept is. ⊎_elim
      (λ same. subst (λ k. new.reads k y ≡ Some b) (sym same)
      (synced.reads y ∙ subst (λ k. old.reads k y ≡ Some b) same is))
      (λ ne. synced.others_read e y ne ∙ is) (cases_eq e d);
}
synced_frames {old = old} {new = new} {d = d} (Err f) lawful synced = record {
  stays = λ e y b away is. ⊎_elim
      (λ same. subst (λ k. certain new k y ≡ Some b) (sym same)
      (synced.not_durable y ∙ subst (λ k. certain old k y ≡ Some b) same is))
      (λ ne. synced.others_leave e y ne ∙ is) (cases_eq e d);
  held = λ e y b away is has. ⊎_elim
      (λ same. subst (λ k. Contains (able new k y) b) (sym same)
      (subst (λ (l : List (List ℕ)). Contains l b) (sym (synced.still_could y))
      (subst (λ k. Contains (able old k y) b) same has)))
      (λ ne. subst (λ (l : List (List ℕ)). Contains l b) (sym (synced.others_could e y ne)) has)
      (cases_eq e d);
  could = λ e y b away is. ⊎_elim
      (λ same. subst (λ k. Contains (able old k y) b) (sym same)
      (subst (λ (l : List (List ℕ)). Contains l b) (synced.still_could y)
      (subst (λ k. Contains (able new k y) b) same is)))
      (λ ne. subst (λ (l : List (List ℕ)). Contains l b) (synced.others_could e y ne) is)
      (cases_eq e d);
  reads = λ e y b away kept is. synced.others_read e y (lost_elsewhere d e f kept) ∙ is;
}

pub unchanged_frames : {old new : Disk} → Unchanged old new → Frames Nowhere none_lost old new
unchanged_frames {old = old} {new = new} same = record {
  stays = λ e y b away is.
      ap (λ t. new.leaves t e y) same.clock ∙ (same.goes_on.later.past old.clock (omega arith) e y).0
      ∙ is;
  held = λ e y b away is has. subst (λ (l : List (List ℕ)). Contains l b)
      (sym (ap (λ t. new.could t e y) same.clock ∙ (same.goes_on.later.past old.clock (omega arith) e y).1)) has;
  could = λ e y b away is. subst (λ (l : List (List ℕ)). Contains l b)
      (ap (λ t. new.could t e y) same.clock ∙ (same.goes_on.later.past old.clock (omega arith) e y).1)
      is;
  reads = λ e y b away kept is. same.reads e y ∙ is;
}
