-- How calls of a bank follow one another, and what an image from before one has to do with one from
-- after it.
use Rattle.std.proofs.Common.{◌≡◌, ◌⊎◌, inl, inr, ⊎_elim, ℕ, ◌≤◌, List, Option, Some, Result, Ok, Err, refl, sym, ◌∙◌}
use Rattle.std.proofs.Common.{ap, subst, arith}
use Rattle.std.specs.Prelude.{◌&&◌, ◌==◌, if◌then◌else◌, unwrap_or}
use Rattle.std.proofs.lemmas.Bool.{cases_eq, cases_lt}
use Rattle.std.proofs.lemmas.Bool.Decides.{nat_tests}
use Rattle.bank_trait.specs.declared.Failed.{Failed}
use Rattle.bank_trait.specs.Disk.{Image, Disk, Lawful, MayLeave, LeftSince, Later, Continues, Other, Wrote, Synced}

-- no call at all
pub later_refl : (disk : Disk) → Later disk disk
later_refl disk = record {
  devices = refl;
  sectors = refl;
  faults = λ d. omega arith;
  clock = omega arith;
  told = λ d x is. is;
  past = λ t le d x. (refl, refl);
}

-- one run of calls after another
pub later_trans : {old mid new : Disk} → Later old mid → Later mid new → Later old new
later_trans first next = record {
  devices = next.devices ∙ first.devices;
  sectors = next.sectors ∙ first.sectors;
  faults = λ d. omega (arith, first.faults d, next.faults d);
  clock = omega (arith, first.clock, next.clock);
  told = λ d x is. next.told d x (first.told d x is);
  past = λ t le d x. (
    (next.past t (omega (arith, first.clock)) d x).0 ∙ (first.past t le d x).0,
    (next.past t (omega (arith, first.clock)) d x).1 ∙ (first.past t le d x).1,
  );
}

-- An image left since a moment was left before the later calls, or in them.
pub left_cases : (old : Disk) {mid new : Disk} (image : Image) → Later mid new
    → LeftSince old.clock new image
    → LeftSince old.clock mid image ⊎ LeftSince mid.clock new image
left_cases old {mid = mid} image later left = ⊎_elim
    (λ after. inr (record {
      moment = left.moment;
      since = omega (arith, after);
      until = left.until;
      fits = left.fits;
    }))
    (λ early. inl (record {
      moment = left.moment;
      since = left.since;
      until = early;
      fits = record {
        at = λ d x b known. left.fits.at d x b ((later.past left.moment early d x).0 ∙ known);
      };
    }))
    (cases_lt mid.clock left.moment)

-- What was left since now may be left now.
pub left_now : {disk : Disk} (image : Image) → LeftSince disk.clock disk image → MayLeave disk image
left_now {disk = disk} image left =
    let same : left.moment ≡ disk.clock = omega (arith, left.since, left.until) in
    record { at = λ d x b known. left.fits.at d x b (ap (λ t. disk.leaves t d x) same ∙ known) }

-- What one call might have left is what might be left before it or after it.
pub left_last : {old new : Disk} (image : Image) → Continues old new
    → LeftSince old.clock new image
    → MayLeave old image ⊎ MayLeave new image
left_last {old = old} {new = new} image one left = ⊎_elim
    (λ after. inr (record {
      at = λ d x b known. left.fits.at d x b ((one.present left.moment after left.until d x).0 ∙ known);
    }))
    (λ early. let same : left.moment ≡ old.clock = omega (arith, early, left.since) in inl (record {
      at = λ d x b known.
          left.fits.at d x b
          ((one.later.past left.moment early d x).0 ∙ ap (λ t. old.leaves t d x) same ∙ known);
    }))
    (cases_lt old.clock left.moment)

-- What may be left now was left since any moment before.
pub now_left : (since : ℕ) (disk : Disk) (image : Image) → since ≤ disk.clock
    → MayLeave disk image
    → LeftSince since disk image
now_left since disk image le fits =
    record { moment = disk.clock; since = le; until = omega arith; fits = fits }

-- an image with another value in one sector
abbrev pub patched : Image → ℕ → ℕ → List ℕ → Image
patched image d x value e y = if (e == d) && (y == x) then value else image e y

pub patched-same : (image : Image) (d x : ℕ) (value : List ℕ) → patched image d x value d x ≡ value
patched-same image d x value = grind (arith, nat_tests)

pub patched-other : (image : Image) (d x : ℕ) (value : List ℕ) (e y : ℕ) → Other d x e y
    → patched image d x value e y ≡ image e y
patched-other image d x value e y (inl other) = grind (arith, nat_tests)
patched-other image d x value e y (inr other) = grind (arith, nat_tests)

-- A place is this one, or another.
pub place_cases : (P : ℕ → ℕ → Type 0) (d x e y : ℕ) → P d x → (Other d x e y → P e y) → P e y
place_cases P d x e y here elsewhere = ⊎_elim
    (λ same_d. ⊎_elim
    (λ same_x. subst (λ k. P k y) (sym same_d) (subst (λ k. P d k) (sym same_x) here))
    (λ ne. elsewhere (inr ne)) (cases_eq y x))
    (λ ne. elsewhere (inl ne)) (cases_eq e d)

-- An image that is patched in the sector that was written, with what was certain there before.
patched_fits : {old new : Disk} {d x : ℕ} {bytes : List ℕ} {result : Result (Unit {0}) Failed}
    → Wrote old new d x bytes result → (image : Image) → MayLeave new image
    → (value : List ℕ) → ((b : List ℕ) → old.leaves old.clock d x ≡ Some b → value ≡ b)
    → MayLeave old (patched image d x value)
patched_fits {old = old} {new = new} {d = d} {x = x} wrote image fits value is = record {
  at = λ e y. place_cases (λ e y. (b : List ℕ) → old.leaves old.clock e y ≡ Some b
      → patched image d x value e y ≡ b) d x e y
      (λ b known. patched-same image d x value ∙ is b known)
      (λ other b known. patched-other image d x value e y other
      ∙ fits.at e y b (wrote.others_leave e y other ∙ known));
}

-- An image after a write is one from before it, but for that sector.
pub before_write : {old new : Disk} {d x : ℕ} {bytes : List ℕ} {result : Result (Unit {0}) Failed}
    → Wrote old new d x bytes result → (image : Image) → MayLeave new image
    → (was : Image) × MayLeave old was × ((e y : ℕ) → Other d x e y → image e y ≡ was e y)
before_write {old = old} {d = d} {x = x} wrote image fits =
    let value = unwrap_or (old.leaves old.clock d x) (image d x) in (
      patched image d x value,
      patched_fits wrote image fits value
          (λ b known. ap (λ (o : Option (List ℕ)). unwrap_or o (image d x)) known),
      λ e y other. sym (patched-other image d x value e y other),
    )

-- An image after a sync is one from before it.
pub before_sync : {old new : Disk} {d : ℕ} (result : Result (Unit {0}) Failed) → Lawful old
    → Synced old new d result
    → (image : Image) → MayLeave new image
    → MayLeave old image
before_sync {old = old} {new = new} {d = d} result lawful synced image fits =
    record { at = λ e y b known. fits.at e y b (certain result synced e y b known) }
  where
    certain : (r : Result (Unit {0}) Failed) → Synced old new d r → (e y : ℕ) (b : List ℕ)
        → old.leaves old.clock e y ≡ Some b
        → new.leaves new.clock e y ≡ Some b
    certain (Ok _) s e y b known = ⊎_elim
        (λ same. subst (λ k. new.leaves new.clock k y ≡ Some b) (sym same)
        (s.durable y
        ∙ lawful.stays_read d y b (subst (λ k. old.leaves old.clock k y ≡ Some b) same known)))
        (λ ne. s.others_leave e y ne ∙ known) (cases_eq e d)
    certain (Err _) s e y b known = ⊎_elim
        (λ same. subst (λ k. new.leaves new.clock k y ≡ Some b) (sym same)
        (s.not_durable y ∙ subst (λ k. old.leaves old.clock k y ≡ Some b) same known))
        (λ ne. s.others_leave e y ne ∙ known) (cases_eq e d)
