-- The laws of a file with a row kept over it.
use Rattle.std.specs.Prelude.{◌≡◌, ◌≢◌, ◌⊎◌, ℕ, ◌+◌, ◌≤◌, max, List, [], ◌∷◌, Option, Some, None, Bool, true, false}
use Rattle.std.specs.Prelude.{◌==◌, if◌then◌else◌, length, nat_lt, Contains, refl}
use Rattle.std.proofs.Common.{inl, inr, sym, ◌∙◌, ap, subst, arith}
use Rattle.std.proofs.lemmas.Bool.{cases_eq}
use Rattle.std.proofs.lemmas.Bool.Decides.{nat_tests}
use Rattle.file_bank.specs.BlockFile.{Contents, LawfulFile}
use Rattle.file_bank.specs.Row.{KeptSector, told_as, could_too, with_sector, with_row, by_moment, AllKeptBy, AllWhole}
use Rattle.file_bank.specs.MemLaws.{not_before}

pub is_here : (x : ℕ) → (x == x) ≡ true
is_here x = grind (arith, nat_tests)

pub is_other : (x y : ℕ) → y ≢ x → (y == x) ≡ false
is_other x y other = grind (arith, nat_tests)

-- What was written to one sector, seen there.
module _ (file : Contents) (x : ℕ) (kept : KeptSector) where
  pub read_here : (with_sector file x kept).reads x ≡ told_as kept.bytes (file.reads x)
  read_here = ap (λ (b : Bool). if b then told_as kept.bytes (file.reads x) else file.reads x) (is_here x)

  pub left_here : (t : ℕ)
      → (with_sector file x kept).leaves t x ≡ (if nat_lt t kept.moment then file.leaves t x else None)
  left_here t = ap (λ (b : Bool). if b then
      (if nat_lt t kept.moment then file.leaves t x else None) else file.leaves t x) (is_here x)

  pub left_after : (t : ℕ) → kept.moment ≤ t → (with_sector file x kept).leaves t x ≡ None
  left_after t later = left_here t ∙ ap (λ (b : Bool). if b then file.leaves t x else None)
      (not_before t kept.moment later)

  pub could_here : (t : ℕ)
      → (with_sector file x kept).could t x ≡ (if nat_lt t kept.moment then file.could t x else could_too kept.bytes
      (file.reads x) (file.could t x))
  could_here t = ap (λ (b : Bool). if b then (if nat_lt t kept.moment then file.could t x else could_too kept.bytes
      (file.reads x) (file.could t x)) else file.could t x) (is_here x)

  pub could_after : (t : ℕ) → kept.moment ≤ t → (with_sector file x kept).could t x ≡ could_too kept.bytes
      (file.reads x) (file.could t x)
  could_after t later = could_here t
      ∙ ap (λ (b : Bool). if b then file.could t x else could_too kept.bytes (file.reads x) (file.could t x))
      (not_before t kept.moment later)

  -- elsewhere
  module _ (y : ℕ) (other : y ≢ x) where
    pub read_other : (with_sector file x kept).reads y ≡ file.reads y
    read_other = ap (λ (b : Bool). if b then told_as kept.bytes (file.reads y) else file.reads y) (is_other x y other)

    pub left_other : (t : ℕ) → (with_sector file x kept).leaves t y ≡ file.leaves t y
    left_other t = ap (λ (b : Bool). if b then
        (if nat_lt t kept.moment then file.leaves t y else None) else file.leaves t y) (is_other x y other)

    pub could_other : (t : ℕ) → (with_sector file x kept).could t y ≡ file.could t y
    could_other t = ap (λ (b : Bool). if b then
        (if nat_lt t kept.moment then file.could t y else could_too kept.bytes (file.reads y)
        (file.could t y)) else file.could t y) (is_other x y other)

none_is : (o : Option (List ℕ)) (bytes : List ℕ) → o ≡ None → o ≡ Some bytes → ⊥
none_is o bytes none is = cc

told_whole : (o : Option (List ℕ)) (new bytes : List ℕ) → length new ≡ 512 → told_as new o ≡ Some bytes
    → length bytes ≡ 512
told_whole None new bytes whole is = absurd (cc)
told_whole (Some was) new bytes whole is = let same : new ≡ bytes = cc in subst
    (λ (l : List ℕ). length l ≡ 512) same whole

-- One sector written keeps the laws.
pub sector_lawful : (file : Contents) (x : ℕ) (kept : KeptSector) → LawfulFile file → length kept.bytes ≡ 512
    → LawfulFile (with_sector file x kept)
sector_lawful file x kept laws long = record {
  stays_read = λ y bytes is. stays y bytes is (cases_eq y x);
  stays_could = λ y bytes other is has. could y bytes other is has (cases_eq y x);
  still = λ t later y. still t later y (cases_eq y x);
  whole = λ y bytes is. whole y bytes is (cases_eq y x);
}
  where
    new : Contents
    new = with_sector file x kept

    came : kept.moment ≤ max file.last kept.moment
    came = omega arith

    later_too : file.last ≤ max file.last kept.moment
    later_too = omega arith

    stays : (y : ℕ) (bytes : List ℕ) → new.leaves new.last y ≡ Some bytes → (y ≡ x) ⊎ (y ≢ x) → new.reads y ≡ Some bytes
    stays y bytes is (inl here) =
        absurd (none_is (new.leaves new.last y) bytes (subst (λ (k : ℕ). new.leaves new.last k ≡ None) (sym here)
        (left_after file x kept new.last came)) is)
    stays y bytes is (inr other) = read_other file x kept y other
        ∙ laws.stays_read y bytes (sym ((laws.still new.last later_too y).0)
        ∙ sym (left_other file x kept y other new.last) ∙ is)

    could : (y : ℕ) (bytes other_bytes : List ℕ) → new.leaves new.last y ≡ Some bytes
        → Contains (new.could new.last y) other_bytes → (y ≡ x) ⊎ (y ≢ x) → other_bytes ≡ bytes
    could y bytes other_bytes is has (inl here) =
        absurd (none_is (new.leaves new.last y) bytes (subst (λ (k : ℕ). new.leaves new.last k ≡ None) (sym here)
        (left_after file x kept new.last came)) is)
    could y bytes other_bytes is has (inr other) = laws.stays_could y bytes other_bytes
        (sym ((laws.still new.last later_too y).0) ∙ sym (left_other file x kept y other new.last) ∙ is)
        (subst (λ (l : List (List ℕ)). Contains l other_bytes) (could_other file x kept y other new.last
        ∙ (laws.still new.last later_too y).1) has)

    still : (t : ℕ) → new.last ≤ t → (y : ℕ) → (y ≡ x) ⊎ (y ≢ x) → (new.leaves t y ≡ new.leaves new.last y)
        × (new.could t y ≡ new.could new.last y)
    still t later y (inl here) = subst (λ (k : ℕ). (new.leaves t k ≡ new.leaves new.last k)
        × (new.could t k ≡ new.could new.last k)) (sym here) (
          left_after file x kept t (omega (arith, later)) ∙ sym (left_after file x kept new.last came),
          could_after file x kept t (omega (arith, later))
              ∙ ap (could_too kept.bytes (file.reads x)) ((laws.still t (omega (arith, later)) x).1
              ∙ sym ((laws.still new.last later_too x).1))
              ∙ sym (could_after file x kept new.last came),
        )
    still t later y (inr other) = (
      left_other file x kept y other t ∙ (laws.still t (omega (arith, later)) y).0
          ∙ sym ((laws.still new.last later_too y).0) ∙ sym (left_other file x kept y other new.last),
      could_other file x kept y other t ∙ (laws.still t (omega (arith, later)) y).1
          ∙ sym ((laws.still new.last later_too y).1) ∙ sym (could_other file x kept y other new.last),
    )

    whole : (y : ℕ) (bytes : List ℕ) → new.reads y ≡ Some bytes → (y ≡ x) ⊎ (y ≢ x) → length bytes ≡ 512
    whole y bytes is (inl here) = told_whole (file.reads x) kept.bytes bytes long (sym (read_here file x kept)
        ∙ subst (λ (k : ℕ). new.reads k ≡ Some bytes) here is)
    whole y bytes is (inr other) = laws.whole y bytes (sym (read_other file x kept y other) ∙ is)

pub row_lawful : (file : Contents) (x : ℕ) (row : List KeptSector) → LawfulFile file → AllWhole row
    → LawfulFile (with_row file x row)
row_lawful file x [] laws whole = laws
row_lawful file x (kept ∷ row) laws whole = row_lawful (with_sector file x kept) (x + 1) row
    (sector_lawful file x kept laws whole.0) whole.1

pub row_last : (file : Contents) (x : ℕ) (row : List KeptSector) (last : ℕ) → file.last ≤ last → AllKeptBy last row
    → (with_row file x row).last ≤ last
row_last file x [] last by all = by
row_last file x (kept ∷ row) last by all = row_last (with_sector file x kept) (x + 1) row last
    (omega (arith, by, all.0)) all.1

pub row_length : (file : Contents) (x : ℕ) (row : List KeptSector) → (with_row file x row).length ≡ file.length
row_length file x [] = refl
row_length file x (kept ∷ row) = row_length (with_sector file x kept) (x + 1) row

pub by_moment_lawful : (file : Contents) (moment : ℕ) → LawfulFile file → file.last ≤ moment
    → LawfulFile (by_moment moment file)
by_moment_lawful file moment laws before = record {
  stays_read = λ x bytes is. laws.stays_read x bytes (sym ((laws.still moment before x).0) ∙ is);
  stays_could = λ x bytes other is has. laws.stays_could x bytes other (sym ((laws.still moment before x).0) ∙ is)
      (subst (λ (l : List (List ℕ)). Contains l other) ((laws.still moment before x).1) has);
  still = λ t later x. (
    (laws.still t (omega (arith, before, later)) x).0 ∙ sym ((laws.still moment before x).0),
    (laws.still t (omega (arith, before, later)) x).1 ∙ sym ((laws.still moment before x).1),
  );
  whole = laws.whole;
}

-- A file with a row kept over it is a lawful file.
pub gathered_lawful : (file : Contents) (x : ℕ) (row : List KeptSector) (last : ℕ) → LawfulFile file → AllWhole row
    → file.last ≤ last → AllKeptBy last row → LawfulFile (by_moment last (with_row file x row))
gathered_lawful file x row last laws whole paced by =
    by_moment_lawful (with_row file x row) last (row_lawful file x row laws whole) (row_last file x row last paced by)
