-- What a call on a file whose writes are gathered does to what it tells.
use Rattle.std.proofs.Common.{◌≡◌, ◌≢◌, ◌⊎◌, inl, inr, ℕ, zero, suc, ◌+◌, ◌<◌, ◌≤◌, ◌/◌, drop, List, [], ◌∷◌, ◌++◌}
use Rattle.std.proofs.Common.{length, Option, Some, None, Bool, Result, Ok, Err, refl, sym, ◌∙◌, ap, subst, arith}
use Rattle.std.proofs.Common.{get_or}
use Rattle.std.specs.Result.{IsErr, IfOk}
use Rattle.file_bank.specs.RowLaws.{row_length}
use Rattle.std.specs.Prelude.{if◌then◌else◌, IsSome, Contains, slice_get}
use Rattle.std.proofs.lemmas.Bool.{cases_eq}
use Rattle.bank_trait.specs.declared.Failed.{Failed}
use Rattle.file_bank.specs.BlockFile.{Contents, GivesBytes, GoesOn, Written, Settled, LawfulFile}
use Rattle.file_bank.specs.Row.{KeptSector, told_as, could_too, with_sector, with_row, by_moment, TellsSame}
use Rattle.file_bank.specs.Row.{HasRisingMoments, AllKeptBy, AllWhole, HandedOver}
use Rattle.file_bank.specs.MemLaws.{is_before}
use Rattle.file_bank.specs.RowLaws.{read_here, left_here, left_after, could_here, could_after, read_other, left_other}
use Rattle.file_bank.specs.RowLaws.{could_other}

pub same_refl : (file : Contents) → TellsSame file file
same_refl file = record { length = refl; reads = λ x. refl; leaves = λ t x. refl; could = λ t x. refl }

pub same_trans : {a b c : Contents} → TellsSame a b → TellsSame b c → TellsSame a c
same_trans first next = record {
  length = next.length ∙ first.length;
  reads = λ x. next.reads x ∙ first.reads x;
  leaves = λ t x. next.leaves t x ∙ first.leaves t x;
  could = λ t x. next.could t x ∙ first.could t x;
}

-- The moment of the last call is not told.
pub same_by : {a b : Contents} (m n : ℕ) → TellsSame a b → TellsSame (by_moment m a) (by_moment n b)
same_by m n same = record { length = same.length; reads = same.reads; leaves = same.leaves; could = same.could }

-- One sector more behind a row.
pub row_more : (file : Contents) (x : ℕ) (row : List KeptSector) (kept : KeptSector)
    → with_row file x (row ++ kept ∷ []) ≡ with_sector (with_row file x row) (x + length row) kept
row_more file x [] kept = ap (λ (n : ℕ). with_sector file n kept) (omega arith)
row_more file x (first ∷ row) kept = row_more (with_sector file x first) (x + 1) row kept
    ∙ ap (λ (n : ℕ). with_sector (with_row (with_sector file x first) (x + 1) row) n kept) (omega arith)

pub by_later : (last moment : ℕ) (row : List KeptSector) → last ≤ moment → AllKeptBy last row → AllKeptBy moment row
by_later last moment [] le by = by
by_later last moment (kept ∷ row) le by = (omega (arith, by.0), by_later last moment row le by.1)

pub by_one_more : (last : ℕ) (row : List KeptSector) (kept : KeptSector) → AllKeptBy last row → kept.moment ≤ last
    → AllKeptBy last (row ++ kept ∷ [])
by_one_more last [] kept by le = (le, tt)
by_one_more last (first ∷ row) kept by le = (by.0, by_one_more last row kept by.1 le)

pub whole_one_more : (row : List KeptSector) (kept : KeptSector) → AllWhole row → length kept.bytes ≡ 512
    → AllWhole (row ++ kept ∷ [])
whole_one_more [] kept all is = (is, tt)
whole_one_more (first ∷ row) kept all is = (all.0, whole_one_more row kept all.1 is)

pub rising_one_more : (first last : ℕ) (row : List KeptSector) (kept : KeptSector) → HasRisingMoments first row
    → first ≤ last → AllKeptBy last row → last < kept.moment
    → HasRisingMoments first (row ++ kept ∷ [])
rising_one_more first last [] kept rising le by above = (omega (arith, le, above), tt)
rising_one_more first last (one ∷ row) kept rising le by above =
    (rising.0, rising_one_more one.moment last row kept rising.1 by.0 by.1 above)

-- What is read is what was written, within the row and beside it.
pub read_beside : (file : Contents) (x y : ℕ) (row : List KeptSector) → (y < x) ⊎ (x + length row ≤ y)
    → (with_row file x row).reads y ≡ file.reads y
read_beside file x y [] beside = refl
read_beside file x y (kept ∷ row) (inl before) = read_beside (with_sector file x kept) (x + 1) y row
    (inl (omega (arith, before))) ∙ read_other file x kept y (omega (arith, before))
read_beside file x y (kept ∷ row) (inr behind) = read_beside (with_sector file x kept) (x + 1) y row
    (inr (omega (arith, behind))) ∙ read_other file x kept y (omega (arith, behind))

told_is : (o : Option (List ℕ)) (new bytes : List ℕ) → told_as new o ≡ Some bytes → bytes ≡ new
told_is None new bytes is = absurd (cc)
told_is (Some was) new bytes is = cc

pub read_within : (file : Contents) (x i : ℕ) (row : List KeptSector) (kept : KeptSector) (bytes : List ℕ)
    → slice_get row i ≡ Some kept
    → (with_row file x row).reads (x + i) ≡ Some bytes → bytes ≡ kept.bytes
read_within file x i [] kept bytes at is = absurd (cc)
read_within file x zero (first ∷ row) kept bytes at is =
    let here : first ≡ kept = cc in
    told_is (file.reads x) kept.bytes bytes
    (ap (λ (k : KeptSector). told_as k.bytes (file.reads x)) (sym here) ∙ sym (read_here file x first)
    ∙ sym (read_beside (with_sector file x first) (x + 1) x row (inl (omega arith)))
    ∙ subst (λ (n : ℕ). (with_row file x (first ∷ row)).reads n ≡ Some bytes) (omega arith) is)
read_within file x (suc i) (first ∷ row) kept bytes at is =
    read_within (with_sector file x first) (x + 1) i row kept bytes at
    (subst (λ (n : ℕ). (with_row file x (first ∷ row)).reads n ≡ Some bytes) (omega arith) is)

told_some : (o : Option (List ℕ)) (bytes : List ℕ) → IsSome o → told_as bytes o ≡ Some bytes
told_some None bytes is = absurd (cc)
told_some (Some was) bytes is = refl

could_cases : (o : Option (List ℕ)) (bytes b : List ℕ) (others : List (List ℕ))
    → Contains (could_too bytes o others) b → (b ≡ bytes) ⊎ Contains others b
could_cases None bytes b others among = inr among
could_cases (Some was) bytes b others among = at among.0 among.1 among.2
  where
    at : (k : ℕ) → k < length (bytes ∷ others) → get_or (bytes ∷ others) k b ≡ b → (b ≡ bytes) ⊎ Contains others b
    at zero below is = inl (sym is)
    at (suc k) below is = inr (k, omega (arith, below), is)

could_new : (o : Option (List ℕ)) (bytes : List ℕ) (others : List (List ℕ)) → IsSome o
    → Contains (could_too bytes o others) bytes
could_new None bytes others is = absurd (cc)
could_new (Some was) bytes others is = (0, omega arith, refl)

could_old : (o : Option (List ℕ)) (bytes b : List ℕ) (others : List (List ℕ)) → Contains others b
    → Contains (could_too bytes o others) b
could_old None bytes b others among = among
could_old (Some was) bytes b others among = (suc among.0, omega (arith, among.1), among.2)

told_still : (o : Option (List ℕ)) (bytes : List ℕ) → IsSome o → IsSome (told_as bytes o)
told_still None bytes is = absurd (cc)
told_still (Some was) bytes is = refl

-- A sector that is kept is written, as far as the file tells.
module _ (old : Contents) (x : ℕ) (kept : KeptSector) (laws : LawfulFile old) (above : old.last < kept.moment) where
  abbrev pub new : Contents
  new = by_moment kept.moment (with_sector old x kept)

  told : (y : ℕ) → IsSome (old.reads y) → (y ≡ x) ⊎ (y ≢ x) → IsSome (new.reads y)
  told y is (inl here) = subst (λ (k : ℕ). IsSome (new.reads k)) (sym here)
      (subst (λ (o : Option (List ℕ)). IsSome o) (sym (read_here old x kept))
      (told_still (old.reads x) kept.bytes (subst (λ (k : ℕ). IsSome (old.reads k)) here is)))
  told y is (inr other) = subst (λ (o : Option (List ℕ)). IsSome o) (sym (read_other old x kept y other)) is

  past : (t : ℕ) → t < kept.moment → (y : ℕ) → (y ≡ x) ⊎ (y ≢ x) → (new.leaves t y ≡ old.leaves t y)
      × (new.could t y ≡ old.could t y)
  past t before y (inl here) = subst (λ (k : ℕ). (new.leaves t k ≡ old.leaves t k) × (new.could t k ≡ old.could t k))
      (sym here) (
        left_here old x kept t ∙ ap (λ (b : Bool). if b then old.leaves t x else None) (is_before t kept.moment before),
        could_here old x kept t ∙ ap (λ (b : Bool). if b then old.could t x else could_too kept.bytes (old.reads x)
            (old.could t x)) (is_before t kept.moment before),
      )
  past t before y (inr other) = (left_other old x kept y other t, could_other old x kept y other t)

  could_now : new.could kept.moment x ≡ could_too kept.bytes (old.reads x) (old.could old.last x)
  could_now = could_after old x kept kept.moment (omega arith)
      ∙ ap (could_too kept.bytes (old.reads x)) ((laws.still kept.moment (omega (arith, above)) x).1)

  pub sector_written : Written old new kept.moment x kept.bytes (Ok tt)
  sector_written = record {
    goes_on = record {
      length = refl;
      last = omega arith;
      told = λ y is. told y is (cases_eq y x);
      past = λ t before y. past t before y (cases_eq y x);
    };
    told = λ is. read_here old x kept ∙ told_some (old.reads x) kept.bytes is;
    torn = left_after old x kept kept.moment (omega arith);
    others_read = λ y other. read_other old x kept y other;
    others_leave = λ y other. left_other old x kept y other kept.moment
        ∙ (laws.still kept.moment (omega (arith, above)) y).0;
    could = λ b among. could_cases (old.reads x) kept.bytes b (old.could old.last x)
        (subst (λ (l : List (List ℕ)). Contains l b) could_now among);
    handed = λ is. subst (λ (l : List (List ℕ)). Contains l kept.bytes) (sym could_now)
        (could_new (old.reads x) kept.bytes (old.could old.last x) is);
    still_could = λ b among. subst (λ (l : List (List ℕ)). Contains l b) (sym could_now)
        (could_old (old.reads x) kept.bytes b (old.could old.last x) among);
    others_could = λ y other. could_other old x kept y other kept.moment
        ∙ (laws.still kept.moment (omega (arith, above)) y).1;
  }

-- A call that leaves what is told goes on.
module _ (old new : Contents) (moment : ℕ) (same : TellsSame old new) (laws : LawfulFile old)
    (above : old.last < moment) (by : new.last ≤ moment) where
  pub same_goes_on : GoesOn old new moment
  same_goes_on = record {
    length = same.length;
    last = by;
    told = λ x is. subst (λ (o : Option (List ℕ)). IsSome o) (sym (same.reads x)) is;
    past = λ t before x. (same.leaves t x, same.could t x);
  }

  left_still : (x : ℕ) → new.leaves moment x ≡ old.leaves old.last x
  left_still x = same.leaves moment x ∙ (laws.still moment (omega (arith, above)) x).0

  could_still : (x : ℕ) → new.could moment x ≡ old.could old.last x
  could_still x = same.could moment x ∙ (laws.still moment (omega (arith, above)) x).1

  pub same_failed_write : (x : ℕ) (bytes : List ℕ) (e : Failed) → Written old new moment x bytes (Err e)
  same_failed_write x bytes e = record {
    goes_on = same_goes_on;
    told = tt;
    torn = tt;
    others_read = λ y other. same.reads y;
    others_leave = λ y other. left_still y;
    could = λ b among. inr (subst (λ (l : List (List ℕ)). Contains l b) (could_still x) among);
    handed = tt;
    still_could = λ b among. subst (λ (l : List (List ℕ)). Contains l b) (sym (could_still x)) among;
    others_could = λ y other. could_still y;
  }

  pub same_failed_sync : (e : Failed) → Settled old new moment (Err e)
  same_failed_sync e = record {
    goes_on = same_goes_on;
    durable = tt;
    not_durable = left_still;
    reads = tt;
    reads_certain = λ x bytes certain. same.reads x;
    could = tt;
    kept = tt;
    still_could = could_still;
  }

-- What is told before a call may be told by another file.
module _ (old mid new : Contents) (moment : ℕ) (same : TellsSame old mid) (laws : LawfulFile old)
    (mid_laws : LawfulFile mid) (above : old.last < moment) (mid_above : mid.last < moment) where
  left_from : (x : ℕ) → mid.leaves mid.last x ≡ old.leaves old.last x
  left_from x = sym ((mid_laws.still moment (omega (arith, mid_above)) x).0) ∙ same.leaves moment x
      ∙ (laws.still moment (omega (arith, above)) x).0

  could_from : (x : ℕ) → mid.could mid.last x ≡ old.could old.last x
  could_from x = sym ((mid_laws.still moment (omega (arith, mid_above)) x).1) ∙ same.could moment x
      ∙ (laws.still moment (omega (arith, above)) x).1

  among_from : (x : ℕ) (b : List ℕ) → Contains (mid.could mid.last x) b → Contains (old.could old.last x) b
  among_from x b among = subst (λ (l : List (List ℕ)). Contains l b) (could_from x) among

  among_mid : (x : ℕ) (b : List ℕ) → Contains (old.could old.last x) b → Contains (mid.could mid.last x) b
  among_mid x b among = subst (λ (l : List (List ℕ)). Contains l b) (sym (could_from x)) among

  could_or : (x : ℕ) (bytes b : List ℕ) → (b ≡ bytes) ⊎ Contains (mid.could mid.last x) b
      → (b ≡ bytes) ⊎ Contains (old.could old.last x) b
  could_or x bytes b (inl is) = inl is
  could_or x bytes b (inr among) = inr (among_from x b among)

  goes_on_from : GoesOn mid new moment → GoesOn old new moment
  goes_on_from on = record {
    length = on.length ∙ same.length;
    last = on.last;
    told = λ x is. on.told x (subst (λ (o : Option (List ℕ)). IsSome o) (sym (same.reads x)) is);
    past = λ t before x. ((on.past t before x).0 ∙ same.leaves t x, (on.past t before x).1 ∙ same.could t x);
  }

  pub written_from : (x : ℕ) (bytes : List ℕ) (result : Result (Unit {0}) Failed)
      → Written mid new moment x bytes result → Written old new moment x bytes result
  written_from x bytes (Ok done) w = record {
    goes_on = goes_on_from w.goes_on;
    told = λ is. w.told (subst (λ (o : Option (List ℕ)). IsSome o) (sym (same.reads x)) is);
    torn = w.torn;
    others_read = λ y other. w.others_read y other ∙ same.reads y;
    others_leave = λ y other. w.others_leave y other ∙ left_from y;
    could = λ b among. could_or x bytes b (w.could b among);
    handed = λ is. w.handed (subst (λ (o : Option (List ℕ)). IsSome o) (sym (same.reads x)) is);
    still_could = λ b among. w.still_could b (among_mid x b among);
    others_could = λ y other. w.others_could y other ∙ could_from y;
  }
  written_from x bytes (Err e) w = record {
    goes_on = goes_on_from w.goes_on;
    told = tt;
    torn = tt;
    others_read = λ y other. w.others_read y other ∙ same.reads y;
    others_leave = λ y other. w.others_leave y other ∙ left_from y;
    could = λ b among. could_or x bytes b (w.could b among);
    handed = tt;
    still_could = λ b among. w.still_could b (among_mid x b among);
    others_could = λ y other. w.others_could y other ∙ could_from y;
  }

  pub settled_from : (result : Result (Unit {0}) Failed) → Settled mid new moment result → Settled old new moment result
  settled_from (Ok done) s = record {
    goes_on = goes_on_from s.goes_on;
    durable = λ x. s.durable x ∙ same.reads x;
    not_durable = tt;
    reads = λ x. s.reads x ∙ same.reads x;
    reads_certain = λ x bytes certain. s.reads_certain x bytes (left_from x ∙ certain) ∙ same.reads x;
    could = λ x b among. (sym (same.reads x) ∙ (s.could x b among).0, among_from x b (s.could x b among).1);
    kept = λ x b is among. s.kept x b (same.reads x ∙ is) (among_mid x b among);
    still_could = tt;
  }
  settled_from (Err e) s = record {
    goes_on = goes_on_from s.goes_on;
    durable = tt;
    not_durable = λ x. s.not_durable x ∙ left_from x;
    reads = tt;
    reads_certain = λ x bytes certain. s.reads_certain x bytes (left_from x ∙ certain) ∙ same.reads x;
    could = tt;
    kept = tt;
    still_could = λ x. s.still_could x ∙ could_from x;
  }

-- A call's end, told by the moment of the call.
pub settled_by : (old new : Contents) (moment : ℕ) (result : Result (Unit {0}) Failed)
    → Settled old new moment result → Settled old (by_moment moment new) moment result
settled_by old new moment (Ok done) s = record {
  goes_on = record { length = s.goes_on.length; last = omega arith; told = s.goes_on.told; past = s.goes_on.past };
  durable = s.durable;
  not_durable = tt;
  reads = s.reads;
  reads_certain = s.reads_certain;
  could = s.could;
  kept = s.kept;
  still_could = tt;
}
settled_by old new moment (Err e) s = record {
  goes_on = record { length = s.goes_on.length; last = omega arith; told = s.goes_on.told; past = s.goes_on.past };
  durable = tt;
  not_durable = s.not_durable;
  reads = tt;
  reads_certain = s.reads_certain;
  could = tt;
  kept = tt;
  still_could = s.still_could;
}

-- What came of a row that was handed over.
module _ (old new : Contents) (n x : ℕ) (items row : List KeptSector) (at : n ≡ x) (same : items ≡ row) where
  here : (result : Result (Unit {0}) ℕ) → HandedOver old new n items result → HandedOver old new x row result
  here result handed = subst (λ (k : ℕ). HandedOver old new k row result) at
      (subst (λ (l : List KeptSector). HandedOver old new n l result) same handed)

  pub handed_last : (result : Result (Unit {0}) ℕ) → HandedOver old new n items result → (last : ℕ) → old.last ≤ last
      → AllKeptBy last row → new.last ≤ last
  handed_last result handed last = (here result handed).last last

  pub done_same : (result : Result (Unit {0}) ℕ) (done : Unit {0}) → result ≡ Ok done
      → HandedOver old new n items result → TellsSame (with_row old x row) new
  done_same result done is handed = by_case result is (here result handed)
    where
      by_case : (r : Result (Unit {0}) ℕ) → r ≡ Ok done → HandedOver old new x row r
          → TellsSame (with_row old x row) new
      by_case (Ok d) is h = h.done
      by_case (Err e) is h = absurd (cc)

  pub stopped_same : (result : Result (Unit {0}) ℕ) (count : ℕ) → result ≡ Err count → HandedOver old new n items result
      → (count ≤ length row) × TellsSame (with_row old x row) (with_row new (x + count) (drop count row))
  stopped_same result count is handed = of (subst (λ (r : Result (Unit {0}) ℕ). HandedOver old new x row r) is
      (here result handed))
    where
      of : HandedOver old new x row (Err count)
          → (count ≤ length row) × TellsSame (with_row old x row) (with_row new (x + count) (drop count row))
      of h = h.stopped

  pub stopped_length : (result : Result (Unit {0}) ℕ) (count : ℕ) → result ≡ Err count
      → HandedOver old new n items result → new.length ≡ old.length
  stopped_length result count is handed = sym (row_length new (x + count) (drop count row))
      ∙ (stopped_same result count is handed).1.length ∙ row_length old x row

  pub done_length : (result : Result (Unit {0}) ℕ) (done : Unit {0}) → result ≡ Ok done
      → HandedOver old new n items result → new.length ≡ old.length
  done_length result done is handed = (done_same result done is handed).length ∙ row_length old x row

  pub stopped_tells : (m k count y : ℕ) (rest : List KeptSector) (result : Result (Unit {0}) ℕ) → result ≡ Err count
      → y ≡ x + count → rest ≡ drop count row → HandedOver old new n items result
      → TellsSame (by_moment m (with_row old x row)) (by_moment k (with_row new y rest))
  stopped_tells m k count y rest result is place left handed =
      subst (λ (z : ℕ). TellsSame (by_moment m (with_row old x row)) (by_moment k (with_row new z rest))) (sym place)
      (subst (λ (l : List KeptSector). TellsSame (by_moment m (with_row old x row))
      (by_moment k (with_row new (x + count) l))) (sym left)
      (same_by m k (stopped_same result count is handed).1))

  pub done_tells : (m k y : ℕ) (rest : List KeptSector) (result : Result (Unit {0}) ℕ) (done : Unit {0})
      → result ≡ Ok done → rest ≡ [] → HandedOver old new n items result
      → TellsSame (by_moment m (with_row old x row)) (by_moment k (with_row new y rest))
  done_tells m k y rest result done is none handed = subst
      (λ (l : List KeptSector). TellsSame (by_moment m (with_row old x row)) (by_moment k (with_row new y l)))
      (sym none) (same_by m k (done_same result done is handed))

pub whole_drop : (count : ℕ) (row : List KeptSector) → AllWhole row → AllWhole (drop count row)
whole_drop zero row all = all
whole_drop (suc count) [] all = tt
whole_drop (suc count) (kept ∷ row) all = whole_drop count row all.1

pub by_drop : (last count : ℕ) (row : List KeptSector) → AllKeptBy last row → AllKeptBy last (drop count row)
by_drop last zero row all = all
by_drop last (suc count) [] all = tt
by_drop last (suc count) (kept ∷ row) all = by_drop last count row all.1

pub whole_none : (row : List KeptSector) → row ≡ [] → AllWhole row
whole_none row none = subst (λ (l : List KeptSector). AllWhole l) (sym none) tt

pub by_none : (last : ℕ) (row : List KeptSector) → row ≡ [] → AllKeptBy last row
by_none last row none = subst (λ (l : List KeptSector). AllKeptBy last l) (sym none) tt

pub rising_none : (last : ℕ) (row : List KeptSector) → row ≡ [] → HasRisingMoments last row
rising_none last row none = subst (λ (l : List KeptSector). HasRisingMoments last l) (sym none) tt

-- The same row over the same file.
pub tells_rows : (file : Contents) (m n x : ℕ) (items row : List KeptSector) → items ≡ row
    → TellsSame (by_moment m (with_row file x row)) (by_moment n (with_row file x items))
tells_rows file m n x items row same = subst (λ (l : List KeptSector). TellsSame (by_moment m (with_row file x row))
    (by_moment n (with_row file x l))) (sym same) (same_by m n (same_refl (with_row file x row)))

-- An empty row stands anywhere.
pub tells_elsewhere : (old file : Contents) (last x y : ℕ) (items : List KeptSector) → items ≡ []
    → TellsSame old (by_moment last (with_row file x items)) → TellsSame old (by_moment last (with_row file y items))
tells_elsewhere old file last x y items none same =
    subst (λ (l : List KeptSector). TellsSame old (by_moment last (with_row file y l))) (sym none)
    (subst (λ (l : List KeptSector). TellsSame old (by_moment last (with_row file x l))) none same)

pub kept_written : (file : Contents) (first last sector : ℕ) (row items : List KeptSector) (kept : KeptSector)
    → LawfulFile (by_moment last (with_row file first row)) → last < kept.moment → sector ≡ first + length row
    → items ≡ row ++ kept ∷ []
    → Written (by_moment last (with_row file first row))
    (by_moment kept.moment (with_row file first items)) kept.moment sector kept.bytes (Ok tt)
kept_written file first last sector row items kept laws above at one_more =
    subst (λ (l : List KeptSector). Written (by_moment last (with_row file first row))
    (by_moment kept.moment (with_row file first l)) kept.moment sector kept.bytes (Ok tt)) (sym one_more)
    (subst (λ (c : Contents). Written (by_moment last (with_row file first row))
    (by_moment kept.moment c) kept.moment sector kept.bytes (Ok tt)) (sym (row_more file first row kept))
    (subst (λ (n : ℕ). Written (by_moment last (with_row file first row))
    (by_moment kept.moment (with_sector (with_row file first row) n kept)) kept.moment sector kept.bytes (Ok tt)) at
    (sector_written (by_moment last (with_row file first row)) sector kept laws above)))

pub kept_written_at : (file : Contents) (first now last sector : ℕ) (row items : List KeptSector) (kept : KeptSector)
    → LawfulFile (by_moment last (with_row file first row)) → last < kept.moment → sector ≡ first + length row
    → now ≡ first → items ≡ row ++ kept ∷ []
    → Written (by_moment last (with_row file first row)) (by_moment kept.moment (with_row file now items))
    kept.moment sector kept.bytes (Ok tt)
kept_written_at file first now last sector row items kept laws above at same one_more =
    subst (λ (n : ℕ). Written (by_moment last (with_row file first row))
    (by_moment kept.moment (with_row file n items)) kept.moment sector kept.bytes (Ok tt)) (sym same)
    (kept_written file first last sector row items kept laws above at one_more)

-- A sync behind a call that changed nothing.
pub settled_same : (file mid new : Contents) (moment : ℕ) (result : Result (Unit {0}) Failed) → mid ≡ file
    → Settled mid new moment result → Settled file new moment result
settled_same file mid new moment result same settled =
    subst (λ (c : Contents). Settled c new moment result) same settled

pub synced_kept : (old file new : Contents) (first last moment : ℕ) (items : List KeptSector)
    (result : Result (Unit {0}) Failed) → items ≡ []
    → TellsSame old (by_moment last (with_row file first items)) → LawfulFile old → LawfulFile file
    → old.last < moment → file.last < moment
    → Settled file new moment result → Settled old (by_moment moment (with_row new first items)) moment result
synced_kept old file new first last moment items result none same laws file_laws above file_above settled =
    subst (λ (l : List KeptSector). Settled old (by_moment moment (with_row new first l)) moment result) (sym none)
    (settled_from old file (by_moment moment new) moment told laws file_laws above file_above result
    (settled_by file new moment result settled))
  where
    told_none : TellsSame old (by_moment last file)
    told_none = subst (λ (l : List KeptSector). TellsSame old (by_moment last (with_row file first l))) none same

    told : TellsSame old file
    told = record {
      length = told_none.length;
      reads = told_none.reads;
      leaves = told_none.leaves;
      could =
          told_none.could;
    }

pub same_err_write : (old new : Contents) (moment x : ℕ) (bytes : List ℕ) (result : Result (Unit {0}) Failed)
    → IsErr result → TellsSame old new → LawfulFile old → old.last < moment → new.last ≤ moment
    → Written old new moment x bytes result
same_err_write old new moment x bytes (Ok done) is same laws above by = absurd (cc)
same_err_write old new moment x bytes
    (Err e) is same laws above by = same_failed_write old new moment same laws above by x bytes e

pub same_err_sync : (old new : Contents) (moment : ℕ) (result : Result (Unit {0}) Failed) → IsErr result
    → TellsSame old new → LawfulFile old → old.last < moment → new.last ≤ moment
    → Settled old new moment result
same_err_sync old new moment (Ok done) is same laws above by = absurd (cc)
same_err_sync old new moment (Err e) is same laws above by = same_failed_sync old new moment same laws above by e

-- What the file gives is what is told where the row is not.
pub passed_on : {E : Type 0} (file told : Contents) (offset : ℕ) (piece : List ℕ) (r s : Result ℕ E) → s ≡ r
    → told.reads (offset / 512) ≡ file.reads (offset / 512)
    → IfOk r (λ count. GivesBytes file offset count piece) → IfOk s (λ count. GivesBytes told offset count piece)
passed_on {E} file told offset piece r s is same gives = subst
    (λ (q : Result ℕ E). IfOk q (λ count. GivesBytes told offset count piece)) (sym is) (by_case r gives)
  where
    by_case : (q : Result ℕ E) → IfOk q (λ count. GivesBytes file offset count piece)
        → IfOk q (λ count. GivesBytes told offset count piece)
    by_case (Ok count) given = λ bytes at. given bytes (sym same ∙ at)
    by_case (Err e) given = tt
