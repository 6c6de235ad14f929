-- What a row that is handed over does to a file in memory.
use Rattle.std.proofs.Common.{◌≡◌, ◌≢◌, ◌⊎◌, inl, inr, ℕ, zero, suc, get_or, ◌+◌, ◌<◌, ◌≤◌, List, [], ◌∷◌, ◌++◌, drop}
use Rattle.std.proofs.Common.{length, Option, Some, None, Bool, refl, sym, ◌∙◌, ap, subst, arith, slice_set, ◌*◌}
use Rattle.std.proofs.Math.ListN.{drop_of_length-le}
use Rattle.std.specs.Prelude.{if◌then◌else◌, ◌==◌, slice_get, nat_lt}
use Rattle.std.proofs.lemmas.Bool.{cases_eq, cases_lt}
use Rattle.std.proofs.lemmas.List.{length-set, drop_more}
use Rattle.std.proofs.lemmas.Option.{slice_get-get_or}
use Rattle.file_bank.specs.declared.record.Call.{Call}
use Rattle.file_bank.specs.declared.record.Call.TheVariants.{Write}
use Rattle.file_bank.specs.BlockFile.{Contents, CountsFault}
use Rattle.file_bank.specs.Record.{FileHeld, all_certain, after_call, replayed_to, AllBy, contents_of}
use Rattle.file_bank.specs.Row.{KeptSector, told_as, could_too, with_sector, with_row, TellsSame, HasRisingMoments}
use Rattle.file_bank.specs.Row.{AllKeptBy, kept_sector}
use Rattle.file_bank.specs.MemLaws.{is_before, replay_still}
use Rattle.file_bank.specs.RowLaws.{read_here, left_here, left_after, could_here, could_after, read_other, left_other}
use Rattle.file_bank.specs.RowLaws.{could_other, row_length}
use Rattle.std.specs.Result.{is_err}
use Rattle.std.specs.Prelude.{true, false, OnOk, OnErr, Result, Ok, Err}
use Rattle.bank_trait.specs.declared.Failed.{Failed}
use Rattle.file_bank.specs.Row.{HandedOver}
use Rattle.file_bank.proofs.Rows.{same_trans}
use Rattle.file_bank.proofs.MemSteps.{by_more, now, past, set_here, set_other, stays_here, stays_other, could_now_here}
use Rattle.file_bank.proofs.MemSteps.{could_now_other}

-- The same sector written to files that tell the same.
pub sector_same : (a b : Contents) (x : ℕ) (kept : KeptSector) → TellsSame a b
    → TellsSame (with_sector a x kept) (with_sector b x kept)
sector_same a b x kept same = record {
  length = same.length;
  reads = λ y. ap (λ (o : Option (List ℕ)). if y == x then told_as kept.bytes o else o) (same.reads y);
  leaves = λ t y. ap (λ (o : Option (List ℕ)). if y == x then (if nat_lt t kept.moment then o else None) else o)
      (same.leaves t y);
  could = λ t y. ap (λ (o : Option (List ℕ)). if y == x then
      (if nat_lt t kept.moment then b.could t y else could_too kept.bytes o (b.could t y)) else b.could t y)
      (same.reads y)
      ∙ ap (λ (l : List (List ℕ)). if y == x then (if nat_lt t kept.moment then l else could_too kept.bytes
      (a.reads y) l) else l) (same.could t y);
}

pub row_same : (a b : Contents) (x : ℕ) (row : List KeptSector) → TellsSame a b
    → TellsSame (with_row a x row) (with_row b x row)
row_same a b x [] same = same
row_same a b x (kept ∷ row) same = row_same (with_sector a x kept) (with_sector b x kept) (x + 1) row
    (sector_same a b x kept same)

pub drop_here : (i : ℕ) (row : List KeptSector) (kept : KeptSector) → i < length row → kept ≡ get_or row i kept
    → drop i row ≡ kept ∷ drop (i + 1) row
drop_here i row kept below at = drop_more row i kept below ∙ ap (λ (k : KeptSector). k ∷ drop (i + 1) row) (sym at)

-- One sector more of a row is handed over.
pub row_step : (old now next : Contents) (x i n : ℕ) (row : List KeptSector) (kept : KeptSector) → i < length row
    → kept ≡ get_or row i kept → n ≡ x + i
    → TellsSame (with_row old x row) (with_row now (x + i) (drop i row)) → TellsSame (with_sector now n kept) next
    → TellsSame (with_row old x row) (with_row next (x + (i + 1)) (drop (i + 1) row))
row_step old now next x i n row kept below at place so_far step =
    let here : TellsSame (with_row old x row) (with_row (with_sector now (x + i) kept) (x + i + 1) (drop (i + 1) row)) =
    subst (λ (l : List KeptSector). TellsSame (with_row old x row) (with_row now (x + i) l))
    (drop_here i row kept below at) so_far in
    let wrote : TellsSame (with_sector now (x + i) kept) next = subst
    (λ (m : ℕ). TellsSame (with_sector now m kept) next) place step in
    subst (λ (m : ℕ). TellsSame (with_row old x row) (with_row next m (drop (i + 1) row))) (omega arith)
    (same_trans here (row_same (with_sector now (x + i) kept) next (x + i + 1) (drop (i + 1) row) wrote))

pub rising_step : (last i : ℕ) (row : List KeptSector) (kept : KeptSector) → i < length row
    → kept ≡ get_or row i kept → HasRisingMoments last (drop i row)
    → (last < kept.moment) × HasRisingMoments kept.moment (drop (i + 1) row)
rising_step last i row kept below at rising = subst (λ (l : List KeptSector). HasRisingMoments last l)
    (drop_here i row kept below at) rising

pub by_at : (last i : ℕ) (row : List KeptSector) (kept : KeptSector) → i < length row → kept ≡ get_or row i kept
    → AllKeptBy last row → kept.moment ≤ last
by_at last i [] kept below at by = absurd (omega (arith, below))
by_at last zero (first ∷ row) kept below at by = subst (λ (k : KeptSector). k.moment ≤ last) (sym at) by.0
by_at last (suc i) (first ∷ row) kept below at by = by_at last i row kept (omega (arith, below)) at by.1

told_there : (o : Option (List ℕ)) (bytes was : List ℕ) → o ≡ Some was → told_as bytes o ≡ Some bytes
told_there None bytes was is = absurd (cc)
told_there (Some b) bytes was is = refl

could_there : (o : Option (List ℕ)) (bytes was : List ℕ) (others : List (List ℕ)) → o ≡ Some was
    → could_too bytes o others ≡ bytes ∷ others
could_there None bytes was others is = absurd (cc)
could_there (Some b) bytes was others is = refl

-- A write to a file in memory is what it is told to be, at each moment.
module _ (first present : List (List ℕ)) (calls later : List Call) (last moment x : ℕ)
    (bytes : List ℕ) (one_more : later ≡ calls ++ Write moment x bytes ∷ []) (above : last < moment)
    (below : x < length present) (by : AllBy last calls) where
  abbrev old : Contents
  old = contents_of first present calls last

  abbrev kept : KeptSector
  kept = kept_sector moment bytes

  abbrev held : FileHeld
  held = replayed_to last (all_certain first) calls

  was : slice_get present x ≡ Some (get_or present x bytes)
  was = slice_get-get_or present x bytes below

  is_past : (t : ℕ) → t < moment → replayed_to t (all_certain first) later ≡ replayed_to t (all_certain first) calls
  is_past t before = past first present (slice_set present x bytes) calls later last moment
      (Write moment x bytes) one_more refl above by t before

  is_now : (t : ℕ) → moment ≤ t → replayed_to t (all_certain first) later ≡ after_call held (Write moment x bytes)
  is_now t came = replay_still moment t (all_certain first) later
      (by_more last moment calls later (Write moment x bytes) one_more refl above by) came
      ∙ now first present (slice_set present x bytes) calls later last moment
      (Write moment x bytes) one_more refl above by

  was_now : (t : ℕ) → moment ≤ t → replayed_to t (all_certain first) calls ≡ held
  was_now t came = replay_still last t (all_certain first) calls by (omega (arith, came, above))

  reads : (y : ℕ) → (y ≡ x) ⊎ (y ≢ x) → slice_get (slice_set present x bytes) y ≡ (with_sector old x kept).reads y
  reads y (inl here) = subst (λ (k : ℕ). slice_get (slice_set present x bytes) k ≡ (with_sector old x kept).reads k)
      (sym here)
      (set_here present x bytes below ∙ sym (told_there (slice_get present x) bytes (get_or present x bytes) was)
      ∙ sym (read_here old x kept))
  reads y (inr other) = set_other present x y bytes other ∙ sym (read_other old x kept y other)

  leaves : (t y : ℕ) → (t < moment) ⊎ (moment ≤ t) → (y ≡ x) ⊎ (y ≢ x)
      → (replayed_to t (all_certain first) later).stays y ≡ (with_sector old x kept).leaves t y
  leaves t y (inl before) (inl here) = subst (λ (k : ℕ). (replayed_to t (all_certain first) later).stays k ≡
      (with_sector old x kept).leaves t k) (sym here)
      (ap (λ (h : FileHeld). h.stays x) (is_past t before)
      ∙ sym (left_here old x kept t ∙ ap (λ (b : Bool). if b then old.leaves t x else None)
      (is_before t moment before)))
  leaves t y (inl before) (inr other) = ap (λ (h : FileHeld). h.stays y) (is_past t before)
      ∙ sym (left_other old x kept y other t)
  leaves t y (inr came) (inl here) = subst (λ (k : ℕ). (replayed_to t (all_certain first) later).stays k ≡
      (with_sector old x kept).leaves t k) (sym here)
      (ap (λ (h : FileHeld). h.stays x) (is_now t came) ∙ stays_here held moment x bytes
      ∙ sym (left_after old x kept t came))
  leaves t y (inr came) (inr other) = ap (λ (h : FileHeld). h.stays y) (is_now t came)
      ∙ stays_other held moment x bytes y other
      ∙ sym (left_other old x kept y other t ∙ ap (λ (h : FileHeld). h.stays y) (was_now t came))

  could : (t y : ℕ) → (t < moment) ⊎ (moment ≤ t) → (y ≡ x) ⊎ (y ≢ x)
      → (replayed_to t (all_certain first) later).could y ≡ (with_sector old x kept).could t y
  could t y (inl before) (inl here) = subst (λ (k : ℕ). (replayed_to t (all_certain first) later).could k ≡
      (with_sector old x kept).could t k) (sym here)
      (ap (λ (h : FileHeld). h.could x) (is_past t before)
      ∙ sym (could_here old x kept t ∙ ap (λ (b : Bool). if b then old.could t x else could_too bytes (old.reads x)
      (old.could t x)) (is_before t moment before)))
  could t y (inl before) (inr other) = ap (λ (h : FileHeld). h.could y) (is_past t before)
      ∙ sym (could_other old x kept y other t)
  could t y (inr came) (inl here) = subst (λ (k : ℕ). (replayed_to t (all_certain first) later).could k ≡
      (with_sector old x kept).could t k) (sym here)
      (ap (λ (h : FileHeld). h.could x) (is_now t came) ∙ could_now_here held moment x bytes
      ∙ ap (λ (h : FileHeld). bytes ∷ h.could x) (sym (was_now t came))
      ∙ sym (could_after old x kept t came ∙ could_there (slice_get present x) bytes (get_or present x bytes)
      (old.could t x) was))
  could t y (inr came) (inr other) = ap (λ (h : FileHeld). h.could y) (is_now t came)
      ∙ could_now_other held moment x bytes y other
      ∙ sym (could_other old x kept y other t ∙ ap (λ (h : FileHeld). h.could y) (was_now t came))

  pub wrote_tells : TellsSame (with_sector (contents_of first present calls last) x (kept_sector moment bytes))
      (contents_of first (slice_set present x bytes) later moment)
  wrote_tells = record {
    length = ap (λ (n : ℕ). 512 * n) (length-set present x bytes);
    reads = λ y. reads y (cases_eq y x);
    leaves = λ t y. leaves t y (cases_lt t moment) (cases_eq y x);
    could = λ t y. could t y (cases_lt t moment) (cases_eq y x);
  }

-- All of a row is handed over, or all but what is left.
pub row_done : (old now : Contents) (x i : ℕ) (row : List KeptSector) → length row ≤ i
    → TellsSame (with_row old x row) (with_row now (x + i) (drop i row)) → TellsSame (with_row old x row) now
row_done old now x i row all same = subst (λ (l : List KeptSector). TellsSame (with_row old x row)
    (with_row now (x + i) l)) (drop_of_length-le row all) same

pub same_length : (old now : Contents) (x y : ℕ) (row rest : List KeptSector)
    → TellsSame (with_row old x row) (with_row now y rest) → now.length ≡ old.length
same_length old now x y row rest same = sym (row_length now y rest) ∙ same.length ∙ row_length old x row

pub row_starts : (old : Contents) (x : ℕ) (row : List KeptSector)
    → TellsSame (with_row old x row) (with_row old (x + 0) (drop 0 row))
row_starts old x row = subst (λ (n : ℕ). TellsSame (with_row old x row) (with_row old n row)) (omega arith)
    (record { length = refl; reads = λ y. refl; leaves = λ t y. refl; could = λ t y. refl })

pub of_err : (result : Result (Unit {0}) Failed) (P : Type 0) → is_err result ≡ true → OnErr result P → P
of_err (Ok done) P is has = absurd (cc)
of_err (Err e) P is has = has

pub of_ok : (result : Result (Unit {0}) Failed) (P : Type 0) → is_err result ≡ false → OnOk result P → P
of_ok (Ok done) P is has = has
of_ok (Err e) P is has = absurd (cc)

-- The first sector that is not written ends the call.
pub stopped_at : (old now next : Contents) (x i : ℕ) (row : List KeptSector) → i < length row → next ≡ now
    → ((moment : ℕ) → old.last ≤ moment → AllKeptBy moment row → now.last ≤ moment)
    → TellsSame (with_row old x row) (with_row now (x + i) (drop i row)) → HandedOver old next x row (Err i)
stopped_at old now next x i row below none last same = subst (λ (c : Contents). HandedOver old c x row (Err i))
    (sym none) (record {
      last = last;
      done = tt;
      stopped = (omega (arith, below), same);
    })

-- A call that went well is not counted.
pub well : (before now : ℕ) (result : Result (Unit {0}) Failed) → is_err result ≡ false
    → CountsFault before now result → now ≡ before
well before now (Ok done) is counts = counts.well
well before now (Err e) is counts = absurd (cc)
