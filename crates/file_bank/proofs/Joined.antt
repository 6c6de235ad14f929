-- What a call on one file does to the bank that the files make.
use Rattle.std.proofs.Common.{◌≡◌, ◌≢◌, ◌⊎◌, inl, inr, ℕ, ◌+◌, ◌<◌, ◌≤◌, List, length, Option, None, Result, Ok, Err}
use Rattle.std.proofs.Common.{Some, refl, sym, ◌∙◌, ap, subst, arith, slice_index_or, slice_set}
use Rattle.std.proofs.lemmas.List.{get_or-set_same, get_or-set_other, length-set, get_or_default}
use Rattle.std.proofs.lemmas.Bool.{cases_eq}
use Rattle.std.specs.Prelude.{IsSome, Contains, OnOk, OnErr}
use Rattle.bank_trait.specs.declared.Failed.{Failed}
use Rattle.bank_trait.specs.Disk.{Disk, Continues, Other, Wrote, Synced}
use Rattle.file_bank.specs.BlockFile.{Contents, GoesOn, Written, Settled, LawfulFile}
use Rattle.file_bank.specs.Lawful.{all_lawful}
use Rattle.file_bank.specs.Files.{shown, all_shown, as_bank, OthersStay, CountsCall}

-- Another file in the place of one.
put_same : {F : Type 0} (contents : F → Contents) (files : List (Option F)) (d : ℕ)
    (file : Option F) → d < length files
    → all_shown contents (slice_set files d file) d ≡ shown contents file
put_same contents files d file below =
    ap (shown contents) (get_or-set_same files d file None below)

put_other : {F : Type 0} (contents : F → Contents) (files : List (Option F)) (d : ℕ)
    (file : Option F) → OthersStay (all_shown contents files)
    (all_shown contents (slice_set files d file)) d
put_other contents files d file e other =
    ap (shown contents) (get_or-set_other files d e file None other)

-- The file at a place, whatever stands for one that is not there.
there : {F : Type 0} (contents : F → Contents) (files : List (Option F)) (d : ℕ) (was : Option F)
    → d < length files → was ≡ slice_index_or files d was
    → shown contents was ≡ all_shown contents files d
there contents files d was below is =
    ap (shown contents) (is ∙ get_or_default files d was None below)

-- A file that is read, and shows what it showed, leaves all as it was.
pub read_one : {F : Type 0} (contents : F → Contents) (files : List (Option F)) (was file : Option F)
    (faults counts : ℕ → ℕ) (sectors clock d : ℕ) (result : Result (Unit {0}) Failed)
    → d < length files → was ≡ slice_index_or files d was
    → shown contents file ≡ shown contents was → CountsCall faults counts d result
    → OnOk result (as_bank (length (slice_set files d file)) sectors
    (all_shown contents (slice_set files d file)) counts clock
    ≡ as_bank (length files) sectors (all_shown contents files) faults clock)
read_one contents files was file faults counts sectors clock d (Err e) below is same counted = tt
read_one contents files was file faults counts sectors clock d (Ok done) below is same counted = λ i.
    as_bank (length-set files d file i) sectors (λ e. shows e i) (λ e. counted.well e i) clock
  where
    shows : (e : ℕ) → all_shown contents (slice_set files d file) e ≡ all_shown contents files e
    shows e = by_case (cases_eq e d)
      where
        by_case : (e ≡ d) ⊎ (e ≢ d)
            → all_shown contents (slice_set files d file) e ≡ all_shown contents files e
        by_case (inl here) = subst (λ (k : ℕ). all_shown contents (slice_set files d file) k
            ≡ all_shown contents files k) (sym here)
            (put_same contents files d file below ∙ same ∙ there contents files d was below is)
        by_case (inr other) = put_other contents files d file e other

module _ (devices as_many sectors : ℕ) (files new : ℕ → Contents) (faults counts : ℕ → ℕ)
    (clock moment d : ℕ) (same : as_many ≡ devices) (next : moment ≡ clock + 1)
    (others : OthersStay files new d) (on : GoesOn (files d) (new d) moment)
    (laws : (e : ℕ) → LawfulFile (files e)) (paced : (e : ℕ) → (files e).last ≤ clock)
    (more : (e : ℕ) → faults e ≤ counts e) where
  abbrev before : Disk
  before = as_bank devices sectors files faults clock

  abbrev after : Disk
  after = as_bank as_many sectors new counts moment

  told : (e x : ℕ) → IsSome (before.reads e x) → IsSome (after.reads e x)
  told e x is = by_case (cases_eq e d)
    where
      by_case : (e ≡ d) ⊎ (e ≢ d) → IsSome (after.reads e x)
      by_case (inl here) = subst (λ (k : ℕ). IsSome ((new k).reads x)) (sym here)
          (on.told x (subst (λ (k : ℕ). IsSome ((files k).reads x)) here is))
      by_case (inr other) = subst (λ (c : Contents). IsSome (c.reads x)) (sym (others e other)) is

  past : (t : ℕ) → t ≤ clock → (e x : ℕ)
      → (after.leaves t e x ≡ before.leaves t e x) × (after.could t e x ≡ before.could t e x)
  past t below e x = by_case (cases_eq e d)
    where
      by_case : (e ≡ d) ⊎ (e ≢ d)
          → (after.leaves t e x ≡ before.leaves t e x) × (after.could t e x ≡ before.could t e x)
      by_case (inl here) = subst (λ (k : ℕ). ((new k).leaves t x ≡ (files k).leaves t x)
          × ((new k).could t x ≡ (files k).could t x)) (sym here) (on.past t (omega arith) x)
      by_case (inr other) = (
        ap (λ (c : Contents). c.leaves t x) (others e other),
        ap (λ (c : Contents). c.could t x) (others e other),
      )

  continues : Continues before after
  continues = record {
    later = record {
      devices = same;
      sectors = refl;
      faults = more;
      clock = omega arith;
      told = told;
      past = past;
    };
    present = λ t above below e x.
        let now : t ≡ moment = omega arith in (
          ap (λ (k : ℕ). (new e).leaves k x) now,
          ap (λ (k : ℕ). (new e).could k x) now,
        );
  }

  -- What another file leaves now is what it left.
  others_leave : (e x : ℕ) → e ≢ d → after.leaves after.clock e x ≡ before.leaves before.clock e x
  others_leave e x other = ap (λ (c : Contents). c.leaves moment x) (others e other)
      ∙ ((laws e).still moment (omega (arith, paced e)) x).0
      ∙ sym (((laws e).still clock (paced e) x).0)

  others_could : (e x : ℕ) → e ≢ d → after.could after.clock e x ≡ before.could before.clock e x
  others_could e x other = ap (λ (c : Contents). c.could moment x) (others e other)
      ∙ ((laws e).still moment (omega (arith, paced e)) x).1
      ∙ sym (((laws e).still clock (paced e) x).1)

  -- What was left at the file's last call is what the bank left.
  left_before : (x : ℕ) → (files d).leaves (files d).last x ≡ before.leaves before.clock d x
  left_before x = sym (((laws d).still clock (paced d) x).0)

  could_before : (x : ℕ) → (files d).could (files d).last x ≡ before.could before.clock d x
  could_before x = sym (((laws d).still clock (paced d) x).1)

  -- Another sector is of another file, or another one of this file.
  others_read : (e x y : ℕ) → Other d x e y
      → ((z : ℕ) → z ≢ x → (new d).reads z ≡ (files d).reads z)
      → after.reads e y ≡ before.reads e y
  others_read e x y (inl other) here = ap (λ (c : Contents). c.reads y) (others e other)
  others_read e x y (inr other) here = by_case (cases_eq e d)
    where
      by_case : (e ≡ d) ⊎ (e ≢ d) → after.reads e y ≡ before.reads e y
      by_case (inl is) = subst (λ (k : ℕ). (new k).reads y ≡ (files k).reads y) (sym is) (here y other)
      by_case (inr not) = ap (λ (c : Contents). c.reads y) (others e not)

  others_left : (e x y : ℕ) → Other d x e y
      → ((z : ℕ) → z ≢ x → (new d).leaves moment z ≡ (files d).leaves (files d).last z)
      → after.leaves after.clock e y ≡ before.leaves before.clock e y
  others_left e x y (inl other) here = others_leave e y other
  others_left e x y (inr other) here = by_case (cases_eq e d)
    where
      by_case : (e ≡ d) ⊎ (e ≢ d) → after.leaves after.clock e y ≡ before.leaves before.clock e y
      by_case (inl is) = subst (λ (k : ℕ). (new k).leaves moment y ≡ (files k).leaves clock y)
          (sym is) (here y other ∙ left_before y)
      by_case (inr not) = others_leave e y not

  others_could_be : (e x y : ℕ) → Other d x e y
      → ((z : ℕ) → z ≢ x → (new d).could moment z ≡ (files d).could (files d).last z)
      → after.could after.clock e y ≡ before.could before.clock e y
  others_could_be e x y (inl other) here = others_could e y other
  others_could_be e x y (inr other) here = by_case (cases_eq e d)
    where
      by_case : (e ≡ d) ⊎ (e ≢ d) → after.could after.clock e y ≡ before.could before.clock e y
      by_case (inl is) = subst (λ (k : ℕ). (new k).could moment y ≡ (files k).could clock y)
          (sym is) (here y other ∙ could_before y)
      by_case (inr not) = others_could e y not

  new_or_before : (x : ℕ) (bytes b : List ℕ) → (b ≡ bytes) ⊎ Contains ((files d).could (files d).last x) b
      → (b ≡ bytes) ⊎ Contains (before.could before.clock d x) b
  new_or_before x bytes b (inl new_one) = inl new_one
  new_or_before x bytes b (inr among) =
      inr (subst (λ (l : List (List ℕ)). Contains l b) (could_before x) among)

  wrote : (x : ℕ) (bytes : List ℕ) (result : Result (Unit {0}) Failed)
      → Written (files d) (new d) moment x bytes result → CountsCall faults counts d result
      → Wrote before after d x bytes result
  wrote x bytes result here counted = record {
    goes_on = continues;
    failed = counted.failed;
    once = counted.once;
    well = counted.well;
    told = here.told;
    torn = here.torn;
    others_read = λ e y other. others_read e x y other here.others_read;
    others_leave = λ e y other. others_left e x y other here.others_leave;
    could = λ b among. new_or_before x bytes b (here.could b among);
    handed = here.handed;
    still_could = λ b among. here.still_could b
        (subst (λ (l : List (List ℕ)). Contains l b) (sym (could_before x)) among);
    others_could = λ e y other. others_could_be e x y other here.others_could;
  }

  not_durable : (result : Result (Unit {0}) Failed)
      → OnErr result ((x : ℕ) → (new d).leaves moment x ≡ (files d).leaves (files d).last x)
      → OnErr result ((x : ℕ) → (new d).leaves moment x ≡ (files d).leaves clock x)
  not_durable (Ok done) left = tt
  not_durable (Err e) left = λ x. left x ∙ left_before x

  could_still : (result : Result (Unit {0}) Failed)
      → OnErr result ((x : ℕ) → (new d).could moment x ≡ (files d).could (files d).last x)
      → OnErr result ((x : ℕ) → (new d).could moment x ≡ (files d).could clock x)
  could_still (Ok done) left = tt
  could_still (Err e) left = λ x. left x ∙ could_before x

  could_of : (result : Result (Unit {0}) Failed)
      → OnOk result ((x : ℕ) (b : List ℕ) → Contains ((new d).could moment x) b
      → ((files d).reads x ≡ Some b) × Contains ((files d).could (files d).last x) b)
      → OnOk result ((x : ℕ) (b : List ℕ) → Contains ((new d).could moment x) b
      → ((files d).reads x ≡ Some b) × Contains ((files d).could clock x) b)
  could_of (Ok done) could = λ x b among.
      let both = could x b among in
      (both.0, subst (λ (l : List (List ℕ)). Contains l b) (could_before x) both.1)
  could_of (Err e) could = tt

  kept_of : (result : Result (Unit {0}) Failed)
      → OnOk result ((x : ℕ) (b : List ℕ) → (files d).reads x ≡ Some b
      → Contains ((files d).could (files d).last x) b → Contains ((new d).could moment x) b)
      → OnOk result ((x : ℕ) (b : List ℕ) → (files d).reads x ≡ Some b
      → Contains ((files d).could clock x) b → Contains ((new d).could moment x) b)
  kept_of (Ok done) kept = λ x b is among.
      kept x b is (subst (λ (l : List (List ℕ)). Contains l b) (sym (could_before x)) among)
  kept_of (Err e) kept = tt

  synced : (result : Result (Unit {0}) Failed) → Settled (files d) (new d) moment result
      → CountsCall faults counts d result → Synced before after d result
  synced result here counted = record {
    goes_on = continues;
    failed = counted.failed;
    once = counted.once;
    well = counted.well;
    durable = here.durable;
    not_durable = not_durable result here.not_durable;
    reads = here.reads;
    reads_certain = λ x bytes certain. here.reads_certain x bytes (left_before x ∙ certain);
    others_read = λ e x other. ap (λ (c : Contents). c.reads x) (others e other);
    others_leave = others_leave;
    could = could_of result here.could;
    kept = kept_of result here.kept;
    still_could = could_still result here.still_could;
    others_could = others_could;
  }

module _ {F : Type 0} (contents : F → Contents) (lawful : (file : F) → LawfulFile (contents file))
    (files : List (Option F)) (was file : Option F) (faults counts : ℕ → ℕ)
    (sectors clock moment d : ℕ) (below : d < length files) (is : was ≡ slice_index_or files d was)
    (next : moment ≡ clock + 1) (paced : (e : ℕ) → (all_shown contents files e).last ≤ clock) where
  abbrev old_disk : Disk
  old_disk = as_bank (length files) sectors (all_shown contents files) faults clock

  abbrev new_disk : Disk
  new_disk = as_bank (length (slice_set files d file)) sectors
      (all_shown contents (slice_set files d file)) counts moment

  -- A write to one file, as a write to the bank.
  pub wrote_one : (x : ℕ) (bytes : List ℕ) (result : Result (Unit {0}) Failed)
      → Written (shown contents was) (shown contents file) moment x bytes result
      → CountsCall faults counts d result → Wrote old_disk new_disk d x bytes result
  wrote_one x bytes result written counted =
      let old_shown = there contents files d was below is in
      let new_shown = put_same contents files d file below in
      let here : Written (all_shown contents files d) (all_shown contents (slice_set files d file) d)
      moment x bytes result = subst (λ (c : Contents). Written c
      (all_shown contents (slice_set files d file) d) moment x bytes result) old_shown
      (subst (λ (c : Contents). Written (shown contents was) c moment x bytes result) (sym new_shown)
      written) in
      wrote (length files) _ sectors (all_shown contents files) _ faults counts clock moment d
      (length-set files d file) next (put_other contents files d file) here.goes_on
      (all_lawful contents lawful files) paced counted.later x bytes result here counted

  -- A sync of one file, as a sync of its device.
  pub synced_one : (result : Result (Unit {0}) Failed)
      → Settled (shown contents was) (shown contents file) moment result
      → CountsCall faults counts d result → Synced old_disk new_disk d result
  synced_one result settled counted =
      let old_shown = there contents files d was below is in
      let new_shown = put_same contents files d file below in
      let here : Settled (all_shown contents files d) (all_shown contents (slice_set files d file) d)
      moment result = subst (λ (c : Contents). Settled c
      (all_shown contents (slice_set files d file) d) moment result) old_shown
      (subst (λ (c : Contents). Settled (shown contents was) c moment result) (sym new_shown)
      settled) in
      synced (length files) _ sectors (all_shown contents files) _ faults counts clock moment d
      (length-set files d file) next (put_other contents files d file) here.goes_on
      (all_lawful contents lawful files) paced counted.later result here counted
