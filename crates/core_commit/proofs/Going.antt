-- What any calls of a commit leave alone, and which devices go out in them.
use Rattle.std.proofs.Common.{◌≡◌, ◌≢◌, ◌⊎◌, inl, inr, ⊎_elim, ℕ, zero, suc, ◌+◌, ◌<◌, ◌≤◌, List, [], ◌∷◌, Bool, true}
use Rattle.std.proofs.Common.{false, Result, Ok, Err, refl, sym, ◌∙◌, ap, subst, arith}
use Rattle.std.specs.Prelude.{◌||◌, ◌&&◌, ◌==◌, All, OnErr}
use Rattle.std.proofs.lemmas.Bool.{cases_eq}
use Rattle.std.proofs.lemmas.Bool.Decides.{nat_tests}
use Rattle.bank_trait.specs.declared.Failed.{Failed}
use Rattle.bank_trait.specs.Causes.{FaultCounted}
use Rattle.bank_trait.specs.Disk.{Wrote, Synced}
use Rattle.bank_trait.proofs.Moments.{later_refl, later_trans}
use Rattle.block_record.specs.declared.entry.IndexEntry.{IndexEntry}
use Rattle.block_record.specs.Page.{page_sectors}
use Rattle.uberblock_ring.specs.Devices.{has_device, IsWithin}
use Rattle.uberblock_ring.specs.Uberblock.{Uber, slot_of, area_sector}
use Rattle.commit_job.specs.declared.call.CommitCall.{CommitCall}
use Rattle.commit_job.specs.declared.call.CommitCall.TheVariants.{IndexWrite, BaseSync, UberWrite, UberSync}
use Rattle.commit_job.specs.Stages.{device_of}
use Rattle.core_state.specs.Committing.{Among, Point, Called}
use Rattle.core_state.proofs.Calls.{true_false}
use Rattle.core_commit.specs.Ran.{MadeOne, Step, RanBy, IsCallInPool}
use Rattle.core_commit.specs.Spared.{SparesData}
use Rattle.core_commit.specs.Ordered.{Due, Ordered}
use Rattle.core_commit.proofs.Plans.{next_among, rest_among}
use Rattle.core_commit.proofs.Halves.{stays_out}

-- Devices go out, each for a call that failed on it, and what is no ring or index area is left alone.
pub record Went (before after : Point) : Type 0 where
  pub spares : SparesData before after
  pub stay : IsWithin before.out after.out
  pub each : (device : ℕ) → has_device after.out device ≡ true
      → (has_device before.out device ≡ true)
      ⊎ FaultCounted (before.disk.faults device) (after.disk.faults device)

pub rose_wider : (one two three four : ℕ) → one ≤ two → FaultCounted two three → three ≤ four → FaultCounted one four
rose_wider one two three four low rose high = omega (arith, low, rose, high)

pub went_none : (point : Point) → Went point point
went_none point = record {
  spares = record { later = later_refl point.disk; reads = λ device x in_use region. refl };
  stay = λ device out. out;
  each = λ device out. inl out;
}

pub in_use_before : (before after : Point) (device : ℕ) → IsWithin before.out after.out
    → has_device after.out device ≡ false
    → has_device before.out device ≡ false
in_use_before before after device stay in_use = by (has_device before.out device) refl
  where
    by : (b : Bool) → has_device before.out device ≡ b → has_device before.out device ≡ false
    by false is = is
    by true is = absurd (true_false (sym (stay device is) ∙ in_use))

pub went_on : (before mid after : Point) → Went before mid → Went mid after → Went before after
went_on before mid after one two = record {
  spares = record {
    later = later_trans one.spares.later two.spares.later;
    reads = λ device x in_use region. two.spares.reads device x in_use region
        ∙ one.spares.reads device x (in_use_before mid after device two.stay in_use) region;
  };
  stay = λ device out. two.stay device (one.stay device out);
  each = λ device out. ⊎_elim
      (λ mid_out. ⊎_elim (λ was. inl was)
      (λ rose. inr (rose_wider (before.disk.faults device) (before.disk.faults device) (mid.disk.faults device)
      (after.disk.faults device) (omega arith) rose (two.spares.later.faults device)))
      (one.each device mid_out))
      (λ rose. inr (rose_wider (before.disk.faults device) (mid.disk.faults device) (after.disk.faults device)
      (after.disk.faults device) (one.spares.later.faults device) rose (omega arith)))
      (two.each device out);
}

-- A device that a call put out failed in it.
lost_rose : (device : ℕ) (result : Result (Unit {0}) Failed) (before after : Point)
    → Called device result before after
    → OnErr result (FaultCounted (before.disk.faults device) (after.disk.faults device))
    → (other : ℕ) → has_device after.out other ≡ true
    → (has_device before.out other ≡ true) ⊎ FaultCounted (before.disk.faults other) (after.disk.faults other)
lost_rose device (Ok value) before after called failed other out =
    inl (by (has_device before.out other) (other == device) (sym (called.out other) ∙ out))
  where
    by : (b c : Bool) → (b || (c && false)) ≡ true → b ≡ true
    by true c is = refl
    by false true is = absurd (true_false (sym is))
    by false false is = absurd (true_false (sym is))
lost_rose device (Err fault) before after called failed other out = ⊎_elim
    (λ same. inr (subst (λ (d : ℕ). FaultCounted (before.disk.faults d) (after.disk.faults d)) (sym same) failed))
    (λ apart. inl (by (has_device before.out other) (other == device) (elsewhere apart)
    (sym (called.out other) ∙ out)))
    (cases_eq other device)
  where
    elsewhere : other ≢ device → (other == device) ≡ false
    elsewhere apart = grind (arith, nat_tests)

    by : (b c : Bool) → c ≡ false → (b || (c && true)) ≡ true → b ≡ true
    by true c none is = refl
    by false true none is = absurd (true_false none)
    by false false none is = absurd (true_false (sym is))

-- The sector is in the scratch area or in the data rows.
abbrev IsData : ℕ → Type 0
IsData device_sector = ((32 ≤ device_sector) × (device_sector < 64)) ⊎ (192 ≤ device_sector)

no_data : (sector device_sector : ℕ) → IsData device_sector
    → (sector < 32) ⊎ ((64 ≤ sector) × (sector < 192))
    → device_sector ≢ sector
no_data sector device_sector region head same = ⊎_elim
    (λ scratch. ⊎_elim (λ slot. omega (arith, scratch.0, slot, same))
    (λ page. omega (arith, scratch.1, page.0, same)) head)
    (λ rows. ⊎_elim (λ slot. omega (arith, rows, slot, same))
    (λ page. omega (arith, rows, page.1, same)) head) region

went_write : (device sector : ℕ) (bytes : List ℕ) (result : Result (Unit {0}) Failed)
    (before after : Point) → (sector < 32) ⊎ ((64 ≤ sector) × (sector < 192))
    → Called device result before after → Wrote before.disk after.disk device sector bytes result
    → Went before after
went_write device sector bytes result before after head called wrote = record {
  spares = record {
    later = wrote.goes_on.later;
    reads = λ d x in_use region. wrote.others_read d x (inr (no_data sector x region head));
  };
  stay = stays_out device result before after called;
  each = lost_rose device result before after called wrote.failed;
}

-- A sync of a device that is still in use changes nothing that is read.
pub synced_reads : (device : ℕ) (result : Result (Unit {0}) Failed) (before after : Point)
    → Called device result before after → Synced before.disk after.disk device result
    → (d x : ℕ) → has_device after.out d ≡ false
    → after.disk.reads d x ≡ before.disk.reads d x
synced_reads device (Ok value) before after called synced d x in_use = ⊎_elim
    (λ same. subst (λ (e : ℕ). after.disk.reads e x ≡ before.disk.reads e x) (sym same) (synced.reads x))
    (λ apart. synced.others_read d x apart) (cases_eq d device)
synced_reads device (Err fault) before after called synced d x in_use = ⊎_elim
    (λ same. absurd (true_false (sym (lost same) ∙ in_use)))
    (λ apart. synced.others_read d x apart) (cases_eq d device)
  where
    lost : d ≡ device → has_device after.out d ≡ true
    lost same = called.out d
        ∙ ap (λ (b : Bool). has_device before.out d || (b && true)) (here same)
        ∙ or_true (has_device before.out d)
      where
        here : d ≡ device → (d == device) ≡ true
        here is = grind (arith, nat_tests)

        or_true : (b : Bool) → (b || true) ≡ true
        or_true true = refl
        or_true false = refl

went_sync : (device : ℕ) (result : Result (Unit {0}) Failed) (before after : Point)
    → Called device result before after → Synced before.disk after.disk device result
    → Went before after
went_sync device result before after called synced = record {
  spares = record {
    later = synced.goes_on.later;
    reads = λ d x in_use region. synced_reads device result before after called synced d x in_use;
  };
  stay = stays_out device result before after called;
  each = lost_rose device result before after called synced.failed;
}

-- Each call of the plan is to a device and a sector that are there.
abbrev pub AreInside : Uber → List CommitCall → Type 0
AreInside uber plan = (call : CommitCall) → Among plan call → IsCallInPool uber call

module _ (uber : Uber) (entries : List IndexEntry) (area : uber.area ≤ 1) (count : uber.count ≤ 512)
  where
    pub went_one : (call : CommitCall) (before after : Point)
        → IsCallInPool uber call → MadeOne uber entries call before after
        → Went before after
    went_one (IndexWrite device part) before after inside made =
        went_write device (area_sector uber.area + part) _ made.result before after
        (inr (omega (arith, area), (let low = inside.1 in omega (arith, low, count, area)))) made.called made.made
    went_one (BaseSync device) before after inside made =
        went_sync device made.result before after made.called made.made
    went_one (UberWrite device) before after inside made =
        went_write device (slot_of uber.group) _ made.result before after (inl (omega arith)) made.called made.made
    went_one (UberSync device) before after inside made =
        went_sync device made.result before after made.called made.made

    -- Any calls of a plan.
    pub went_all : (steps : List Step) (plan left : List CommitCall)
        (point now : Point) → RanBy uber entries steps plan point left now → AreInside uber plan
        → Went point now × AreInside uber left
    went_all [] plan left point now ran inside = (
      subst (Went point) (sym ran.1) (went_none point),
      subst (AreInside uber) (sym ran.0) inside,
    )
    went_all (step ∷ steps) plan left point now ran inside =
        let before = went_all steps plan ran.0 point step.before ran.1 inside in (
          went_on point step.before now before.0
              (subst (Went step.before) (sym ran.5)
              (went_one step.call step.before step.after
              (before.1 step.call (next_among step.before.out ran.0 step.call ran.2)) ran.3)),
          subst (AreInside uber) (sym ran.4) (λ other among. before.1 other
              (rest_among step.before.out ran.0 step.call other ran.2 among)),
        )

-- The calls of an ordered plan are.
pub ordered_inside : (uber : Uber) (plan : List CommitCall)
    → Ordered uber.reflow.to (page_sectors uber.count) plan
    → AreInside uber plan
ordered_inside uber [] ordered other among = absurd among
ordered_inside uber (call ∷ plan) ordered other among = ⊎_elim
    (λ same. subst (IsCallInPool uber) (sym same) (due_inside uber call plan ordered.0))
    (λ later. ordered_inside uber plan ordered.1 other later) among
  where
    due_inside : (uber : Uber) (call : CommitCall) (rest : List CommitCall)
        → Due uber.reflow.to (page_sectors uber.count) call rest
        → IsCallInPool uber call
    due_inside uber (IndexWrite device part) rest due = (due.0, due.1)
    due_inside uber (BaseSync device) rest due = due.0
    due_inside uber (UberWrite device) rest due = due.0
    due_inside uber (UberSync device) rest due = due.0

-- as the functions ask for it
pub all_inside : (uber : Uber) (plan : List CommitCall) → AreInside uber plan → All (IsCallInPool uber) plan
all_inside uber [] inside k default low = absurd (omega (arith, low))
all_inside uber (call ∷ plan) inside zero default low = inside call (inl refl)
all_inside uber (call ∷ plan) inside (suc k) default low =
    all_inside uber plan (λ other among. inside other (inr among)) k default (omega (arith, low))

pub inside_device : (uber : Uber) (call : CommitCall) → IsCallInPool uber call → device_of call < uber.reflow.to
inside_device uber (IndexWrite device part) inside = inside.0
inside_device uber (BaseSync device) inside = inside
inside_device uber (UberWrite device) inside = inside
inside_device uber (UberSync device) inside = inside
