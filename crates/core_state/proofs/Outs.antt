-- Devices that go out, call by call.
use Rattle.std.proofs.Common.{◌≡◌, ◌≢◌, ⊎_elim, ℕ, ◌≤◌, Bool, true, false, Result, Ok, Err, refl, sym, ◌∙◌, ap, subst}
use Rattle.std.proofs.Common.{arith}
use Rattle.std.specs.Prelude.{◌&&◌, ◌||◌, ◌==◌, is_err, OnErr}
use Rattle.std.proofs.lemmas.Bool.{cases_eq, cases_Bool, true≢false, false≢true}
use Rattle.std.proofs.lemmas.Bool.Decides.{nat_tests}
use Rattle.bank_trait.specs.declared.Failed.{Failed}
use Rattle.bank_trait.specs.Causes.{FaultCounted}
use Rattle.uberblock_ring.specs.Devices.{has_device, with_device}
use Rattle.uberblock_ring.proofs.DeviceSets.{has_with, others_with}
use Rattle.core_state.specs.Committing.{Point, Called, lost_by}
use Rattle.core_state.specs.Outs.{OnlyFailedGoOut}

or_false : (b : Bool) → (b || false) ≡ b
or_false true = refl
or_false false = refl

and_false : (b : Bool) → (b && false) ≡ false
and_false true = refl
and_false false = refl

-- A call that went well loses no device.
pub none_lost : (device : ℕ) (result : Result (Unit {0}) Failed) → false ≡ is_err result → (out other : ℕ)
    → has_device out other ≡ (has_device out other || lost_by device result other)
none_lost device (Ok value) well out other =
    sym (ap (λ (b : Bool). has_device out other || b) (and_false (other == device)) ∙ or_false (has_device out other))
none_lost device (Err why) well out other = absurd (false≢true well)

-- One that failed puts its device out, and no other.
pub one_lost : (device : ℕ) (result : Result (Unit {0}) Failed) → true ≡ is_err result → (out other : ℕ)
    → has_device (with_device out device) other ≡ (has_device out other || lost_by device result other)
one_lost device (Ok value) failed out other = absurd (true≢false failed)
one_lost device (Err why) failed out other = ⊎_elim
    (λ (same : other ≡ device).
    let test : (other == device) ≡ true = grind (arith, nat_tests, same) in
    ap (λ (d : ℕ). has_device (with_device out device) d) same ∙ has_with out device
    ∙ sym (ap (λ (b : Bool). has_device out other || (b && true)) test ∙ or_true (has_device out other)))
    (λ (apart : other ≢ device).
    let test : (other == device) ≡ false = grind (arith, nat_tests, apart) in
    others_with out device other apart
    ∙ sym (ap (λ (b : Bool). has_device out other || (b && true)) test ∙ or_false (has_device out other)))
    (cases_eq other device)
  where
    or_true : (b : Bool) → (b || true) ≡ true
    or_true true = refl
    or_true false = refl

-- A device that a call lost is the call's, and the call failed.
lost_failed : (device other : ℕ) (result : Result (Unit {0}) Failed) (P : ℕ → Type 0) → OnErr result (P device)
    → lost_by device result other ≡ true → P other
lost_failed device other (Ok value) P holds lost = absurd (false≢true (sym (and_false (other == device)) ∙ lost))
lost_failed device other (Err why) P holds lost = ⊎_elim
    (λ (same : other ≡ device). subst P (sym same) holds)
    (λ (apart : other ≢ device).
    let test : (other == device) ≡ false = grind (arith, nat_tests, apart) in
    absurd (false≢true (sym (ap (λ (b : Bool). b && true) test) ∙ lost)))
    (cases_eq other device)

-- A device that is in use after a call on it: the call went well.
pub went_well : (device : ℕ) (result : Result (Unit {0}) Failed) (before after : Point) → Called device result before after
    → has_device after.out device ≡ false → (P : Result (Unit {0}) Failed → Type 0) → P result → P (Ok tt)
went_well device (Ok value) before after called used P holds = holds
went_well device (Err why) before after called used P holds =
    let test : (device == device) ≡ true = grind (arith, nat_tests) in
    absurd (true≢false (sym (called.out device ∙ ap (λ (b : Bool). has_device before.out device || (b && true)) test
    ∙ ap (λ (b : Bool). b || true) called.in_use) ∙ used))

-- no call
pub outs_none : (point : Point) → OnlyFailedGoOut point point
outs_none point = record {
  still = λ device out. out;
  failed = λ device used out. absurd (true≢false (sym out ∙ used));
}

-- one call
pub outs_called : (device : ℕ) (result : Result (Unit {0}) Failed) (before after : Point) → Called device result before after
    → OnErr result (FaultCounted (before.disk.faults device) (after.disk.faults device)) → OnlyFailedGoOut before after
outs_called device result before after called failed = record {
  still = λ other out. called.out other ∙ ap (λ (b : Bool). b || lost_by device result other) out;
  failed = λ other used out.
      lost_failed device other result (λ (d : ℕ). FaultCounted (before.disk.faults d) (after.disk.faults d)) failed
      (sym (called.out other ∙ ap (λ (b : Bool). b || lost_by device result other) used) ∙ out);
}

-- some calls and then others
pub outs_then : (before mid after : Point) → ((device : ℕ) → before.disk.faults device ≤ mid.disk.faults device)
    → ((device : ℕ) → mid.disk.faults device ≤ after.disk.faults device)
    → OnlyFailedGoOut before mid → OnlyFailedGoOut mid after → OnlyFailedGoOut before after
outs_then before mid after rise go_on first next = record {
  still = λ device out. next.still device (first.still device out);
  failed = λ device used out. ⊎_elim
      (λ (earlier : has_device mid.out device ≡ true).
      let rose : FaultCounted (before.disk.faults device) (mid.disk.faults device) = first.failed device used earlier in
      omega (arith, rose, go_on device))
      (λ (later : has_device mid.out device ≡ false).
      let rose : FaultCounted (mid.disk.faults device) (after.disk.faults device) = next.failed device later out in
      omega (arith, rose, rise device))
      (cases_Bool (has_device mid.out device));
}

-- A device that is in use was in use before.
pub was_used : (before after : ℕ) (device : ℕ) → ((other : ℕ) → has_device before other ≡ true → has_device after other ≡ true)
    → has_device after device ≡ false → has_device before device ≡ false
was_used before after device still used = ⊎_elim
    (λ (out : has_device before device ≡ true). absurd (true≢false (sym (still device out) ∙ used)))
    (λ (before_used : has_device before device ≡ false). before_used)
    (cases_Bool (has_device before device))
