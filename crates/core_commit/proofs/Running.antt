-- Calls one by one: what is out after one, and how a list of them goes on.
use Rattle.std.proofs.Common.{◌≡◌, ⊎_elim, ℕ, suc, ◌<◌, List, [], ◌∷◌, length, Some, None, refl, sym, ◌∙◌, ap, subst}
use Rattle.std.proofs.Common.{arith}
use Rattle.std.specs.Prelude.{Bool, true, false, not, ◌&&◌, ◌||◌, ◌==◌, is_err, Result, Ok, Err, All, slice_get}
use Rattle.std.specs.Prelude.{if◌then◌else◌, ◌≢◌}
use Rattle.std.proofs.lemmas.Bool.{cases_eq}
use Rattle.std.proofs.lemmas.Bool.Decides.{nat_tests}
use Rattle.bank_trait.specs.declared.Failed.{Failed}
use Rattle.block_record.specs.declared.entry.IndexEntry.{IndexEntry}
use Rattle.uberblock_ring.specs.Devices.{has_device, with_device}
use Rattle.uberblock_ring.specs.Uberblock.{Uber}
use Rattle.uberblock_ring.proofs.DeviceSets.{has_with, others_with}
use Rattle.commit_job.specs.declared.call.CommitCall.{CommitCall}
use Rattle.commit_job.specs.Stages.{device_of, calls_left, after_next}
use Rattle.core_state.specs.Committing.{Point, lost_by}
use Rattle.core_commit.specs.Ran.{MadeOne, Ran}

or_false : (b : Bool) → (b || false) ≡ b
or_false true = refl
or_false false = refl

and_false : (b : Bool) → (b && false) ≡ false
and_false true = refl
and_false false = refl

or_true : (b : Bool) → (b || true) ≡ true
or_true true = refl
or_true false = refl

true_false : true ≡ false → ⊥
true_false same = cc

-- A call that went well loses no device.
pub none_lost : (device : ℕ) (result : Result (Unit {0}) Failed) → false ≡ is_err result → (out other : ℕ)
    → has_device out other ≡ (has_device out other || lost_by device result other)
none_lost device (Ok value) well out other = sym (
    ap (λ (b : Bool). has_device out other || b) (and_false (other == device)) ∙ or_false (has_device out other))
none_lost device (Err failed) well out other = absurd (true_false (sym well))

-- One that failed puts its device out, and no other.
pub one_lost : (device : ℕ) (result : Result (Unit {0}) Failed) → true ≡ is_err result → (out other : ℕ)
    → has_device (with_device out device) other ≡ (has_device out other || lost_by device result other)
one_lost device (Ok value) failed out other = absurd (true_false failed)
one_lost device (Err failed) is out other = ⊎_elim
    (λ same. subst (λ d. has_device (with_device out d) other ≡ (has_device out other || ((other == d) && true))) same
    (has_with out other ∙ sym (ap (λ (b : Bool). has_device out other || (b && true)) (here other)
    ∙ or_true (has_device out other))))
    (λ apart. others_with out device other apart
    ∙ sym (ap (λ (b : Bool). has_device out other || (b && true)) (elsewhere other device apart)
    ∙ or_false (has_device out other)))
    (cases_eq other device)
  where
    here : (n : ℕ) → (n == n) ≡ true
    here n = grind (arith, nat_tests)

    elsewhere : (n m : ℕ) → n ≢ m → (n == m) ≡ false
    elsewhere n m apart = grind (arith, nat_tests)

-- The next call of a plan is to a device in use, is one of the plan's, and leaves fewer.
pub record IsNext (P : CommitCall → Type 0) (out : ℕ) (plan : List CommitCall) (call : CommitCall) : Type 0 where
  pub in_use : has_device out (device_of call) ≡ false
  pub fits : P call
  pub rest : All P (after_next out plan)
  pub less : length (after_next out plan) < length plan

all_head : {X : Type 0} → (P : X → Type 0) (x : X) (xs : List X) → All P (x ∷ xs) → P x
all_head P x xs all = all 0 x (omega arith)

all_tail : {X : Type 0} → (P : X → Type 0) (x : X) (xs : List X) → All P (x ∷ xs) → All P xs
all_tail P x xs all k d low = all (suc k) d (omega (arith, low))

pub some_same : {one two : CommitCall} → Some one ≡ Some two → one ≡ two
some_same same = cc

pub next_is : (P : CommitCall → Type 0) (out : ℕ) (plan : List CommitCall) (call : CommitCall) → All P plan
    → slice_get (calls_left out plan) 0 ≡ Some call
    → IsNext P out plan call
next_is P out [] call all is = absurd (cc)
next_is P out (first ∷ plan) call all is =
    by (has_device out (device_of first)) refl (λ later. next_is P out plan call (all_tail P first plan all) later)
  where
    by : (b : Bool) → has_device out (device_of first) ≡ b
        → (slice_get (calls_left out plan) 0 ≡ Some call → IsNext P out plan call)
        → IsNext P out (first ∷ plan) call
    by true passed more =
        let later = more
        (subst (λ (b : Bool). slice_get (if not b then first ∷ calls_left out plan else calls_left out plan) 0 ≡ Some call) passed is) in
        let left : after_next out (first ∷ plan) ≡ after_next out plan =
        ap (λ (b : Bool). if b then after_next out plan else plan) passed in
        record {
          in_use = later.in_use;
          fits = later.fits;
          rest = subst (All P) (sym left) later.rest;
          less = omega (arith, later.less, ap length left);
        }
    by false here more =
        let same : Some first ≡ Some call =
        subst (λ (b : Bool). slice_get (if not b then first ∷ calls_left out plan else calls_left out plan) 0 ≡ Some call) here is in
        let left : after_next out (first ∷ plan) ≡ plan =
        ap (λ (b : Bool). if b then after_next out plan else plan) here in
        let it : first ≡ call = some_same same in
        record {
          in_use = subst (λ c. has_device out (device_of c) ≡ false) it here;
          fits = subst P it (all_head P first plan all);
          rest = subst (All P) (sym left) (all_tail P first plan all);
          less = omega (arith, ap length left);
        }

-- No call is left.
pub none_left : (out : ℕ) (plan : List CommitCall) → slice_get (calls_left out plan) 0 ≡ None
    → calls_left out plan ≡ []
none_left out plan none = empty (calls_left out plan) none
  where
    empty : (calls : List CommitCall) → slice_get calls 0 ≡ None → calls ≡ []
    empty [] is = refl
    empty (call ∷ calls) is = absurd (cc)

-- One call more.
pub ran_more : (uber : Uber) (entries : List IndexEntry) (plan rest : List CommitCall)
    (point before after : Point) (call : CommitCall) → Ran uber entries plan point rest before
    → slice_get (calls_left before.out rest) 0 ≡ Some call → MadeOne uber entries call before after
    → Ran uber entries plan point (after_next before.out rest) after
ran_more uber entries plan rest point before after call ran is made =
    (record { call = call; before = before; after = after } ∷ ran.0, (rest, ran.1, is, made, refl, refl))
