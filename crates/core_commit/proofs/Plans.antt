-- How a plan goes on: what its next call tells of the calls behind it.
use Rattle.std.proofs.Common.{◌≡◌, inl, inr, ⊎_elim, ℕ, List, [], ◌∷◌, Bool, true, false, Some, refl, sym, ap, subst}
use Rattle.std.specs.Prelude.{not, slice_get, if◌then◌else◌}
use Rattle.uberblock_ring.specs.Devices.{has_device}
use Rattle.commit_job.specs.declared.call.CommitCall.{CommitCall}
use Rattle.commit_job.specs.declared.call.CommitCall.TheVariants.{IndexWrite, BaseSync, UberWrite, UberSync}
use Rattle.commit_job.specs.Stages.{device_of, calls_left, after_next}
use Rattle.core_state.specs.Committing.{Among}
use Rattle.core_commit.specs.Ran.{IsSigning, IsLaying}
use Rattle.core_commit.specs.Ordered.{Due, Ordered}
use Rattle.core_commit.proofs.Running.{some_same}

-- What holds of a plan and what is left behind its next call holds where that call stands first, and is
-- kept by each call before it, whose device is out.
pub by_next : (Goal : List CommitCall → List CommitCall → Type 0) (out : ℕ) (call : CommitCall)
    → ((rest : List CommitCall) → Goal (call ∷ rest) rest)
    → ((first : CommitCall) (plan rest : List CommitCall) → has_device out (device_of first) ≡ true
    → slice_get (calls_left out plan) 0 ≡ Some call → Goal plan rest
    → Goal (first ∷ plan) rest)
    → (plan : List CommitCall) → slice_get (calls_left out plan) 0 ≡ Some call
    → Goal plan (after_next out plan)
by_next Goal out call here passed [] is = absurd (cc)
by_next Goal out call here passed (first ∷ plan) is =
    by (has_device out (device_of first)) refl (λ later. by_next Goal out call here passed plan later)
  where
    by : (b : Bool) → has_device out (device_of first) ≡ b
        → (slice_get (calls_left out plan) 0 ≡ Some call → Goal plan (after_next out plan))
        → Goal (first ∷ plan) (after_next out (first ∷ plan))
    by true gone more =
        let later = subst (λ (b : Bool). slice_get (if not b then first ∷ calls_left out plan else calls_left out plan) 0
        ≡ Some call) gone is in
        subst (Goal (first ∷ plan))
        (sym (ap (λ (b : Bool). if b then after_next out plan else plan) gone))
        (passed first plan (after_next out plan) gone later (more later))
    by false used more =
        let same : first ≡ call = some_same
        (subst (λ (b : Bool). slice_get (if not b then first ∷ calls_left out plan else calls_left out plan) 0
        ≡ Some call) used is) in
        subst (Goal (first ∷ plan))
        (sym (ap (λ (b : Bool). if b then after_next out plan else plan) used))
        (subst (λ (c : CommitCall). Goal (c ∷ plan) plan) (sym same) (here plan))

-- Where none is left but on devices that are out, and one of these is passed over at no cost, all are.
pub by_none : (Goal : List CommitCall → Type 0) (out : ℕ)
    → ((call : CommitCall) (plan : List CommitCall) → has_device out (device_of call) ≡ true
    → Goal (call ∷ plan)
    → Goal plan)
    → (plan : List CommitCall) → calls_left out plan ≡ [] → Goal plan
    → Goal []
by_none Goal out passed [] none goal = goal
by_none Goal out passed (call ∷ plan) none goal =
    by (has_device out (device_of call)) refl (by_none Goal out passed plan)
  where
    some : call ∷ calls_left out plan ≡ [] → ⊥
    some is = cc

    by : (b : Bool) → has_device out (device_of call) ≡ b → (calls_left out plan ≡ [] → Goal plan → Goal [])
        → Goal []
    by true gone more = more
        (subst (λ (b : Bool). (if not b then call ∷ calls_left out plan else calls_left out plan) ≡ []) gone none)
        (passed call plan gone goal)
    by false used more = absurd (some
        (subst (λ (b : Bool). (if not b then call ∷ calls_left out plan else calls_left out plan) ≡ []) used none))

pub next_among : (out : ℕ) (plan : List CommitCall) (call : CommitCall)
    → slice_get (calls_left out plan) 0 ≡ Some call
    → Among plan call
next_among out plan call is = by_next (λ plan rest. Among plan call) out call
    (λ rest. inl refl) (λ first plan rest gone is later. inr later) plan is

pub rest_among : (out : ℕ) (plan : List CommitCall) (call other : CommitCall)
    → slice_get (calls_left out plan) 0 ≡ Some call → Among (after_next out plan) other
    → Among plan other
rest_among out plan call other is = by_next (λ plan rest. Among rest other → Among plan other) out call
    (λ rest among. inr among) (λ first plan rest gone is later among. inr (later among)) plan is

pub next_due : (devices parts out : ℕ) (plan : List CommitCall) (call : CommitCall)
    → slice_get (calls_left out plan) 0 ≡ Some call → Ordered devices parts plan
    → Due devices parts call (after_next out plan) × Ordered devices parts (after_next out plan)
next_due devices parts out plan call is =
    by_next (λ plan rest. Ordered devices parts plan → Due devices parts call rest × Ordered devices parts rest)
    out call (λ rest ordered. ordered) (λ first plan rest gone is later ordered. later ordered.1) plan is

-- Behind a call that signs nothing lays.
no_laying : (devices parts : ℕ) (call : CommitCall) (rest : List CommitCall) (other : CommitCall)
    → IsSigning call → Due devices parts call rest → IsLaying other → Among rest other
    → ⊥
no_laying devices parts call rest (UberWrite device) signing due laying among = laying tt
no_laying devices parts call rest (UberSync device) signing due laying among = laying tt
no_laying devices parts (IndexWrite first part) rest other signing due laying among = signing
no_laying devices parts (BaseSync first) rest other signing due laying among = signing
no_laying devices parts (UberWrite first) rest (IndexWrite device part) signing due laying among =
    due.2 device part among
no_laying devices parts (UberWrite first) rest (BaseSync device) signing due laying among = due.3 device among
no_laying devices parts (UberSync first) rest (IndexWrite device part) signing due laying among =
    due.2 device part among
no_laying devices parts (UberSync first) rest (BaseSync device) signing due laying among = due.3 device among

-- While a call that lays is made, no call that signs is passed over.
pub signing_stays : (devices parts out : ℕ) (plan : List CommitCall) (call other : CommitCall)
    → slice_get (calls_left out plan) 0 ≡ Some call → IsLaying call → IsSigning other
    → Ordered devices parts plan → Among plan other
    → Among (after_next out plan) other
signing_stays devices parts out plan call other is laying signing =
    by_next (λ plan rest. Ordered devices parts plan → Among plan other → Among rest other) out call
    (λ rest ordered among. ⊎_elim (λ same. absurd (laying (subst IsSigning same signing))) (λ later. later) among)
    (λ first plan rest gone is later ordered among. ⊎_elim
    (λ same. absurd (no_laying devices parts first plan call (subst IsSigning same signing) ordered.0 laying
    (next_among out plan call is)))
    (λ more. later ordered.1 more) among)
    plan is

-- Where the next call signs, or none is left, what was to be laid is on devices that are out.
pub laying_spent : (devices parts out : ℕ) (plan : List CommitCall)
    → ((call : CommitCall) → slice_get (calls_left out plan) 0 ≡ Some call → IsSigning call)
    → Ordered devices parts plan → (other : CommitCall) → Among plan other → IsLaying other
    → has_device out (device_of other) ≡ true
laying_spent devices parts out [] ends ordered other among laying = absurd among
laying_spent devices parts out (first ∷ plan) ends ordered other among laying =
    by (has_device out (device_of first)) refl
    (λ later. laying_spent devices parts out plan later ordered.1 other)
  where
    by : (b : Bool) → has_device out (device_of first) ≡ b
        → (((call : CommitCall) → slice_get (calls_left out plan) 0 ≡ Some call → IsSigning call)
        → Among plan other → IsLaying other → has_device out (device_of other) ≡ true)
        → has_device out (device_of other) ≡ true
    by true gone more = ⊎_elim
        (λ same. subst (λ (c : CommitCall). has_device out (device_of c) ≡ true) (sym same) gone)
        (λ later. more
        (λ call is. ends call (subst
        (λ (b : Bool). slice_get (if not b then first ∷ calls_left out plan else calls_left out plan) 0 ≡ Some call)
        (sym gone) is)) later laying)
        among
    by false used more =
        let signing : IsSigning first = ends first
        (ap (λ (b : Bool). slice_get (if not b then first ∷ calls_left out plan else calls_left out plan) 0) used) in
        ⊎_elim
        (λ same. absurd (laying (subst IsSigning (sym same) signing)))
        (λ later. absurd (no_laying devices parts first plan other signing ordered.0 laying later))
        among
