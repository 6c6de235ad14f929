-- How a set of places is gathered by a test, place by place.
use Rattle.std.proofs.Common.{◌≡◌, ⊎_elim, ℕ, ◌+◌, ◌<◌, Bool, true, false, sym, ◌∙◌, subst, arith}
use Rattle.std.proofs.lemmas.Bool.{cases_eq, true≢false}
use Rattle.uberblock_ring.specs.Devices.{has_device, with_device}
use Rattle.uberblock_ring.proofs.DeviceSets.{has_with, none_in, others_with}

-- Of the places below this one the set has those at which the test says so, and no other.
pub record IsTested (Says : ℕ → Bool → Type 0) (place set : ℕ) : Type 0 where
  pub has : (other : ℕ) → has_device set other ≡ true → (other < place) × Says other true
  pub lacks : (other : ℕ) → other < place → has_device set other ≡ false → Says other false

-- at the beginning,
pub tested_none : (Says : ℕ → Bool → Type 0) → IsTested Says 0 0
tested_none Says = record {
  has = λ other is. absurd (true≢false (sym is ∙ none_in other));
  lacks = λ other low. absurd (omega (arith, low));
}

-- with one more place,
pub tested_with : (Says : ℕ → Bool → Type 0) (place set : ℕ) → IsTested Says place set → Says place true
    → IsTested Says (place + 1) (with_device set place)
tested_with Says place set so_far says = record {
  has = λ other there. ⊎_elim
      (λ (same : other ≡ place). (omega (arith, same), subst (λ (at : ℕ). Says at true) (sym same) says))
      (λ apart. let before = so_far.has other (sym (others_with set place other apart) ∙ there) in
      (omega (arith, before.0), before.1))
      (cases_eq other place);
  lacks = λ other low not_there. ⊎_elim
      (λ (same : other ≡ place). absurd (true≢false
      (sym (subst (λ (at : ℕ). has_device (with_device set place) at ≡ true) (sym same) (has_with set place)) ∙ not_there)))
      (λ apart. so_far.lacks other (omega (arith, low, apart)) (sym (others_with set place other apart) ∙ not_there))
      (cases_eq other place);
}

-- and without it.
pub tested_without : (Says : ℕ → Bool → Type 0) (place set : ℕ) → IsTested Says place set → Says place false
    → IsTested Says (place + 1) set
tested_without Says place set so_far denies = record {
  has = λ other there. let before = so_far.has other there in (omega (arith, before.0), before.1);
  lacks = λ other low not_there. ⊎_elim
      (λ (same : other ≡ place). subst (λ (at : ℕ). Says at false) (sym same) denies)
      (λ apart. so_far.lacks other (omega (arith, low, apart)) not_there)
      (cases_eq other place);
}

pub ruleset tested = (tested_none, tested_with, tested_without)
