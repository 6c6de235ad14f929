-- Which parity columns serve, where they are looked for from the lowest on.
use Rattle.std.proofs.Common.{◌≡◌, ◌⊎◌, ℕ, ◌+◌, ◌-◌, ◌<◌, ◌≤◌, List, Bool, true, false, subst, ap, arith, inl, inr}
use Rattle.std.proofs.Common.{⊎_elim}
use Rattle.std.proofs.lemmas.Bool.{cases_lt}
use Rattle.gf_solve.specs.Row.{count_lost}
use Rattle.gf_solve.specs.Serving.{Serves, AreServingOf}
use Rattle.gf_solve.proofs.Counting.{count_all, count_but_one, count_few, count_room}

not_both : (test : Bool) → test ≡ true → test ≡ false → ⊥
not_both test is not = absurd cc

whole : (to : ℕ) → to - 0 ≡ to
whole to = omega arith

-- Equally many gaps have the same parity columns serve.
pub serving_alike : (content parities : List (List ℕ)) (lost : ℕ → Bool) (parity gaps other : ℕ) → gaps ≡ other
    → AreServingOf content parities lost parity gaps → AreServingOf content parities lost parity other
serving_alike content parities lost parity gaps other same serving = subst (λ (k : ℕ). AreServingOf content parities lost parity k) same serving

-- the lowest one
pub lowest_serves : (lost : ℕ → Bool) (parity which : ℕ) → which < parity → lost which ≡ false → ((k : ℕ) → 0 ≤ k → k < which → lost k ≡ true)
    → Serves lost parity 1 which
lowest_serves lost parity which among there before = record {
  among = among;
  there = there;
  lowest = omega (arith, count_all lost 0 which (λ k from low. before k from (omega (arith, low))));
}

-- and no other, where one is wanted
pub lowest_alone : (lost : ℕ → Bool) (parity which other : ℕ) → lost which ≡ false → ((k : ℕ) → 0 ≤ k → k < which → lost k ≡ true)
    → Serves lost parity 1 other → which ≡ other
lowest_alone lost parity which other there before serves =
    ⊎_elim (λ sooner. absurd (not_both (lost other) (before other (omega arith) sooner) serves.there))
    (λ later. ⊎_elim (λ past. absurd (omega (
      arith,
      past,
      serves.lowest,
      ap (count_lost lost 0) (whole other),
      count_room lost 0 which other (omega arith) past there,
      count_few lost (which + 1) (other - (which + 1)),
    ))) (λ same. omega (arith, later, same)) (cases_lt which other)) (cases_lt other which)

-- the two lowest ones
pub sooner_serves : (lost : ℕ → Bool) (parity gaps which : ℕ) → 1 ≤ gaps → Serves lost parity 1 which → Serves lost parity gaps which
sooner_serves lost parity gaps which some serves = record { among = serves.among; there = serves.there; lowest = omega (arith, some, serves.lowest) }

pub later_serves : (lost : ℕ → Bool) (parity sooner later : ℕ) → sooner < later → later < parity → lost later ≡ false
    → ((k : ℕ) → 0 ≤ k → k < sooner → lost k ≡ true) → ((k : ℕ) → sooner + 1 ≤ k → k < later → lost k ≡ true)
    → Serves lost parity 2 later
later_serves lost parity sooner later ascend among there before between = record {
  among = among;
  there = there;
  lowest = omega (arith, count_but_one lost later sooner ascend before between);
}

-- and no others, where two are wanted
pub lowest_two : (lost : ℕ → Bool) (parity sooner later other : ℕ) → sooner < later → lost sooner ≡ false → lost later ≡ false
    → ((k : ℕ) → 0 ≤ k → k < sooner → lost k ≡ true) → ((k : ℕ) → sooner + 1 ≤ k → k < later → lost k ≡ true)
    → Serves lost parity 2 other → (sooner ≡ other) ⊎ (later ≡ other)
lowest_two lost parity sooner later other ascend sooner_there later_there before between serves =
    ⊎_elim (λ first. absurd (not_both (lost other) (before other (omega arith) first) serves.there))
    (λ from_sooner. ⊎_elim (λ behind. inr (among behind)) (λ at_most. inl (omega (arith, from_sooner, at_most))) (cases_lt sooner other)) (cases_lt other sooner)
  where
    among : sooner < other → later ≡ other
    among behind =
        ⊎_elim (λ first. absurd (not_both (lost other) (between other (omega (arith, behind)) first) serves.there))
        (λ from_later. ⊎_elim (λ past. absurd (omega (
          arith,
          past,
          serves.lowest,
          ascend,
          ap (count_lost lost 0) (whole other),
          count_room lost 0 sooner other (omega arith) behind sooner_there,
          count_room lost (sooner + 1) later other (omega (arith, ascend)) past later_there,
          count_few lost (later + 1) (other - (later + 1)),
        ))) (λ same. omega (arith, from_later, same)) (cases_lt later other)) (cases_lt other later)
