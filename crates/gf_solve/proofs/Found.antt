-- Three lost columns that were found are all.
use Rattle.std.proofs.Common.{◌≡◌, ◌≢◌, ℕ, ◌+◌, ◌-◌, ◌<◌, ◌≤◌, Bool, true, false, refl, ◌∙◌, ap, arith, inl, inr}
use Rattle.std.proofs.Common.{⊎_elim}
use Rattle.std.proofs.lemmas.Bool.{cases_lt, cases_eq}
use Rattle.gf_solve.specs.declared.gaps.Gaps.{Gaps}
use Rattle.gf_solve.specs.declared.gaps.Gaps.TheVariants.{Whole, One, Two, Three}
use Rattle.gf_solve.specs.Row.{count_lost}
use Rattle.gf_solve.specs.Gaps.{IsGap, AreGaps}
use Rattle.gf_solve.proofs.Counting.{count_here, count_first, count_nothing, count_three}

-- what isn't true is false
pub not_true : (test : Bool) → (test ≡ true → ⊥) → test ≡ false
not_true true not = absurd (not refl)
not_true false not = refl

pub three_gaps : (lost : ℕ → Bool) (to first second third : ℕ) → count_lost lost 0 to ≤ 3
    → first < to → first + 1 ≤ second → second < to → second + 1 ≤ third → third < to
    → lost first ≡ true → lost second ≡ true → lost third ≡ true
    → ((other : ℕ) → 0 ≤ other → other < first → lost other ≡ false)
    → ((other : ℕ) → first + 1 ≤ other → other < second → lost other ≡ false)
    → ((other : ℕ) → second + 1 ≤ other → other < third → lost other ≡ false)
    → AreGaps lost to (Three first second third)
three_gaps lost to first second third few first_in second_up second_in third_up third_in first_is second_is third_is before between behind = record {
  ascend = (omega (arith, second_up), omega (arith, third_up));
  inside = λ column is. ⊎_elim (λ a. omega (arith, a, first_in)) (λ rest. ⊎_elim (λ b. omega (arith, b, second_in)) (λ c. omega (arith, c, third_in)) rest) is;
  lost_there = λ column is. ⊎_elim (λ a. ap lost a ∙ first_is) (λ rest. ⊎_elim (λ b. ap lost b ∙ second_is) (λ c. ap lost c ∙ third_is) rest) is;
  others = others;
}
  where
    whole : to - 0 ≡ to
    whole = omega arith

    none_behind : (column : ℕ) → third + 1 ≤ column → column < to → lost column ≡ true → ⊥
    none_behind column later below is =
        omega (
          arith,
          few,
          ap (count_lost lost 0) whole,
          count_here lost 0 first to (omega arith) first_in first_is,
          count_here lost (first + 1) second to second_up second_in second_is,
          count_here lost (second + 1) third to third_up third_in third_is,
          count_here lost (third + 1) column to later below is,
        )

    others : (column : ℕ) → column < to → (IsGap (Three first second third) column → ⊥) → lost column ≡ false
    others column below no_gap =
        ⊎_elim (λ same. absurd (no_gap (inl same))) (λ no_first. ⊎_elim (λ same. absurd (no_gap (inr (inl same)))) (λ no_second. ⊎_elim (λ same. absurd (no_gap (inr (inr same)))) (λ no_third.
        ⊎_elim (λ less. before column (omega arith) less) (λ from_first.
        ⊎_elim (λ less. between column (above first column from_first no_first) less) (λ from_second.
        ⊎_elim (λ less. behind column (above second column from_second no_second) less) (λ from_third.
        not_true (lost column) (λ is. none_behind column (above third column from_third no_third) below is))
        (cases_lt column third)) (cases_lt column second)) (cases_lt column first))
        (cases_eq column third)) (cases_eq column second)) (cases_eq column first)
      where
        above : (low high : ℕ) → low ≤ high → high ≢ low → low + 1 ≤ high
        above low high at_least differ = ⊎_elim (λ less. omega (arith, less)) (λ at_most. absurd (differ (omega (arith, at_least, at_most)))) (cases_lt low high)

-- how many gaps there are
abbrev pub number_of : Gaps → ℕ
number_of Whole = 0
number_of (One first) = 1
number_of (Two first second) = 2
number_of (Three first second third) = 3

whole : (to : ℕ) → to ≡ to - 0
whole to = omega arith

-- As many columns are lost as there are gaps.
pub count_gaps : (lost : ℕ → Bool) (to : ℕ) (gaps : Gaps) → AreGaps lost to gaps → count_lost lost 0 to ≡ number_of gaps
count_gaps lost to Whole are = count_nothing lost 0 to (λ k from below. are.others k (omega (arith, below)) (λ is. is))
count_gaps lost to (One first) are =
    let first_in : first < to = are.inside first refl in
    let rest : count_lost lost (first + 1) (to - (first + 1)) ≡ 0 =
    count_nothing lost (first + 1) (to - (first + 1)) (λ k from below. are.others k (omega (arith, below, first_in)) (λ is. omega (arith, from, is))) in
    ap (count_lost lost 0) (whole to)
    ∙ count_first lost 0 first to (omega arith) first_in (λ k from below. are.others k (omega (arith, below, first_in)) (λ is. omega (arith, below, is))) (are.lost_there first refl)
    ∙ omega (arith, rest)
count_gaps lost to (Two first second) are =
    let second_in : second < to = are.inside second (inr refl) in
    let ascend : first < second = are.ascend in
    let rest : count_lost lost (second + 1) (to - (second + 1)) ≡ 0 =
    count_nothing lost (second + 1) (to - (second + 1))
    (λ k from below. are.others k (omega (arith, below, second_in)) (λ is. ⊎_elim (λ a. omega (arith, from, a, ascend)) (λ b. omega (arith, from, b)) is)) in
    ap (count_lost lost 0) (whole to)
    ∙ count_first lost 0 first to (omega arith) (omega (arith, ascend, second_in))
    (λ k from below. are.others k (omega (arith, below, ascend, second_in)) (λ is. ⊎_elim (λ a. omega (arith, below, a)) (λ b. omega (arith, below, b, ascend)) is))
    (are.lost_there first (inl refl))
    ∙ omega (
      arith,
      rest,
      count_first lost (first + 1) second to (omega (arith, ascend)) second_in
          (λ k from below. are.others k (omega (arith, below, second_in)) (λ is. ⊎_elim (λ a. omega (arith, from, a)) (λ b. omega (arith, below, b)) is))
          (are.lost_there second (inr refl)),
    )
count_gaps lost to (Three first second third) are =
    let third_in : third < to = are.inside third (inr (inr refl)) in
    let ascend : first < second = are.ascend.0 in
    let ascend_more : second < third = are.ascend.1 in
    let rest : count_lost lost (third + 1) (to - (third + 1)) ≡ 0 =
    count_nothing lost (third + 1) (to - (third + 1))
    (λ k from below. are.others k (omega (arith, below, third_in))
    (λ is. ⊎_elim (λ a. omega (arith, from, a, ascend, ascend_more)) (λ more. ⊎_elim (λ b. omega (arith, from, b, ascend_more)) (λ last. omega (arith, from, last)) more) is)) in
    ap (count_lost lost 0) (whole to)
    ∙ count_first lost 0 first to (omega arith) (omega (arith, ascend, ascend_more, third_in))
    (λ k from below. are.others k (omega (arith, below, ascend, ascend_more, third_in))
    (λ is. ⊎_elim (λ a. omega (arith, below, a)) (λ more. ⊎_elim (λ b. omega (arith, below, b, ascend)) (λ last. omega (arith, below, last, ascend, ascend_more)) more) is))
    (are.lost_there first (inl refl))
    ∙ omega (
      arith,
      rest,
      count_first lost (first + 1) second to (omega (arith, ascend)) (omega (arith, ascend_more, third_in))
          (λ k from below. are.others k (omega (arith, below, ascend_more, third_in))
          (λ is. ⊎_elim (λ a. omega (arith, from, a)) (λ more. ⊎_elim (λ b. omega (arith, below, b)) (λ last. omega (arith, below, last, ascend_more)) more) is))
          (are.lost_there second (inr (inl refl))),
      count_first lost (second + 1) third to (omega (arith, ascend_more)) third_in
          (λ k from below. are.others k (omega (arith, below, third_in))
          (λ is. ⊎_elim (λ a. omega (arith, from, a, ascend)) (λ more. ⊎_elim (λ b. omega (arith, from, b)) (λ last. omega (arith, below, last)) more) is))
          (are.lost_there third (inr (inr refl))),
    )

-- Three gaps are three lost columns.
pub three_count : (lost : ℕ → Bool) (to first second third : ℕ) → AreGaps lost to (Three first second third) → 3 ≤ count_lost lost 0 to
three_count lost to first second third are =
    count_three lost to first second third are.ascend.0 are.ascend.1 (are.inside third (inr (inr refl))) (are.lost_there first (inl refl))
    (are.lost_there second (inr (inl refl))) (are.lost_there third (inr (inr refl)))
