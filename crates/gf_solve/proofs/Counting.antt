-- Counting lost columns.
use Rattle.std.proofs.Common.{◌≡◌, ℕ, zero, suc, ◌+◌, ◌-◌, ◌<◌, ◌≤◌, Bool, true, false, refl, sym, ◌∙◌, ap, arith}
use Rattle.std.specs.Prelude.{if◌then◌else◌}
use Rattle.std.proofs.lemmas.Bool.{true≢false}
use Rattle.gf_solve.specs.Row.{count_lost}

-- A run of columns is counted in two parts.
pub count_split : (lost : ℕ → Bool) (first some more : ℕ)
    → count_lost lost first (some + more) ≡ count_lost lost first some + count_lost lost (first + some) more
count_split lost first zero more =
    let none : 0 + more ≡ more = omega arith in
    let here : first ≡ first + 0 = omega arith in
    ap (count_lost lost first) none ∙ ap (λ (k : ℕ). count_lost lost k more) here ∙ omega arith
count_split lost first (suc some) more =
    let plus : suc some + more ≡ suc (some + more) = omega arith in
    let shift : first + 1 + some ≡ first + suc some = omega arith in
    ap (count_lost lost first) plus ∙ ap (λ (k : ℕ). (if lost first then 1 else 0) + k) (count_split lost (first + 1) some more)
    ∙ ap (λ (k : ℕ). (if lost first then 1 else 0) + (count_lost lost (first + 1) some + count_lost lost k more)) shift ∙ omega arith

-- Columns of two masks that agree are counted alike.
pub count_alike : (lost other : ℕ → Bool) (first second some : ℕ) → ((k : ℕ) → k < some → lost (first + k) ≡ other (second + k))
    → count_lost lost first some ≡ count_lost other second some
count_alike lost other first second zero alike = refl
count_alike lost other first second (suc some) alike =
    let here : lost first ≡ other second = ap lost (plus first) ∙ alike 0 (omega arith) ∙ ap other (sym (plus second)) in
    ap (λ (t : Bool). (if t then 1 else 0) + count_lost lost (first + 1) some) here
    ∙ ap (λ (k : ℕ). (if other second then 1 else 0) + k)
    (count_alike lost other (first + 1) (second + 1) some (λ k low. ap lost (shift first k) ∙ alike (suc k) (omega (arith, low)) ∙ ap other (sym (shift second k))))
  where
    plus : (n : ℕ) → n ≡ n + 0
    plus n = omega arith

    shift : (n k : ℕ) → n + 1 + k ≡ n + suc k
    shift n k = omega arith

-- Where each that is lost is lost in another way too, the others are as many at least.
pub count_mono : (lost other : ℕ → Bool) (first some : ℕ)
    → ((k : ℕ) → first ≤ k → k < first + some → lost k ≡ true → other k ≡ true)
    → count_lost lost first some ≤ count_lost other first some
count_mono lost other first zero also = omega arith
count_mono lost other first (suc some) also =
    omega (
      arith,
      here (lost first) (other first) (also first (omega arith) (omega arith)),
      count_mono lost other (first + 1) some (λ k from below. also k (omega (arith, from)) (omega (arith, below))),
    )
  where
    here : (b c : Bool) → (b ≡ true → c ≡ true) → (if b then 1 else 0) ≤ (if c then 1 else 0)
    here true true both = omega arith
    here true false both = absurd (true≢false (sym (both refl)))
    here false c both = omega arith

-- A lost column counts one more than what lies behind it.
pub count_here : (lost : ℕ → Bool) (first column to : ℕ) → first ≤ column → column < to → lost column ≡ true
    → count_lost lost (column + 1) (to - (column + 1)) + 1 ≤ count_lost lost first (to - first)
count_here lost first column to from below is =
    let parts : to - first ≡ (column - first) + suc (to - (column + 1)) = omega (arith, from, below) in
    let here : first + (column - first) ≡ column = omega (arith, from) in
    let counted : count_lost lost first (to - first) ≡ count_lost lost first (column - first) + count_lost lost column (suc (to - (column + 1))) =
    ap (count_lost lost first) parts ∙ count_split lost first (column - first) (suc (to - (column + 1)))
    ∙ ap (λ (k : ℕ). count_lost lost first (column - first) + count_lost lost k (suc (to - (column + 1)))) here in
    let one : count_lost lost column (suc (to - (column + 1))) ≡ 1 + count_lost lost (column + 1) (to - (column + 1)) =
    ap (λ (t : Bool). (if t then 1 else 0) + count_lost lost (column + 1) (to - (column + 1))) is in
    omega (arith, counted, one)

-- Where all columns are lost, all count.
pub count_all : (lost : ℕ → Bool) (first some : ℕ) → ((k : ℕ) → first ≤ k → k < first + some → lost k ≡ true) → count_lost lost first some ≡ some
count_all lost first zero all = refl
count_all lost first (suc some) all =
    ap (λ (t : Bool). (if t then 1 else 0) + count_lost lost (first + 1) some) (all first (omega arith) (omega arith))
    ∙ ap (λ (k : ℕ). 1 + k) (count_all lost (first + 1) some (λ k from below. all k (omega (arith, from)) (omega (arith, below)))) ∙ omega arith

not_true : (test : Bool) → (test ≡ true → ⊥) → test ≡ false
not_true true not = absurd (not refl)
not_true false not = refl

whole : (to : ℕ) → to - 0 ≡ to
whole to = omega arith

-- Where none count, none is lost.
pub count_none : (lost : ℕ → Bool) (to column : ℕ) → count_lost lost 0 to ≡ 0 → column < to → lost column ≡ false
count_none lost to column none below =
    not_true (lost column) (λ is. omega (arith, none, ap (count_lost lost 0) (whole to), count_here lost 0 column to (omega arith) below is))

-- Lost columns that go up count.
pub count_one : (lost : ℕ → Bool) (to first : ℕ) → first < to → lost first ≡ true → 1 ≤ count_lost lost 0 to
count_one lost to first below is = omega (arith, ap (count_lost lost 0) (whole to), count_here lost 0 first to (omega arith) below is)

pub count_two : (lost : ℕ → Bool) (to first second : ℕ) → first < second → second < to → lost first ≡ true → lost second ≡ true → 2 ≤ count_lost lost 0 to
count_two lost to first second ascend below first_is second_is =
    omega (
      arith,
      ap (count_lost lost 0) (whole to),
      count_here lost 0 first to (omega arith) (omega (arith, ascend, below)) first_is,
      count_here lost (first + 1) second to (omega (arith, ascend)) below second_is,
    )

pub count_three : (lost : ℕ → Bool) (to first second third : ℕ) → first < second → second < third → third < to → lost first ≡ true → lost second ≡ true
    → lost third ≡ true → 3 ≤ count_lost lost 0 to
count_three lost to first second third ascend ascend_more below first_is second_is third_is =
    omega (
      arith,
      ap (count_lost lost 0) (whole to),
      count_here lost 0 first to (omega arith) (omega (arith, ascend, ascend_more, below)) first_is,
      count_here lost (first + 1) second to (omega (arith, ascend)) (omega (arith, ascend_more, below)) second_is,
      count_here lost (second + 1) third to (omega (arith, ascend_more)) below third_is,
    )

-- If every one is lost but one, all but one count.
pub count_but_one : (lost : ℕ → Bool) (to there : ℕ) → there < to → ((k : ℕ) → 0 ≤ k → k < there → lost k ≡ true)
    → ((k : ℕ) → there + 1 ≤ k → k < to → lost k ≡ true) → to ≤ count_lost lost 0 to + 1
count_but_one lost to there below before behind =
    let parts : to ≡ there + (1 + (to - (there + 1))) = omega (arith, below) in
    let counted : count_lost lost 0 to ≡ count_lost lost 0 there + count_lost lost (0 + there) (1 + (to - (there + 1))) =
    ap (count_lost lost 0) parts ∙ count_split lost 0 there (1 + (to - (there + 1))) in
    let rest : count_lost lost (0 + there) (1 + (to - (there + 1))) ≡ count_lost lost (0 + there) 1 + count_lost lost (0 + there + 1) (to - (there + 1)) =
    count_split lost (0 + there) 1 (to - (there + 1)) in
    omega (
      arith,
      counted,
      rest,
      count_all lost 0 there (λ k from low. before k from (omega (arith, low))),
      count_all lost (0 + there + 1) (to - (there + 1)) (λ k from low. behind k (omega (arith, from)) (omega (arith, low, below))),
    )

-- Where none is lost, none counts.
pub count_nothing : (lost : ℕ → Bool) (first some : ℕ) → ((k : ℕ) → first ≤ k → k < first + some → lost k ≡ false) → count_lost lost first some ≡ 0
count_nothing lost first zero none = refl
count_nothing lost first (suc some) none =
    ap (λ (t : Bool). (if t then 1 else 0) + count_lost lost (first + 1) some) (none first (omega arith) (omega arith))
    ∙ ap (λ (k : ℕ). 0 + k) (count_nothing lost (first + 1) some (λ k from below. none k (omega (arith, from)) (omega (arith, below))))

-- No more count than there are.
pub count_few : (lost : ℕ → Bool) (first some : ℕ) → count_lost lost first some ≤ some
count_few lost first zero = omega arith
count_few lost first (suc some) = one_more (lost first) (count_few lost (first + 1) some)
  where
    one_more : (test : Bool) → count_lost lost (first + 1) some ≤ some → (if test then 1 else 0) + count_lost lost (first + 1) some ≤ suc some
    one_more true few = omega (arith, few)
    one_more false few = omega (arith, few)

-- A run of columns is counted in front of one, at it, and behind it.
count_at : (lost : ℕ → Bool) (first column to : ℕ) → first ≤ column → column < to
    → count_lost lost first (to - first) ≡ count_lost lost first (column - first) + ((if lost column then 1 else 0) + count_lost lost (column + 1) (to - (column + 1)))
count_at lost first column to from below =
    let parts : to - first ≡ (column - first) + suc (to - (column + 1)) = omega (arith, from, below) in
    let here : first + (column - first) ≡ column = omega (arith, from) in
    ap (count_lost lost first) parts ∙ count_split lost first (column - first) (suc (to - (column + 1)))
    ∙ ap (λ (k : ℕ). count_lost lost first (column - first) + count_lost lost k (suc (to - (column + 1)))) here

-- The first lost column counts one, and then those behind it.
pub count_first : (lost : ℕ → Bool) (first column to : ℕ) → first ≤ column → column < to → ((k : ℕ) → first ≤ k → k < column → lost k ≡ false) → lost column ≡ true
    → count_lost lost first (to - first) ≡ 1 + count_lost lost (column + 1) (to - (column + 1))
count_first lost first column to from below none is =
    count_at lost first column to from below
    ∙ ap (λ (k : ℕ). k + ((if lost column then 1 else 0) + count_lost lost (column + 1) (to - (column + 1))))
    (count_nothing lost first (column - first) (λ k least low. none k least (omega (arith, low, from))))
    ∙ ap (λ (t : Bool). 0 + ((if t then 1 else 0) + count_lost lost (column + 1) (to - (column + 1)))) is ∙ omega arith

-- A column that is there doesn't count.
pub count_room : (lost : ℕ → Bool) (first column to : ℕ) → first ≤ column → column < to → lost column ≡ false
    → count_lost lost first (to - first) ≤ (column - first) + count_lost lost (column + 1) (to - (column + 1))
count_room lost first column to from below is =
    let counted : count_lost lost first (to - first) ≡ count_lost lost first (column - first) + (0 + count_lost lost (column + 1) (to - (column + 1))) =
    count_at lost first column to from below
    ∙ ap (λ (t : Bool). count_lost lost first (column - first) + ((if t then 1 else 0) + count_lost lost (column + 1) (to - (column + 1)))) is in
    omega (arith, counted, count_few lost first (column - first))

-- One column more.
pub count_more : (lost : ℕ → Bool) (to : ℕ) → count_lost lost 0 (to + 1) ≡ count_lost lost 0 to + (if lost to then 1 else 0)
count_more lost to =
    count_split lost 0 to 1 ∙ ap (λ (k : ℕ). count_lost lost 0 to + ((if lost k then 1 else 0) + 0)) (plus to) ∙ omega arith
  where
    plus : (k : ℕ) → 0 + k ≡ k
    plus k = omega arith

pub count_more_lost : (lost : ℕ → Bool) (to : ℕ) → lost to ≡ true → count_lost lost 0 to + 1 ≡ count_lost lost 0 (to + 1)
count_more_lost lost to is = sym (count_more lost to ∙ ap (λ (t : Bool). count_lost lost 0 to + (if t then 1 else 0)) is)

pub count_more_there : (lost : ℕ → Bool) (to : ℕ) → lost to ≡ false → count_lost lost 0 to ≡ count_lost lost 0 (to + 1)
count_more_there lost to is = sym (count_more lost to ∙ ap (λ (t : Bool). count_lost lost 0 to + (if t then 1 else 0)) is ∙ omega arith)
