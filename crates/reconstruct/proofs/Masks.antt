-- A mask without the columns that are missing.
use Rattle.std.proofs.Common.{◌≡◌, ◌≢◌, ℕ, zero, suc, ◌+◌, ◌-◌, ◌*◌, ◌/◌, ◌%◌, ◌^◌, ◌<◌, ◌≤◌, Bool, true, false, refl}
use Rattle.std.proofs.Common.{sym, ◌∙◌, ap, arith, ⊎_elim}
use Rattle.std.specs.Prelude.{bit_and, bit_or, ◌&&◌, ◌||◌, ◌==◌, nat_lt, max}
use Rattle.std.specs.Int.{w64, from_bool}
use Rattle.std.proofs.lemmas.Bool.{cases_lt}
use Rattle.std.proofs.lemmas.Bool.Decides.{nat_tests}
use Rattle.std.proofs.lemmas.Nat.{and_mask, field_of, mod-pow-add, pow-add, pow_pos, shr_high, shr_below}
use Rattle.std.specs.Int.Bits.{or_zero_r}
use Rattle.std.proofs.lemmas.Nat.Bits.{bit_at_or, bit_at_set_same, bit_at_set_other}
use Rattle.std.proofs.Math.Nat.{pow-le-pow_right, mod-lt, add-mul, one-mul, zero-mul}
use Rattle.gf_solve.specs.Row.{is_masked, count_lost}
use Rattle.gf_solve.proofs.Counting.{count_split, count_alike}

-- Of all bits the lowest ones stay.
low_bits : (width : ℕ) → width ≤ 64 → 18446744073709551615 / 2 ^ (64 - width) ≡ 2 ^ width - 1
low_bits width few =
    let bits : 64 ≡ width + (64 - width) = omega (arith, few) in
    let whole : 18446744073709551616 ≡ 2 ^ width * 2 ^ (64 - width) = ap (λ (k : ℕ). 2 ^ k) bits ∙ pow-add 2 width (64 - width) in
    let one : 2 ^ width ≡ 2 ^ width - 1 + 1 = omega (arith, pow_pos width) in
    let split : 2 ^ width * 2 ^ (64 - width) ≡ (2 ^ width - 1) * 2 ^ (64 - width) + 2 ^ (64 - width) =
    ap (λ (k : ℕ). k * 2 ^ (64 - width)) one ∙ add-mul (2 ^ width - 1) 1 (2 ^ (64 - width)) ∙ omega (arith, one-mul (2 ^ (64 - width))) in
    let number : 18446744073709551615 ≡ (2 ^ width - 1) * 2 ^ (64 - width) + (2 ^ (64 - width) - 1) = omega (arith, whole, split, pow_pos (64 - width)) in
    ap (λ (k : ℕ). k / 2 ^ (64 - width)) number ∙ shr_high (2 ^ width - 1) (64 - width) (2 ^ (64 - width) - 1) (omega (arith, pow_pos (64 - width)))

-- The lowest bit of what is left of a number.
last_of_rest : (number more : ℕ) → (number % 2 ^ (more + 1)) % 2 ≡ number % 2
last_of_rest number more = ap (λ (k : ℕ). k % 2) (mod-pow-add number more 1) ∙ omega arith

-- A bit below the width is the mask's, and there is none above.
kept_bit : (mask width column : ℕ) → column < width → (mask % 2 ^ width / 2 ^ column) % 2 ≡ (mask / 2 ^ column) % 2
kept_bit mask width column low =
    let split : width ≡ (width - suc column + 1) + column = omega (arith, low) in
    ap (λ (k : ℕ). (mask % 2 ^ k / 2 ^ column) % 2) split ∙ ap (λ (k : ℕ). k % 2) (field_of mask (width - suc column + 1) column)
    ∙ last_of_rest (mask / 2 ^ column) (width - suc column)

dropped_bit : (mask width column : ℕ) → width ≤ column → mask % 2 ^ width / 2 ^ column ≡ 0
dropped_bit mask width column high =
    let below : mask % 2 ^ width < 2 ^ width = mod-lt mask (pow_pos width) in
    let power : 2 ^ width ≤ 2 ^ column = pow-le-pow_right {n = 2} (omega arith) {i = width} {j = column} high in
    let none : mask % 2 ^ width / 2 ^ column < 2 ^ 0 = shr_below (mask % 2 ^ width) 0 column (under (omega (arith, below, power))) in
    omega (arith, none)
  where
    under : mask % 2 ^ width < 2 ^ column → mask % 2 ^ width < 2 ^ (0 + column)
    under less = let plus : column ≡ 0 + column = omega arith in rw (← plus) less

pub masked_low : (mask width column : ℕ) → width ≤ 64
    → is_masked (bit_and mask (18446744073709551615 / 2 ^ (64 - width))) column ≡ (nat_lt column width && is_masked mask column)
masked_low mask width column few =
    ap (λ (k : ℕ). is_masked k column) (ap (bit_and mask) (low_bits width few) ∙ and_mask mask width)
    ∙ ⊎_elim (λ low. let test : nat_lt column width ≡ true = grind (arith, nat_tests, low) in
    ap (λ (k : ℕ). k == 1) (kept_bit mask width column low) ∙ ap (λ (t : Bool). t && is_masked mask column) (sym test))
    (λ high. let test : nat_lt column width ≡ false = grind (arith, nat_tests, high) in
    ap (λ (k : ℕ). (k % 2) == 1) (dropped_bit mask width column high) ∙ ap (λ (t : Bool). t && is_masked mask column) (sym test))
    (cases_lt column width)

none_counted : (lost : ℕ → Bool) (first some : ℕ) → ((k : ℕ) → k < some → lost (first + k) ≡ false) → count_lost lost first some ≡ 0
none_counted lost first some none = count_alike lost (λ (k : ℕ). false) first 0 some none ∙ nothing 0 some
  where
    nothing : (from count : ℕ) → count_lost (λ (k : ℕ). false) from count ≡ 0
    nothing from zero = refl
    nothing from (suc count) = ap (λ (k : ℕ). 0 + k) (nothing (from + 1) count)

-- So only columns that aren't missing count.
pub counted_low : (mask width columns : ℕ) → width ≤ 64 → width ≤ columns
    → count_lost (is_masked (bit_and mask (18446744073709551615 / 2 ^ (64 - width)))) 0 columns ≡ count_lost (is_masked mask) 0 width
counted_low mask width columns few room =
    let parts : columns ≡ width + (columns - width) = omega (arith, room) in
    ap (count_lost low 0) parts ∙ count_split low 0 width (columns - width)
    ∙ ap (λ (k : ℕ). k + count_lost low (0 + width) (columns - width))
    (count_alike low (is_masked mask) 0 0 width (λ k inside. masked_low mask width (0 + k) few
    ∙ (let test : nat_lt (0 + k) width ≡ true = grind (arith, nat_tests, inside) in ap (λ (t : Bool). t && is_masked mask (0 + k)) test)))
    ∙ ap (λ (k : ℕ). count_lost (is_masked mask) 0 width + k)
    (none_counted low (0 + width) (columns - width) (λ k inside. masked_low mask width (0 + width + k) few
    ∙ (let test : nat_lt (0 + width + k) width ≡ false = grind (arith, nat_tests) in ap (λ (t : Bool). t && is_masked mask (0 + width + k)) test)))
    ∙ omega arith
  where
    low : ℕ → Bool
    low = is_masked (bit_and mask (18446744073709551615 / 2 ^ (64 - width)))

-- ---- masks of more columns

either_bit : (x y : ℕ) → x < 2 → y < 2 → (max x y == 1) ≡ ((x == 1) || (y == 1))
either_bit zero zero low_x low_y = refl
either_bit zero (suc zero) low_x low_y = refl
either_bit (suc zero) zero low_x low_y = refl
either_bit (suc zero) (suc zero) low_x low_y = refl
either_bit zero (suc (suc y)) low_x low_y = absurd (omega (arith, low_y))
either_bit (suc zero) (suc (suc y)) low_x low_y = absurd (omega (arith, low_y))
either_bit (suc (suc x)) y low_x low_y = absurd (omega (arith, low_x))

-- A column is in two masks together where it is in one of them.
pub masked_or : (a b column : ℕ) → is_masked (bit_or a b) column ≡ (is_masked a column || is_masked b column)
masked_or a b column = ap (λ (k : ℕ). k == 1) (bit_at_or a b column) ∙ either_bit ((a / 2 ^ column) % 2) ((b / 2 ^ column) % 2) (omega arith) (omega arith)

-- A column is put into a mask, or isn't; others stay.
pub put_here : (mask column bit : ℕ) (test : Bool) → column < 64 → bit ≡ from_bool test → is_masked mask column ≡ false
    → is_masked (bit_or mask (bit * 2 ^ column % 18446744073709551616)) column ≡ test
put_here mask column bit true within is none =
    ap (λ (k : ℕ). is_masked (bit_or mask (k * 2 ^ column % 18446744073709551616)) column) is ∙ ap (λ (k : ℕ). k == 1) (bit_at_set_same w64 mask column within)
put_here mask column bit false within is none =
    ap (λ (k : ℕ). is_masked (bit_or mask (k * 2 ^ column % 18446744073709551616)) column) is
    ∙ ap (λ (k : ℕ). is_masked (bit_or mask (k % 18446744073709551616)) column) (zero-mul (2 ^ column)) ∙ ap (λ (k : ℕ). is_masked k column) (or_zero_r mask) ∙ none

pub put_elsewhere : (mask column bit other : ℕ) (test : Bool) → column < 64 → bit ≡ from_bool test → other ≢ column
    → is_masked (bit_or mask (bit * 2 ^ column % 18446744073709551616)) other ≡ is_masked mask other
put_elsewhere mask column bit other true within is differ =
    ap (λ (k : ℕ). is_masked (bit_or mask (k * 2 ^ column % 18446744073709551616)) other) is ∙ ap (λ (k : ℕ). k == 1) (bit_at_set_other w64 mask column within other differ)
put_elsewhere mask column bit other false within is differ =
    ap (λ (k : ℕ). is_masked (bit_or mask (k * 2 ^ column % 18446744073709551616)) other) is
    ∙ ap (λ (k : ℕ). is_masked (bit_or mask (k % 18446744073709551616)) other) (zero-mul (2 ^ column)) ∙ ap (λ (k : ℕ). is_masked k other) (or_zero_r mask)
