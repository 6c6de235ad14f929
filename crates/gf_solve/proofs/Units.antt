-- Each byte but 0 has an inverse, and powers of 2 differ.
use Rattle.std.proofs.Common.{◌≡◌, ◌≢◌, ℕ, zero, suc, ◌+◌, ◌-◌, ◌<◌, ◌≤◌, Bool, true, false, refl, sym, ◌∙◌, ap, arith}
use Rattle.std.proofs.Common.{⊎_elim}
use Rattle.std.specs.Prelude.{◌&&◌, ◌||◌, ◌==◌, not, bit_xor, nat_lt}
use Rattle.std.proofs.lemmas.Bool.{cases_lt}
use Rattle.std.proofs.lemmas.Bool.Decides.{nat_tests}
use Rattle.std.proofs.lemmas.Nat.{xor_of_8}
use Rattle.std.specs.Int.Bits.{xor_self, xor_zero_l, xor_zero_r, xor_assoc}
use Rattle.gf_parity.specs.Field.{product, double, power_of}
use Rattle.gf_parity.proofs.Basis.{all_below, all_below_at}
use Rattle.gf_parity.proofs.Laws.{double_is_product, product_assoc, product_comm, product_below, one_product}
use Rattle.gf_parity.proofs.Laws.{product_zero}
use Rattle.gf_parity.proofs.Linear.{product-xor_left, product-xor_right}
use Rattle.gf_parity.proofs.Horner.{power_below}
use Rattle.gf_solve.specs.Inverse.{inverse_of, squares_times}

-- by computation, over all bytes
inverses : all_below (λ byte. (byte == 0) || ((product (inverse_of byte) byte == 1) && nat_lt (inverse_of byte) 256)) 256 ≡ true
unfolding product inverse_of squares_times
inverses = refl

-- a test that up to so many doublings move a byte
moves : ℕ → ℕ → ℕ → Bool
moves byte here zero = true
moves byte here (suc more) = not (double here == byte) && moves byte (double here) more

all_move : all_below (λ byte. (byte == 0) || moves byte byte 63) 256 ≡ true
unfolding moves double
all_move = refl

parts : (a b c : Bool) → (a || (b && c)) ≡ true → a ≡ false → (b ≡ true) × (c ≡ true)
parts true b c is no_a = absurd cc
parts false true true is no_a = (refl, refl)
parts false true false is no_a = absurd cc
parts false false c is no_a = absurd cc

other_part : (a b : Bool) → (a || b) ≡ true → a ≡ false → b ≡ true
other_part true b is no_a = absurd cc
other_part false b is no_a = is

-- Each byte but 0 has an inverse.
pub inverse_is : (byte : ℕ) → byte < 256 → byte ≢ 0 → (product (inverse_of byte) byte ≡ 1) × (inverse_of byte < 256)
inverse_is byte low some =
    let test : (byte == 0) ≡ false = grind (arith, nat_tests, some) in
    let both = parts (byte == 0) (product (inverse_of byte) byte == 1) (nat_lt (inverse_of byte) 256)
    (all_below_at (λ k. (k == 0) || ((product (inverse_of k) k == 1) && nat_lt (inverse_of k) 256)) 256 byte inverses low) test in
    (equal (product (inverse_of byte) byte) 1 both.0, less (inverse_of byte) 256 both.1)
  where
    equal : (a b : ℕ) → (a == b) ≡ true → a ≡ b
    equal a b is = grind (arith, nat_tests, is)

    less : (a b : ℕ) → nat_lt a b ≡ true → a < b
    less a b is = grind (arith, nat_tests, is)

-- A factor of 1 leaves a byte as it is.
pub times_one : (factor byte : ℕ) → factor ≡ 1 → byte < 256 → product factor byte ≡ byte
times_one factor byte is low = ap (λ (k : ℕ). product k byte) is ∙ one_product byte low

-- A factor that isn't 0 is taken off by its inverse; the other factor is any byte.
pub taken_off : (a b : ℕ) → a < 256 → b < 256 → a ≢ 0 → product (inverse_of a) (product a b) ≡ b
taken_off a b low_a low_b some =
    let is = inverse_is a low_a some in
    sym (product_assoc (inverse_of a) a b is.1 low_a) ∙ ap (λ (k : ℕ). product k b) is.0 ∙ one_product b low_b

-- What gives 1 with a byte is its inverse.
pub only_inverse : (a b : ℕ) → a < 256 → b < 256 → a ≢ 0 → product b a ≡ 1 → b ≡ inverse_of a
only_inverse a b low_a low_b some is =
    sym (taken_off a b low_a low_b some) ∙ ap (product (inverse_of a)) (product_comm a b low_a low_b ∙ is)
    ∙ product_comm (inverse_of a) 1 (inverse_is a low_a some).1 (omega arith) ∙ one_product (inverse_of a) (inverse_is a low_a some).1

pub inverse_one : inverse_of 1 ≡ 1
unfolding inverse_of squares_times product
inverse_one = refl

-- Products of what isn't 0 aren't 0.
pub product_some : (a b : ℕ) → a < 256 → b < 256 → a ≢ 0 → b ≢ 0 → product a b ≢ 0
product_some a b low_a low_b some_a some_b none =
    some_b (sym (taken_off a b low_a low_b some_a) ∙ ap (product (inverse_of a)) none ∙ product_zero (inverse_of a))

-- The inverses of three bytes, from that of their product.
module _ (x y z all : ℕ) (low_x : x < 256) (low_y : y < 256) (low_z : z < 256) (some_x : x ≢ 0) (some_y : y ≢ 0) (some_z : z ≢ 0)
    (low : all < 256) (over : product all (product (product x y) z) ≡ 1) where
  two : product (product all z) (product x y) ≡ 1
  two =
      product_assoc all z (product x y) low low_z ∙ ap (product all) (product_comm z (product x y) low_z (product_below x y low_x)) ∙ over

  pub first_inverse : product (product all z) y ≡ inverse_of x
  first_inverse =
      only_inverse x (product (product all z) y) low_x (product_below (product all z) y (product_below all z low)) some_x
      (product_assoc (product all z) y x (product_below all z low) low_y ∙ ap (product (product all z)) (product_comm y x low_y low_x) ∙ two)

  pub second_inverse : product (product all z) x ≡ inverse_of y
  second_inverse =
      only_inverse y (product (product all z) x) low_y (product_below (product all z) x (product_below all z low)) some_y
      (product_assoc (product all z) x y (product_below all z low) low_x ∙ two)

  pub third_inverse : product all (product x y) ≡ inverse_of z
  third_inverse =
      only_inverse z (product all (product x y)) low_z (product_below all (product x y) low) some_z
      (product_assoc all (product x y) z low (product_below x y low_x) ∙ over)

pub power_some : (power : ℕ) → power_of 2 power ≢ 0
power_some zero none = absurd cc
power_some (suc power) none = product_some 2 (power_of 2 power) (omega arith) (power_below 2 power (omega arith)) (λ is. absurd cc) (power_some power) none

-- Bytes that differ have a sum that isn't 0.
pub sum_some : (a b : ℕ) → a ≢ b → bit_xor a b ≢ 0
sum_some a b differ none =
    differ (sym (xor_zero_r a) ∙ ap (bit_xor a) (sym (xor_self b)) ∙ sym (xor_assoc a b b) ∙ ap (λ (k : ℕ). bit_xor k b) none ∙ xor_zero_l b)

-- a byte after so many doublings
doubled : ℕ → ℕ → ℕ
doubled zero byte = byte
doubled (suc more) byte = doubled more (double byte)

moved : (byte here more k : ℕ) → moves byte here more ≡ true → k < more → doubled (suc k) here ≢ byte
unfolding moves doubled
moved byte here zero k test low = absurd (omega (arith, low))
moved byte here (suc more) zero test low = differs (double here) byte (double here == byte) (moves byte (double here) more) refl test
  where
    differs : (a b : ℕ) (first second : Bool) → first ≡ (a == b) → (not first && second) ≡ true → a ≢ b
    differs a b true second is test same = absurd cc
    differs a b false second is test same = grind (arith, nat_tests, is, same)
moved byte here (suc more) (suc k) test low =
    moved byte (double here) more k (rest (not (double here == byte)) (moves byte (double here) more) test) (omega (arith, low))
  where
    rest : (a b : Bool) → (a && b) ≡ true → b ≡ true
    rest true b is = is
    rest false b is = absurd cc

doubled_is : (more power : ℕ) → doubled more (power_of 2 power) ≡ power_of 2 (more + power)
unfolding doubled
doubled_is zero power = let plus : power ≡ 0 + power = omega arith in ap (power_of 2) plus
doubled_is (suc more) power =
    let plus : more + suc power ≡ suc more + power = omega arith in
    ap (doubled more) (double_is_product (power_of 2 power) (power_below 2 power (omega arith))) ∙ doubled_is more (suc power) ∙ ap (power_of 2) plus

-- Up to 63 doublings lead to another byte.
later_differs : (low more : ℕ) → more < 63 → power_of 2 (suc more + low) ≢ power_of 2 low
later_differs low more few same =
    let byte : power_of 2 low < 256 = power_below 2 low (omega arith) in
    let some : (power_of 2 low == 0) ≡ false = tested (power_of 2 low) (power_some low) in
    moved (power_of 2 low) (power_of 2 low) 63 more
    (other_part (power_of 2 low == 0) (moves (power_of 2 low) (power_of 2 low) 63) (all_below_at (λ k. (k == 0) || moves k k 63) 256 (power_of 2 low) all_move byte) some)
    few (doubled_is (suc more) low ∙ same)
  where
    tested : (a : ℕ) → a ≢ 0 → (a == 0) ≡ false
    tested a some = grind (arith, nat_tests, some)

-- Different columns have different points.
pub points_differ : (i j : ℕ) → i < 64 → j < 64 → i ≢ j → power_of 2 i ≢ power_of 2 j
points_differ i j low_i low_j differ same =
    ⊎_elim (λ less. let far : suc (j - suc i) + i ≡ j = omega (arith, less) in
    later_differs i (j - suc i) (omega (arith, less, low_j)) (ap (power_of 2) far ∙ sym same))
    (λ at_least. ⊎_elim (λ more. let far : suc (i - suc j) + j ≡ i = omega (arith, more) in
    later_differs j (i - suc j) (omega (arith, more, low_i)) (ap (power_of 2) far ∙ same))
    (λ at_most. differ (omega (arith, at_least, at_most))) (cases_lt j i))
    (cases_lt i j)

-- The square of a sum is the sum of the squares.
pub square-xor : (a b : ℕ) → a < 256 → b < 256 → product (bit_xor a b) (bit_xor a b) ≡ bit_xor (product a a) (product b b)
square-xor a b low_a low_b =
    product-xor_left a b (bit_xor a b)
    ∙ ap (λ (k : ℕ). bit_xor k (product b (bit_xor a b))) (product-xor_right a a b)
    ∙ ap (bit_xor (bit_xor (product a a) (product a b))) (product-xor_right b a b)
    ∙ ap (λ (k : ℕ). bit_xor (bit_xor (product a a) (product a b)) (bit_xor k (product b b))) (product_comm b a low_b low_a)
    ∙ xor_assoc (product a a) (product a b) (bit_xor (product a b) (product b b))
    ∙ ap (bit_xor (product a a)) (sym (xor_assoc (product a b) (product a b) (product b b)) ∙ ap (λ (k : ℕ). bit_xor k (product b b)) (xor_self (product a b)) ∙ xor_zero_l (product b b))

-- Different bytes have different squares.
pub squares_differ : (a b : ℕ) → a < 256 → b < 256 → a ≢ b → product a a ≢ product b b
squares_differ a b low_a low_b differ same =
    product_some (bit_xor a b) (bit_xor a b) (xor_of_8 a b low_a low_b) (xor_of_8 a b low_a low_b) (sum_some a b differ) (sum_some a b differ)
    (square-xor a b low_a low_b ∙ ap (λ (k : ℕ). bit_xor k (product b b)) same ∙ xor_self (product b b))

-- The product of two squares is the square of the product.
squares : (a b : ℕ) → a < 256 → b < 256 → product (product a b) (product a b) ≡ product (product a a) (product b b)
squares a b low_a low_b =
    product_assoc a b (product a b) low_a low_b
    ∙ ap (product a) (sym (product_assoc b a b low_b low_a) ∙ ap (λ (k : ℕ). product k b) (product_comm b a low_b low_a) ∙ product_assoc a b b low_a low_b)
    ∙ sym (product_assoc a a (product b b) low_a low_a)

-- A power of 4 is the square of that of 2.
pub power_four : (power : ℕ) → power_of 4 power ≡ product (power_of 2 power) (power_of 2 power)
unfolding product
power_four zero = refl
power_four (suc power) =
    ap (product 4) (power_four power) ∙ sym (squares 2 (power_of 2 power) (omega arith) (power_below 2 power (omega arith)))

-- One square more.
pub squares_step : (square sum step : ℕ) → step < 7
    → squares_times square sum (7 - step) ≡ squares_times (product square square) (product sum (product square square)) (7 - (step + 1))
unfolding squares_times
squares_step square sum step low = let plus : 7 - step ≡ suc (7 - (step + 1)) = omega (arith, low) in ap (squares_times square sum) plus

pub squares_none : (square sum step : ℕ) → 7 ≤ step → squares_times square sum (7 - step) ≡ sum
unfolding squares_times
squares_none square sum step high = let none : 7 - step ≡ 0 = omega (arith, high) in ap (squares_times square sum) none

pub squares_all : (byte : ℕ) → squares_times byte 1 7 ≡ inverse_of byte
unfolding inverse_of
squares_all byte = refl

-- Of up to 64 columns any two have different points.
pub columns_differ : (columns first second x y : ℕ) → columns ≤ 64 → first < second → second < columns → x ≡ power_of 2 (columns - 1 - first)
    → y ≡ power_of 2 (columns - 1 - second) → x ≢ y
columns_differ columns first second x y few ascend second_in x_is y_is same =
    points_differ (columns - 1 - first) (columns - 1 - second) (omega (arith, few, ascend, second_in)) (omega (arith, few, second_in))
    (λ equal. omega (arith, equal, ascend, second_in)) (sym x_is ∙ same ∙ y_is)
