-- The field's laws: products commute and associate, 1 is neutral, and products of bytes are bytes.
use Rattle.std.proofs.Common.{◌≡◌, ℕ, zero, suc, ◌*◌, ◌/◌, ◌%◌, ◌^◌, ◌<◌, ◌≤◌, Bool, true, refl, sym, ◌∙◌, ap, arith}
use Rattle.std.specs.Prelude.{◌==◌, if◌then◌else◌, bit_xor, nat_lt}
use Rattle.std.proofs.lemmas.Bool.Decides.{nat_tests}
use Rattle.gf_parity.specs.Field.{has_power, polynomial_product, remainder, product, double}
use Rattle.gf_parity.proofs.Linear.{product-xor_left, product-xor_right}
use Rattle.gf_parity.proofs.Basis.{IsLinear, all_below, all_below_at, agree, after, stays_below, linear_zero}

pub times_right : (a : ℕ) → IsLinear (λ (x : ℕ). product a x)
times_right a = record { sum = product-xor_right a }

pub times_left : (b : ℕ) → IsLinear (λ (x : ℕ). product x b)
times_left b = record { sum = λ x y. product-xor_left x y b }

-- the laws on powers of 2, by computation
commutes_on_powers : all_below (λ i. all_below (λ j. product (2 ^ i) (2 ^ j) == product (2 ^ j) (2 ^ i)) 8) 8 ≡ true
unfolding product
commutes_on_powers = refl

associates_on_powers : all_below (λ i. all_below (λ j. all_below (λ k. product (product (2 ^ i) (2 ^ j)) (2 ^ k) == product (2 ^ i) (product (2 ^ j) (2 ^ k))) 8) 8) 8 ≡ true
unfolding product
associates_on_powers = refl

bytes_on_powers : all_below (λ i. all_below (λ j. nat_lt (product (2 ^ i) (2 ^ j)) 256) 8) 8 ≡ true
unfolding product
bytes_on_powers = refl

one_on_powers : all_below (λ i. product 1 (2 ^ i) == (2 ^ i)) 8 ≡ true
unfolding product
one_on_powers = refl

-- the double of each byte is its product with 2
doubles : all_below (λ byte. double byte == product 2 byte) 256 ≡ true
unfolding product double
doubles = refl

-- a test that holds of all powers of two bytes, at two of them
at_two : (test : ℕ → ℕ → Bool) → all_below (λ i. all_below (λ j. test i j) 8) 8 ≡ true → (i j : ℕ) → i < 8 → j < 8 → test i j ≡ true
at_two test all i j low_i low_j =
    all_below_at (λ k. test i k) 8 j (all_below_at (λ n. all_below (λ k. test n k) 8) 8 i all low_i) low_j

is_equal : (x y : ℕ) → (x == y) ≡ true → x ≡ y
is_equal x y test = grind (arith, nat_tests, test)

-- Doubling is the product with 2.
pub double_is_product : (byte : ℕ) → byte < 256 → double byte ≡ product 2 byte
double_is_product byte low = is_equal (double byte) (product 2 byte) (all_below_at (λ k. double k == product 2 k) 256 byte doubles low)

-- The right factor counts by its lowest eight bits.
pub product-low : (a b : ℕ) → product a b ≡ product a (b % 256)
unfolding product
product-low a b =
    ap (remainder 7) (same 8 (omega arith))
  where
    bit : (power : ℕ) → power < 8 → (b / 2 ^ power) % 2 ≡ (b % 256 / 2 ^ power) % 2
    bit zero low = omega arith
    bit (suc zero) low = omega arith
    bit (suc (suc zero)) low = omega arith
    bit (suc (suc (suc zero))) low = omega arith
    bit (suc (suc (suc (suc zero)))) low = omega arith
    bit (suc (suc (suc (suc (suc zero))))) low = omega arith
    bit (suc (suc (suc (suc (suc (suc zero)))))) low = omega arith
    bit (suc (suc (suc (suc (suc (suc (suc zero))))))) low = omega arith
    bit (suc (suc (suc (suc (suc (suc (suc (suc power)))))))) low = absurd (omega (arith, low))

    same : (powers : ℕ) → powers ≤ 8 → polynomial_product a b powers ≡ polynomial_product a (b % 256) powers
    same zero few = refl
    same (suc power) few =
        ap (λ (k : ℕ). bit_xor (if k == 1 then a * 2 ^ power else 0) (polynomial_product a b power)) (bit power (omega (arith, few)))
        ∙ ap (λ (k : ℕ). bit_xor (if has_power (b % 256) power then a * 2 ^ power else 0) k) (same power (omega (arith, few)))

low_byte : (b : ℕ) → b % 256 < 2 ^ 8
low_byte b = omega arith

-- A product with a byte is a byte.
pub product_below : (a b : ℕ) → a < 256 → product a b < 256
product_below a b low =
    rw (product-low a b) (stays_below (λ (x : ℕ). product a x) (times_right a) 8 (λ power few. on_power power few) (b % 256) (low_byte b))
  where
    on_both : (i j : ℕ) → i < 8 → j < 8 → product (2 ^ i) (2 ^ j) < 2 ^ 8
    on_both i j low_i low_j =
        let test = at_two (λ n k. nat_lt (product (2 ^ n) (2 ^ k)) 256) bytes_on_powers i j low_i low_j in grind (arith, nat_tests, test)

    on_power : (power : ℕ) → power < 8 → product a (2 ^ power) < 2 ^ 8
    on_power power few = stays_below (λ (x : ℕ). product x (2 ^ power)) (times_left (2 ^ power)) 8 (λ i low_i. on_both i power low_i few) a low

-- Products of bytes commute.
pub product_comm : (a b : ℕ) → a < 256 → b < 256 → product a b ≡ product b a
product_comm a b low_a low_b =
    agree (λ (x : ℕ). product a x) (λ (x : ℕ). product x a) (times_right a) (times_left a) 8 (λ power few. on_power power few) b low_b
  where
    on_power : (power : ℕ) → power < 8 → product a (2 ^ power) ≡ product (2 ^ power) a
    on_power power few =
        agree (λ (x : ℕ). product x (2 ^ power)) (λ (x : ℕ). product (2 ^ power) x) (times_left (2 ^ power)) (times_right (2 ^ power)) 8
        (λ i low_i. is_equal (product (2 ^ i) (2 ^ power)) (product (2 ^ power) (2 ^ i))
        (at_two (λ n k. product (2 ^ n) (2 ^ k) == product (2 ^ k) (2 ^ n)) commutes_on_powers i power low_i few)) a low_a

-- Products of bytes may be taken in any order; the last factor may be any number.
pub product_assoc : (a b d : ℕ) → a < 256 → b < 256 → product (product a b) d ≡ product a (product b d)
product_assoc a b d low_a low_b =
    product-low (product a b) d
    ∙ agree (λ (x : ℕ). product (product a b) x) (λ (x : ℕ). product a (product b x)) (times_right (product a b))
    (after (λ (x : ℕ). product a x) (λ (x : ℕ). product b x) (times_right a) (times_right b)) 8 (λ power few. third power few) (d % 256) (low_byte d)
    ∙ ap (λ (k : ℕ). product a k) (sym (product-low b d))
  where
    first : (i j k : ℕ) → i < 8 → j < 8 → k < 8 → product (product (2 ^ i) (2 ^ j)) (2 ^ k) ≡ product (2 ^ i) (product (2 ^ j) (2 ^ k))
    first i j k low_i low_j low_k =
        is_equal (product (product (2 ^ i) (2 ^ j)) (2 ^ k)) (product (2 ^ i) (product (2 ^ j) (2 ^ k)))
        (all_below_at (λ n. product (product (2 ^ i) (2 ^ j)) (2 ^ n) == product (2 ^ i) (product (2 ^ j) (2 ^ n))) 8 k
        (at_two (λ l m. all_below (λ n. product (product (2 ^ l) (2 ^ m)) (2 ^ n) == product (2 ^ l) (product (2 ^ m) (2 ^ n))) 8) associates_on_powers i j low_i low_j) low_k)

    second : (j k : ℕ) → j < 8 → k < 8 → product (product a (2 ^ j)) (2 ^ k) ≡ product a (product (2 ^ j) (2 ^ k))
    second j k low_j low_k =
        agree (λ (x : ℕ). product (product x (2 ^ j)) (2 ^ k)) (λ (x : ℕ). product x (product (2 ^ j) (2 ^ k)))
        (after (λ (x : ℕ). product x (2 ^ k)) (λ (x : ℕ). product x (2 ^ j)) (times_left (2 ^ k)) (times_left (2 ^ j)))
        (times_left (product (2 ^ j) (2 ^ k))) 8 (λ i low_i. first i j k low_i low_j low_k) a low_a

    third : (k : ℕ) → k < 8 → product (product a b) (2 ^ k) ≡ product a (product b (2 ^ k))
    third k low_k =
        agree (λ (x : ℕ). product (product a x) (2 ^ k)) (λ (x : ℕ). product a (product x (2 ^ k)))
        (after (λ (x : ℕ). product x (2 ^ k)) (λ (x : ℕ). product a x) (times_left (2 ^ k)) (times_right a))
        (after (λ (x : ℕ). product a x) (λ (x : ℕ). product x (2 ^ k)) (times_right a) (times_left (2 ^ k))) 8 (λ j low_j. second j k low_j low_k) b low_b

-- 1 is neutral.
pub one_product : (b : ℕ) → b < 256 → product 1 b ≡ b
one_product b low =
    agree (λ (x : ℕ). product 1 x) (λ (x : ℕ). x) (times_right 1) (record { sum = λ x y. refl }) 8
    (λ power few. is_equal (product 1 (2 ^ power)) (2 ^ power) (all_below_at (λ k. product 1 (2 ^ k) == (2 ^ k)) 8 power one_on_powers few)) b low

pub product_one : (a : ℕ) → a < 256 → product a 1 ≡ a
product_one a low = product_comm a 1 low (omega arith) ∙ one_product a low

pub product_zero : (a : ℕ) → product a 0 ≡ 0
product_zero a = linear_zero (λ (x : ℕ). product a x) (times_right a)

pub zero_product : (b : ℕ) → product 0 b ≡ 0
zero_product b = linear_zero (λ (x : ℕ). product x b) (times_left b)

-- Twice twice is four times.
pub double_twice : (byte : ℕ) → product 2 (product 2 byte) ≡ product 4 byte
unfolding product
double_twice byte = sym (product_assoc 2 2 byte (omega arith) (omega arith)) ∙ refl
