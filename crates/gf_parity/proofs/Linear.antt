-- The product is linear in each factor.
use Rattle.std.proofs.Common.{◌≡◌, ℕ, zero, suc, ◌+◌, ◌*◌, ◌/◌, ◌%◌, ◌^◌, ◌<◌, Bool, true, false, refl, sym, ◌∙◌, ap}
use Rattle.std.proofs.Common.{arith}
use Rattle.std.specs.Prelude.{◌==◌, if◌then◌else◌, bit_xor}
use Rattle.std.proofs.lemmas.Nat.{pow_pos, xor_mod, xor_shr, xor_block, xor_comm}
use Rattle.std.specs.Int.Bits.{xor_assoc, xor_self, xor_zero_l, xor_zero_r}
use Rattle.gf_parity.specs.Field.{has_power, polynomial_product, modulus, remainder, product}

-- a polynomial, where a test holds
abbrev picked : Bool → ℕ → ℕ
picked test value = if test then value else 0

-- Four polynomials may be added two by two in either order.
pub swap_middle : (a b c d : ℕ) → bit_xor (bit_xor a b) (bit_xor c d) ≡ bit_xor (bit_xor a c) (bit_xor b d)
swap_middle a b c d =
    xor_assoc a b (bit_xor c d) ∙ ap (λ (k : ℕ). bit_xor a k) (sym (xor_assoc b c d) ∙ ap (λ (k : ℕ). bit_xor k d) (xor_comm b c) ∙ xor_assoc c b d)
    ∙ sym (xor_assoc a c (bit_xor b d))

-- The sum of two bits is 1 where one of them is.
picked_bits : (a b value : ℕ) → a < 2 → b < 2 → picked (bit_xor a b == 1) value ≡ bit_xor (picked (a == 1) value) (picked (b == 1) value)
picked_bits zero zero value low_a low_b = refl
picked_bits zero (suc zero) value low_a low_b = sym (xor_zero_l value)
picked_bits (suc zero) zero value low_a low_b = sym (xor_zero_r value)
picked_bits (suc zero) (suc zero) value low_a low_b = sym (xor_self value)
picked_bits zero (suc (suc b)) value low_a low_b = absurd (omega (arith, low_b))
picked_bits (suc zero) (suc (suc b)) value low_a low_b = absurd (omega (arith, low_b))
picked_bits (suc (suc a)) b value low_a low_b = absurd (omega (arith, low_a))

-- A sum has the powers that one of its parts has.
power-xor : (x y power : ℕ) → (bit_xor x y / 2 ^ power) % 2 ≡ bit_xor ((x / 2 ^ power) % 2) ((y / 2 ^ power) % 2)
power-xor x y power = ap (λ (k : ℕ). k % 2) (xor_shr x y power) ∙ xor_mod (x / 2 ^ power) (y / 2 ^ power) 1

picked-xor : (x y power value : ℕ)
    → picked (has_power (bit_xor x y) power) value ≡ bit_xor (picked (has_power x power) value) (picked (has_power y power) value)
picked-xor x y power value =
    ap (λ (k : ℕ). picked (k == 1) value) (power-xor x y power)
    ∙ picked_bits ((x / 2 ^ power) % 2) ((y / 2 ^ power) % 2) value (omega arith) (omega arith)

picked-sum : (test : Bool) (x y : ℕ) → picked test (bit_xor x y) ≡ bit_xor (picked test x) (picked test y)
picked-sum true x y = refl
picked-sum false x y = refl

-- A power of x times a sum is the sum of both multiples.
shifted-xor : (x y power : ℕ) → bit_xor x y * 2 ^ power ≡ bit_xor (x * 2 ^ power) (y * 2 ^ power)
shifted-xor x y power =
    let some : 0 < 2 ^ power = pow_pos power in
    let block : bit_xor (x * 2 ^ power + 0) (y * 2 ^ power + 0) ≡ bit_xor x y * 2 ^ power + bit_xor 0 0 = xor_block power x y 0 0 some some in
    let left : bit_xor x y * 2 ^ power ≡ bit_xor x y * 2 ^ power + bit_xor 0 0 = omega arith in
    let first : x * 2 ^ power + 0 ≡ x * 2 ^ power = omega arith in
    let second : y * 2 ^ power + 0 ≡ y * 2 ^ power = omega arith in
    left ∙ sym block ∙ ap (λ (k : ℕ). bit_xor k (y * 2 ^ power + 0)) first ∙ ap (λ (k : ℕ). bit_xor (x * 2 ^ power) k) second

pub polynomial_product-xor_left : (a b c powers : ℕ)
    → polynomial_product (bit_xor a b) c powers ≡ bit_xor (polynomial_product a c powers) (polynomial_product b c powers)
polynomial_product-xor_left a b c zero = refl
polynomial_product-xor_left a b c (suc power) =
    ap (λ (k : ℕ). bit_xor (picked (has_power c power) k) (polynomial_product (bit_xor a b) c power)) (shifted-xor a b power)
    ∙ ap (λ (k : ℕ). bit_xor k (polynomial_product (bit_xor a b) c power)) (picked-sum (has_power c power) (a * 2 ^ power) (b * 2 ^ power))
    ∙ ap (λ (k : ℕ). bit_xor (bit_xor (picked (has_power c power) (a * 2 ^ power)) (picked (has_power c power) (b * 2 ^ power))) k) (polynomial_product-xor_left a b c power)
    ∙ swap_middle (picked (has_power c power) (a * 2 ^ power)) (picked (has_power c power) (b * 2 ^ power)) (polynomial_product a c power) (polynomial_product b c power)

pub polynomial_product-xor_right : (a b c powers : ℕ)
    → polynomial_product a (bit_xor b c) powers ≡ bit_xor (polynomial_product a b powers) (polynomial_product a c powers)
polynomial_product-xor_right a b c zero = refl
polynomial_product-xor_right a b c (suc power) =
    ap (λ (k : ℕ). bit_xor k (polynomial_product a (bit_xor b c) power)) (picked-xor b c power (a * 2 ^ power))
    ∙ ap (λ (k : ℕ). bit_xor (bit_xor (picked (has_power b power) (a * 2 ^ power)) (picked (has_power c power) (a * 2 ^ power))) k) (polynomial_product-xor_right a b c power)
    ∙ swap_middle (picked (has_power b power) (a * 2 ^ power)) (picked (has_power c power) (a * 2 ^ power)) (polynomial_product a b power) (polynomial_product a c power)

-- Where the highest power is there, the modulus comes off.
one_less : (test : Bool) (polynomial value : ℕ) → (if test then bit_xor polynomial value else polynomial) ≡ bit_xor polynomial (picked test value)
one_less true polynomial value = refl
one_less false polynomial value = sym (xor_zero_r polynomial)

one_less-xor : (x y power value : ℕ)
    → (if has_power (bit_xor x y) power then bit_xor (bit_xor x y) value else bit_xor x y)
    ≡ bit_xor (if has_power x power then bit_xor x value else x) (if has_power y power then bit_xor y value else y)
one_less-xor x y power value =
    one_less (has_power (bit_xor x y) power) (bit_xor x y) value
    ∙ ap (λ (k : ℕ). bit_xor (bit_xor x y) k) (picked-xor x y power value)
    ∙ swap_middle x y (picked (has_power x power) value) (picked (has_power y power) value)
    ∙ ap (λ (k : ℕ). bit_xor k (bit_xor y (picked (has_power y power) value))) (sym (one_less (has_power x power) x value))
    ∙ ap (λ (k : ℕ). bit_xor (if has_power x power then bit_xor x value else x) k) (sym (one_less (has_power y power) y value))

pub remainder-xor : (powers x y : ℕ) → remainder powers (bit_xor x y) ≡ bit_xor (remainder powers x) (remainder powers y)
remainder-xor zero x y = refl
remainder-xor (suc power) x y =
    ap (remainder power) (one_less-xor x y (8 + power) (modulus * 2 ^ power))
    ∙ remainder-xor power (if has_power x (8 + power) then bit_xor x (modulus * 2 ^ power) else x)
    (if has_power y (8 + power) then bit_xor y (modulus * 2 ^ power) else y)

pub product-xor_left : (a b c : ℕ) → product (bit_xor a b) c ≡ bit_xor (product a c) (product b c)
unfolding product
product-xor_left a b c =
    ap (remainder 7) (polynomial_product-xor_left a b c 8) ∙ remainder-xor 7 (polynomial_product a c 8) (polynomial_product b c 8)

pub product-xor_right : (a b c : ℕ) → product a (bit_xor b c) ≡ bit_xor (product a b) (product a c)
unfolding product
product-xor_right a b c =
    ap (remainder 7) (polynomial_product-xor_right a b c 8) ∙ remainder-xor 7 (polynomial_product a b 8) (polynomial_product a c 8)
