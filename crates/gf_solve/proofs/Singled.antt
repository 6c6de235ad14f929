-- How single bytes are told from sums of them.
use Rattle.std.proofs.Common.{◌≡◌, ◌≢◌, ℕ, zero, suc, ◌-◌, ◌<◌, refl, sym, ◌∙◌, ap, arith}
use Rattle.std.specs.Prelude.{bit_xor}
use Rattle.std.proofs.lemmas.Nat.{xor_of_8}
use Rattle.gf_parity.specs.Field.{product}
use Rattle.gf_parity.proofs.Laws.{product_assoc, product_below, product_comm, product_one}
use Rattle.gf_parity.proofs.Linear.{swap_middle, product-xor_left, product-xor_right}
use Rattle.gf_solve.specs.Inverse.{inverse_of}
use Rattle.gf_solve.specs.Weight.{weight}
use Rattle.gf_solve.proofs.Units.{taken_off, sum_some, product_some, squares_differ}
use Rattle.gf_solve.proofs.Sums.{shared_last}

-- Of a sum and of one with two different factors, the first part.
pub first_of_two : (x y a b low high : ℕ) → x < 256 → y < 256 → a < 256 → x ≢ y → low ≡ bit_xor a b → high ≡ bit_xor (product x a) (product y b)
    → product (inverse_of (bit_xor x y)) (bit_xor high (product y low)) ≡ a
first_of_two x y a b low high low_x low_y low_a differ low_is high_is =
    ap (product (inverse_of (bit_xor x y)))
    (ap (λ (k : ℕ). bit_xor high (product y k)) low_is ∙ ap (λ (k : ℕ). bit_xor k (product y (bit_xor a b))) high_is
    ∙ ap (bit_xor (bit_xor (product x a) (product y b))) (product-xor_right y a b)
    ∙ shared_last (product x a) (product y a) (product y b) ∙ sym (product-xor_left x y a))
    ∙ taken_off (bit_xor x y) a (xor_of_8 x y low_x low_y) low_a (sum_some x y differ)

-- Weights are bytes, and none is 0.
pub weight_below : (which point : ℕ) → point < 256 → weight which point < 256
weight_below zero point low = omega arith
weight_below (suc zero) point low = low
weight_below (suc (suc which)) point low = product_below point point low

pub weight_some : (which point : ℕ) → point < 256 → point ≢ 0 → weight which point ≢ 0
weight_some zero point low some = λ none. absurd cc
weight_some (suc zero) point low some = some
weight_some (suc (suc which)) point low some = product_some point point low low some some

-- In parities after the first, different points have different weights.
pub weights_differ : (which x y : ℕ) → 0 < which → x < 256 → y < 256 → x ≢ y → weight which x ≢ weight which y
weights_differ zero x y later low_x low_y differ = absurd (omega (arith, later))
weights_differ (suc zero) x y later low_x low_y differ = differ
weights_differ (suc (suc which)) x y later low_x low_y differ = squares_differ x y low_x low_y differ

-- The weight in a later parity is that in an earlier one, times one that tells points apart.
pub weight_steps : (low high point : ℕ) → low < high → high < 3 → point < 256 → weight high point ≡ product (weight (high - low) point) (weight low point)
weight_steps zero (suc zero) point before few byte = sym (product_one point byte)
weight_steps zero (suc (suc zero)) point before few byte = sym (product_one (product point point) (product_below point point byte))
weight_steps (suc zero) (suc (suc zero)) point before few byte = refl
weight_steps low zero point before few byte = absurd (omega (arith, before))
weight_steps (suc low) (suc zero) point before few byte = absurd (omega (arith, before))
weight_steps (suc (suc low)) (suc (suc zero)) point before few byte = absurd (omega (arith, before))
weight_steps low (suc (suc (suc high))) point before few byte = absurd (omega (arith, few))

pub share_steps : (low high point byte : ℕ) → low < high → high < 3 → point < 256
    → product (weight high point) byte ≡ product (weight (high - low) point) (product (weight low point) byte)
share_steps low high point byte before few is_byte =
    ap (λ (k : ℕ). product k byte) (weight_steps low high point before few is_byte)
    ∙ product_assoc (weight (high - low) point) (weight low point) byte (weight_below (high - low) point is_byte) (weight_below low point is_byte)

-- A sum of three with factors, and the sum of them times the last factor: the last part is gone.
pub two_of_three : (x y z a b c low high : ℕ) → low ≡ bit_xor (bit_xor a b) c → high ≡ bit_xor (bit_xor (product x a) (product y b)) (product z c)
    → bit_xor high (product z low) ≡ bit_xor (product (bit_xor x z) a) (product (bit_xor y z) b)
two_of_three x y z a b c low high low_is high_is =
    ap (λ (k : ℕ). bit_xor high (product z k)) low_is ∙ ap (λ (k : ℕ). bit_xor k (product z (bit_xor (bit_xor a b) c))) high_is
    ∙ ap (bit_xor (bit_xor (bit_xor (product x a) (product y b)) (product z c)))
    (product-xor_right z (bit_xor a b) c ∙ ap (λ (k : ℕ). bit_xor k (product z c)) (product-xor_right z a b))
    ∙ shared_last (bit_xor (product x a) (product y b)) (bit_xor (product z a) (product z b)) (product z c)
    ∙ swap_middle (product x a) (product y b) (product z a) (product z b)
    ∙ ap (λ (k : ℕ). bit_xor k (bit_xor (product y b) (product z b))) (sym (product-xor_left x z a))
    ∙ ap (bit_xor (product (bit_xor x z) a)) (sym (product-xor_left y z b))

-- The same one parity later.
pub two_of_three_later : (x y z a b c low high : ℕ) → x < 256 → y < 256 → z < 256
    → low ≡ bit_xor (bit_xor (product x a) (product y b)) (product z c)
    → high ≡ bit_xor (bit_xor (product (product x x) a) (product (product y y) b)) (product (product z z) c)
    → bit_xor high (product z low) ≡ bit_xor (product x (product (bit_xor x z) a)) (product y (product (bit_xor y z) b))
two_of_three_later x y z a b c low high low_x low_y low_z low_is high_is =
    two_of_three x y z (product x a) (product y b) (product z c) low high low_is
    (high_is ∙ ap (λ (k : ℕ). bit_xor (bit_xor k (product (product y y) b)) (product (product z z) c)) (product_assoc x x a low_x low_x)
    ∙ ap (λ (k : ℕ). bit_xor (bit_xor (product x (product x a)) k) (product (product z z) c)) (product_assoc y y b low_y low_y)
    ∙ ap (bit_xor (bit_xor (product x (product x a)) (product y (product y b)))) (product_assoc z z c low_z low_z))
    ∙ ap (λ (k : ℕ). bit_xor k (product (bit_xor y z) (product y b))) (turned x z a low_x low_z)
    ∙ ap (bit_xor (product x (product (bit_xor x z) a))) (turned y z b low_y low_z)
  where
    turned : (p q d : ℕ) → p < 256 → q < 256 → product (bit_xor p q) (product p d) ≡ product p (product (bit_xor p q) d)
    turned p q d low_p low_q =
        sym (product_assoc (bit_xor p q) p d (xor_of_8 p q low_p low_q) low_p)
        ∙ ap (λ (k : ℕ). product k d) (product_comm (bit_xor p q) p (xor_of_8 p q low_p low_q) low_p) ∙ product_assoc p (bit_xor p q) d low_p (xor_of_8 p q low_p low_q)
