-- The bytes that were told from sums give these sums, whatever the sums are.
use Rattle.std.proofs.Common.{◌≡◌, ◌≢◌, ℕ, ◌<◌, sym, ◌∙◌, ap, refl}
use Rattle.std.specs.Prelude.{bit_xor}
use Rattle.std.specs.Int.Bits.{xor_assoc}
use Rattle.std.proofs.lemmas.Nat.{xor_comm}
use Rattle.gf_parity.specs.Field.{product}
use Rattle.gf_parity.proofs.Laws.{product_assoc, product_comm, one_product}
use Rattle.gf_parity.proofs.Linear.{product-xor_left, product-xor_right}
use Rattle.gf_solve.specs.Inverse.{inverse_of}
use Rattle.gf_solve.proofs.Units.{inverse_is}
use Rattle.gf_solve.proofs.Singled.{two_of_three, two_of_three_later}
use Rattle.gf_solve.proofs.Sums.{twice_is_none, last_twice, shared_last}

-- A factor that was taken off is put on again.
pub put_on : (a b : ℕ) → a < 256 → b < 256 → a ≢ 0 → product a (product (inverse_of a) b) ≡ b
put_on a b low_a low_b some =
    let is = inverse_is a low_a some in
    sym (product_assoc a (inverse_of a) b low_a is.1) ∙ ap (λ (k : ℕ). product k b) (product_comm a (inverse_of a) low_a is.1 ∙ is.0) ∙ one_product b low_b

pub scaled_again : (factor inverse old new : ℕ) → factor < 256 → old < 256 → factor ≢ 0 → inverse ≡ inverse_of factor → new ≡ product inverse old
    → product factor new ≡ old
scaled_again factor inverse old new low_factor low_old some inverse_is new_is =
    ap (product factor) (new_is ∙ ap (λ (k : ℕ). product k old) inverse_is) ∙ put_on factor old low_factor low_old some

-- What is added on both sides is left out.
pub cancel_last : (a b c : ℕ) → bit_xor a c ≡ bit_xor b c → a ≡ b
cancel_last a b c is = sym (last_twice a c) ∙ ap (λ (k : ℕ). bit_xor k c) is ∙ last_twice b c

pub cancel_first : (a b c : ℕ) → bit_xor a b ≡ bit_xor a c → b ≡ c
cancel_first a b c is = sym (twice_is_none a b) ∙ ap (bit_xor a) is ∙ twice_is_none a c

-- The rest of a sum and its first part are the sum.
pub rest_returns : (sum first second : ℕ) → second ≡ bit_xor sum first → bit_xor first second ≡ sum
rest_returns sum first second is = ap (bit_xor first) (is ∙ xor_comm sum first) ∙ twice_is_none first sum

-- The two bytes give the sum with two different factors.
pub split_returns : (x y sum weighted first second : ℕ) → second ≡ bit_xor sum first
    → product (bit_xor x y) first ≡ bit_xor weighted (product y sum)
    → bit_xor (product x first) (product y second) ≡ weighted
split_returns x y sum weighted first second second_is first_is =
    ap (λ (k : ℕ). bit_xor (product x first) (product y k)) (second_is ∙ xor_comm sum first)
    ∙ ap (bit_xor (product x first)) (product-xor_right y first sum) ∙ sym (xor_assoc (product x first) (product y first) (product y sum))
    ∙ ap (λ (k : ℕ). bit_xor k (product y sum)) (sym (product-xor_left x y first) ∙ first_is) ∙ last_twice weighted (product y sum)

-- The last of three bytes is what the sum lacks of the other two.
pub three_sum : (first second third sum : ℕ) → third ≡ bit_xor (bit_xor sum first) second → bit_xor (bit_xor first second) third ≡ sum
three_sum first second third sum is =
    ap (bit_xor (bit_xor first second)) is ∙ shared_last first (bit_xor sum first) second ∙ ap (bit_xor first) (xor_comm sum first) ∙ twice_is_none first sum

-- The three bytes give all three sums.
module _ (x y z p q r high higher first second third : ℕ) (low_x : x < 256) (low_y : y < 256) (low_z : z < 256)
    (sum : bit_xor (bit_xor first second) third ≡ p)
    (first_is : product (bit_xor x z) first ≡ high) (second_is : product (bit_xor y z) second ≡ higher)
    (sum_high : bit_xor high higher ≡ bit_xor q (product z p))
    (sum_higher : bit_xor (product x high) (product y higher) ≡ bit_xor r (product z q)) where
  pub three_returns_q : bit_xor (bit_xor (product x first) (product y second)) (product z third) ≡ q
  three_returns_q =
      cancel_last (bit_xor (bit_xor (product x first) (product y second)) (product z third)) q (product z p)
      (two_of_three x y z first second third p (bit_xor (bit_xor (product x first) (product y second)) (product z third)) (sym sum) refl
      ∙ ap (λ (k : ℕ). bit_xor k (product (bit_xor y z) second)) first_is ∙ ap (bit_xor high) second_is ∙ sum_high)

  pub three_returns_r : bit_xor (bit_xor (product (product x x) first) (product (product y y) second)) (product (product z z) third) ≡ r
  three_returns_r =
      cancel_last (bit_xor (bit_xor (product (product x x) first) (product (product y y) second)) (product (product z z) third)) r (product z q)
      (two_of_three_later x y z first second third q (bit_xor (bit_xor (product (product x x) first) (product (product y y) second)) (product (product z z) third))
      low_x low_y low_z (sym three_returns_q) refl
      ∙ ap (λ (k : ℕ). bit_xor (product x k) (product y (product (bit_xor y z) second))) first_is
      ∙ ap (λ (k : ℕ). bit_xor (product x high) (product y k)) second_is ∙ sum_higher)
