-- Sums in which parts cancel out.
use Rattle.std.proofs.Common.{◌≡◌, ℕ, sym, ◌∙◌, ap}
use Rattle.std.specs.Prelude.{bit_xor}
use Rattle.std.specs.Int.Bits.{xor_assoc, xor_self, xor_zero_l, xor_zero_r}
use Rattle.std.proofs.lemmas.Nat.{xor_comm}

-- What is added twice is gone.
pub twice_is_none : (a b : ℕ) → bit_xor a (bit_xor a b) ≡ b
twice_is_none a b = sym (xor_assoc a a b) ∙ ap (λ (k : ℕ). bit_xor k b) (xor_self a) ∙ xor_zero_l b

pub last_twice : (a b : ℕ) → bit_xor (bit_xor a b) b ≡ a
last_twice a b = xor_assoc a b b ∙ ap (bit_xor a) (xor_self b) ∙ xor_zero_r a

pub first_twice : (a b : ℕ) → bit_xor (bit_xor a b) a ≡ b
first_twice a b = ap (λ (k : ℕ). bit_xor k a) (xor_comm a b) ∙ last_twice b a

-- One part stands in both sums.
pub shared_part : (a b c : ℕ) → bit_xor (bit_xor a b) (bit_xor c a) ≡ bit_xor c b
shared_part a b c =
    ap (λ (k : ℕ). bit_xor k (bit_xor c a)) (xor_comm a b) ∙ xor_assoc b a (bit_xor c a)
    ∙ ap (bit_xor b) (ap (bit_xor a) (xor_comm c a) ∙ twice_is_none a c) ∙ xor_comm b c

pub shared_last : (a b c : ℕ) → bit_xor (bit_xor a c) (bit_xor b c) ≡ bit_xor a b
shared_last a b c = xor_assoc a c (bit_xor b c) ∙ ap (bit_xor a) (ap (bit_xor c) (xor_comm b c) ∙ twice_is_none c b)

-- Two of three parts are taken off.
pub last_of_three : (a b c : ℕ) → bit_xor (bit_xor (bit_xor (bit_xor a b) c) a) b ≡ c
last_of_three a b c = xor_assoc (bit_xor (bit_xor a b) c) a b ∙ first_twice (bit_xor a b) c
