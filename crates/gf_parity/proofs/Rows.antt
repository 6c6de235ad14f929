-- Worked rows of the parity.
use Rattle.std.proofs.Common.{◌≡◌, [], ◌∷◌, refl}
use Rattle.gf_parity.specs.Field.{product}
use Rattle.gf_parity.specs.Parity.{p_of, q_of, r_of}

-- content bytes 01 02 04
p_of_three : p_of (0x01 ∷ 0x02 ∷ 0x04 ∷ []) ≡ 0x07
unfolding p_of
p_of_three = refl

q_of_three : q_of (0x01 ∷ 0x02 ∷ 0x04 ∷ []) ≡ 0x04
unfolding q_of product
q_of_three = refl

r_of_three : r_of (0x01 ∷ 0x02 ∷ 0x04 ∷ []) ≡ 0x1c
unfolding r_of product
r_of_three = refl

-- content bytes 80 80
p_of_two : p_of (0x80 ∷ 0x80 ∷ []) ≡ 0x00
unfolding p_of
p_of_two = refl

q_of_two : q_of (0x80 ∷ 0x80 ∷ []) ≡ 0x9d
unfolding q_of product
q_of_two = refl

r_of_two : r_of (0x80 ∷ 0x80 ∷ []) ≡ 0xba
unfolding r_of product
r_of_two = refl

-- A missing last column counts as a zero: the powers are the whole row's.
short_row : q_of (0x01 ∷ 0x02 ∷ 0x00 ∷ []) ≡ 0x00
unfolding q_of product
short_row = refl
