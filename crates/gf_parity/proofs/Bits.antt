-- How bits of a byte are shifted out and in.
use Rattle.std.proofs.Common.{◌≡◌, ℕ, ◌+◌, ◌-◌, ◌*◌, ◌/◌, ◌%◌, ◌^◌, ◌<◌, ◌≤◌, sym, ◌∙◌, ap, arith, ⊎_elim}
use Rattle.std.specs.Prelude.{bit_xor, bit_and}
use Rattle.std.specs.Int.Bits.{xor_zero_l, xor_zero_r}
use Rattle.std.proofs.lemmas.Nat.{and_mask, xor_block, shr-shr, shr_le}
use Rattle.std.proofs.lemmas.Bool.{cases_lt}
use Rattle.gf_parity.specs.Field.{product, double}
use Rattle.gf_parity.proofs.Laws.{double_is_product, product_assoc, product_comm, product_one, product_zero}
use Rattle.gf_parity.proofs.Linear.{product-xor_right}

-- The bits go up by one, and the modulus comes off where the highest is lost.
pub shifted_is_double : (byte lost : ℕ) → byte < 256 → (byte < 128 → lost ≡ 0) → (128 ≤ byte → lost ≡ 29)
    → bit_xor (bit_and byte 127 * 2 % 256) lost ≡ double byte
unfolding double
shifted_is_double byte lost low few many =
    let mask : bit_and byte 127 ≡ byte % 128 = and_mask byte 7 in
    let shifted : bit_and byte 127 * 2 % 256 ≡ 2 * (byte % 128) = omega (arith, mask) in
    let off : lost ≡ 29 * (byte / 128) =
    ⊎_elim (λ less. omega (arith, few less, less)) (λ more. omega (arith, many more, more, low)) (cases_lt byte 128) in
    ap (λ (k : ℕ). bit_xor k lost) shifted ∙ ap (λ (k : ℕ). bit_xor (2 * (byte % 128)) k) off

-- While no bit is lost, the double is the number twice.
double_of_low : (half : ℕ) → half < 128 → double half ≡ 2 * half
unfolding double
double_of_low half low =
    let rest : half % 128 ≡ half = omega (arith, low) in
    let none : 29 * (half / 128) ≡ 0 = omega (arith, low) in
    ap (λ (k : ℕ). bit_xor (2 * k) (29 * (half / 128))) rest ∙ ap (λ (k : ℕ). bit_xor (2 * half) k) none ∙ xor_zero_r (2 * half)

product-twice : (left half : ℕ) → left < 256 → half < 128 → product left (2 * half) ≡ product 2 (product left half)
product-twice left half low_left low =
    ap (product left) (sym (double_of_low half low) ∙ double_is_product half (omega (arith, low)))
    ∙ sym (product_assoc left 2 half low_left (omega arith))
    ∙ ap (λ (k : ℕ). product k half) (product_comm left 2 low_left (omega arith))
    ∙ product_assoc 2 left half (omega arith) low_left

-- A number is twice its half and its lowest bit.
last_bit : (number : ℕ) → number ≡ bit_xor (2 * (number / 2)) (number % 2)
last_bit number =
    let block : bit_xor (number / 2 * 2 ^ 1 + 0) (0 * 2 ^ 1 + number % 2) ≡ bit_xor (number / 2) 0 * 2 ^ 1 + bit_xor 0 (number % 2) =
    xor_block 1 (number / 2) 0 0 (number % 2) (omega arith) (omega arith) in
    let value : number ≡ bit_xor (number / 2) 0 * 2 ^ 1 + bit_xor 0 (number % 2) = omega (arith, xor_zero_r (number / 2), xor_zero_l (number % 2)) in
    let first : number / 2 * 2 ^ 1 + 0 ≡ 2 * (number / 2) = omega arith in
    let second : 0 * 2 ^ 1 + number % 2 ≡ number % 2 = omega arith in
    value ∙ sym block ∙ ap (λ (k : ℕ). bit_xor k (0 * 2 ^ 1 + number % 2)) first ∙ ap (λ (k : ℕ). bit_xor (2 * (number / 2)) k) second

-- One bit more of the right factor.
pub product_by_bit : (left number part : ℕ) → left < 256 → number < 256 → (number % 2 ≡ 1 → part ≡ left) → (number % 2 ≡ 0 → part ≡ 0)
    → bit_xor (product 2 (product left (number / 2))) part ≡ product left number
product_by_bit left number part low_left low one none =
    ap (λ (k : ℕ). bit_xor k part) (sym (product-twice left (number / 2) low_left (omega (arith, low))))
    ∙ ap (λ (k : ℕ). bit_xor (product left (2 * (number / 2))) k) last
    ∙ sym (product-xor_right left (2 * (number / 2)) (number % 2)) ∙ ap (product left) (sym (last_bit number))
  where
    last : part ≡ product left (number % 2)
    last = ⊎_elim (λ zero_bit. let is : number % 2 ≡ 0 = omega (arith, zero_bit) in none is ∙ sym (product_zero left) ∙ ap (product left) (sym is))
        (λ one_bit. let is : number % 2 ≡ 1 = omega (arith, one_bit) in one is ∙ sym (product_one left low_left) ∙ ap (product left) (sym is)) (cases_lt (number % 2) 1)

pub halved : (right bit : ℕ) → bit < 8 → right / 2 ^ (8 - bit) ≡ right / 2 ^ (7 - bit) / 2
halved right bit low =
    let plus : 8 - bit ≡ 7 - bit + 1 = omega (arith, low) in
    ap (λ (k : ℕ). right / 2 ^ k) plus ∙ sym (shr-shr right (7 - bit) 1)

-- The product with one bit more.
pub mul_more : (left right bit sum doubled part : ℕ) → left < 256 → right < 256 → bit < 8 → sum ≡ product left (right / 2 ^ (8 - bit))
    → doubled ≡ product 2 sum
    → (bit_and (right / 2 ^ (7 - bit)) 1 ≡ 1 → part ≡ left) → ((bit_and (right / 2 ^ (7 - bit)) 1 ≡ 1 → ⊥) → part ≡ 0)
    → bit_xor doubled part ≡ product left (right / 2 ^ (8 - (bit + 1)))
mul_more left right bit sum doubled part low_left low low_bit so_far twice one none =
    let mask : bit_and (right / 2 ^ (7 - bit)) 1 ≡ right / 2 ^ (7 - bit) % 2 = and_mask (right / 2 ^ (7 - bit)) 1 in
    let less : right / 2 ^ (7 - bit) < 256 = omega (arith, shr_le right (7 - bit), low) in
    let next : 8 - (bit + 1) ≡ 7 - bit = omega (arith, low_bit) in
    ap (λ (k : ℕ). bit_xor k part) (twice ∙ ap (product 2) (so_far ∙ ap (product left) (halved right bit low_bit)))
    ∙ product_by_bit left (right / 2 ^ (7 - bit)) part low_left less (λ is. one (mask ∙ is)) (λ is. none (λ other. absurd (omega (arith, mask, is, other))))
    ∙ ap (λ (k : ℕ). product left (right / 2 ^ k)) (sym next)
