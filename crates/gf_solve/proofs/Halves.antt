-- A byte is the sum of its halves, and so are its products.
use Rattle.std.proofs.Common.{◌≡◌, ℕ, ◌+◌, ◌*◌, ◌/◌, ◌%◌, ◌^◌, ◌<◌, sym, ap, ◌∙◌, arith}
use Rattle.std.specs.Prelude.{bit_xor}
use Rattle.std.specs.Int.Bits.{xor_zero_l, xor_zero_r}
use Rattle.std.proofs.lemmas.Nat.{xor_block}
use Rattle.gf_parity.specs.Field.{product}
use Rattle.gf_parity.proofs.Linear.{product-xor_right}

byte_of_halves : (byte : ℕ) → bit_xor (byte % 16) (16 * (byte / 16)) ≡ byte
byte_of_halves byte =
    let small : byte % 16 < 2 ^ 4 = omega arith in
    let block : bit_xor (0 * 2 ^ 4 + byte % 16) (byte / 16 * 2 ^ 4 + 0) ≡ bit_xor 0 (byte / 16) * 2 ^ 4 + bit_xor (byte % 16) 0 = xor_block 4 0 (byte / 16) (byte % 16) 0 small (omega arith) in
    let low : byte % 16 ≡ 0 * 2 ^ 4 + byte % 16 = omega arith in
    let high : 16 * (byte / 16) ≡ byte / 16 * 2 ^ 4 + 0 = omega arith in
    let sum : byte / 16 * 2 ^ 4 + byte % 16 ≡ byte = omega arith in
    ap (λ (k : ℕ). bit_xor k (16 * (byte / 16))) low ∙ ap (bit_xor (0 * 2 ^ 4 + byte % 16)) high ∙ block
    ∙ ap (λ (k : ℕ). k * 2 ^ 4 + bit_xor (byte % 16) 0) (xor_zero_l (byte / 16)) ∙ ap (λ (k : ℕ). byte / 16 * 2 ^ 4 + k) (xor_zero_r (byte % 16)) ∙ sum

pub product_of_halves : (factor byte : ℕ) → bit_xor (product factor (byte % 16)) (product factor (16 * (byte / 16))) ≡ product factor byte
product_of_halves factor byte = sym (product-xor_right factor (byte % 16) (16 * (byte / 16))) ∙ ap (product factor) (byte_of_halves byte)
