-- The digits of sixteen bytes, in vectors.
use Rattle.std.proofs.Common.{◌≡◌, ℕ, ◌+◌, ◌*◌, ◌/◌, ◌%◌, ◌^◌, ◌<◌, ◌≤◌, List, [], ◌∷◌, ◌++◌, length, get_or, map, take}
use Rattle.std.proofs.Common.{replicate, refl, sym, ◌∙◌, ap, subst, arith, append_assoc, w8, Fits}
use Rattle.std.specs.Prelude.{bit_and}
use Rattle.std.specs.List.{range_with_len}
use Rattle.std.specs.Simd.Lanes.{Each1, zip2, chunk, put_chunk, pick_l}
use Rattle.std.proofs.lemmas.Nat.{and_mask}
use Rattle.std.proofs.lemmas.List.{ext_get_or, length-map, get_or-map}
use Rattle.std.proofs.lemmas.List.FromFn.{get_or-map-range_with_len}
use Rattle.std.proofs.lemmas.Simd.{swz_l, SwzOk, SwzOk-from_below, length-swz_l, get_or-swz_l_below, Each1-get_or}
use Rattle.std.proofs.lemmas.Simd.{zip2_splat, pick_l_whole, take_more_put_chunk, length-put_chunk}
use Rattle.client_script.specs.Lines.{hex_digit, hex_text}
use Rattle.client_script.proofs.Texts.{hex_run}

-- Values below 16 are places in a table of sixteen.
pub places_in_table : (values : List ℕ) → length values ≡ 16 → Each1 (λ value. value < 16) values → SwzOk w8 16 16 0 values
places_in_table values long low = SwzOk-from_below w8 16 1 16 0 values refl (omega (arith, long)) low

-- the digit at each lane, from the table of all digits
pub digits_of : (values : List ℕ) → length values ≡ 16 → Each1 (λ value. value < 16) values → swz_l w8 16 (map hex_digit (range_with_len 0 16)) 0 values ≡ map hex_digit values
digits_of values long low =
    let digits : List ℕ = map hex_digit (range_with_len 0 16) in
    ext_get_or 0 (swz_l w8 16 digits 0 values) (map hex_digit values) (length-swz_l w8 16 digits 0 values ∙ sym (length-map values hex_digit))
    (λ lane within.
    let there : lane < length values = omega (arith, within, length-swz_l w8 16 digits 0 values) in
    let value : get_or values lane 0 < 16 = Each1-get_or (λ value. value < 16) values lane 0 there low in
    let place : 16 * ((0 + lane) / 16) + get_or values lane 0 ≡ get_or values lane 0 = omega (arith, there, long) in
    get_or-swz_l_below w8 16 digits 0 values lane there value
    ∙ ap (λ (k : ℕ). get_or digits k 0) place
    ∙ get_or-map-range_with_len hex_digit 0 16 (get_or values lane 0) (get_or values lane 0) 0 value (omega arith)
    ∙ sym (get_or-map hex_digit values lane 0 0 there))

-- the upper half of each byte
pub upper : (bytes : List ℕ) → length bytes ≡ 16 → zip2 (λ a b. a / 2 ^ b) bytes (replicate 16 4) ≡ map (λ byte. byte / 16) bytes
upper bytes long = zip2_splat (λ a b. a / 2 ^ b) bytes 16 4 long

upper_are_low : (bytes : List ℕ) → Each1 (Fits w8) bytes → Each1 (λ value. value < 16) (map (λ byte. byte / 16) bytes)
upper_are_low [] fit = tt
upper_are_low (byte ∷ bytes) fit = (omega (arith, fit.0.fits), upper_are_low bytes fit.1)

pub upper_low : (bytes : List ℕ) → length bytes ≡ 16 → Each1 (Fits w8) bytes → Each1 (λ value. value < 16) (zip2 (λ a b. a / 2 ^ b) bytes (replicate 16 4))
upper_low bytes long fit = subst (λ (l : List ℕ). Each1 (λ value. value < 16) l) (sym (upper bytes long)) (upper_are_low bytes fit)

-- the lower half of each byte
masked : (bytes : List ℕ) → map (λ byte. bit_and byte 15) bytes ≡ map (λ byte. byte % 16) bytes
masked [] = refl
masked (byte ∷ bytes) = λ i. and_mask byte 4 i ∷ masked bytes i

pub lower : (bytes : List ℕ) → length bytes ≡ 16 → zip2 bit_and bytes (replicate 16 15) ≡ map (λ byte. byte % 16) bytes
lower bytes long = zip2_splat bit_and bytes 16 15 long ∙ masked bytes

lower_are_low : (bytes : List ℕ) → Each1 (λ value. value < 16) (map (λ byte. byte % 16) bytes)
lower_are_low [] = tt
lower_are_low (byte ∷ bytes) = (omega arith, lower_are_low bytes)

pub lower_low : (bytes : List ℕ) → length bytes ≡ 16 → Each1 (λ value. value < 16) (zip2 bit_and bytes (replicate 16 15))
lower_low bytes long = subst (λ (l : List ℕ). Each1 (λ value. value < 16) l) (sym (lower bytes long)) (lower_are_low bytes)

-- where the lanes of two vectors stand, turn by turn
abbrev pub woven : List ℕ
woven = 0 ∷ 16 ∷ 1 ∷ 17 ∷ 2 ∷ 18 ∷ 3 ∷ 19 ∷ 4 ∷ 20 ∷ 5 ∷ 21 ∷ 6 ∷ 22 ∷ 7 ∷ 23 ∷ 8 ∷ 24 ∷ 9 ∷ 25 ∷ 10 ∷ 26 ∷ 11 ∷ 27 ∷ 12 ∷ 28 ∷ 13 ∷ 29 ∷ 14 ∷ 30 ∷ 15 ∷ 31 ∷ []

-- Digits of upper and lower halves, turn by turn, are the text.
pub text_of_woven : (bytes high low : List ℕ) → length bytes ≡ 16 → high ≡ map hex_digit (map (λ byte. byte / 16) bytes) → low ≡ map hex_digit (map (λ byte. byte % 16) bytes)
    → pick_l 0 (high ++ low) woven ≡ hex_text bytes
text_of_woven bytes high low long is_high is_low =
    (λ i. pick_l 0 (is_high i ++ is_low i) woven)
    ∙ subst (λ (l : List ℕ). pick_l 0 (map hex_digit (map (λ byte. byte / 16) l) ++ map hex_digit (map (λ byte. byte % 16) l)) woven ≡ hex_text l)
    (pick_l_whole 0 bytes 16 long) refl

-- Two vectors are stored one behind the other.
pub stored_both : (digits front back text : List ℕ) (at : ℕ) → length front ≡ 16 → length back ≡ 16 → at + 32 ≤ length digits → front ++ back ≡ text
    → take (at + 32) (put_chunk (at + 16) (put_chunk at digits front) back) ≡ take at digits ++ text
stored_both digits front back text at long_front long_back within both =
    take_more_put_chunk (at + 16) (put_chunk at digits front) back (at + 32) (omega (arith, long_back)) (omega (arith, within, length-put_chunk at digits front))
    ∙ ap (λ (l : List ℕ). l ++ back) (take_more_put_chunk at digits front (at + 16) (omega (arith, long_front)) (omega (arith, within)))
    ∙ append_assoc (take at digits) front back
    ∙ ap (λ (l : List ℕ). take at digits ++ l) both

-- Digits of sixteen bytes more are behind those so far.
pub sixteen_more : (bytes old new : List ℕ) (done : ℕ) → take (2 * done) old ≡ hex_text (take done bytes) → take (2 * done + 32) new ≡ take (2 * done) old ++ hex_text (chunk done 16 bytes)
    → take (2 * (done + 16)) new ≡ hex_text (take (done + 16) bytes)
sixteen_more bytes old new done so_far spelled =
    let e : 2 * (done + 16) ≡ 2 * done + 32 = omega arith in
    ap (λ n. take n new) e ∙ spelled ∙ ap (λ (l : List ℕ). l ++ hex_text (chunk done 16 bytes)) so_far ∙ sym (hex_run bytes done 16)
