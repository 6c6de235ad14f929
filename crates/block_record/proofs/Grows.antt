-- A list that one more piece is put to.
use Rattle.std.proofs.Common.{◌≡◌, ℕ, ◌+◌, ◌-◌, ◌≤◌, List, ◌++◌, ◌∙◌, ap, append_assoc, arith, sym, drop, length}
use Rattle.std.proofs.Common.{replicate, take}
use Rattle.std.proofs.lemmas.List.{length-drop, length-replicate, length-take, length-take-le}
use Rattle.std.proofs.lemmas.Slice.{take-put_mid}
use borrow.Rule.Slice.PartMut.{mid_of, put_mid}

-- What was put to a known front.
pub more : {old new front : List ℕ} (piece : List ℕ) → old ≡ front → new ≡ old ++ piece → new ≡ front ++ piece
more piece is put = put ∙ ap (λ (l : List ℕ). l ++ piece) is

-- Six pieces put one by one are put together.
pub put_six : (front a b c d e f : List ℕ) → front ++ a ++ b ++ c ++ d ++ e ++ f ≡ front ++ (a ++ b ++ c ++ d ++ e ++ f)
put_six front a b c d e f = simp append_assoc

-- A fill of the bytes behind the first `len`, as the front then shows it.
pub zeros_put : (len count : ℕ) (bytes piece front : List ℕ) → take len bytes ≡ front → len ≤ length bytes
    → length front + count ≤ length bytes
    → piece ≡ replicate (length (mid_of len (len + count - len) bytes)) 0
    → take (len + count) (put_mid len (len + count - len) bytes piece) ≡ front ++ replicate count 0
zeros_put len count bytes piece front is low room fill =
    let front_len : length front ≡ len = sym (ap length is) ∙ length-take-le len bytes low in
    let wide : length (mid_of len (len + count - len) bytes) ≡ count =
    omega (arith, length-take (len + count - len) (drop len bytes), length-drop len bytes) in
    let zeros : piece ≡ replicate count 0 = fill ∙ ap (λ (n : ℕ). replicate {A = ℕ} n 0) wide in
    let counted : length piece ≡ count = ap length zeros ∙ length-replicate count 0 in
    take-put_mid len (len + count - len) bytes piece (len + count) (omega (arith, counted)) (omega (arith, room))
    ∙ ap (λ (xs : List ℕ). xs ++ piece) is ∙ ap (λ (xs : List ℕ). front ++ xs) zeros
