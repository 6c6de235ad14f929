-- Bytes are those of the number that they make.
use Rattle.std.proofs.Common.{◌≡◌, ℕ, ◌+◌, ◌<◌, ◌≤◌, List, ◌++◌, length, drop, take, get_or, sym, ◌∙◌, ap, arith}
use Rattle.std.proofs.Common.{⊎_elim}
use Rattle.std.specs.Int.{w32, w64, from_be_bytes}
use Rattle.std.proofs.lemmas.Bool.{cases_lt}
use Rattle.std.proofs.lemmas.List.{get_or-drop, get_or-take, get_or_past, length-drop, length-take, length-take-le}
use Rattle.std.proofs.lemmas.List.{take-append-drop, take-take, drop-take}
use Rattle.std.proofs.lemmas.Nat.{be_bytes_4, be_bytes_8}
use Rattle.std.proofs.lemmas.List.Elements.{All-from_get_or}
use Rattle.block_record.specs.Bytes.{be32, be64, IsDigest}

-- A piece of bytes is made of bytes.
piece_is_bytes : (bytes : List ℕ) (from n : ℕ) → ((i : ℕ) → get_or bytes i 0 < 256) → (i : ℕ)
    → get_or (take n (drop from bytes)) i 0 < 256
piece_is_bytes bytes from n each i = ⊎_elim
    (λ (low : i < n).
    let e : get_or (take n (drop from bytes)) i 0 ≡ get_or bytes (from + i) 0 =
    get_or-take n (drop from bytes) i 0 low ∙ get_or-drop from bytes i 0 in
    omega (arith, e, each (from + i)))
    (λ (high : n ≤ i).
    let e : get_or (take n (drop from bytes)) i 0 ≡ 0 =
    get_or_past (take n (drop from bytes)) i 0 (omega (arith, high, length-take n (drop from bytes))) in
    omega (arith, e))
    (cases_lt i n)

-- Four bytes that were read as a number are its bytes.
pub read_four : (bytes word : List ℕ) (from number : ℕ) → ((i : ℕ) → get_or bytes i 0 < 256) → length word ≡ 4
    → word ≡ take 4 (drop from bytes) → number ≡ from_be_bytes w32 word → take 4 (drop from bytes) ≡ be32 number
unfolding be32
read_four bytes word from number each wide is read =
    let small : (i : ℕ) → get_or word i 0 < 256 = λ i. rw is (piece_is_bytes bytes from 4 each i) in
    sym is ∙ sym (be_bytes_4 word number wide small read)

-- Eight bytes that were read as a number are its bytes.
pub read_eight : (bytes word : List ℕ) (from number : ℕ) → ((i : ℕ) → get_or bytes i 0 < 256) → length word ≡ 8
    → word ≡ take 8 (drop from bytes) → number ≡ from_be_bytes w64 word → take 8 (drop from bytes) ≡ be64 number
unfolding be64
read_eight bytes word from number each wide is read =
    let small : (i : ℕ) → get_or word i 0 < 256 = λ i. rw is (piece_is_bytes bytes from 8 each i) in
    sym is ∙ sym (be_bytes_8 word number wide small read)

-- Thirty-two bytes are a digest.
pub piece_is_digest : (bytes : List ℕ) (from : ℕ) → ((i : ℕ) → get_or bytes i 0 < 256) → from + 32 ≤ length bytes
    → IsDigest (take 32 (drop from bytes))
piece_is_digest bytes from each room = record {
  wide = length-take-le 32 (drop from bytes) (omega (arith, room, length-drop from bytes));
  each = All-from_get_or (λ byte. byte < 256) (take 32 (drop from bytes)) 0 (λ i low. piece_is_bytes bytes from 32 each i);
}

-- A front of bytes is a shorter front and the piece behind it.
pub front_more : (n m : ℕ) (bytes : List ℕ) → take (n + m) bytes ≡ take n bytes ++ take m (drop n bytes)
front_more n m bytes =
    let front : take n (take (n + m) bytes) ≡ take n bytes = take-take n (n + m) bytes (omega arith) in
    sym (take-append-drop n (take (n + m) bytes))
    ∙ ap (λ (xs : List ℕ). xs ++ drop n (take (n + m) bytes)) front
    ∙ ap (λ (xs : List ℕ). take n bytes ++ xs) (drop-take n m bytes)

-- One more piece of bytes whose front is known.
pub joined : {front piece : List ℕ} (n m : ℕ) (bytes : List ℕ) → take n bytes ≡ front → take m (drop n bytes) ≡ piece
    → take (n + m) bytes ≡ front ++ piece
joined {front} {piece} n m bytes is next =
    front_more n m bytes ∙ ap (λ (xs : List ℕ). xs ++ take m (drop n bytes)) is ∙ ap (λ (xs : List ℕ). front ++ xs) next
