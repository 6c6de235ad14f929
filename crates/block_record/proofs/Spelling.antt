-- Bytes tell the numbers that they were made of.
use Rattle.std.proofs.Common.{◌≡◌, ℕ, ◌%◌, ◌^◌, ◌<◌, List, [], ◌++◌, length, take, drop, refl, sym, ◌∙◌, ap, arith}
use Rattle.std.proofs.Common.{length-append}
use Rattle.std.proofs.Math.Seq.{drop-append_seam, take-append_seam}
use Rattle.byteorder.specs.Endian.{big_bytes, big_from}
use Rattle.byteorder.specs.Numbers.{big_from-bytes}
use Rattle.block_record.specs.Bytes.{be32, be64}

-- Two lists that are equal and split at the same length are equal in both parts.
pub split_front : (front other rest more : List ℕ) → front ++ rest ≡ other ++ more → length front ≡ length other → (front ≡ other) × (rest ≡ more)
split_front front other rest more same wide =
    let fronts : front ≡ other = sym (take-append_seam front rest)
    ∙ ap (λ (xs : List ℕ). take (length front) xs) same ∙ ap (λ (n : ℕ). take n (other ++ more)) wide ∙ take-append_seam other more in
    let rests : rest ≡ more = sym (drop-append_seam front rest)
    ∙ ap (λ (xs : List ℕ). drop (length front) xs) same ∙ ap (λ (n : ℕ). drop n (other ++ more)) wide ∙ drop-append_seam other more in
    (fronts, rests)

-- The same where the last parts are equally long.
pub split_last : (front other rest more : List ℕ) → front ++ rest ≡ other ++ more → length rest ≡ length more → (front ≡ other) × (rest ≡ more)
split_last front other rest more same wide =
    let all : length (front ++ rest) ≡ length (other ++ more) = ap length same in
    split_front front other rest more same (omega (arith, all, wide, length-append front rest, length-append other more))

pub length-be32 : (n : ℕ) → length (be32 n) ≡ 4
unfolding be32
length-be32 n = refl

pub length-be64 : (n : ℕ) → length (be64 n) ≡ 8
unfolding be64
length-be64 n = refl

-- The bytes of a number tell the number.
pub be32_number : (n m : ℕ) → n < 2 ^ 32 → m < 2 ^ 32 → be32 n ≡ be32 m → n ≡ m
unfolding be32
be32_number n m small low same =
    let read : (k : ℕ) → big_from 0 4 (big_bytes 4 k ++ []) ≡ k % 256 ^ 4 = λ k. big_from-bytes 4 k [] in
    let both : n % 256 ^ 4 ≡ m % 256 ^ 4 = sym (read n) ∙ ap (λ (bytes : List ℕ). big_from 0 4 (bytes ++ [])) same ∙ read m in
    omega (arith, small, low, both)

pub be64_number : (n m : ℕ) → n < 2 ^ 64 → m < 2 ^ 64 → be64 n ≡ be64 m → n ≡ m
unfolding be64
be64_number n m small low same =
    let read : (k : ℕ) → big_from 0 8 (big_bytes 8 k ++ []) ≡ k % 256 ^ 8 = λ k. big_from-bytes 8 k [] in
    let both : n % 256 ^ 8 ≡ m % 256 ^ 8 = sym (read n) ∙ ap (λ (bytes : List ℕ). big_from 0 8 (bytes ++ [])) same ∙ read m in
    omega (arith, small, low, both)

-- The last number of a front tells itself, and leaves the rest of the front.
pub last32 : (front other : List ℕ) (n m : ℕ) → front ++ be32 n ≡ other ++ be32 m → (front ≡ other) × (be32 n ≡ be32 m)
last32 front other n m same = split_last front other (be32 n) (be32 m) same (length-be32 n ∙ sym (length-be32 m))

pub last64 : (front other : List ℕ) (n m : ℕ) → front ++ be64 n ≡ other ++ be64 m → (front ≡ other) × (be64 n ≡ be64 m)
last64 front other n m same = split_last front other (be64 n) (be64 m) same (length-be64 n ∙ sym (length-be64 m))
