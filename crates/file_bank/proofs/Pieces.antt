-- A sector that is put together from pieces.
use Rattle.std.proofs.Common.{◌≡◌, ℕ, ◌+◌, ◌-◌, ◌*◌, ◌/◌, ◌%◌, ◌<◌, ◌≤◌, List, Some, ◌++◌, length, take, drop, sym, ◌∙◌}
use Rattle.std.proofs.Common.{ap, arith}
use Rattle.std.proofs.Math.Seq.{drop-append_seam}
use Rattle.std.proofs.lemmas.List.{take-append-drop, take-take, drop-take, take-append-le, take_all, take_at}
use Rattle.std.proofs.lemmas.List.{length-take-le}
use Rattle.file_bank.specs.BlockFile.{Contents, GivesBytes}

take_add : (n m : ℕ) (xs : List ℕ) → take (n + m) xs ≡ take n xs ++ take m (drop n xs)
take_add n m xs =
    sym (take-append-drop n (take (n + m) xs))
    ∙ ap (λ (l : List ℕ). l ++ drop n (take (n + m) xs)) (take-take n (n + m) xs (omega arith))
    ∙ ap (λ (l : List ℕ). take n xs ++ l) (drop-take n m xs)

-- A piece behind the front that is there leads on with it.
pub more : (filled count : ℕ) (into piece rest bytes : List ℕ) → filled ≤ length into
    → count ≤ length piece → take filled into ≡ take filled bytes
    → take count piece ≡ take count (drop filled bytes)
    → take (filled + count) (take filled into ++ (piece ++ rest)) ≡ take (filled + count) bytes
more filled count into piece rest bytes below fits front next =
    let long : length (take filled into) ≡ filled = length-take-le filled into below in
    let whole : List ℕ = take filled into ++ (piece ++ rest) in
    let behind : drop filled whole ≡ piece ++ rest = ap (λ (n : ℕ). drop n whole) (sym long)
    ∙ drop-append_seam (take filled into) (piece ++ rest) in
    take_add filled count whole
    ∙ ap (λ (l : List ℕ). l ++ take count (drop filled whole))
    (take_at (take filled into) (piece ++ rest) filled long ∙ front)
    ∙ ap (λ (l : List ℕ). take filled bytes ++ l)
    (ap (take count) behind ∙ take-append-le count piece rest fits ∙ next)
    ∙ sym (take_add filled count bytes)

-- Where all of it is there it is the sector.
pub all_there : (filled : ℕ) (into bytes : List ℕ) → filled ≡ 512 → length into ≡ 512
    → length bytes ≡ 512 → take filled into ≡ take filled bytes → into ≡ bytes
all_there filled into bytes full long whole front =
    sym (take_all filled into (omega arith)) ∙ front ∙ take_all filled bytes (omega arith)

-- What a file gives at a byte of a sector is the next of its bytes.
pub next_bytes : (file : Contents) (start filled count : ℕ) (piece bytes : List ℕ)
    → start % 512 ≡ 0 → filled < 512 → GivesBytes file (start + filled) count piece
    → file.reads (start / 512) ≡ Some bytes → take count piece ≡ take count (drop filled bytes)
next_bytes file start filled count piece bytes begins room gives is =
    let number : (start + filled) / 512 ≡ start / 512 = omega arith in
    let inside : (start + filled) % 512 ≡ filled = omega arith in
    gives bytes (ap file.reads number ∙ is) ∙ ap (λ (n : ℕ). take count (drop n bytes)) inside

-- The same sector by its number, where nothing was changed.
pub by_number : (now was : Contents) (sector start : ℕ) (bytes : List ℕ) → now ≡ was
    → start ≡ 512 * sector → was.reads sector ≡ Some bytes → now.reads (start / 512) ≡ Some bytes
by_number now was sector start bytes same begins is =
    let number : start / 512 ≡ sector = omega arith in
    ap (λ (file : Contents). file.reads (start / 512)) same ∙ ap was.reads number ∙ is

-- What a file in memory gives is the front of what stands there.
pub given : (count start : ℕ) (into front rest sector bytes : List ℕ) → count ≤ length into
    → length front ≡ length (take count into) → front ≡ take (start + count - start) (drop start sector)
    → sector ≡ bytes → take count (front ++ rest) ≡ take count (drop start bytes)
given count start into front rest sector bytes fits long is same =
    let as_many : start + count - start ≡ count = omega arith in
    take_at front rest count (long ∙ length-take-le count into fits) ∙ is
    ∙ ap (λ (n : ℕ). take n (drop start sector)) as_many
    ∙ ap (λ (l : List ℕ). take count (drop start l)) same
