-- What a row that is handed over leaves of what was read.
use Rattle.std.proofs.Common.{◌≡◌, ◌⊎◌, ℕ, ◌+◌, ◌<◌, ◌≤◌, List, length, drop, Result, Ok, Err, inl, inr, sym, ◌∙◌}
use Rattle.std.proofs.Common.{arith, ap, zero, suc, [], ◌∷◌, ◌++◌, ◌-◌, Some}
use Rattle.std.specs.Prelude.{OnOk, slice_get}
use Rattle.bank_trait.specs.declared.Failed.{Failed}
use Rattle.std.proofs.lemmas.List.{length-drop}
use Rattle.file_bank.specs.BlockFile.{Contents}
use Rattle.file_bank.specs.Row.{KeptSector, GivesRow, HandedOver, kept_row}
use Rattle.file_bank.proofs.KeptRows.{row_long, beside_long}
use Rattle.file_bank.proofs.Rows.{read_beside}

-- Beside a row is beside what is left of it.
beside_rest : (x y count : ℕ) (row : List KeptSector) → count ≤ length row → (y < x) ⊎ (x + length row ≤ y)
    → (y < x + count) ⊎ (x + count + length (drop count row) ≤ y)
beside_rest x y count row few (inl before) = inl (omega (arith, before))
beside_rest x y count row few (inr behind) = inr (omega (arith, behind, few, length-drop count row))

-- Beside a row a file reads as before, however the call ended.
pub row_leaves : (old new : Contents) (x : ℕ) (moments : List ℕ) (sectors : List (List ℕ)) (k : ℕ)
    → length moments ≡ length sectors → k ≡ length sectors → (result : Result (Unit {0}) ℕ)
    → HandedOver old new x (kept_row moments sectors) result → (y : ℕ) → (y < x) ⊎ (x + k ≤ y)
    → new.reads y ≡ old.reads y
row_leaves old new x moments sectors k paired as_many result handed y beside = by_case result handed
  where
    row : List KeptSector
    row = kept_row moments sectors

    apart : (y < x) ⊎ (x + length row ≤ y)
    apart = beside_long y x (length row) k (omega (arith, row_long moments sectors paired, as_many)) beside

    by_case : (r : Result (Unit {0}) ℕ) → HandedOver old new x row r → new.reads y ≡ old.reads y
    by_case (Ok done) h = h.done.reads y ∙ read_beside old x y row apart
    by_case (Err count) h =
        sym (read_beside new (x + count) y (drop count row) (beside_rest x y count row h.stopped.0 apart))
        ∙ h.stopped.1.reads y ∙ read_beside old x y row apart

-- The front of a list that was put together again.
front_get : (i : ℕ) (new rest : List (List ℕ)) (bytes : List ℕ) → slice_get new i ≡ Some bytes
    → slice_get (new ++ rest) i ≡ Some bytes
front_get i [] rest bytes is = absurd (cc)
front_get zero (one ∷ new) rest bytes is = is
front_get (suc i) (one ∷ new) rest bytes is = front_get i new rest bytes is

pub front_given : (file : Contents) (n x many count : ℕ) (new rest : List (List ℕ))
    (result : Result (Unit {0}) Failed) → OnOk result (GivesRow file n many new) → n ≡ x → count ≡ many
    → OnOk result (GivesRow file x count (new ++ rest))
front_given file n x many count new rest (Ok done) gives at as_many = λ i below bytes is.
    front_get i new rest bytes
    (gives i (omega (arith, below, as_many)) bytes (ap (λ (m : ℕ). file.reads (m + i)) at ∙ is))
front_given file n x many count new rest (Err e) gives at as_many = tt

-- A sector that is there, by its place in the piece.
pub by_place : (file : Contents) (list items : List (List ℕ)) (first sector count x : ℕ) (bytes : List ℕ)
    → first ≡ sector → first ≤ x → x < sector + count → GivesRow file sector count list → items ≡ list
    → file.reads x ≡ Some bytes → slice_get items (x - first) ≡ Some bytes
by_place file list items first sector count x bytes at from to gives same is =
    ap (λ (l : List (List ℕ)). slice_get l (x - first)) same
    ∙ gives (x - first) (omega (arith, at, from, to)) bytes (ap file.reads (omega (arith, at, from)) ∙ is)
