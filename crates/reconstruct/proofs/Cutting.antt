-- Sectors of bytes, cut out and filled up.
use Rattle.std.proofs.Common.{◌≡◌, ℕ, ◌+◌, ◌-◌, ◌*◌, ◌<◌, List, ◌++◌, length, refl, sym, ◌∙◌, ap, arith, ⊎_elim}
use Rattle.std.specs.Prelude.{take, drop, replicate, min}
use Rattle.std.proofs.lemmas.Bool.{cases_lt}
use Rattle.std.proofs.lemmas.List.{take-append-le, take-replicate, drop-replicate, take_all, drop_all, length-drop}
use Rattle.std.proofs.lemmas.List.{length-take, length-append, append-nil, length-replicate}
use Rattle.std.proofs.Math.Seq.{take-append-add}
use Rattle.reconstruct.specs.Columns.{zero_sector, content_sector}

pub length-zero_sector : length zero_sector ≡ 512
unfolding zero_sector
length-zero_sector = length-replicate {A = ℕ} 512 0

pub length-content_sector : (bytes : List ℕ) (number : ℕ) → length (content_sector bytes number) ≡ 512
unfolding content_sector
length-content_sector bytes number =
    length-take 512 (drop (512 * number) bytes ++ replicate 512 0)
    ∙ omega (arith, length-append (drop (512 * number) bytes) (replicate 512 0), length-replicate {A = ℕ} 512 0)

-- The front of a list, filled up with zeros.
filled_up : (rest : List ℕ) (count : ℕ) → count ≡ min 512 (length rest)
    → take count rest ++ drop count zero_sector ≡ take 512 (rest ++ replicate 512 0)
unfolding zero_sector
filled_up rest count is =
    ⊎_elim (λ short. let whole : count ≡ length rest = omega (arith, short, is) in
    let plus : 512 ≡ length rest + (512 - length rest) = omega (arith, short) in
    ap (λ (k : List ℕ). k ++ drop count (replicate {A = ℕ} 512 0)) (take_all count rest (omega (arith, whole)))
    ∙ ap (λ (k : List ℕ). rest ++ k) (drop-replicate count 512 0 ∙ ap (λ (k : ℕ). replicate (512 - k) 0) whole ∙ sym (take-replicate (512 - length rest) 512 0 (omega arith)))
    ∙ sym (take-append-add rest (replicate 512 0) (512 - length rest)) ∙ ap (λ (k : ℕ). take k (rest ++ replicate 512 0)) (sym plus))
    (λ long. let full : count ≡ 512 = omega (arith, long, is) in
    ap (λ (k : ℕ). take k rest ++ drop k (replicate {A = ℕ} 512 0)) full ∙ ap (λ (k : List ℕ). take 512 rest ++ k) (drop-replicate 512 512 0) ∙ append-nil (take 512 rest)
    ∙ sym (take-append-le 512 rest (replicate 512 0) long)) (cases_lt (length rest) 512)

-- Bytes between the bounds of a sector, filled up with zeros, are the sector.
pub sector_is : (bytes front old : List ℕ) (number start end : ℕ) → start ≡ min (512 * number) (length bytes) → end ≡ min (start + 512) (length bytes)
    → old ≡ zero_sector → front ≡ take (end - start) (drop start bytes) → front ++ drop (length front) old ≡ content_sector bytes number
unfolding content_sector
sector_is bytes front old number start end start_is end_is blank front_is =
    let rest : drop start bytes ≡ drop (512 * number) bytes = same_rest in
    let count : end - start ≡ min 512 (length (drop start bytes)) = omega (arith, start_is, end_is, length-drop start bytes) in
    let few : length front ≡ end - start = ap length front_is ∙ length-take (end - start) (drop start bytes) ∙ omega (arith, count) in
    ap (λ (k : ℕ). front ++ drop k old) few ∙ ap (λ (k : List ℕ). front ++ drop (end - start) k) blank
    ∙ ap (λ (k : List ℕ). k ++ drop (end - start) zero_sector) front_is ∙ filled_up (drop start bytes) (end - start) count
    ∙ ap (λ (k : List ℕ). take 512 (k ++ replicate 512 0)) rest
  where
    same_rest : drop start bytes ≡ drop (512 * number) bytes
    same_rest =
        ⊎_elim (λ past. let at_end : start ≡ length bytes = omega (arith, past, start_is) in
        drop_all start bytes (omega (arith, at_end)) ∙ sym (drop_all (512 * number) bytes (omega (arith, past))))
        (λ inside. let same : start ≡ 512 * number = omega (arith, inside, start_is) in ap (λ (k : ℕ). drop k bytes) same) (cases_lt (length bytes) (512 * number))

-- So they are where another sector stood, if it was one of zeros wherever they end in it.
pub sector_put : (bytes front old : List ℕ) (number start end : ℕ) → start ≡ min (512 * number) (length bytes) → end ≡ min (start + 512) (length bytes)
    → length (front ++ drop (length front) old) ≡ 512 → (length front < 512 → old ≡ zero_sector) → front ≡ take (end - start) (drop start bytes)
    → front ++ drop (length front) old ≡ content_sector bytes number
sector_put bytes front old number start end start_is end_is whole blank front_is =
    ap (λ (k : List ℕ). front ++ k) same_end ∙ sector_is bytes front zero_sector number start end start_is end_is refl front_is
  where
    same_end : drop (length front) old ≡ drop (length front) zero_sector
    same_end =
        ⊎_elim (λ short. ap (drop (length front)) (blank short))
        (λ full. let all = length-append front (drop (length front) old) in let past = length-drop (length front) old in
        drop_all (length front) old (omega (arith, whole, full, all, past))
        ∙ sym (drop_all (length front) zero_sector (omega (arith, length-zero_sector, full)))) (cases_lt (length front) 512)
