-- A pattern, run by run.
use Rattle.std.proofs.Common.{◌≡◌, ◌≢◌, ⊎_elim, ℕ, zero, suc, ◌+◌, ◌*◌, ◌%◌, ◌<◌, ◌≤◌, List, [], ◌∷◌, ◌++◌, length}
use Rattle.std.proofs.Common.{get_or, take, sym, ◌∙◌, ap, arith, append_assoc}
use Rattle.std.specs.Prelude.{slice_index_or, slice_set}
use Rattle.std.proofs.lemmas.Bool.{cases_eq}
use Rattle.std.proofs.lemmas.List.{append-nil, take_more, get_or-set_same, get_or-set_other}
use Rattle.client_script.specs.Lines.{pattern_from, pattern_byte}

-- A pattern grows at its end.
pattern_push : (seed from len : ℕ) → pattern_from seed from (suc len) ≡ pattern_from seed from len ++ pattern_byte seed (from + len) ∷ []
pattern_push seed from zero = ap (λ n. pattern_byte seed n ∷ []) (omega arith)
pattern_push seed from (suc len) =
    ap (λ (l : List ℕ). pattern_byte seed from ∷ l)
    (pattern_push seed (from + 1) len ∙ ap (λ n. pattern_from seed (from + 1) len ++ pattern_byte seed n ∷ []) (omega arith))

-- The first bytes of a run, after those of the runs before it.
pub pattern_run : (seed run : ℕ) (row : List ℕ) → length row ≡ 256
    → ((place : ℕ) → place < 256 → slice_index_or row place 0 ≡ ((seed + run) % 256 + 7 * place) % 256)
    → (count : ℕ) → count ≤ 256
    → pattern_from seed 0 (256 * run) ++ take count row ≡ pattern_from seed 0 (256 * run + count)
pattern_run seed run row long each zero most = append-nil (pattern_from seed 0 (256 * run)) ∙ ap (pattern_from seed 0) (omega arith)
pattern_run seed run row long each (suc count) most =
    let here = each count (omega (arith, most)) in
    let byte : get_or row count 0 ≡ pattern_byte seed (0 + (256 * run + count)) = here ∙ (let e : ((seed + run) % 256 + 7 * count) % 256 ≡ pattern_byte seed (0 + (256 * run + count)) = omega (arith, most) in e) in
    let more : take (suc count) row ≡ take count row ++ get_or row count 0 ∷ [] = ap (λ n. take n row) (let one : suc count ≡ count + 1 = omega arith in one) ∙ take_more row count 0 (omega (arith, long, most)) in
    ap (λ (l : List ℕ). pattern_from seed 0 (256 * run) ++ l) more
    ∙ sym (append_assoc (pattern_from seed 0 (256 * run)) (take count row) (get_or row count 0 ∷ []))
    ∙ (λ i. (pattern_run seed run row long each count (omega (arith, most))) i ++ byte i ∷ [])
    ∙ sym (pattern_push seed 0 (256 * run + count))
    ∙ ap (pattern_from seed 0) (let e : suc (256 * run + count) ≡ 256 * run + suc count = omega arith in e)

-- One byte more of a run, in its place.
pub row_set : (row : List ℕ) (first place : ℕ) → length row ≡ 256 → place < 256
    → ((k : ℕ) → k < place → slice_index_or row k 0 ≡ (first + 7 * k) % 256)
    → (k : ℕ) → k < place + 1
    → slice_index_or (slice_set row place ((first + place * 7 % 256) % 256)) k 0 ≡ (first + 7 * k) % 256
row_set row first place long within each k low = ⊎_elim
    (λ (same : k ≡ place). ap (λ n. slice_index_or (slice_set row place ((first + place * 7 % 256) % 256)) n 0) same
    ∙ get_or-set_same row place ((first + place * 7 % 256) % 256) 0 (omega (arith, long, within)) ∙ (let e : (first + place * 7 % 256) % 256 ≡ (first + 7 * k) % 256 = omega (arith, same) in e))
    (λ (apart : k ≢ place). get_or-set_other row place k ((first + place * 7 % 256) % 256) 0 apart ∙ each k (omega (arith, low, apart)))
    (cases_eq k place)
