-- What operations on vectors of so many bytes give at each lane.
use Rattle.std.proofs.Common.{◌≡◌, ℕ, ◌+◌, ◌-◌, ◌*◌, ◌/◌, ◌%◌, ◌<◌, ◌≤◌, List, take, ⊎_elim, Bool, true, false, cond}
use Rattle.std.proofs.Common.{leb, length, get_or, map, replicate, refl, sym, ap, subst, ◌∙◌, arith, rules, w8}
use Rattle.std.proofs.Common.{get_or-take}
use Rattle.std.specs.Prelude.{bit_xor}
use Rattle.std.specs.Simd.Lanes.{zip2, sel_l, top, put_chunk}
use Rattle.std.proofs.lemmas.Simd.{length-zip2, get_or-zip2, get_or-replicate, length-replicate, length-sel_l}
use Rattle.std.proofs.lemmas.Simd.{get_or-sel_l, tops_compared, length-chunk, length-put_chunk, get_or-put_chunk_at}
use Rattle.std.proofs.lemmas.Simd.{get_or-put_chunk_above, get_or-chunk}
use Rattle.std.proofs.lemmas.Bool.{leb-true, leb-false, cases_lt}
use Rattle.std.proofs.lemmas.List.{get_or_append_left, get_or-append_right, length-take-le, get_or_past, places}
use borrow.Rule.Slice.PartMut.{put_mid, mid_of, post_of}
use Rattle.gf_parity.specs.Field.{product, double}
use Rattle.gf_parity.proofs.Laws.{double_is_product}

-- The vector has so many lanes, and each holds the value of a function.
pub record Holds (n : ℕ) (lanes : List ℕ) (value : ℕ → ℕ) : Type 0 where
  pub long : length lanes ≡ n
  pub each : (lane : ℕ) → lane < n → get_or lanes lane 0 ≡ value lane

-- an operator on two vectors
pub of_two : (n : ℕ) (f : ℕ → ℕ → ℕ) (a b : List ℕ) → length a ≡ n → length b ≡ n → Holds n (zip2 f a b) (λ lane. f (get_or a lane 0) (get_or b lane 0))
of_two n f a b long_a long_b = record {
  long = length-zip2 f a b (long_a ∙ sym long_b) ∙ long_a;
  each = λ lane low. get_or-zip2 f a b lane 0 0 0 (omega (arith, low, long_a)) (omega (arith, low, long_b));
}

-- an operator on a vector and one value for all lanes
pub of_splat : (n : ℕ) (f : ℕ → ℕ → ℕ) (a : List ℕ) (x : ℕ) → length a ≡ n → Holds n (zip2 f a (replicate n x)) (λ lane. f (get_or a lane 0) x)
of_splat n f a x long =
    let both = of_two n f a (replicate n x) long (length-replicate {A = ℕ} n x) in
    record { long = both.long; each = λ lane low. both.each lane low ∙ ap (f (get_or a lane 0)) (get_or-replicate n lane x 0 low) }

-- 29 at the lanes that are 128 or more, and else 0
pub of_select : (n : ℕ) (a : List ℕ) → length a ≡ n
    → Holds n (sel_l (map (top 7) (zip2 (λ x y. cond (leb x y) 255 0) (replicate n 128) a)) (replicate n 29) (replicate n 0)) (λ lane. cond (leb 128 (get_or a lane 0)) 29 0)
of_select n a long =
    subst (λ (tests : List Bool). Holds n (sel_l tests (replicate n 29) (replicate n 0)) (λ lane. cond (leb 128 (get_or a lane 0)) 29 0))
    (sym (tops_compared w8 leb (replicate n 128) a)) chosen
  where
    tests : length (zip2 leb (replicate n 128) a) ≡ n
    tests = length-zip2 leb (replicate n 128) a (length-replicate {A = ℕ} n 128 ∙ sym long) ∙ length-replicate {A = ℕ} n 128

    test : (lane : ℕ) → lane < n → get_or (zip2 leb (replicate n 128) a) lane false ≡ leb 128 (get_or a lane 0)
    test lane low =
        get_or-zip2 leb (replicate n 128) a lane 0 0 false (omega (arith, low, length-replicate {A = ℕ} n 128)) (omega (arith, low, long))
        ∙ ap (λ (k : ℕ). leb k (get_or a lane 0)) (get_or-replicate n lane 128 0 low)

    chosen : Holds n (sel_l (zip2 leb (replicate n 128) a) (replicate n 29) (replicate n 0)) (λ lane. cond (leb 128 (get_or a lane 0)) 29 0)
    chosen = record {
      long = length-sel_l _ (replicate n 29) (replicate n 0) (tests ∙ sym (length-replicate {A = ℕ} n 29)) (tests ∙ sym (length-replicate {A = ℕ} n 0)) ∙ tests;
      each = λ lane low.
          get_or-sel_l _ (replicate n 29) (replicate n 0) lane 0 (omega (arith, low, tests)) (omega (arith, low, length-replicate {A = ℕ} n 29)) (omega (arith, low, length-replicate {A = ℕ} n 0))
          ∙ (λ i. cond (test lane low i) (get_or-replicate n lane 29 0 low i) (get_or-replicate n lane 0 0 low i));
    }

-- The bits go up by one, and the modulus comes off where the highest is lost.
pub shifted_is_twice : (byte : ℕ) → byte < 256 → bit_xor (byte * 2 % 256) (cond (leb 128 byte) 29 0) ≡ product 2 byte
unfolding double
shifted_is_twice byte low =
    let shifted : byte * 2 % 256 ≡ 2 * (byte % 128) = omega (arith, low) in
    ap (λ (k : ℕ). bit_xor k (cond (leb 128 byte) 29 0)) shifted ∙ ap (λ (k : ℕ). bit_xor (2 * (byte % 128)) k) (off (leb 128 byte) refl) ∙ double_is_product byte low
  where
    off : (test : Bool) → leb 128 byte ≡ test → cond test 29 0 ≡ 29 * (byte / 128)
    off true is = let more : 128 ≤ byte = leb-true 128 byte is in omega (arith, low, more)
    off false is = let less = leb-false 128 byte is in omega (arith, low, less)

-- What stands in a column where a vector was stored.
pub stored : (n at : ℕ) (out lanes : List ℕ) (lane : ℕ) → length out ≡ 512 → length lanes ≡ n → at + n ≤ 512 → lane < n
    → get_or (put_mid at (512 - at) out (put_chunk 0 (mid_of at (512 - at) out) lanes)) (at + lane) 0 ≡ get_or lanes lane 0
stored n at out lanes lane long wide inside low =
    let middle : length (mid_of at (512 - at) out) ≡ 512 - at = length-chunk at (512 - at) out (omega (arith, long, inside)) in
    let piece : length (put_chunk 0 (mid_of at (512 - at) out) lanes) ≡ 512 - at = length-put_chunk 0 (mid_of at (512 - at) out) lanes ∙ middle in
    let front : length (take at out) ≡ at = length-take-le at out (omega (arith, long, inside)) in
    let here : at + lane - at ≡ lane = omega arith in
    let from_none : 0 + lane ≡ lane = omega arith in
    get_or-append_right (take at out) _ at (at + lane) 0 front (omega arith)
    ∙ get_or_append_left (put_chunk 0 (mid_of at (512 - at) out) lanes) _ 0 (at + lane - at) (omega (arith, piece, low, inside))
    ∙ ap (λ (k : ℕ). get_or (put_chunk 0 (mid_of at (512 - at) out) lanes) k 0) (here ∙ sym from_none)
    ∙ get_or-put_chunk_at 0 (mid_of at (512 - at) out) lanes lane 0 (omega (arith, low, wide)) (omega (arith, wide, middle, inside))

-- What stands before it.
pub stored_before : (at : ℕ) (out lanes : List ℕ) (place : ℕ) → length out ≡ 512 → at ≤ 512 → place < at
    → get_or (put_mid at (512 - at) out (put_chunk 0 (mid_of at (512 - at) out) lanes)) place 0 ≡ get_or out place 0
stored_before at out lanes place long inside low =
    let front : length (take at out) ≡ at = length-take-le at out (omega (arith, long, inside)) in
    get_or_append_left (take at out) _ 0 place (omega (arith, front, low)) ∙ get_or-take at out place 0 low

-- What stands after it.
pub stored_after : (n at : ℕ) (out lanes : List ℕ) (place : ℕ) → length out ≡ 512 → length lanes ≡ n → at + n ≤ 512 → at + n ≤ place
    → get_or (put_mid at (512 - at) out (put_chunk 0 (mid_of at (512 - at) out) lanes)) place 0 ≡ get_or out place 0
stored_after n at out lanes place long wide inside high =
    let middle : length (mid_of at (512 - at) out) ≡ 512 - at = length-chunk at (512 - at) out (omega (arith, long, inside)) in
    let piece : length (put_chunk 0 (mid_of at (512 - at) out) lanes) ≡ 512 - at = length-put_chunk 0 (mid_of at (512 - at) out) lanes ∙ middle in
    let front : length (take at out) ≡ at = length-take-le at out (omega (arith, long, inside)) in
    let back : at + (place - at) ≡ place = omega (arith, high) in
    let spare : length (post_of at (512 - at) out) ≡ 0 = search (rules, places) in
    get_or-append_right (take at out) _ at place 0 front (omega (arith, high))
    ∙ ⊎_elim (λ less.
    get_or_append_left (put_chunk 0 (mid_of at (512 - at) out) lanes) _ 0 (place - at) (omega (arith, piece, less))
    ∙ get_or-put_chunk_above 0 (mid_of at (512 - at) out) lanes (place - at) 0 (omega (arith, wide, high))
    ∙ get_or-chunk at (512 - at) out (place - at) 0 less ∙ ap (λ (k : ℕ). get_or out k 0) back)
    (λ more.
    get_or-append_right (put_chunk 0 (mid_of at (512 - at) out) lanes) _ (512 - at) (place - at) 0 piece more
    ∙ get_or_past (post_of at (512 - at) out) (place - at - (512 - at)) 0 (omega (arith, spare))
    ∙ sym (get_or_past out place 0 (omega (arith, long, more, high))))
    (cases_lt (place - at) (512 - at))

-- One vector more is stored behind those so far.
pub one_more_stored : (n part : ℕ) (old new lanes : List ℕ) (value : ℕ → ℕ) → ((place : ℕ) → place < part * n → get_or old place 0 ≡ value place)
    → ((place : ℕ) → place < part * n → get_or new place 0 ≡ get_or old place 0)
    → ((lane : ℕ) → lane < n → get_or new (part * n + lane) 0 ≡ get_or lanes lane 0)
    → ((lane : ℕ) → lane < n → get_or lanes lane 0 ≡ value (part * n + lane))
    → (place : ℕ) → place < (part + 1) * n → get_or new place 0 ≡ value place
one_more_stored n part old new lanes value so_far before here values place low =
    let next : (part + 1) * n ≡ part * n + n = omega arith in
    ⊎_elim (λ less. before place less ∙ so_far place less)
    (λ more.
    let lane : place ≡ part * n + (place - part * n) = omega (arith, more) in
    let few : place - part * n < n = omega (arith, low, more, next) in
    ap (λ (k : ℕ). get_or new k 0) lane ∙ here (place - part * n) few ∙ values (place - part * n) few ∙ ap value (sym lane))
    (cases_lt place (part * n))
