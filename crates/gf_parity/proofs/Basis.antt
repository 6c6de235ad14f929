-- What holds of the powers of x holds of every byte, where both sides are linear.
use Rattle.std.proofs.Common.{◌≡◌, ℕ, zero, suc, ◌+◌, ◌-◌, ◌*◌, ◌^◌, ◌<◌, ◌≤◌, Bool, true, false, refl, sym, ◌∙◌, ap}
use Rattle.std.proofs.Common.{arith, ⊎_elim}
use Rattle.std.specs.Prelude.{◌&&◌, bit_xor}
use Rattle.std.proofs.lemmas.Nat.{xor_block, xor_lt, pow_pos}
use Rattle.std.specs.Int.Bits.{xor_self, xor_zero_l}
use Rattle.std.proofs.lemmas.Bool.{cases_lt}

-- The value at a sum is the sum of the values.
pub record IsLinear (f : ℕ → ℕ) : Type 0 where
  pub sum : (x y : ℕ) → f (bit_xor x y) ≡ bit_xor (f x) (f y)

-- A test holds of all numbers below one.
abbrev pub all_below : (ℕ → Bool) → ℕ → Bool
all_below test zero = true
all_below test (suc n) = test n && all_below test n

both : (a b : Bool) → (a && b) ≡ true → (a ≡ true) × (b ≡ true)
both true true is = (refl, refl)
both true false is = (refl, is)
both false b is = (is, absurd cc)

pub all_below_at : (test : ℕ → Bool) (n k : ℕ) → all_below test n ≡ true → k < n → test k ≡ true
all_below_at test zero k all low = absurd (omega (arith, low))
all_below_at test (suc n) k all low =
    let parts = both (test n) (all_below test n) all in
    ⊎_elim (λ less. all_below_at test n k parts.1 less) (λ last. let same : n ≡ k = omega (arith, last, low) in ap test (sym same) ∙ parts.0) (cases_lt k n)

-- A number that is its own double is 0.
own_double : (x : ℕ) → x ≡ bit_xor x x → x ≡ 0
own_double x is = is ∙ xor_self x

pub linear_zero : (f : ℕ → ℕ) → IsLinear f → f 0 ≡ 0
linear_zero f linear = own_double (f 0) (linear.sum 0 0)

-- The highest bit and the rest add up to the number.
top_bit : (bits x : ℕ) → 2 ^ bits ≤ x → x < 2 ^ suc bits → (x - 2 ^ bits < 2 ^ bits) × (x ≡ bit_xor (2 ^ bits) (x - 2 ^ bits))
top_bit bits x high low =
    let twice : 2 ^ suc bits ≡ 2 * 2 ^ bits = pow_twice bits in
    let rest : x - 2 ^ bits < 2 ^ bits = omega (arith, twice, high, low) in
    let block : bit_xor (1 * 2 ^ bits + 0) (0 * 2 ^ bits + (x - 2 ^ bits)) ≡ bit_xor 1 0 * 2 ^ bits + bit_xor 0 (x - 2 ^ bits) = xor_block bits 1 0 0 (x - 2 ^ bits) (pow_pos bits) rest in
    let first : 1 * 2 ^ bits + 0 ≡ 2 ^ bits = omega arith in
    let second : 0 * 2 ^ bits + (x - 2 ^ bits) ≡ x - 2 ^ bits = omega arith in
    let value : x ≡ bit_xor 1 0 * 2 ^ bits + bit_xor 0 (x - 2 ^ bits) = top (2 ^ bits) (x - 2 ^ bits) (omega (arith, high)) in
    (rest, value ∙ sym block ∙ ap (λ (k : ℕ). bit_xor k (0 * 2 ^ bits + (x - 2 ^ bits))) first ∙ ap (λ (k : ℕ). bit_xor (2 ^ bits) k) second)
  where
    pow_twice : (n : ℕ) → 2 ^ suc n ≡ 2 * 2 ^ n
    pow_twice n = omega arith

    top : (one rest : ℕ) → x ≡ one + rest → x ≡ bit_xor 1 0 * one + bit_xor 0 rest
    top one rest is = is ∙ omega (arith, xor_zero_l rest)

-- Linear functions that agree on the powers of 2 agree on all numbers of so many bits.
pub agree : (f g : ℕ → ℕ) → IsLinear f → IsLinear g → (bits : ℕ) → ((power : ℕ) → power < bits → f (2 ^ power) ≡ g (2 ^ power))
    → (x : ℕ) → x < 2 ^ bits → f x ≡ g x
agree f g linear_f linear_g zero on_powers x low =
    let none : x ≡ 0 = omega (arith, low) in
    ap f none ∙ linear_zero f linear_f ∙ sym (linear_zero g linear_g) ∙ ap g (sym none)
agree f g linear_f linear_g (suc bits) on_powers x low =
    ⊎_elim (λ less. agree f g linear_f linear_g bits (λ power few. on_powers power (omega (arith, few))) x less)
    (λ high. let top = top_bit bits x high low in
    ap f top.1 ∙ linear_f.sum (2 ^ bits) (x - 2 ^ bits)
    ∙ ap (λ (k : ℕ). bit_xor k (f (x - 2 ^ bits))) (on_powers bits (omega arith))
    ∙ ap (λ (k : ℕ). bit_xor (g (2 ^ bits)) k) (agree f g linear_f linear_g bits (λ power few. on_powers power (omega (arith, few))) (x - 2 ^ bits) top.0)
    ∙ sym (linear_g.sum (2 ^ bits) (x - 2 ^ bits)) ∙ ap g (sym top.1))
    (cases_lt x (2 ^ bits))

-- One linear function after another is linear.
pub after : (f g : ℕ → ℕ) → IsLinear f → IsLinear g → IsLinear (λ (x : ℕ). f (g x))
after f g linear_f linear_g = record { sum = λ x y. ap f (linear_g.sum x y) ∙ linear_f.sum (g x) (g y) }

-- A linear function whose values at powers of 2 are bytes has bytes for values.
pub stays_below : (f : ℕ → ℕ) → IsLinear f → (bits : ℕ) → ((power : ℕ) → power < bits → f (2 ^ power) < 2 ^ 8)
    → (x : ℕ) → x < 2 ^ bits → f x < 2 ^ 8
stays_below f linear zero on_powers x low =
    let none : x ≡ 0 = omega (arith, low) in
    let nothing : f x ≡ 0 = ap f none ∙ linear_zero f linear in omega (arith, nothing)
stays_below f linear (suc bits) on_powers x low =
    ⊎_elim (λ less. stays_below f linear bits (λ power few. on_powers power (omega (arith, few))) x less)
    (λ high. let top = top_bit bits x high low in
    let value : f x ≡ bit_xor (f (2 ^ bits)) (f (x - 2 ^ bits)) = ap f top.1 ∙ linear.sum (2 ^ bits) (x - 2 ^ bits) in
    rw value (xor_lt 8 (f (2 ^ bits)) (f (x - 2 ^ bits)) (on_powers bits (omega arith))
    (stays_below f linear bits (λ power few. on_powers power (omega (arith, few))) (x - 2 ^ bits) top.0)))
    (cases_lt x (2 ^ bits))
