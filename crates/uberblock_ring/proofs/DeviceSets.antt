-- Sets of devices: what a set with one more device has, and how many devices there are.
use Rattle.std.proofs.Common.{◌≡◌, ◌≢◌, ℕ, zero, suc, ◌+◌, ◌-◌, ◌*◌, ◌%◌, ◌^◌, ◌<◌, ◌≤◌, Bool, true, false, cond, eqb}
use Rattle.std.proofs.Common.{refl}
use Rattle.std.proofs.Common.{sym, ◌∙◌, ap, subst, arith, ⊎_elim}
use Rattle.std.specs.Prelude.{count_ones, max}
use Rattle.std.specs.Int.{bit_at, trailing_zeros, w64}
use Rattle.std.proofs.Math.Nat.{mod-eq_of_lt, mod-lt, one-le-pow}
use Rattle.std.proofs.lemmas.Bool.{cases_eq, cases_lt, eqb-true, eq-eqb}
use Rattle.std.proofs.lemmas.Nat.{mod-pow-add, ones_cat, ones_le_self, or_lt, pow_below, zero_from_ones}
use Rattle.std.proofs.lemmas.Nat.Bits.{bit_at-lt, bit_at-trailing_zeros, bit_at_above, bit_at_or, bit_at-pow_other}
use Rattle.std.proofs.lemmas.Nat.Bits.{bit_at-pow_same, same_from_bits}
use Rattle.uberblock_ring.specs.Devices.{count_below, count_of, has_device, IsWithin, with_device}

-- A device is in the set where its bit is one.
pub has_bit : (devices device : ℕ) → has_device devices device ≡ true → bit_at devices device ≡ 1
has_bit devices device has = eqb-true (bit_at devices device) 1 has

pub bit_has : (devices device : ℕ) → bit_at devices device ≡ 1 → has_device devices device ≡ true
bit_has devices device one = eq-eqb (bit_at devices device) 1 one

-- The bits of the set with one more device.
bit_with : (devices device other : ℕ) → bit_at (with_device devices device) other ≡ max (bit_at devices other) (bit_at (2 ^ device) other)
bit_with devices device other = bit_at_or devices (2 ^ device) other

bit_with_same : (devices device : ℕ) → bit_at (with_device devices device) device ≡ 1
bit_with_same devices device =
    omega (arith, bit_with devices device device, bit_at-pow_same device, bit_at-lt devices device)

bit_with_other : (devices device other : ℕ) → other ≢ device → bit_at (with_device devices device) other ≡ bit_at devices other
bit_with_other devices device other apart = omega (arith, bit_with devices device other, bit_at-pow_other device other apart)

-- The set with one more device has that one,
pub has_with : (devices device : ℕ) → has_device (with_device devices device) device ≡ true
has_with devices device = bit_has (with_device devices device) device (bit_with_same devices device)

-- and of the others those that were there.
pub others_with : (devices device other : ℕ) → other ≢ device → has_device (with_device devices device) other ≡ has_device devices other
others_with devices device other apart = ap (λ (bit : ℕ). eqb bit 1) (bit_with_other devices device other apart)

-- It stays below a width,
pub with_below : (devices device width : ℕ) → devices < 2 ^ width → device < width → with_device devices device < 2 ^ width
with_below devices device width below inside = or_lt width devices (2 ^ device) below (pow_below device width inside)

-- and is the same set where the device was there.
pub with_again : (devices device : ℕ) → has_device devices device ≡ true → with_device devices device ≡ devices
with_again devices device has = same_from_bits (with_device devices device) devices (λ other. ⊎_elim
    (λ (same : other ≡ device). subst (λ (k : ℕ). bit_at (with_device devices device) k ≡ bit_at devices k) (sym same)
    (bit_with_same devices device ∙ sym (has_bit devices device has)))
    (λ (apart : other ≢ device). bit_with_other devices device other apart)
    (cases_eq other device))

-- Nothing was lost.
pub within_with : (devices device : ℕ) → IsWithin devices (with_device devices device)
within_with devices device other has = ⊎_elim
    (λ (same : other ≡ device). subst (λ (k : ℕ). has_device (with_device devices device) k ≡ true) (sym same) (has_with devices device))
    (λ (apart : other ≢ device). others_with devices device other apart ∙ has)
    (cases_eq other device)

-- No device is at or above a width that the set is below.
pub none_above : (devices width device : ℕ) → devices < 2 ^ width → width ≤ device → has_device devices device ≡ false
none_above devices width device below above = ap (λ (bit : ℕ). eqb bit 1) (bit_at_above devices width device below above)

-- Sets with the same devices below a width have as many there.
pub count_same : (devices others width : ℕ) → ((device : ℕ) → device < width → has_device devices device ≡ has_device others device)
    → count_below devices width ≡ count_below others width
count_same devices others zero same = refl
count_same devices others (suc width) same =
    let rest : count_below devices width ≡ count_below others width =
    count_same devices others width (λ device inside. same device (omega (arith, inside))) in
    let here : cond (has_device devices width) 1 0 ≡ cond (has_device others width) 1 0 =
    ap (λ (has : Bool). cond {A = ℕ} has 1 0) (same width (omega arith)) in
    omega (arith, rest, here)

-- Those below a width that the set is below are all.
pub count_above : (devices width more : ℕ) → devices < 2 ^ width → count_below devices (width + more) ≡ count_below devices width
count_above devices width zero below = ap (λ (k : ℕ). count_below devices k) (omega arith)
count_above devices width (suc more) below =
    let split : width + suc more ≡ suc (width + more) = omega arith in
    let none : cond (has_device devices (width + more)) 1 0 ≡ 0 =
    ap (λ (has : Bool). cond {A = ℕ} has 1 0) (none_above devices width (width + more) below (omega arith)) in
    ap (λ (k : ℕ). count_below devices k) split ∙ omega (arith, none, count_above devices width more below)

-- At most as many devices as there are numbers.
pub count_most : (devices width : ℕ) → count_below devices width ≤ width
count_most devices zero = omega arith
count_most devices (suc width) = omega (arith, count_most devices width, most (has_device devices width))
  where
    most : (has : Bool) → cond has 1 0 ≤ 1
    most true = omega arith
    most false = omega arith

-- The empty set has none.
pub none_in : (device : ℕ) → has_device 0 device ≡ false
none_in device = none_above 0 0 device (omega arith) (omega arith)

pub count_none : (width : ℕ) → count_below 0 width ≡ 0
count_none zero = refl
count_none (suc width) =
    let here : cond (has_device 0 width) 1 0 ≡ 0 = ap (λ (has : Bool). cond {A = ℕ} has 1 0) (none_in width) in
    omega (arith, here, count_none width)

-- A new device makes one more,
pub count_with : (devices device width : ℕ) → has_device devices device ≡ false → device < width
    → count_below (with_device devices device) width ≡ count_below devices width + 1
count_with devices device zero new inside = absurd (omega (arith, inside))
count_with devices device (suc width) new inside = ⊎_elim
    (λ (same : width ≡ device).
    let rest : count_below (with_device devices device) width ≡ count_below devices width =
    count_same (with_device devices device) devices width
    (λ other low. others_with devices device other (λ (is : other ≡ device). omega (arith, low, is, same))) in
    let now : cond (has_device (with_device devices device) width) 1 0 ≡ 1 =
    ap (λ (has : Bool). cond {A = ℕ} has 1 0)
    (ap (λ (k : ℕ). has_device (with_device devices device) k) same ∙ has_with devices device) in
    let was : cond (has_device devices width) 1 0 ≡ 0 =
    ap (λ (has : Bool). cond {A = ℕ} has 1 0) (ap (λ (k : ℕ). has_device devices k) same ∙ new) in
    omega (arith, rest, now, was))
    (λ (apart : width ≢ device).
    let here : cond (has_device (with_device devices device) width) 1 0 ≡ cond (has_device devices width) 1 0 =
    ap (λ (has : Bool). cond {A = ℕ} has 1 0) (others_with devices device width apart) in
    omega (arith, here, count_with devices device width new (omega (arith, inside, apart))))
    (cases_eq width device)

-- A bit counts for itself,
ones_bit : (bit : ℕ) → bit < 2 → count_ones bit ≡ bit
ones_bit zero low = omega (arith, ones_le_self 0)
ones_bit (suc zero) low = ⊎_elim
    (λ (none : count_ones 1 < 1). let nothing : 1 ≡ 0 = zero_from_ones 1 (omega (arith, none)) in absurd (omega (arith, nothing)))
    (λ (some : 1 ≤ count_ones 1). omega (arith, some, ones_le_self 1))
    (cases_lt (count_ones 1) 1)
ones_bit (suc (suc bit)) low = absurd (omega (arith, low))

-- and tells whether the device is there.
bit_tells : (bit : ℕ) → bit < 2 → cond (eqb bit 1) 1 0 ≡ bit
bit_tells zero low = refl
bit_tells (suc zero) low = refl
bit_tells (suc (suc bit)) low = absurd (omega (arith, low))

-- The ones of a number are the devices of the set.
pub ones_below : (devices width : ℕ) → count_ones (devices % 2 ^ width) ≡ count_below devices width
ones_below devices zero =
    let nothing : devices % 1 ≡ 0 = omega arith in
    ap (λ (n : ℕ). count_ones n) nothing ∙ ones_bit 0 (omega arith)
ones_below devices (suc width) =
    let bit = bit_at devices width in
    let low : bit < 2 = bit_at-lt devices width in
    let rest : devices % 2 ^ width < 2 ^ width = mod-lt devices (omega (arith, one-le-pow width 2 (omega arith))) in
    let longer : suc width ≡ 1 + width = omega arith in
    let split : devices % 2 ^ suc width ≡ bit * 2 ^ width + devices % 2 ^ width =
    ap (λ (k : ℕ). devices % 2 ^ k) longer ∙ mod-pow-add devices 1 width in
    ap (λ (n : ℕ). count_ones n) split ∙ ones_cat width bit (devices % 2 ^ width) rest
    ∙ omega (arith, ones_bit bit low, bit_tells bit low, ones_below devices width)

-- A number below a power of two has as many ones as the set has devices below that power.
pub ones_count : (devices width : ℕ) → devices < 2 ^ width → count_ones devices ≡ count_below devices width
ones_count devices width below =
    ap (λ (n : ℕ). count_ones n) (sym (mod-eq_of_lt below)) ∙ ones_below devices width

-- All devices are below 64.
pub ones_all : (devices : ℕ) → devices < 2 ^ 64 → count_ones devices ≡ count_of devices
unfolding count_of
ones_all devices below = ones_count devices 64 below

-- A set that has devices has a lowest one.
pub lowest_has : (devices : ℕ) → (devices ≡ 0 → ⊥) → devices < 2 ^ 64 → has_device devices (trailing_zeros w64 devices) ≡ true
lowest_has devices some below =
    bit_has devices (trailing_zeros w64 devices) (bit_at-trailing_zeros w64 devices (omega (arith, some)) below).1

pub lowest_first : (devices : ℕ) → (devices ≡ 0 → ⊥) → devices < 2 ^ 64 → (other : ℕ) → other < trailing_zeros w64 devices
    → has_device devices other ≡ false
lowest_first devices some below other before =
    ap (λ (bit : ℕ). eqb bit 1) ((bit_at-trailing_zeros w64 devices (omega (arith, some)) below).2 other before)

-- A set below a width has as many devices as below it.
pub count_within : (out width : ℕ) → out < 2 ^ width → width ≤ 64 → count_of out ≡ count_below out width
unfolding count_of
count_within out width below narrow =
    ap (count_below out) {x = 64} {y = width + (64 - width)} (omega (arith, narrow)) ∙ count_above out width (64 - width) below
