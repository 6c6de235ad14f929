-- Where few devices are out, no row has lost too much.
use Rattle.std.proofs.Common.{◌≡◌, ◌≢◌, ⊎_elim, ℕ, zero, suc, ◌+◌, ◌-◌, ◌%◌, ◌<◌, ◌≤◌, Bool, true, false, refl, sym}
use Rattle.std.proofs.Common.{◌∙◌, ap, arith}
use Rattle.std.specs.Prelude.{◌&&◌, ◌==◌, not, if◌then◌else◌}
use Rattle.std.proofs.lemmas.Bool.{cases_lt}
use Rattle.std.proofs.lemmas.Bool.Decides.{nat_tests}
use Rattle.std.proofs.Math.Nat.{mod-lt}
use Rattle.reflow_mark.specs.declared.reflow.Reflow.{Reflow}
use Rattle.reflow_mark.specs.declared.stand.Stand.{Stand}
use Rattle.reflow_mark.specs.declared.stand.Stand.TheVariants.{Old, Scratch, New}
use Rattle.reflow_mark.specs.Standing.{standing}
use Rattle.row_layout.specs.Layout.{Layout, rows_of, columns_of, columns_in, sector_of}
use Rattle.row_layout.proofs.Parts.{row_few}
use Rattle.row_layout.proofs.Laws.{columns_apart}
use Rattle.gf_solve.specs.Row.{count_lost}
use Rattle.gf_solve.proofs.Counting.{count_split, count_mono}
use Rattle.reconstruct.specs.Lost.{HasTooFew}
use Rattle.uberblock_ring.specs.Devices.{has_device, count_below, count_of}
use Rattle.core_client.specs.declared.columns_read.ColumnsRead.{ColumnsRead}
use Rattle.core_client.specs.Pool.{IsInPool}
use Rattle.core_client.specs.Reading.{spot_in, spot_of}
use Rattle.core_client.specs.Got.{has_lost}
use Rattle.core_state.proofs.Fresh.{count_grows}
use Rattle.core_client.proofs.Places.{HasWidths, widths_of}

-- ---- counting

one_or_none : (b : Bool) → (if b then 1 else 0) ≤ 1
one_or_none true = omega arith
one_or_none false = omega arith

-- No more are lost than there are.
count_most : (lost : ℕ → Bool) (first some : ℕ) → count_lost lost first some ≤ some
count_most lost first zero = omega arith
count_most lost first (suc some) = omega (arith, one_or_none (lost first), count_most lost (first + 1) some)

count_nothing : (lost : ℕ → Bool) (first some : ℕ) → ((k : ℕ) → first ≤ k → k < first + some → lost k ≡ false) → count_lost lost first some ≡ 0
count_nothing lost first zero none = refl
count_nothing lost first (suc some) none =
    ap (λ (b : Bool). (if b then 1 else 0) + count_lost lost (first + 1) some) (none first (omega arith) (omega arith))
    ∙ omega (arith, count_nothing lost (first + 1) some (λ k from below. none k (omega (arith, from)) (omega (arith, below))))

-- ---- rows

-- Of each row at most as many columns as it has parity stand on devices that are out.
pub record HasEnough (layout : Layout) (reflow : Reflow) (out : ℕ) : Type 0 where
  pub each : (row : ℕ) → row < rows_of layout
      → count_lost (λ column. has_device out (spot_of layout reflow row column).device) 0
      (columns_in layout row) ≤ layout.parity

-- ---- devices

-- Of the devices below a width no more are out than of all.
pub below_all : (out width : ℕ) → width ≤ 64 → count_below out width ≤ count_of out
unfolding count_of
below_all out width narrow =
    let rest : width + (64 - width) ≡ 64 = omega (arith, narrow) in
    let all : count_below out (width + (64 - width)) ≡ count_below out 64 = ap (count_below out) rest in
    omega (arith, all, count_grows out width (64 - width))

-- how many numbers below one pass a test
tally : (ℕ → Bool) → ℕ → ℕ
tally test zero = 0
tally test (suc count) = tally test count + (if test count then 1 else 0)

tally_alike : (test other : ℕ → Bool) (count : ℕ) → ((k : ℕ) → k < count → test k ≡ other k) → tally test count ≡ tally other count
unfolding tally
tally_alike test other zero alike = refl
tally_alike test other (suc count) alike =
    let here : ◌≡◌ {A = ℕ} (if test count then 1 else 0) (if other count then 1 else 0) =
    ap (λ (b : Bool). if b then 1 else 0) (alike count (omega arith)) in
    omega (arith, here, tally_alike test other count (λ k below. alike k (omega (arith, below))))

but : (ℕ → Bool) → ℕ → ℕ → Bool
but test left_out k = test k && not (k == left_out)

but_other : (test : ℕ → Bool) (left_out k : ℕ) → k ≢ left_out → but test left_out k ≡ test k
unfolding but
but_other test left_out k apart =
    let no_test : (k == left_out) ≡ false = grind (arith, nat_tests, apart) in
    ap (λ (b : Bool). test k && not b) no_test ∙ and_true (test k)
  where
    and_true : (b : Bool) → (b && true) ≡ b
    and_true true = refl
    and_true false = refl

but_same : (test : ℕ → Bool) (left_out : ℕ) → but test left_out left_out ≡ false
unfolding but
but_same test left_out =
    let is_test : (left_out == left_out) ≡ true = grind (arith, nat_tests) in
    ap (λ (b : Bool). test left_out && not b) is_test ∙ and_false (test left_out)
  where
    and_false : (b : Bool) → (b && false) ≡ false
    and_false true = refl
    and_false false = refl

-- Without one number there is one less, if it passes.
tally_but : (test : ℕ → Bool) (left_out count : ℕ) → left_out < count
    → tally test count ≡ tally (but test left_out) count + (if test left_out then 1 else 0)
unfolding tally
tally_but test left_out zero below = absurd (omega (arith, below))
tally_but test left_out (suc count) below = ⊎_elim
    (λ (low : left_out < count).
    let here : ◌≡◌ {A = ℕ} (if but test left_out count then 1 else 0) (if test count then 1 else 0) =
    ap (λ (b : Bool). if b then 1 else 0) (but_other test left_out count (λ (is : count ≡ left_out). omega (arith, low, is))) in
    omega (arith, here, tally_but test left_out count low))
    (λ (high : count ≤ left_out).
    let is : count ≡ left_out = omega (arith, high, below) in
    let none : ◌≡◌ {A = ℕ} (if but test left_out count then 1 else 0) 0 =
    ap (λ (b : Bool). if b then 1 else 0) (ap (but test left_out) is ∙ but_same test left_out) in
    let one : ◌≡◌ {A = ℕ} (if test count then 1 else 0) (if test left_out then 1 else 0) = ap (λ (k : ℕ). if test k then 1 else 0) is in
    let rest : tally test count ≡ tally (but test left_out) count =
    tally_alike test (but test left_out) count (λ k low. sym (but_other test left_out k (λ (same : k ≡ left_out). omega (arith, low, same, is)))) in
    omega (arith, none, one, rest))
    (cases_lt left_out count)

-- Numbers that go to different ones pass no more often than those do.
tally_apart : (test : ℕ → Bool) (to : ℕ → ℕ) (count width : ℕ) → ((k : ℕ) → k < count → to k < width)
    → ((j k : ℕ) → j < k → k < count → to j ≢ to k) → tally (λ k. test (to k)) count ≤ tally test width
unfolding tally
tally_apart test to zero width inside apart = omega arith
tally_apart test to (suc count) width inside apart =
    let rest : tally (λ k. test (to k)) count ≡ tally (λ k. but test (to count) (to k)) count =
    tally_alike (λ k. test (to k)) (λ k. but test (to count) (to k)) count
    (λ k below. sym (but_other test (to count) (to k) (apart k count below (omega arith)))) in
    omega (
      arith,
      rest,
      tally_apart (but test (to count)) to count width (λ k below. inside k (omega (arith, below)))
          (λ j k low below. apart j k low (omega (arith, below))),
      tally_but test (to count) width (inside count (omega arith)),
    )

tally_lost : (lost : ℕ → Bool) (count : ℕ) → count_lost lost 0 count ≡ tally lost count
unfolding tally
tally_lost lost zero = refl
tally_lost lost (suc count) =
    let parts : suc count ≡ count + 1 = omega arith in
    let split : count_lost lost 0 (count + 1) ≡ count_lost lost 0 count + count_lost lost (0 + count) 1 = count_split lost 0 count 1 in
    let last : count_lost lost (0 + count) 1 ≡ (if lost count then 1 else 0) + 0 =
    ap (λ (k : ℕ). count_lost lost k 1) (zero_plus count) in
    ap (count_lost lost 0) parts ∙ omega (arith, split, last, tally_lost lost count)
  where
    zero_plus : (k : ℕ) → 0 + k ≡ k
    zero_plus k = omega arith

tally_devices : (devices count : ℕ) → count_below devices count ≡ tally (has_device devices) count
unfolding tally
tally_devices devices zero = refl
tally_devices devices (suc count) = omega (arith, tally_devices devices count)

-- At one width the sectors go round so many devices.
record GoesRound (layout : Layout) (reflow : Reflow) (stand : Stand) : Type 0 where
  width : ℕ
  some : 0 < width
  room : columns_of layout ≤ width
  few : width ≤ reflow.to
  device : (sector : ℕ) → (spot_in stand reflow sector).device ≡ sector % width

goes_round : (layout : Layout) (reflow : Reflow) (stand : Stand) → HasWidths layout reflow → GoesRound layout reflow stand
goes_round layout reflow Old widths =
    record { width = reflow.from; some = widths.from_some; room = widths.columns; few = widths.grows; device = λ sector. refl }
goes_round layout reflow Scratch widths = record {
  width = reflow.to;
  some = widths.to_some;
  room = omega (arith, widths.columns, widths.grows);
  few = omega arith;
  device = λ sector. refl;
}
goes_round layout reflow New widths = record {
  width = reflow.to;
  some = widths.to_some;
  room = omega (arith, widths.columns, widths.grows);
  few = omega arith;
  device = λ sector. refl;
}

-- Where no more devices are out than there are parities, enough of each row is left.
pub few_enough : (layout : Layout) (reflow : Reflow) (out : ℕ) → IsInPool layout reflow → count_of out ≤ layout.parity
    → HasEnough layout reflow out
few_enough layout reflow out pool few = record {
  each = λ row row_in.
      let round = goes_round layout reflow (standing reflow (sector_of layout row 0) (columns_in layout row)) (widths_of layout reflow pool) in
      let narrow = row_few layout row pool.within.is in
      let counted = tally_lost (λ column. has_device out (spot_of layout reflow row column).device) (columns_in layout row) in
      let apart = tally_apart (has_device out) (λ column. (spot_of layout reflow row column).device) (columns_in layout row) reflow.to
      (λ column below. omega (arith, round.device (sector_of layout row column), round.few, mod-lt (sector_of layout row column) round.some))
      (λ column other low below same.
      columns_apart layout round.width row other column round.room (omega (arith, below, narrow)) (omega (arith, low, below, narrow))
      (λ (is : column ≡ other). omega (arith, low, is))
      (sym (round.device (sector_of layout row column)) ∙ same ∙ round.device (sector_of layout row other))) in
      omega (arith, counted, apart, tally_devices out reflow.to, below_all out reflow.to (omega (arith, pool.few)), few);
}

-- Where each column that is lost stands on a device that is out, its row has not lost too much.
pub lost_few_out : (layout : Layout) (reflow : Reflow) (out : ℕ) (read : ColumnsRead) → IsInPool layout reflow
    → count_of out ≤ layout.parity → (row : ℕ) → row < rows_of layout
    → ((column : ℕ) → column < columns_in layout row → has_lost read row column ≡ true
    → has_device out (spot_of layout reflow row column).device ≡ true)
    → HasTooFew layout read.lost.items row → ⊥
lost_few_out layout reflow out read pool few row row_in lost_out too_few =
    let enough = few_enough layout reflow out pool few in
    let counted = count_mono (has_lost read row) (λ column. has_device out (spot_of layout reflow row column).device) 0
    (columns_in layout row) (λ column from below lost. lost_out column (omega (arith, below)) lost) in
    omega (arith, counted, enough.each row row_in, too_few)
