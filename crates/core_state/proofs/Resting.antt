-- A group of which nothing is moved asks for the same, however wide the pool is to become.
use Rattle.std.proofs.Common.{◌≡◌, inl, inr, ℕ, List, sym, subst, arith}
use Rattle.reflow_mark.specs.declared.reflow.State.{State}
use Rattle.reflow_mark.specs.declared.reflow.State.TheVariants.{None}
use Rattle.reflow_mark.specs.declared.reflow.Reflow.{Reflow}
use Rattle.reflow_mark.specs.Reflow.{IsRightReflow}
use Rattle.shadow_write.specs.Required.{IsRequiredPlace, front_after_stop}
use Rattle.core_state.specs.Keeps.{Kept}
use Rattle.core_state.specs.Certain.{Asks}

-- Of a right reflow that is not widened nothing is moved.
pub resting : (reflow : Reflow) → IsRightReflow reflow → reflow.to ≡ reflow.from
    → (reflow.mark ≡ 0) × (reflow.state ≡ None)
resting reflow (inl is) rest = (is.1, is.2)
resting reflow (inr is) rest = absurd (let wide = is.0 in omega (arith, wide, rest))

-- a place that is required after a stop, in a state
abbrev place_in : Reflow → ℕ → ℕ → ℕ → ℕ → ℕ → State → Type 0
place_in reflow to row_end sector device device_sector state =
    IsRequiredPlace (record reflow { to = to; state = state })
    (front_after_stop (record reflow { to = to; state = state })) row_end sector device device_sector

pub still_required : (reflow : Reflow) (to other row_end sector device device_sector : ℕ)
    → place_in reflow to row_end sector device device_sector None
    → place_in reflow other row_end sector device device_sector None
still_required reflow to other row_end sector device device_sector (inl old) = inl old
still_required reflow to other row_end sector device device_sector (inr (inl scratch)) =
    absurd (let filled = scratch.0.1 in omega (arith, filled))
still_required reflow to other row_end sector device device_sector (inr (inr new)) = absurd (new.0)

unfoldable pub asks_resting : (kept : Kept) (to out device device_sector : ℕ) (bytes : List ℕ) → kept.uber.reflow.state ≡ None
    → Asks (record kept { uber = record kept.uber { reflow = record kept.uber.reflow { to = to }; out = out } }) device
    device_sector bytes
    → Asks kept device device_sector bytes
asks_resting kept to out device device_sector bytes none asks =
    let reflow = kept.uber.reflow in
    let row_end = asks.cell.row_end in
    let sector = asks.cell.sector in
    record {
      cell = asks.cell;
      cell_is = asks.cell_is;
      place = subst (place_in reflow reflow.to row_end sector device device_sector) (sym none)
          (still_required reflow to reflow.to row_end sector device device_sector
          (subst (place_in reflow to row_end sector device device_sector) none asks.place));
      bytes_are = asks.bytes_are;
    }

pub asks_resting_back : (kept : Kept) (to out device device_sector : ℕ) (bytes : List ℕ)
    → kept.uber.reflow.state ≡ None → Asks kept device device_sector bytes
    → Asks (record kept { uber = record kept.uber { reflow = record kept.uber.reflow { to = to }; out = out } }) device
    device_sector bytes
asks_resting_back kept to out device device_sector bytes none asks =
    let reflow = kept.uber.reflow in
    let row_end = asks.cell.row_end in
    let sector = asks.cell.sector in
    record {
      cell = asks.cell;
      cell_is = asks.cell_is;
      place = subst (place_in reflow to row_end sector device device_sector) (sym none)
          (still_required reflow reflow.to to row_end sector device device_sector
          (subst (place_in reflow reflow.to row_end sector device device_sector) none asks.place));
      bytes_are = asks.bytes_are;
    }
