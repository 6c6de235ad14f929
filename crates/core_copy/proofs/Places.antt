-- Where a job reads and writes, beside what is asked for at the front at which it began, and at the one that it leaves.
use Rattle.std.proofs.Common.{◌≡◌, ◌⊎◌, inl, inr, ⊎_elim, ℕ, ◌+◌, ◌/◌, ◌<◌, ◌≤◌, sym, subst, arith}
use Rattle.std.proofs.lemmas.Bool.{cases_lt}
use Rattle.width_map.specs.Place.{first_data_sector}
use Rattle.reflow_mark.specs.declared.reflow.State.{State}
use Rattle.reflow_mark.specs.declared.reflow.State.TheVariants.{None, Valid, Moved}
use Rattle.reflow_mark.specs.declared.reflow.Reflow.{Reflow}
use Rattle.reflow_mark.specs.Reflow.{scratch_end, sectors_of}
use Rattle.reflow_mark.specs.Standing.{NeedsOld}
use Rattle.scratch_area.specs.Scratch.{old_place, new_place, scratch_place, first_scratch_sector}
use Rattle.shadow_write.specs.Required.{IsAt, IsRequiredPlace, NeedsScratch, NeedsNew, IsFrontIn}
use Rattle.reflow_copier.specs.declared.job.Job.{Job}
use Rattle.reflow_copier.specs.declared.job.Job.TheVariants.{Fill, Drain, Chunk}
use Rattle.reflow_copier.specs.Jobs.{job_begin, job_end}
use Rattle.core_state.specs.JobTurns.{MayRun}
use Rattle.shadow_write.specs.Band.{AsksSame, IsWidening, IsFrontOf, copied_of, copied_in, reach_in}
use Rattle.shadow_write.proofs.Apart.{scratch_low, one_sector, same_place, copy_misses}
use Rattle.shadow_write.proofs.Within.{front_stays}
use Rattle.core_copy.specs.Behind.{IsOutside}
use Rattle.core_copy.specs.Progress.{CopiesSector, IsSource, IsTarget}

-- a required place, told with the state apart
abbrev pub RequiredIn : State → Reflow → ℕ → ℕ → ℕ → ℕ → ℕ → Type 0
RequiredIn state reflow done row_end sector device device_sector =
    (NeedsOld state reflow.mark row_end
    × IsAt (old_place reflow sector) first_data_sector device device_sector)
    ⊎ ((NeedsScratch state reflow done sector
    × IsAt (scratch_place reflow.to sector) first_scratch_sector device device_sector)
    ⊎ (NeedsNew state done sector
    × IsAt (new_place reflow sector) first_data_sector device device_sector))

-- what is required in the state that the reflow has, and back
in_state : (state : State) (reflow : Reflow) (done row_end sector device device_sector : ℕ) → reflow.state ≡ state
    → IsRequiredPlace reflow done row_end sector device device_sector
    → RequiredIn state reflow done row_end sector device device_sector
in_state state reflow done row_end sector device device_sector is required =
    subst (λ (s : State). RequiredIn s reflow done row_end sector device device_sector) is required

of_state : (state : State) (reflow : Reflow) (done row_end sector device device_sector : ℕ) → reflow.state ≡ state
    → RequiredIn state reflow done row_end sector device device_sector
    → IsRequiredPlace reflow done row_end sector device device_sector
of_state state reflow done row_end sector device device_sector is required =
    subst (λ (s : State). RequiredIn s reflow done row_end sector device device_sector) (sym is) required

-- the front of a state that the reflow has
front_in : (state : State) (reflow : Reflow) (done : ℕ) → reflow.state ≡ state → IsFrontOf reflow done → IsFrontIn state reflow done
front_in state reflow done is front = subst (λ (s : State). IsFrontIn s reflow done) is front.front

-- Law: Where a job reads a sector, that sector is required.
pub source_required : (reflow : Reflow) (done : ℕ) (job : Job) (row_end sector device device_sector : ℕ)
    → IsFrontOf reflow done → MayRun reflow done job → CopiesSector reflow job sector → sector < row_end
    → IsSource reflow job sector device device_sector
    → IsRequiredPlace reflow done row_end sector device device_sector
source_required reflow done Fill row_end sector device device_sector front may inside below at =
    of_state None reflow done row_end sector device device_sector may.0 (inl (tt, at))
source_required reflow done Drain row_end sector device device_sector front may inside below at =
    of_state Valid reflow done row_end sector device device_sector may.0 (inr (inl (inside.1, at)))
source_required reflow done (Chunk lo hi) row_end sector device device_sector front may inside below at =
    let stands = front_in Moved reflow done may.0 front in
    of_state Moved reflow done row_end sector device device_sector may.0
    (inl (omega (arith, stands.0, may.1, inside.0, below), at))

-- Law: Where a job writes a sector nothing has to be right yet.
pub target_free : (reflow : Reflow) (done : ℕ) (job : Job) (sector row_end other device device_sector : ℕ)
    → IsWidening reflow → IsFrontOf reflow done → MayRun reflow done job → CopiesSector reflow job sector
    → row_end ≤ other + reflow.from → other < sectors_of reflow
    → IsTarget reflow job sector device device_sector
    → IsRequiredPlace reflow done row_end other device device_sector
    → ⊥
target_free reflow done Fill sector row_end other device device_sector widening front may inside near within at required =
    by (in_state None reflow done row_end other device device_sector may.0 required)
  where
    row : sector / reflow.to < 32
    row = scratch_low reflow.to sector (let more = widening.expands in omega (arith, more)) inside.1

    by : RequiredIn None reflow done row_end other device device_sector → ⊥
    by (inl old) = let here = at.sector_is in let there = old.1.sector_is in omega (arith, here, there, row)
    by (inr (inl scratch)) = omega (arith, may.2, scratch.0.1)
    by (inr (inr new)) = new.0
target_free reflow done Drain sector row_end other device device_sector widening front may inside near within at required =
    copy_misses reflow (copied_of reflow done) sector widening
    (subst (λ (s : State). copied_in s done ≤ sector) (sym may.0) (omega (arith, may.1)))
    (subst (λ (s : State). sector < reach_in s reflow) (sym may.0) inside.1)
    other device device_sector at
    (front_stays reflow done widening front row_end other device device_sector near within required)
target_free reflow done (Chunk lo hi) sector row_end other device device_sector widening front may inside near within at required =
    copy_misses reflow (copied_of reflow done) sector widening
    (subst (λ (s : State). copied_in s done ≤ sector) (sym may.0) (omega (arith, may.1, inside.0)))
    (subst (λ (s : State). sector < reach_in s reflow) (sym may.0) (omega (arith, may.3, inside.1)))
    other device device_sector at
    (front_stays reflow done widening front row_end other device device_sector near within required)

-- Law: Two sectors that a job writes to one place are one.
pub targets_once : (reflow : Reflow) (job : Job) (one other device device_sector : ℕ)
    → IsTarget reflow job one device device_sector → IsTarget reflow job other device device_sector
    → one ≡ other
targets_once reflow Fill one other device device_sector here there =
    one_sector reflow.to one other (same_place _ _ first_scratch_sector device device_sector here there)
targets_once reflow Drain one other device device_sector here there =
    one_sector reflow.to one other (same_place _ _ first_data_sector device device_sector here there)
targets_once reflow (Chunk lo hi) one other device device_sector here there =
    one_sector reflow.to one other (same_place _ _ first_data_sector device device_sector here there)

-- What is required at the front at which a job began is so at the one that it leaves,
pub still_required : (reflow : Reflow) (done : ℕ) (job : Job) (row_end sector device device_sector : ℕ) → MayRun reflow done job
    → IsRequiredPlace reflow done row_end sector device device_sector
    → IsRequiredPlace reflow (job_end reflow job) row_end sector device device_sector
still_required reflow done Fill row_end sector device device_sector may required =
    of_state None reflow (scratch_end reflow) row_end sector device device_sector may.0
    (by (in_state None reflow done row_end sector device device_sector may.0 required))
  where
    by : RequiredIn None reflow done row_end sector device device_sector
        → RequiredIn None reflow (scratch_end reflow) row_end sector device device_sector
    by (inl old) = inl old
    by (inr (inl scratch)) = absurd (omega (arith, may.2, scratch.0.1))
    by (inr (inr new)) = absurd new.0
still_required reflow done Drain row_end sector device device_sector may required =
    of_state Valid reflow (scratch_end reflow) row_end sector device device_sector may.0
    (by (in_state Valid reflow done row_end sector device device_sector may.0 required))
  where
    by : RequiredIn Valid reflow done row_end sector device device_sector
        → RequiredIn Valid reflow (scratch_end reflow) row_end sector device device_sector
    by (inl old) = inl old
    by (inr (inl scratch)) = inr (inl scratch)
    by (inr (inr new)) = let low = new.0 in absurd (omega (arith, may.1, low))
still_required reflow done (Chunk lo hi) row_end sector device device_sector may required =
    of_state Moved reflow hi row_end sector device device_sector may.0
    (by (in_state Moved reflow done row_end sector device device_sector may.0 required))
  where
    by : RequiredIn Moved reflow done row_end sector device device_sector
        → RequiredIn Moved reflow hi row_end sector device device_sector
    by (inl old) = inl old
    by (inr (inl scratch)) = absurd scratch.0
    by (inr (inr new)) = let low = new.0 in inr (inr (omega (arith, may.1, may.2, low), new.1))

-- and what is required there was so before, or is where the job wrote the sector.
pub required_behind : (reflow : Reflow) (done : ℕ) (job : Job) (row_end sector device device_sector : ℕ) → MayRun reflow done job
    → IsRequiredPlace reflow (job_end reflow job) row_end sector device device_sector
    → IsRequiredPlace reflow done row_end sector device device_sector
    ⊎ (CopiesSector reflow job sector × IsTarget reflow job sector device device_sector)
required_behind reflow done Fill row_end sector device device_sector may required =
    by (in_state None reflow (scratch_end reflow) row_end sector device device_sector may.0 required)
  where
    by : RequiredIn None reflow (scratch_end reflow) row_end sector device device_sector
        → IsRequiredPlace reflow done row_end sector device device_sector
        ⊎ (CopiesSector reflow Fill sector × IsTarget reflow Fill sector device device_sector)
    by (inl old) = inl (of_state None reflow done row_end sector device device_sector may.0 (inl old))
    by (inr (inl scratch)) = inr ((omega arith, scratch.0.1), scratch.1)
    by (inr (inr new)) = absurd new.0
required_behind reflow done Drain row_end sector device device_sector may required =
    by (in_state Valid reflow (scratch_end reflow) row_end sector device device_sector may.0 required)
  where
    by : RequiredIn Valid reflow (scratch_end reflow) row_end sector device device_sector
        → IsRequiredPlace reflow done row_end sector device device_sector
        ⊎ (CopiesSector reflow Drain sector × IsTarget reflow Drain sector device device_sector)
    by (inl old) = inl (of_state Valid reflow done row_end sector device device_sector may.0 (inl old))
    by (inr (inl scratch)) = inl (of_state Valid reflow done row_end sector device device_sector may.0 (inr (inl scratch)))
    by (inr (inr new)) = inr ((omega arith, new.0), new.1)
required_behind reflow done (Chunk lo hi) row_end sector device device_sector may required =
    by (in_state Moved reflow hi row_end sector device device_sector may.0 required)
  where
    by : RequiredIn Moved reflow hi row_end sector device device_sector
        → IsRequiredPlace reflow done row_end sector device device_sector
        ⊎ (CopiesSector reflow (Chunk lo hi) sector × IsTarget reflow (Chunk lo hi) sector device device_sector)
    by (inl old) = inl (of_state Moved reflow done row_end sector device device_sector may.0 (inl old))
    by (inr (inl scratch)) = absurd scratch.0
    by (inr (inr new)) = let below = new.0 in ⊎_elim
        (λ (was : sector < lo). inl (of_state Moved reflow done row_end sector device device_sector may.0
        (inr (inr (omega (arith, may.1, was), new.1)))))
        (λ (now : lo ≤ sector). inr ((now, below), new.1))
        (cases_lt sector lo)

-- Law: A row outside a job's sectors is required at the same places before and behind the job.
pub rows_same : (reflow : Reflow) (done : ℕ) (job : Job) (first row_end sector : ℕ) → MayRun reflow done job
    → first ≤ sector → sector < row_end → IsOutside (job_begin job) (job_end reflow job) first row_end
    → AsksSame reflow done reflow (job_end reflow job) row_end sector
rows_same reflow done job first row_end sector may low high away device device_sector = (
  still_required reflow done job row_end sector device device_sector may,
  λ required. ⊎_elim (λ was. was) (λ copied. absurd (outside away copied.0))
      (required_behind reflow done job row_end sector device device_sector may required),
)
  where
    outside : IsOutside (job_begin job) (job_end reflow job) first row_end → CopiesSector reflow job sector → ⊥
    outside (inl none) inside = omega (arith, none, inside.0, inside.1)
    outside (inr (inl before)) inside = omega (arith, before, high, inside.0)
    outside (inr (inr behind)) inside = omega (arith, behind, low, inside.1)
