-- What groups and fronts around one mark ask for stays in its band.
use Rattle.std.proofs.Common.{◌≡◌, inl, inr, ⊎_elim, ℕ, ◌+◌, ◌<◌, ◌≤◌, refl, subst, arith}
use Rattle.std.specs.Prelude.{max}
use Rattle.width_map.specs.Place.{place_of, first_data_sector, limit_of}
use Rattle.reflow_mark.specs.declared.reflow.State.{State}
use Rattle.reflow_mark.specs.declared.reflow.State.TheVariants.{None, Valid, Moved}
use Rattle.reflow_mark.specs.declared.reflow.Reflow.{Reflow}
use Rattle.reflow_mark.specs.Reflow.{Expands, IsMark, scratch_end, sectors_of}
use Rattle.reflow_mark.specs.Standing.{NeedsOld}
use Rattle.scratch_area.specs.Scratch.{old_place, new_place, scratch_place, first_scratch_sector}
use Rattle.shadow_write.specs.Required.{IsAt, IsRequiredPlace, NeedsScratch, NeedsNew, IsFrontIn, front_after_stop}
use Rattle.shadow_write.specs.Band.{reach_of, reach_in, copied_of, copied_in, IsWidening, StaysIn, IsFrontOf, IsNear}

-- An old place that is needed is one of a row that may end above the mark.
old_within : (state : State) (mark base row_end sector from : ℕ) → base ≤ mark → 0 < from → (state ≡ None → base ≡ 0)
    → row_end ≤ sector + from → NeedsOld state mark row_end
    → base < sector + from
old_within None mark base row_end sector from low some still close needs = let zero = still refl in omega (arith, zero, some)
old_within Valid mark base row_end sector from low some still close needs = omega (arith, low, close, needs)
old_within Moved mark base row_end sector from low some still close needs = omega (arith, low, close, needs)

-- A scratch place that is needed is one of a sector that goes through the scratch area.
pub scratch_within : (state : State) (reflow : Reflow) (done sector : ℕ) → IsFrontIn state reflow done
    → NeedsScratch state reflow done sector → sector < scratch_end reflow
scratch_within None reflow done sector front needs = ⊎_elim
    (λ (none : done ≡ 0). absurd (omega (arith, none, needs.1)))
    (λ (filled : Expands reflow × (done ≡ scratch_end reflow)). omega (arith, filled.1, needs.1))
    front
scratch_within Valid reflow done sector front needs = needs
scratch_within Moved reflow done sector front needs = absurd needs

-- Law: A later mark of the expansion asks for places of the band, where its front is within reach.
pub near_within : (reflow : Reflow) (copied : ℕ) (other : Reflow) (done : ℕ) → IsWidening reflow
    → IsNear reflow copied other done → StaysIn reflow copied other done
near_within reflow copied other done widening near row_end sector device device_sector close inside required = ⊎_elim
    (λ (old : NeedsOld other.state other.mark row_end × IsAt (old_place other sector) first_data_sector device device_sector).
    inl (
      old_within other.state other.mark reflow.mark row_end sector reflow.from near.mark widening.some near.still close old.0,
      subst (λ (from : ℕ). IsAt (place_of from sector) first_data_sector device device_sector) near.from_is old.1,
    ))
    (λ rest. ⊎_elim
    (λ (scratch : NeedsScratch other.state other done sector × IsAt (scratch_place other.to sector) first_scratch_sector device device_sector).
    inr (inl (
      (let below = scratch_within other.state other done sector near.front scratch.0 in let same = near.to_is in omega (arith, below, same)),
      subst (λ (to : ℕ). IsAt (place_of to sector) first_scratch_sector device device_sector) near.to_is scratch.1,
    )))
    (λ (new : NeedsNew other.state done sector × IsAt (new_place other sector) first_data_sector device device_sector).
    inr (inr (
      near.reach sector new.0,
      subst (λ (to : ℕ). IsAt (place_of to sector) first_data_sector device device_sector) near.to_is new.1,
    )))
    rest)
    required

-- The reflow itself, at each front that a job may have.
pub now_near : (reflow : Reflow) (done : ℕ) → IsWidening reflow → IsFrontOf reflow done → IsNear reflow (copied_of reflow done) reflow done
now_near reflow done widening front = record {
  from_is = refl;
  to_is = refl;
  mark = omega arith;
  still = λ is. subst (λ (s : State). IsMark s reflow) is widening.mark;
  front = front.front;
  reach = by reflow.state;
}
  where
    by : (state : State) → (sector : ℕ) → NeedsNew state done sector → sector < copied_in state done
    by None sector needs = absurd needs
    by Valid sector needs = needs
    by Moved sector needs = needs

-- Law: No further new places are in use than are within reach.
pub copied_within : (reflow : Reflow) (done : ℕ) → IsFrontOf reflow done → copied_of reflow done ≤ reach_of reflow
copied_within reflow done front = by reflow.state refl front.front
  where
    by : (state : State) → reflow.state ≡ state → IsFrontIn state reflow done → copied_in state done ≤ reach_in state reflow
    by None is at = omega arith
    by Valid is at = ⊎_elim (λ (none : done ≡ 0). omega (arith, none)) (λ (all : done ≡ scratch_end reflow). omega (arith, all)) at
    by Moved is at = front.limit is

-- Law: After a stop the front is where it may be.
pub stop_front : (reflow : Reflow) → IsWidening reflow → IsFrontOf reflow (front_after_stop reflow)
stop_front reflow widening = record {
  front = front reflow.from reflow.to reflow.rows reflow.mark reflow.state widening.mark;
  limit = limit reflow.from reflow.to reflow.rows reflow.mark reflow.state;
}
  where
    front : (from to rows mark : ℕ) (state : State)
        → IsMark state (record { from = from; to = to; rows = rows; mark = mark; state = state })
        → IsFrontIn state (record { from = from; to = to; rows = rows; mark = mark; state = state })
        (front_after_stop (record { from = from; to = to; rows = rows; mark = mark; state = state }))
    front from to rows mark None is = inl refl
    front from to rows mark Valid is = inl refl
    front from to rows mark Moved is = (omega arith, omega (arith, is.1))

    limit : (from to rows mark : ℕ) (state : State) → state ≡ Moved
        → front_after_stop (record { from = from; to = to; rows = rows; mark = mark; state = state }) ≤ max mark (limit_of from mark)
    limit from to rows mark None is = omega arith
    limit from to rows mark Valid is = omega arith
    limit from to rows mark Moved is = omega arith

-- What is asked for after a stop is asked for at whatever front.
abbrev stop_in : State → ℕ → ℕ
stop_in None mark = 0
stop_in Valid mark = 0
stop_in Moved mark = mark

scratch_no_more : (state : State) (reflow : Reflow) (done sector : ℕ) → NeedsScratch state reflow (stop_in state reflow.mark) sector
    → NeedsScratch state reflow done sector
scratch_no_more None reflow done sector needs = absurd (omega (arith, needs.1))
scratch_no_more Valid reflow done sector needs = needs
scratch_no_more Moved reflow done sector needs = needs

new_no_more : (state : State) (reflow : Reflow) (done sector : ℕ) → IsFrontIn state reflow done
    → NeedsNew state (stop_in state reflow.mark) sector → NeedsNew state done sector
new_no_more None reflow done sector front needs = needs
new_no_more Valid reflow done sector front needs = absurd (omega (arith, needs))
new_no_more Moved reflow done sector front needs = omega (arith, front.0, needs)

pub stop_asks_no_more : (reflow : Reflow) (done row_end sector device device_sector : ℕ) → IsFrontOf reflow done
    → IsRequiredPlace reflow (front_after_stop reflow) row_end sector device device_sector
    → IsRequiredPlace reflow done row_end sector device device_sector
stop_asks_no_more reflow done row_end sector device device_sector front required = ⊎_elim
    (λ (old : NeedsOld reflow.state reflow.mark row_end × IsAt (old_place reflow sector) first_data_sector device device_sector). inl old)
    (λ rest. ⊎_elim
    (λ (scratch : NeedsScratch reflow.state reflow (front_after_stop reflow) sector
    × IsAt (scratch_place reflow.to sector) first_scratch_sector device device_sector).
    inr (inl (scratch_no_more reflow.state reflow done sector scratch.0, scratch.1)))
    (λ (new : NeedsNew reflow.state (front_after_stop reflow) sector
    × IsAt (new_place reflow sector) first_data_sector device device_sector).
    inr (inr (new_no_more reflow.state reflow done sector front.front new.0, new.1)))
    rest)
    required

-- A pool at rest asks for old places alone.
rest_old : (other : Reflow) (done row_end sector device device_sector : ℕ) → other.to ≡ other.from → other.state ≡ None
    → IsRequiredPlace other done row_end sector device device_sector
    → IsAt (old_place other sector) first_data_sector device device_sector
rest_old other done row_end sector device device_sector rests is required = ⊎_elim
    (λ (old : NeedsOld other.state other.mark row_end × IsAt (old_place other sector) first_data_sector device device_sector). old.1)
    (λ rest. absurd (⊎_elim (λ scratch. no_scratch other.state is scratch.0) (λ new. no_new other.state is new.0) rest))
    required
  where
    no_scratch : (state : State) → state ≡ None → NeedsScratch state other done sector → ⊥
    no_scratch None still needs = omega (arith, rests, needs.0)
    no_scratch Valid still needs = absurd (cc)
    no_scratch Moved still needs = needs

    no_new : (state : State) → state ≡ None → NeedsNew state done sector → ⊥
    no_new None still needs = needs
    no_new Valid still needs = absurd (cc)
    no_new Moved still needs = absurd (cc)

-- Law: The pool at rest before the expansion asks for places of the band.
pub before_within : (reflow : Reflow) (copied : ℕ) (other : Reflow) (done : ℕ) → IsWidening reflow → reflow.mark ≡ 0
    → other.from ≡ reflow.from → other.to ≡ other.from → other.state ≡ None
    → StaysIn reflow copied other done
before_within reflow copied other done widening zero from_is rests is row_end sector device device_sector close inside required =
    inl (
      (let some = widening.some in omega (arith, zero, some)),
      subst (λ (from : ℕ). IsAt (place_of from sector) first_data_sector device device_sector) from_is
          (rest_old other done row_end sector device device_sector rests is required),
    )

-- Law: The pool at rest behind the expansion asks for places of the band.
pub after_within : (reflow : Reflow) (copied : ℕ) (other : Reflow) (done : ℕ) → sectors_of reflow ≤ copied
    → other.from ≡ reflow.to → other.to ≡ other.from → other.state ≡ None
    → StaysIn reflow copied other done
after_within reflow copied other done all from_is rests is row_end sector device device_sector close inside required =
    inr (inr (
      omega (arith, inside, all),
      subst (λ (to : ℕ). IsAt (place_of to sector) first_data_sector device device_sector) from_is
          (rest_old other done row_end sector device device_sector rests is required),
    ))

-- Law: What is in use at a front stays in the band.
pub front_stays : (reflow : Reflow) (done : ℕ) → IsWidening reflow → IsFrontOf reflow done
    → StaysIn reflow (copied_of reflow done) reflow done
front_stays reflow done widening front =
    near_within reflow (copied_of reflow done) reflow done widening (now_near reflow done widening front)

pub stop_stays : (reflow : Reflow) → IsWidening reflow
    → StaysIn reflow (copied_of reflow (front_after_stop reflow)) reflow (front_after_stop reflow)
stop_stays reflow widening = front_stays reflow (front_after_stop reflow) widening (stop_front reflow widening)
