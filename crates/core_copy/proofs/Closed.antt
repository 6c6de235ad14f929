-- Lists of what may be wrong that are closed under copying.
use Rattle.std.proofs.Common.{Contains, ◌≡◌, ⊎_elim, ℕ, zero, suc, ◌+◌, ◌≤◌, [], ◌∷◌, ◌++◌, sym, ap, subst, arith}
use Rattle.std.proofs.lemmas.Bool.{cases_eq}
use Rattle.std.proofs.lemmas.List.Elements.{Contains-append_cases, Contains-append_left, Contains-append_right}
use Rattle.width_map.specs.Place.{first_data_sector, place_of}
use Rattle.reflow_mark.specs.declared.reflow.Reflow.{Reflow}
use Rattle.scratch_area.specs.Scratch.{first_scratch_sector, scratch_place}
use Rattle.reflow_copier.specs.declared.job.Job.{Job}
use Rattle.reflow_copier.specs.declared.job.Job.TheVariants.{Fill, Drain, Chunk}
use Rattle.reflow_copier.specs.Jobs.{Spot, target_of}
use Rattle.shadow_write.specs.Band.{IsWidening}
use Rattle.core_state.proofs.Listed.{contains_cases, contains_head, contains_none, contains_tail}
use Rattle.core_state.specs.Whole.{Excepted, IsAmong}
use Rattle.core_copy.specs.Closed.{IsClosed, IsExceptedAt}

-- the sector at a place, as what may be wrong
abbrev at_spot : ℕ → Spot → ℕ × (ℕ × ℕ)
at_spot sector spot = (sector, (spot.1.device, spot.0 + spot.1.row))

-- where a sector stands at a width, and where in the scratch area of a pool that is widened to it
abbrev data_spot : ℕ → ℕ → Spot
data_spot width sector = (first_data_sector, place_of width sector)

abbrev scratch_spot : ℕ → ℕ → Spot
scratch_spot width sector = (first_scratch_sector, scratch_place width sector)

-- each place of a sector at any of so many widths
pub spots_to : ℕ → ℕ → Excepted
spots_to zero sector = []
spots_to (suc width) sector =
    at_spot sector (data_spot (suc width) sector) ∷ at_spot sector (scratch_spot (suc width) sector)
    ∷ spots_to width sector

-- these, and each place of each of their sectors in a pool of at most 16 devices
pub spread : Excepted → Excepted
spread [] = []
spread (what ∷ listed) = what ∷ spots_to 16 what.0 ++ spread listed

-- All places of a sector are among these, and only of this sector.
places_in : (width sector below : ℕ) → 1 ≤ below → below ≤ width
    → Contains (spots_to width sector) (at_spot sector (data_spot below sector))
    × Contains (spots_to width sector) (at_spot sector (scratch_spot below sector))
unfolding spots_to
places_in zero sector below some within = absurd (omega (arith, some, within))
places_in (suc width) sector below some within = ⊎_elim
    (λ (same : below ≡ suc width).
    subst (λ (w : ℕ). Contains (spots_to (suc width) sector) (at_spot sector (data_spot w sector))
    × Contains (spots_to (suc width) sector) (at_spot sector (scratch_spot w sector))) (sym same) (
      contains_head own (scratch ∷ narrower),
      contains_tail own (scratch ∷ narrower) scratch (contains_head scratch narrower),
    ))
    (λ apart. let low = places_in width sector below some (omega (arith, within, apart)) in
    (behind _ low.0, behind _ low.1))
    (cases_eq below (suc width))
  where
    own : ℕ × (ℕ × ℕ)
    own = at_spot sector (data_spot (suc width) sector)

    scratch : ℕ × (ℕ × ℕ)
    scratch = at_spot sector (scratch_spot (suc width) sector)

    narrower : Excepted
    narrower = spots_to width sector

    behind : (what : ℕ × (ℕ × ℕ)) → Contains narrower what → Contains (own ∷ scratch ∷ narrower) what
    behind what there = contains_tail own (scratch ∷ narrower) what (contains_tail scratch narrower what there)

only_its : (width sector : ℕ) (what : ℕ × (ℕ × ℕ)) → Contains (spots_to width sector) what → what.0 ≡ sector
unfolding spots_to
only_its zero sector what listed = absurd (contains_none what listed)
only_its (suc width) sector what listed =
    let own = at_spot sector (data_spot (suc width) sector) in
    let scratch = at_spot sector (scratch_spot (suc width) sector) in
    let narrower = spots_to width sector in
    ⊎_elim
    (λ same. ap (λ (w : ℕ × (ℕ × ℕ)). w.0) same)
    (λ behind. ⊎_elim (λ same. ap (λ (w : ℕ × (ℕ × ℕ)). w.0) same) (only_its width sector what)
    (contains_cases scratch narrower what behind))
    (contains_cases own (scratch ∷ narrower) what listed)

-- A sector that is listed is listed at each of its places.
everywhere : (listed : Excepted) (what : ℕ × (ℕ × ℕ)) (width : ℕ) → 1 ≤ width → width ≤ 16
    → Contains (spread listed) what
    → Contains (spread listed) (at_spot what.0 (data_spot width what.0))
    × Contains (spread listed) (at_spot what.0 (scratch_spot width what.0))
unfolding spread
everywhere [] what width some within has = absurd (contains_none what has)
everywhere (first ∷ listed) what width some within has = ⊎_elim
    (λ same. its (ap (λ (w : ℕ × (ℕ × ℕ)). w.0) same))
    (λ behind. ⊎_elim
    (λ its_spot. its (only_its 16 first.0 what its_spot))
    (λ later. let found = everywhere listed what width some within later in
    (further _ found.0, further _ found.1))
    (Contains-append_cases (spots_to 16 first.0) (spread listed) what behind))
    (contains_cases first (spots_to 16 first.0 ++ spread listed) what has)
  where
    further : (other : ℕ × (ℕ × ℕ)) → Contains (spread listed) other → Contains (spread (first ∷ listed)) other
    further other there = contains_tail first (spots_to 16 first.0 ++ spread listed) other
        (Contains-append_right (spots_to 16 first.0) (spread listed) other there)

    own : (other : ℕ × (ℕ × ℕ)) → Contains (spots_to 16 first.0) other → Contains (spread (first ∷ listed)) other
    own other there = contains_tail first (spots_to 16 first.0 ++ spread listed) other
        (Contains-append_left (spots_to 16 first.0) (spread listed) other there)

    its : what.0 ≡ first.0 → Contains (spread (first ∷ listed)) (at_spot what.0 (data_spot width what.0))
        × Contains (spread (first ∷ listed)) (at_spot what.0 (scratch_spot width what.0))
    its same = subst (λ (s : ℕ). Contains (spread (first ∷ listed)) (at_spot s (data_spot width s))
        × Contains (spread (first ∷ listed)) (at_spot s (scratch_spot width s))) (sym same)
        (let found = places_in 16 first.0 width some within in (own _ found.0, own _ found.1))

-- Law: Any list of what may be wrong is part of one that is closed under copying.
pub spread_has : (listed : Excepted) → IsAmong listed (spread listed)
unfolding spread
spread_has [] what has = absurd (contains_none what has)
spread_has (first ∷ listed) what has = ⊎_elim
    (λ same. subst (Contains (spread (first ∷ listed))) (sym same)
    (contains_head first (spots_to 16 first.0 ++ spread listed)))
    (λ behind. contains_tail first (spots_to 16 first.0 ++ spread listed) what
    (Contains-append_right (spots_to 16 first.0) (spread listed) what (spread_has listed what behind)))
    (contains_cases first listed what has)

pub spread_closed : (listed : Excepted) → IsClosed (spread listed)
spread_closed listed = record {
  copied = λ reflow job sector widening copies has. at_target reflow job sector widening
      (everywhere listed (sector, _) reflow.to (omega (arith, widening.expands))
      (omega (arith, widening.expands, widening.narrow)) has);
}
  where
    at_target : (reflow : Reflow) (job : Job) (sector : ℕ) → IsWidening reflow
        → Contains (spread listed) (at_spot sector (data_spot reflow.to sector))
        × Contains (spread listed) (at_spot sector (scratch_spot reflow.to sector))
        → IsExceptedAt (spread listed) sector (target_of reflow job sector)
    at_target reflow Fill sector widening found = found.1
    at_target reflow Drain sector widening found = found.0
    at_target reflow (Chunk lo hi) sector widening found = found.0
