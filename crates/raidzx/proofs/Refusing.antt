-- For which places a command is refused, by the pool that an opening chooses.
use Rattle.std.proofs.Common.{◌≡◌, ℕ, ◌<◌, true, sym, ◌∙◌, subst}
use Rattle.std.specs.Prelude.{◌↔◌}
use Rattle.std.proofs.lemmas.Bool.{true≢false}
use Rattle.uberblock_ring.specs.Devices.{has_device}
use Rattle.uberblock_ring.proofs.DeviceSets.{none_in}
use Rattle.raidzx.specs.declared.door.Pool.{Pool}
use Rattle.raidzx.specs.declared.door.Pool.TheVariants.{Chosen}
use Rattle.raidzx.specs.declared.door.Survey.{Survey}
use Rattle.raidzx.specs.declared.standing.Known.{Known}
use Rattle.raidzx.specs.Refused.{AreRefused, IsAmiss, IsRefusedPlace}

same_known : (pool : Pool) (one other : Known) → pool ≡ Chosen one → pool ≡ Chosen other → one ≡ other
same_known pool one other is_one is_other = cc

-- They are those that are amiss of the pool that it chooses.
pub refused_of : (survey : Survey) (known : Known) (places : ℕ) → survey.pool ≡ Chosen known
    → ((place : ℕ) → has_device places place ≡ true ↔ ((place < 64) × IsAmiss survey.sightings.list.items known place))
    → AreRefused survey places
refused_of survey known places chosen amiss place = (
  (λ has. (known, (chosen, (amiss place).0 has))),
  (λ refused. (amiss place).1 (subst (λ (one : Known). (place < 64) × IsAmiss survey.sightings.list.items one place)
      (same_known survey.pool refused.0 known refused.1.0 chosen) refused.1.1)),
)

-- Where the set is empty, it is refused for no place.
pub refused_by_empty : (survey : Survey) (places : ℕ) → AreRefused survey places → places ≡ 0
    → (place : ℕ) → IsRefusedPlace survey place → ⊥
refused_by_empty survey places refused empty place is =
    true≢false (sym (subst (λ (set : ℕ). has_device set place ≡ true) empty ((refused place).1 is)) ∙ none_in place)
