use Rattle.std.proofs.Common.{◌≡◌, ◌+◌, ℕ, false, sym, refl, subst}
use Rattle.std.proofs.lemmas.Bool.{false≢true}
use Rattle.uberblock_ring.specs.Devices.{has_device}
use Rattle.core_open.specs.Sets.{StandOn}
use Rattle.core_open.proofs.Gathering.{IsGathered, gathered_with, gathered_without}
use Rattle.core_open.proofs.out.devices_lacking.Goals as goal
use Rattle.core_open.proofs.out.devices_lacking.Goals.{then-is_lacking, else-is_lacking}

pub loop-device-preserved : goal.loop-device-preserved
loop-device-preserved c =
    let P : ℕ → Type 0 = λ device. (has_device c.args.out device ≡ false) × (StandOn c.args.candidates.now device → ⊥) in
    let device = c.loop-device.device in
    elim c.if-is_lacking.branch [
      | then-is_lacking w ↦ subst (λ (set : ℕ). IsGathered P (device + 1) set) (sym w.lacking-is)
          (subst (λ (set : ℕ). IsGathered P (device + 1) set) (sym w.insert.ensures.value)
          (gathered_with P device c.loop-device.lacking c.loop-device.invariant (w.if-is_lacking.ensures.0 refl)))
      | else-is_lacking w ↦ subst (λ (set : ℕ). IsGathered P (device + 1) set) (sym w.lacking-is)
          (gathered_without P device c.loop-device.lacking c.loop-device.invariant (λ is. false≢true (w.if-is_lacking.ensures.1 is)))
    ]
