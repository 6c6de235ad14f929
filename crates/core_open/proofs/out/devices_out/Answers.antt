use Rattle.std.proofs.Common.{◌+◌, ℕ, sym, refl, subst}
use Rattle.std.proofs.lemmas.Bool.{false≢true}
use Rattle.core_open.specs.Sets.{IsOutBy}
use Rattle.core_open.proofs.Gathering.{IsGathered, gathered_with, gathered_without}
use Rattle.core_open.proofs.out.devices_out.Goals as goal
use Rattle.core_open.proofs.out.devices_out.Goals.{then-is_out, else-is_out}

pub loop-device-preserved : goal.loop-device-preserved
loop-device-preserved c =
    let P : ℕ → Type 0 = IsOutBy c.args.devices c.args.rings.now.silent c.args.rings.now.taken
    c.args.rings.now.ubers.items c.args.candidates.now c.args.uber.now in
    let device = c.loop-device.device in
    elim c.if-is_out.branch [
      | then-is_out w ↦ subst (λ (set : ℕ). IsGathered P (device + 1) set) (sym w.out-is)
          (subst (λ (set : ℕ). IsGathered P (device + 1) set) (sym w.insert.ensures.value)
          (gathered_with P device c.loop-device.out c.loop-device.invariant (w.if-is_out.ensures.0 refl)))
      | else-is_out w ↦ subst (λ (set : ℕ). IsGathered P (device + 1) set) (sym w.out-is)
          (gathered_without P device c.loop-device.out c.loop-device.invariant (λ is. false≢true (w.if-is_out.ensures.1 is)))
    ]
