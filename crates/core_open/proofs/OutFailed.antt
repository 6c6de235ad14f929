-- Where images keep groups, whichever device of the first one is out at opening has failed.
use Rattle.std.proofs.Common.{◌≡◌, ◌⊎◌, inl, inr, ⊎_elim, ℕ, ◌<◌, List, true, sym, subst}
use Rattle.bank_trait.specs.Causes.{FaultCounted}
use Rattle.bank_trait.specs.Disk.{Disk, Lawful}
use Rattle.uberblock_ring.specs.Devices.{has_device}
use Rattle.core_state.specs.Shown.{Shape}
use Rattle.core_state.specs.Choosing.{IsChosen, IsOutAtOpening}
use Rattle.core_state.specs.Keeps.{Kept, Setting}
use Rattle.core_state.proofs.Knowing.{present}
use Rattle.core_state.proofs.OutAtOpening.{out_has_failed}
use Rattle.core_open.specs.Causes.{AreOutFor, IsChoiceWithout}
use Rattle.core_open.specs.Holds.{shape_of}
use Rattle.core_open.specs.Opens.{IsWithinBelow, MayOpen}
use Rattle.core_open.proofs.Present.{may_stand}

module _ (setting : Setting) (first : Kept) (later : List Kept) (old : Disk)
    (may : MayOpen setting first later old) (lawful : Lawful old) (silent : ℕ)
    (within : IsWithinBelow first.uber.reflow.to silent setting.failed)
    (choice : IsChoiceWithout (shape_of old) silent (present old)) where
  pub out_failed : (device : ℕ) → device < first.uber.reflow.to
      → IsOutAtOpening (shape_of old) silent (present old) choice.uber device
      → has_device setting.failed device ≡ true
  out_failed device below out = out_has_failed setting first later (present old)
      (may.keeps (present old) (may_stand setting first later old may lawful)) silent within
      choice.device choice.uber choice.entries
      (subst (λ (s : Shape). IsChosen s silent (present old) choice.device choice.uber choice.entries)
      (sym may.shape) choice.chosen)
      device below
      (subst (λ (s : Shape). IsOutAtOpening s silent (present old) choice.uber device) (sym may.shape) out)

  -- So a device that has to be borne had failed, or failed in this call.
  pub out_or_rose : (new : Disk) (devices : ℕ) → AreOutFor old new choice devices
      → (device : ℕ) → device < first.uber.reflow.to → has_device devices device ≡ true
      → (has_device setting.failed device ≡ true)
      ⊎ FaultCounted (old.faults device) (new.faults device)
  out_or_rose new devices are device below has = ⊎_elim
      (λ out. inl (out_failed device below out)) (λ rose. inr rose) (are device has)
