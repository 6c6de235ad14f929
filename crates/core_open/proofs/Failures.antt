-- Which devices failed so far, as reads go on.
use Rattle.std.proofs.Common.{◌≡◌, ⊎_elim, inl, inr, ℕ, ◌<◌, sym, ◌∙◌, subst, arith}
use Rattle.std.proofs.lemmas.Bool.{cases_eq, true≢false}
use Rattle.bank_trait.specs.Causes.{FaultCounted}
use Rattle.bank_trait.specs.Disk.{Disk, Unchanged}
use Rattle.uberblock_ring.specs.Devices.{with_device}
use Rattle.uberblock_ring.proofs.DeviceSets.{none_in, others_with}
use Rattle.core_state.specs.Shown.{read_devices}
use Rattle.core_open.specs.Failing.{HaveFailed, HaveFailedSince, MayLose}
use Rattle.core_open.specs.Holds.{shape_of}
use Rattle.core_open.proofs.Unchanged.{rose_then, then_rose}

-- No device has failed.
pub none_failed : (old new : Disk) → HaveFailed old new 0
none_failed old new device has = absurd (true≢false (sym has ∙ none_in device))

-- Those that failed before,
pub failed_on : (old mid new : Disk) (devices : ℕ) → HaveFailed old mid devices → Unchanged mid new
    → HaveFailed old new devices
failed_on old mid new devices failed same device has =
    ((failed device has).0, rose_then old device (failed device has).1 same)

-- and one more.
pub failed_with : (old mid new : Disk) (devices device : ℕ) → HaveFailed old mid devices → Unchanged old mid
    → Unchanged mid new → device < read_devices (shape_of old) → FaultCounted (mid.faults device) (new.faults device)
    → HaveFailed old new (with_device devices device)
failed_with old mid new devices device failed first next low rose other has = ⊎_elim
    (λ (same : other ≡ device). (
      omega (arith, low, same),
      subst (λ d. FaultCounted (old.faults d) (new.faults d)) (sym same) (then_rose new device first rose),
    ))
    (λ apart. failed_on old mid new devices failed next other (sym (others_with devices device other apart) ∙ has))
    (cases_eq other device)

-- After the reads of one more device.
pub failed_more : (old mid new : Disk) (before after device : ℕ) → HaveFailed old mid before → Unchanged old mid
    → Unchanged mid new → device < read_devices (shape_of old) → MayLose device mid new before after
    → HaveFailed old new after
failed_more old mid new before after device failed first next low (inl same) =
    subst (λ devices. HaveFailed old new devices) (sym same) (failed_on old mid new before failed next)
failed_more old mid new before after device failed first next low (inr (is, rose)) =
    subst (λ devices. HaveFailed old new devices) (sym is) (failed_with old mid new before device failed first next low rose)

-- The same beside those that had failed before: at the beginning,
pub since_none : (disk : Disk) (devices : ℕ) → HaveFailedSince disk disk devices devices
since_none disk devices device has = inl has

-- after more reads,
pub since_on : (old mid new : Disk) (before after : ℕ) → HaveFailedSince old mid before after → Unchanged mid new
    → HaveFailedSince old new before after
since_on old mid new before after failed same device has = ⊎_elim
    (λ was. inl was)
    (λ (rose : (device < read_devices (shape_of old)) × FaultCounted (old.faults device) (mid.faults device)).
    inr (rose.0, rose_then old device rose.1 same))
    (failed device has)

-- after one more failed,
pub since_with : (old mid new : Disk) (before after device : ℕ) → HaveFailedSince old mid before after → Unchanged old mid
    → Unchanged mid new → device < read_devices (shape_of mid) → FaultCounted (mid.faults device) (new.faults device)
    → HaveFailedSince old new before (with_device after device)
since_with old mid new before after device failed first next low rose other has = ⊎_elim
    (λ (same : other ≡ device). inr (
      omega (arith, low, same, first.goes_on.later.devices),
      subst (λ d. FaultCounted (old.faults d) (new.faults d)) (sym same) (then_rose new device first rose),
    ))
    (λ apart. since_on old mid new before after failed next other (sym (others_with after device other apart) ∙ has))
    (cases_eq other device)

-- and both together.
pub failed_since : (old mid new : Disk) (before after : ℕ) → HaveFailed old mid before → Unchanged old mid
    → Unchanged mid new → HaveFailedSince mid new before after
    → HaveFailed old new after
failed_since old mid new before after failed first next since device has = ⊎_elim
    (λ was. failed_on old mid new before failed next device was)
    (λ (rose : (device < read_devices (shape_of mid)) × FaultCounted (mid.faults device) (new.faults device)).
    (omega (arith, rose.0, first.goes_on.later.devices), then_rose new device first rose.1))
    (since device has)
