-- The ring of a device holds what is read of it from its sync on, until one of its slots is written.
use Rattle.std.proofs.Common.{◌≡◌, ◌≢◌, ◌⊎◌, inl, inr, ℕ, ◌<◌, ◌≤◌, List, Ok, Result, sym, ◌∙◌, ap, subst, arith}
use Rattle.std.specs.Prelude.{Contains}
use Rattle.bank_trait.specs.declared.Failed.{Failed}
use Rattle.bank_trait.specs.Disk.{Disk, Other, Synced, Unchanged, Wrote}
use Rattle.core_state.specs.Certain.{able}
use Rattle.core_state.specs.Rings.{IsRingSettled}

-- Law: A sync settles the ring of its device: it can hold nothing but what is read of it.
pub settled_by_sync : (device : ℕ) (value : Unit {0}) (old new : Disk) → Synced old new device (Ok value)
    → IsRingSettled new device
settled_by_sync device value old new synced = record {
  only = λ slot bytes low could. synced.reads slot ∙ (synced.could slot bytes could).0;
}

-- It stays settled where its slots could hold and read the same.
settled_same : (device : ℕ) (old new : Disk) → ((slot : ℕ) → slot < 32 → able new device slot ≡ able old device slot)
    → ((slot : ℕ) → slot < 32 → new.reads device slot ≡ old.reads device slot)
    → IsRingSettled old device → IsRingSettled new device
settled_same device old new could reads settled = record {
  only = λ slot bytes low has. reads slot low
      ∙ settled.only slot bytes low (subst (λ (l : List (List ℕ)). Contains l bytes) (could slot low) has);
}

-- Law: A settled ring stays so over a sync of another device.
pub settled_beside_sync : (device other : ℕ) (result : Result (Unit {0}) Failed) (old new : Disk) → other ≢ device
    → Synced old new other result → IsRingSettled old device → IsRingSettled new device
settled_beside_sync device other result old new apart synced = settled_same device old new
    (λ slot low. synced.others_could device slot (λ same. apart (sym same)))
    (λ slot low. synced.others_read device slot (λ same. apart (sym same)))

-- Law: A settled ring stays so over a write on another device, or behind the ring.
pub settled_beside_write : (device other device_sector : ℕ) (bytes : List ℕ) (result : Result (Unit {0}) Failed)
    (old new : Disk) → (other ≢ device) ⊎ (32 ≤ device_sector) → Wrote old new other device_sector bytes result
    → IsRingSettled old device → IsRingSettled new device
settled_beside_write device other device_sector bytes result old new apart wrote = settled_same device old new
    (λ slot low. wrote.others_could device slot (elsewhere slot low apart))
    (λ slot low. wrote.others_read device slot (elsewhere slot low apart))
  where
    elsewhere : (slot : ℕ) → slot < 32 → (other ≢ device) ⊎ (32 ≤ device_sector) → Other other device_sector device slot
    elsewhere slot low (inl differs) = inl (λ same. differs (sym same))
    elsewhere slot low (inr behind) = inr (λ same. absurd (omega (arith, same, low, behind)))

-- Law: A settled ring stays so over a read.
pub settled_beside_read : (device : ℕ) (old new : Disk) → Unchanged old new → IsRingSettled old device
    → IsRingSettled new device
settled_beside_read device old new same = settled_same device old new
    (λ slot low. ap (λ (t : ℕ). new.could t device slot) same.clock
    ∙ (same.goes_on.later.past old.clock (omega arith) device slot).1)
    (λ slot low. same.reads device slot)
