-- How the rings of a new pool come about, device by device.
use Rattle.std.proofs.Common.{◌≡◌, ◌≢◌, ⊎_elim, inr, ℕ, ◌+◌, ◌<◌, Some, Ok, refl, sym, ◌∙◌, subst, arith, below_more}
use Rattle.std.specs.Prelude.{IsSome}
use Rattle.std.proofs.lemmas.Bool.{cases_eq}
use Rattle.std.proofs.lemmas.Bool.Decides.{nat_tests}
use Rattle.bank_trait.specs.Disk.{Disk, Wrote, Synced}
use Rattle.bank_trait.specs.Regions.{zero_sector, Tells, TouchesOnly}
use Rattle.bank_trait.proofs.Touches.{touches_none, touches_then, wrote_touches, tells_later}
use Rattle.uberblock_ring.specs.Uberblock.{Uber, encoded}
use Rattle.core_state.specs.Create.{new_ring}
use Rattle.core_open.specs.Regions.{IsBelow, IsOn, IsOnBelow}

-- The first slots of a device were cleared.
pub record IsCleared (device count : ℕ) (old new : Disk) : Type 0 where
  pub only : TouchesOnly (IsBelow device count) old new
  pub zeros : Tells old → (slot : ℕ) → slot < count → new.reads device slot ≡ Some zero_sector

pub cleared_none : (device : ℕ) (disk : Disk) → IsCleared device 0 disk disk
cleared_none device disk = record {
  only = touches_none (IsBelow device 0) disk;
  zeros = λ tells slot below. absurd (omega (arith, below));
}

pub cleared_more : (device count : ℕ) (old mid new : Disk) → device < old.devices
    → count < old.sectors → IsCleared device count old mid
    → Wrote mid new device count zero_sector (Ok tt)
    → IsCleared device (count + 1) old new
cleared_more device count old mid new in_bank in_device so_far wrote = record {
  only = touches_then (IsBelow device count) (IsBelow device (count + 1)) (IsBelow device (count + 1))
      (λ d x p. (p.0, omega (arith, p.1))) (λ d x q. q) so_far.only
      (wrote_touches (IsBelow device (count + 1)) (refl, omega arith) wrote);
  zeros = λ tells. below_more _ _
      (λ slot low. let other : slot ≢ count = omega arith in
      wrote.others_read device slot (inr other) ∙ so_far.zeros tells slot low)
      (wrote.told (subst IsSome
      (sym (so_far.only.reads device count (λ p. absurd (omega (arith, p.1)))))
      (tells device count in_bank in_device)));
}

-- Zeros on the disk, then the uberblock on the disk: the ring of a new pool.
pub ring_made : (uber : Uber) (device : ℕ) (cleared synced written made : Disk)
    → ((slot : ℕ) → slot < 32 → cleared.reads device slot ≡ Some zero_sector)
    → Synced cleared synced device (Ok tt)
    → Wrote synced written device 1 (encoded uber device) (Ok tt)
    → Synced written made device (Ok tt)
    → (slot : ℕ) → slot < 32
    → made.leaves made.clock device slot ≡ Some (new_ring uber device slot)
ring_made uber device cleared synced written made zeros first wrote last slot low =
    last.durable slot ∙ ⊎_elim
    (λ one. subst (λ k. written.reads device k ≡ Some (new_ring uber device k)) (sym one)
    (wrote.told (subst IsSome (sym (was 1 (omega arith))) refl)))
    (λ other. wrote.others_read device slot (inr other) ∙ was slot low
    ∙ (let same : Some zero_sector ≡ Some (new_ring uber device slot) = grind (arith, nat_tests) in same))
    (cases_eq slot 1)
  where
    was : (slot : ℕ) → slot < 32 → synced.reads device slot ≡ Some zero_sector
    was slot low = first.reads slot ∙ zeros slot low

-- The devices below a number have the ring of a new pool.
pub record IsCreatedBelow (uber : Uber) (count : ℕ) (old new : Disk) : Type 0 where
  pub only : TouchesOnly (IsOnBelow count) old new
  pub ring : Tells old → (device : ℕ) → device < count → (slot : ℕ) → slot < 32
      → new.leaves new.clock device slot ≡ Some (new_ring uber device slot)

pub created_none : (uber : Uber) (disk : Disk) → IsCreatedBelow uber 0 disk disk
created_none uber disk = record {
  only = touches_none (IsOnBelow 0) disk;
  ring = λ tells device below. absurd (omega (arith, below));
}

pub created_more : (uber : Uber) (count : ℕ) (old mid new : Disk)
    → IsCreatedBelow uber count old mid → TouchesOnly (IsOn count) mid new
    → (Tells mid → (slot : ℕ) → slot < 32
    → new.leaves new.clock count slot ≡ Some (new_ring uber count slot))
    → IsCreatedBelow uber (count + 1) old new
created_more uber count old mid new so_far only ring = record {
  only = touches_then (IsOnBelow count) (IsOn count) (IsOnBelow (count + 1))
      (λ d x p. omega (arith, p)) (λ d x q. omega (arith, q)) so_far.only only;
  ring = λ tells. below_more _ _
      (λ device low slot below. only.leaves device slot (λ same. absurd (omega (arith, same)))
      ∙ so_far.ring tells device low slot below)
      (ring (tells_later so_far.only.later tells));
}
