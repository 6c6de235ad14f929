-- What was read of a ring is what it shows.
use Rattle.std.proofs.Common.{◌≡◌, inl, inr, ⊎_elim, ℕ, ◌+◌, ◌^◌, ◌<◌, ◌≤◌, List, Option, Some, None, refl, sym, ◌∙◌}
use Rattle.std.proofs.Common.{subst, arith}
use Rattle.std.proofs.lemmas.Bool.{cases_lt}
use Rattle.bank_trait.specs.Disk.{Disk}
use Rattle.uberblock_ring.specs.Uberblock.{Uber, encoded, slot_of}
use Rattle.uberblock_ring.specs.Valid.{IsRightUber}
use Rattle.attach_ring.specs.Ring.{HasReadRing, IsLowestTaken, IsTakenSlot, IsTakenThen, ReadsSlot, RingRead}

-- Law: Before its first slot is read, what was read of a ring is what it shows.
pub none_read : (disk : Disk) (device : ℕ) → HasReadRing disk (record { device = device; slots = 0; taken = None })
none_read disk device slot low = absurd (omega (arith, low))

-- One slot more.
step_in : (disk : Disk) (device slots : ℕ) (bytes : List ℕ) (was now : Option ℕ)
    → ((known : List ℕ) → disk.reads device slots ≡ Some known → bytes ≡ known) → IsTakenThen was slots bytes now
    → IsLowestTaken disk device slots was → IsLowestTaken disk device (slots + 1) now
step_in disk device slots bytes (Some lower) now told then before = subst (IsLowestTaken disk device (slots + 1)) (sym then)
    (omega (arith, before.0), before.1, before.2)
step_in disk device slots bytes None now told (inl taken) before = subst (IsLowestTaken disk device (slots + 1)) (sym taken.1) (
  omega arith,
  (λ known is. subst (IsTakenSlot slots) (told known is) taken.0),
  before,
)
step_in disk device slots bytes None now told (inr free) before = subst (IsLowestTaken disk device (slots + 1)) (sym free.1)
    (λ slot low known is shown. ⊎_elim
    (λ (earlier : slot < slots). before slot earlier known is shown)
    (λ (here : slots ≤ slot).
    let same : slot ≡ slots = omega (arith, low, here) in
    free.0 (subst (IsTakenSlot slots) (sym (told known (subst (λ (s : ℕ). disk.reads device s ≡ Some known) same is)))
    (subst (λ (s : ℕ). IsTakenSlot s known) same shown)))
    (cases_lt slot slots))

-- Law: What was read of a ring stays what it shows over each slot that is read.
pub one_more_read : (disk : Disk) (old new : RingRead) → ReadsSlot disk old new → HasReadRing disk old
    → HasReadRing disk new
one_more_read disk old new reads before = subst (HasReadRing disk) (sym reads.rest)
    (step_in disk old.device old.slots reads.bytes old.taken new.taken reads.told reads.taken before)

-- It stays so where the same is read.
beside_in : (before after : Disk) (device slots : ℕ) (taken : Option ℕ)
    → ((slot : ℕ) → slot < slots → after.reads device slot ≡ before.reads device slot)
    → IsLowestTaken before device slots taken → IsLowestTaken after device slots taken
beside_in before after device slots None same shown = λ slot low bytes is. shown slot low bytes (sym (same slot low) ∙ is)
beside_in before after device slots (Some taken) same shown = (
  shown.0,
  (λ bytes is. shown.1 bytes (sym (same taken shown.0) ∙ is)),
  (λ slot low bytes is. shown.2 slot low bytes
      (sym (same slot (let within = shown.0 in omega (arith, low, within))) ∙ is)),
)

-- Law: A turn of another call that leaves what is read of the ring's first slots leaves that too.
pub read_beside : (before after : Disk) (ring : RingRead)
    → ((slot : ℕ) → slot < ring.slots → after.reads ring.device slot ≡ before.reads ring.device slot)
    → HasReadRing before ring → HasReadRing after ring
read_beside before after ring = beside_in before after ring.device ring.slots ring.taken

-- Law: A ring that was read to its end and shows no uberblock has none, for this device or another.
pub free_shows_none : (disk : Disk) (ring : RingRead) (uber : Uber) (number : ℕ) → HasReadRing disk ring
    → ring.slots ≡ 32 → ring.taken ≡ None → IsRightUber uber → number < 2 ^ 32
    → disk.reads ring.device (slot_of uber.group) ≡ Some (encoded uber number) → ⊥
free_shows_none disk ring uber number read whole free right fits is =
    let none = subst (IsLowestTaken disk ring.device ring.slots) free read in
    none (slot_of uber.group) (omega (arith, whole)) (encoded uber number) is (record {
      uber = uber;
      number = number;
      fits = fits;
      valid = record { right = right; slot_is = refl; bytes_are = refl };
    })
