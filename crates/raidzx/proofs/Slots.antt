-- What slots show stays over reads, which change nothing but counts of faults.
use Rattle.std.proofs.Common.{◌≡◌, ℕ, ◌<◌, List, Some, ◌∙◌, subst, arith, inl, inr}
use Rattle.bank_trait.specs.Disk.{Disk, Unchanged}
use Rattle.uberblock_ring.specs.Uberblock.{slot_of}
use Rattle.core_open.proofs.Unchanged.{then_rose}
use Rattle.raidzx.specs.declared.seen.Seen.{Seen}
use Rattle.raidzx.specs.Rings.{IsNoneSeen, IsSlotUnread, LacksNoneOut, ShowsNoneOut, ShowsNoPlace, ShowsPlace}
use Rattle.raidzx.specs.Rings.{SlotShowsNone}

-- what was read of a slot, where the bank tells it
abbrev pub IsReadOf : Disk → ℕ → ℕ → List ℕ → Type 0
IsReadOf disk device slot read = (bytes : List ℕ) → disk.reads device slot ≡ Some bytes → read ≡ bytes

module _ (old mid : Disk) (same : Unchanged old mid) where
  pub read_before : (device slot : ℕ) (read : List ℕ) → IsReadOf mid device slot read → IsReadOf old device slot read
  read_before device slot read told = λ bytes is. told bytes (same.reads device slot ∙ is)

  pub unread_before : (new : Disk) (device slot : ℕ) → IsSlotUnread mid new device slot → IsSlotUnread old new device slot
  unread_before new device slot (inl past) = inl (omega (arith, past, same.goes_on.later.sectors))
  unread_before new device slot (inr failed) = inr (then_rose new device same failed)

  pub shows_before : (group device : ℕ) → ShowsNoneOut mid group device → ShowsNoneOut old group device
  shows_before group device shows = record {
    on_device = omega (arith, shows.on_device, same.goes_on.later.sectors);
    lists = λ bytes is. shows.lists bytes (same.reads device (slot_of group) ∙ is);
  }

  pub lacks_before : (new : Disk) (group device : ℕ) → LacksNoneOut mid new group device → LacksNoneOut old new group device
  lacks_before new group device (inl unread) = inl (unread_before new device (slot_of group) unread)
  lacks_before new group device (inr lacks) = inr (λ bytes is. lacks bytes (same.reads device (slot_of group) ∙ is))

  pub stopped_before : (new : Disk) (device slot first end : ℕ)
      → ((earlier : ℕ) → earlier < slot → SlotShowsNone old device first end earlier)
      → IsSlotUnread mid new device slot → IsNoneSeen old new device first end
  stopped_before new device slot first end none (inl past) =
      inr (λ other in_ring on_device. none other (omega (arith, past, on_device, same.goes_on.later.sectors)))
  stopped_before new device slot first end none (inr failed) = inl (then_rose new device same failed)

-- Where the bank tells the slot, its bytes are what was read.
pub shows_told : (disk : Disk) (device slot first end : ℕ) (read : List ℕ) (seen : Seen) → IsReadOf disk device slot read
    → ShowsPlace read slot first end seen → (bytes : List ℕ) → disk.reads device slot ≡ Some bytes → ShowsPlace bytes slot first end seen
shows_told disk device slot first end read seen told shows = λ bytes is.
    subst (λ (list : List ℕ). ShowsPlace list slot first end seen) (told bytes is) shows

pub none_told : (disk : Disk) (device slot first end : ℕ) (read : List ℕ) → IsReadOf disk device slot read
    → ShowsNoPlace read slot first end → SlotShowsNone disk device first end slot
none_told disk device slot first end read told none = λ bytes is.
    subst (λ (list : List ℕ). ShowsNoPlace list slot first end) (told bytes is) none
