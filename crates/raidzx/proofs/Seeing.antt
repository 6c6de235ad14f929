-- How the list of what is seen grows: slot by slot, and ring by ring.
use Rattle.std.proofs.Common.{◌≡◌, ℕ, ◌+◌, ◌<◌, ◌≤◌, ◌^◌, List, [], ◌∷◌, ◌++◌, Some, true, false}
use Rattle.std.proofs.Common.{refl, sym, ◌∙◌, ap, subst, arith, inl, inr, append_assoc, below_more, ⊎_elim}
use Rattle.std.proofs.lemmas.Bool.{cases_eq, true≢false}
use Rattle.std.specs.List.{All, Contains}
use Rattle.std.proofs.lemmas.List.{append-nil}
use Rattle.std.proofs.lemmas.List.Elements.{All-append, All-nil, All-push, Contains-append_left, Contains-append_right}
use Rattle.bank_trait.specs.Disk.{Disk, Unchanged}
use Rattle.uberblock_ring.specs.Devices.{has_device, with_device}
use Rattle.uberblock_ring.specs.Uberblock.{Uber, ring_slots}
use Rattle.uberblock_ring.specs.Valid.{IsValidIn}
use Rattle.uberblock_ring.proofs.DeviceSets.{has_with, none_in, others_with}
use Rattle.uberblock_ring.proofs.OneSpelling.{valid_tells}
use Rattle.attach_ring.specs.declared.taken.SlotUber.{SlotUber}
use Rattle.attach_ring.specs.Ring.{IsTakenSlot}
use Rattle.raidzx.specs.declared.sightings.Sighting.{Sighting}
use Rattle.raidzx.specs.declared.sightings.Sightings.{Sightings}
use Rattle.raidzx.specs.Rings.{IsSlotUnread}
use Rattle.raidzx.specs.Seeing.{AreSeen, IsAnyListed, IsLookedAt, IsRingListed, IsRingUnread, IsSeen, IsOfSlot}
use Rattle.raidzx.specs.Seeing.{IsSlotListed, NotesSlot, SeesRing}
use Rattle.raidzx.proofs.Slots.{IsReadOf}
use Rattle.core_open.proofs.Unchanged.{rose_then, then_rose}

-- what is seen at this place
abbrev pub seen_at : ℕ → ℕ → Uber → Sighting
seen_at place number uber = record { place = place; number = number; uber = uber }

same_seen : (place number other : ℕ) (uber next : Uber) → uber ≡ next → number ≡ other
    → seen_at place number uber ≡ seen_at place other next
same_seen place number other uber next same is = λ i. record { place = place; number = is i; uber = same i }

-- No uberblock is found in the bytes: the list stays.
pub notes_none : (bytes : List ℕ) (place slot : ℕ) (list : List Sighting) → (IsTakenSlot slot bytes → ⊥)
    → NotesSlot bytes place slot list list
notes_none bytes place slot list none = record {
  more = [];
  grows = sym (append-nil list);
  shown = All-nil (λ sighting. IsOfSlot bytes place slot sighting);
  listed = λ number uber fits valid.
      absurd (none (record { uber = uber; number = number; fits = fits; valid = valid }));
}

only_one : (sighting other : Sighting) → sighting ≡ other → Contains (sighting ∷ []) other
only_one sighting other same = (0, omega arith, same)

-- One is found: it is the only one that they are.
pub notes_found : (bytes : List ℕ) (place slot : ℕ) (before after : List Sighting) (found : SlotUber)
    → found.number < 2 ^ 32 → IsValidIn found.uber found.number slot bytes
    → after ≡ before ++ (seen_at place found.number found.uber ∷ []) → NotesSlot bytes place slot before after
notes_found bytes place slot before after found fits valid grows = record {
  more = seen_at place found.number found.uber ∷ [];
  grows = grows;
  shown = All-push (λ sighting. IsOfSlot bytes place slot sighting) [] (seen_at place found.number found.uber)
      (All-nil (λ sighting. IsOfSlot bytes place slot sighting))
      (record { place_is = refl; number = fits; valid = valid });
  listed = λ number uber small good.
      let same = valid_tells found.uber uber found.number number slot slot bytes fits small valid good in
      only_one (seen_at place found.number found.uber) (seen_at place number uber)
      (same_seen place found.number number found.uber uber same.0 same.1);
}

-- So many slots of a ring were read, and what they show was put behind the list.
pub record SeesSlots (disk : Disk) (place slots : ℕ) (before after : List Sighting) : Type 0 where
  pub more : List Sighting
  pub grows : after ≡ before ++ more
  pub shown : All (λ sighting. IsSeen disk sighting) more
  pub whole : slots ≤ disk.sectors
  pub listed : (slot : ℕ) → slot < slots → IsSlotListed disk more place slot

pub sees_none : (disk : Disk) (place : ℕ) (list : List Sighting) → SeesSlots disk place 0 list list
sees_none disk place list = record {
  more = [];
  grows = sym (append-nil list);
  shown = All-nil (λ sighting. IsSeen disk sighting);
  whole = omega arith;
  listed = λ slot below. absurd (omega (arith, below));
}

grown : (before now after more next : List Sighting) → now ≡ before ++ more → after ≡ now ++ next
    → after ≡ before ++ (more ++ next)
grown before now after more next first then_next =
    then_next ∙ ap (λ (list : List Sighting). list ++ next) first ∙ append_assoc before more next

module _ (disk : Disk) (place slot : ℕ) (read : List ℕ) (told : IsReadOf disk place slot read)
    (looked_at : IsLookedAt disk place) (in_ring : slot < ring_slots) (on_device : slot < disk.sectors) where
  seen_of : (sighting : Sighting) → IsOfSlot read place slot sighting → IsSeen disk sighting
  seen_of sighting seen = record {
    looked_at = subst (λ (at : ℕ). IsLookedAt disk at) (sym seen.place_is) looked_at;
    slot = slot;
    in_ring = in_ring;
    on_device = on_device;
    number = seen.number;
    valid = λ bytes is. subst (λ (list : List ℕ). IsValidIn sighting.uber sighting.number slot list)
        (told bytes (subst (λ (at : ℕ). disk.reads at slot ≡ Some bytes) seen.place_is is)) seen.valid;
  }

  listed_of : (sightings : List Sighting) → IsAnyListed sightings place slot read
      → IsSlotListed disk sightings place slot
  listed_of sightings listed = λ bytes is number uber fits valid. listed number uber fits
      (subst (λ (list : List ℕ). IsValidIn uber number slot list) (sym (told bytes is)) valid)

  -- one slot more
  pub sees_more : (before now after : List Sighting) → SeesSlots disk place slot before now
      → NotesSlot read place slot now after → SeesSlots disk place (slot + 1) before after
  sees_more before now after so_far notes = record {
    more = so_far.more ++ notes.more;
    grows = grown before now after so_far.more notes.more so_far.grows notes.grows;
    shown = All-append (λ sighting. IsSeen disk sighting) so_far.more notes.more so_far.shown
        (λ k d below. seen_of _ (notes.shown k d below));
    whole = omega (arith, on_device);
    listed = below_more (λ (at : ℕ). IsSlotListed disk (so_far.more ++ notes.more) place at) slot
        (λ at below bytes is number uber fits valid. Contains-append_left so_far.more notes.more
        (seen_at place number uber) (so_far.listed at below bytes is number uber fits valid))
        (λ bytes is number uber fits valid. Contains-append_right so_far.more notes.more
        (seen_at place number uber) (listed_of notes.more notes.listed bytes is number uber fits valid));
  }

-- All slots were read,
pub sees_ring : (old new : Disk) (place slots : ℕ) (before after : Sightings) → ring_slots ≤ slots
    → after.unread ≡ before.unread → SeesSlots old place slots before.list.items after.list.items
    → SeesRing old new place before after
sees_ring old new place slots before after all same so_far = record {
  more = so_far.more;
  grows = so_far.grows;
  shown = so_far.shown;
  all = inl (
    same,
    record {
      whole = omega (arith, all, so_far.whole);
      slots = λ slot in_ring. so_far.listed slot (omega (arith, all, in_ring));
    },
  );
}

ring_unread : (old new : Disk) (place slot : ℕ) → slot < ring_slots → IsSlotUnread old new place slot
    → IsRingUnread old new place
ring_unread old new place slot in_ring (inl past) = inl (omega (arith, past, in_ring))
ring_unread old new place slot in_ring (inr failed) = inr failed

-- or one was not.
pub sees_part : (old new : Disk) (place slots : ℕ) (before after : Sightings) → slots < ring_slots
    → after.unread ≡ with_device before.unread place → SeesSlots old place slots before.list.items after.list.items
    → IsSlotUnread old new place slots → SeesRing old new place before after
sees_part old new place slots before after in_ring is so_far unread = record {
  more = so_far.more;
  grows = so_far.grows;
  shown = so_far.shown;
  all = inr (is, ring_unread old new place slots in_ring unread);
}

-- The rings of the images before this place were read, and what they show is listed.
pub record AreSeenBefore (old new : Disk) (places : ℕ) (sightings : Sightings) : Type 0 where
  pub shown : All (λ sighting. IsSeen old sighting) sightings.list.items
  pub listed : (place : ℕ) → place < places → has_device sightings.unread place ≡ false
      → IsRingListed old sightings.list.items place
  pub unread : (place : ℕ) → has_device sightings.unread place ≡ true
      → IsLookedAt old place × IsRingUnread old new place

pub seen_none : (disk : Disk) (sightings : Sightings) → sightings.list.items ≡ [] → sightings.unread ≡ 0
    → AreSeenBefore disk disk 0 sightings
seen_none disk sightings empty none = record {
  shown = subst (λ (list : List Sighting). All (λ sighting. IsSeen disk sighting) list) (sym empty)
      (All-nil (λ sighting. IsSeen disk sighting));
  listed = λ place below read. absurd (omega (arith, below));
  unread = λ place has. absurd (true≢false (sym has ∙ ap (λ (set : ℕ). has_device set place) none ∙ none_in place));
}

unread_then : (old mid new : Disk) (place : ℕ) → Unchanged mid new → IsRingUnread old mid place
    → IsRingUnread old new place
unread_then old mid new place same (inl past) = inl past
unread_then old mid new place same (inr failed) = inr (rose_then old place failed same)

module _ (old mid : Disk) (same : Unchanged old mid) where
  looked_before : (place : ℕ) → IsLookedAt mid place → IsLookedAt old place
  looked_before place looked_at = (omega (arith, looked_at.0, same.goes_on.later.devices), looked_at.1)

  seen_before : (sighting : Sighting) → IsSeen mid sighting → IsSeen old sighting
  seen_before sighting seen = record {
    looked_at = looked_before sighting.place seen.looked_at;
    slot = seen.slot;
    in_ring = seen.in_ring;
    on_device = omega (arith, seen.on_device, same.goes_on.later.sectors);
    number = seen.number;
    valid = λ bytes is. seen.valid bytes (same.reads sighting.place seen.slot ∙ is);
  }

  listed_before : (sightings : List Sighting) (place : ℕ) → IsRingListed mid sightings place
      → IsRingListed old sightings place
  listed_before sightings place ring = record {
    whole = omega (arith, ring.whole, same.goes_on.later.sectors);
    slots = λ slot in_ring bytes is. ring.slots slot in_ring bytes (same.reads place slot ∙ is);
  }

  ring_before : (new : Disk) (place : ℕ) → IsRingUnread mid new place → IsRingUnread old new place
  ring_before new place (inl past) = inl (omega (arith, past, same.goes_on.later.sectors))
  ring_before new place (inr failed) = inr (then_rose new place same failed)

-- What stands behind a list takes nothing from it.
listed_left : (disk : Disk) (first more : List Sighting) (place : ℕ) → IsRingListed disk first place
    → IsRingListed disk (first ++ more) place
listed_left disk first more place ring = record {
  whole = ring.whole;
  slots = λ slot in_ring bytes is number uber fits valid. Contains-append_left first more
      (seen_at place number uber) (ring.slots slot in_ring bytes is number uber fits valid);
}

listed_right : (disk : Disk) (first more : List Sighting) (place : ℕ) → IsRingListed disk more place
    → IsRingListed disk (first ++ more) place
listed_right disk first more place ring = record {
  whole = ring.whole;
  slots = λ slot in_ring bytes is number uber fits valid. Contains-append_right first more
      (seen_at place number uber) (ring.slots slot in_ring bytes is number uber fits valid);
}

module _ (old mid new : Disk) (place : ℕ) (before after : Sightings) (same : Unchanged old mid)
    (goes_on : Unchanged mid new) (looked_at : IsLookedAt old place)
    (so_far : AreSeenBefore old mid place before) (sees : SeesRing mid new place before after) where
  left_before : (other : ℕ) → other < place → has_device before.unread other ≡ false
      → IsRingListed old after.list.items other
  left_before other low read = subst (λ (list : List Sighting). IsRingListed old list other) (sym sees.grows)
      (listed_left old before.list.items sees.more other (so_far.listed other low read))

  shown_more : All (λ sighting. IsSeen old sighting) after.list.items
  shown_more = subst (λ (list : List Sighting). All (λ sighting. IsSeen old sighting) list) (sym sees.grows)
      (All-append (λ sighting. IsSeen old sighting) before.list.items sees.more so_far.shown
      (λ k d below. seen_before old mid same _ (sees.shown k d below)))

  unread_more : (other : ℕ) → has_device before.unread other ≡ true
      → IsLookedAt old other × IsRingUnread old new other
  unread_more other has = let unread = so_far.unread other has in
      (unread.0, unread_then old mid new other goes_on unread.1)

  whole_more : after.unread ≡ before.unread → IsRingListed mid sees.more place → AreSeenBefore old new (place + 1) after
  whole_more is ring = record {
    shown = shown_more;
    listed = below_more (λ (other : ℕ). has_device after.unread other ≡ false → IsRingListed old after.list.items other)
        place (λ other low read. left_before other low (subst (λ (set : ℕ). has_device set other ≡ false) is read))
        (λ read. subst (λ (list : List Sighting). IsRingListed old list place) (sym sees.grows)
        (listed_right old before.list.items sees.more place (listed_before old mid same sees.more place ring)));
    unread = λ other has. unread_more other (subst (λ (set : ℕ). has_device set other ≡ true) is has);
  }

  others_more : (other : ℕ) → after.unread ≡ with_device before.unread place → (other ≡ place → ⊥)
      → has_device after.unread other ≡ has_device before.unread other
  others_more other is apart = ap (λ (set : ℕ). has_device set other) is ∙ others_with before.unread place other apart

  here_more : after.unread ≡ with_device before.unread place → has_device after.unread place ≡ true
  here_more is = ap (λ (set : ℕ). has_device set place) is ∙ has_with before.unread place

  part_more : after.unread ≡ with_device before.unread place → IsRingUnread mid new place
      → AreSeenBefore old new (place + 1) after
  part_more is unread = record {
    shown = shown_more;
    listed = below_more (λ (other : ℕ). has_device after.unread other ≡ false → IsRingListed old after.list.items other)
        place (λ other low read. left_before other low
        (sym (others_more other is (λ same_place. omega (arith, low, same_place))) ∙ read))
        (λ read. absurd (true≢false (sym (here_more is) ∙ read)));
    unread = λ other has. ⊎_elim
        (λ (here : other ≡ place). subst (λ (at : ℕ). IsLookedAt old at × IsRingUnread old new at) (sym here)
        (looked_at, ring_before old mid same new place unread))
        (λ (apart : other ≡ place → ⊥). unread_more other (sym (others_more other is apart) ∙ has))
        (cases_eq other place);
  }

  -- one ring more
  pub seen_more : AreSeenBefore old new (place + 1) after
  seen_more = ⊎_elim
      (λ (whole : (after.unread ≡ before.unread) × IsRingListed mid sees.more place). whole_more whole.0 whole.1)
      (λ (part : (after.unread ≡ with_device before.unread place) × IsRingUnread mid new place).
      part_more part.0 part.1)
      sees.all

-- Those before this place are all that are looked at.
pub seen_all : (old new : Disk) (places : ℕ) (sightings : Sightings)
    → ((place : ℕ) → IsLookedAt old place → place < places) → AreSeenBefore old new places sightings
    → AreSeen old new sightings
seen_all old new places sightings all so_far = record {
  shown = so_far.shown;
  listed = λ place looked_at read. so_far.listed place (all place looked_at) read;
  unread = so_far.unread;
}

-- It is what was seen once more reads follow.
pub seen_still : (old mid new : Disk) (sightings : Sightings) → Unchanged mid new → AreSeen old mid sightings
    → AreSeen old new sightings
seen_still old mid new sightings same seen = record {
  shown = seen.shown;
  listed = seen.listed;
  unread = λ place has. let unread = seen.unread place has in
      (unread.0, unread_then old mid new place same unread.1);
}
