-- A run fits where its sectors are free, and where no hold is in the way.
use Rattle.std.proofs.Common.{◌≡◌, ℕ, ◌<◌, ◌≤◌, ◌+◌, ◌-◌, List, ◌++◌, sym, ◌∙◌, arith, inl, ⊎_elim}
use Rattle.std.specs.Prelude.{Some, None, All, Contains}
use Rattle.std.proofs.lemmas.Bool.{cases_lt}
use Rattle.std.proofs.lemmas.List.Elements.{All-contains, Contains-append_cases, Contains-append_left}
use Rattle.std.proofs.lemmas.List.Elements.{Contains-append_right}
use Rattle.range_locks.specs.declared.hold.Hold.{Hold}
use Rattle.range_locks.specs.declared.hold.HoldKind.TheVariants.{Shared, Exclusive}
use Rattle.range_locks.specs.Holds.{HasSectors, IsClear, Overlaps}
use Rattle.range_locks.proofs.InOrder.{first_alone}
use Rattle.range_locks.proofs.Searching.{busy_by_first}
use Rattle.space_alloc.specs.declared.entry.Entry.{Entry}
use Rattle.space_alloc.specs.declared.held.HeldEntry.{HeldEntry}
use Rattle.space_alloc.specs.Space.{IsIn, IsFree, IsFreeRun, IsFirstFit, HasNoFreeRun, IsBusySpace}
use Rattle.space_alloc.specs.Entries.{space_of, entry_end, in_use, IsEntry, AreEntriesApart, Meets}
use Rattle.space_alloc.specs.Edges.{AreEdgesOf, IsUnused}
use Rattle.space_alloc.specs.Fit.{IsHinderedBy, IsLowest, IsRoom, Spares}
use Rattle.space_alloc.proofs.InUse.{taken_covers, held_covers, covered_in_use}
use Rattle.space_alloc.proofs.Unused.{covered_inside, uncovered_unused}

-- Two ranges that overlap have a sector in common.
common : (start len lo hi : ℕ) → lo < start + len → start < hi → lo < hi → 0 < len
    → (sector : ℕ) × IsIn start len sector × ((lo ≤ sector) × (sector < hi))
common start len lo hi begins ends some long =
    ⊎_elim (λ below. (start, (omega arith, omega (arith, long)), (omega (arith, below), ends)))
    (λ above. (lo, (above, begins), (omega arith, some))) (cases_lt lo start)

-- A free run ends within the pool.
pub free_within : (taken : List Entry) (held : List HeldEntry) (holds : List Hold) (capacity len start : ℕ) → 0 < len
    → IsFreeRun (space_of capacity taken held) holds start len → start + len ≤ capacity
free_within taken held holds capacity len start long free =
    let last : IsFree (space_of capacity taken held) holds (start + len - 1) = free (start + len - 1) (omega (arith, long), omega (arith, long)) in
    omega (arith, last.below)

-- No run in use meets it.
pub free_apart : (taken : List Entry) (held : List HeldEntry) (holds : List Hold) (capacity len start : ℕ) → 0 < len → AreEntriesApart (in_use taken held)
    → IsFreeRun (space_of capacity taken held) holds start len → (entry : Entry) → Contains (in_use taken held) entry → Meets entry start (start + len) → ⊥
free_apart taken held holds capacity len start long are free entry listed meets =
    let is : IsEntry entry = All-contains IsEntry (in_use taken held) entry are.each listed in
    let both = common start len entry.start (entry_end entry) meets.begins meets.ends (omega (arith, is.some)) long in
    ⊎_elim (free both.0 both.1).untaken (free both.0 both.1).not_held (covered_in_use capacity taken held both.0 entry listed both.2)

-- Of sectors below the capacity that no shared hold has, those are free that are unused.
pub free_unused : (taken : List Entry) (held : List HeldEntry) (edges : List ℕ) (holds : List Hold) (capacity sector : ℕ) → AreEdgesOf (in_use taken held) edges
    → IsFree (space_of capacity taken held) holds sector → IsUnused edges sector
free_unused taken held edges holds capacity sector of free = uncovered_unused (in_use taken held) edges sector of
    (λ covers. ⊎_elim free.untaken free.not_held (covered_in_use capacity taken held sector covers.entry covers.listed covers.inside))

pub unused_free : (taken : List Entry) (held : List HeldEntry) (edges : List ℕ) (holds : List Hold) (capacity sector : ℕ) → AreEntriesApart (in_use taken held) → AreEdgesOf (in_use taken held) edges
    → sector < capacity → IsUnused edges sector → ((hold : Hold) → Contains holds hold → hold.kind ≡ Shared → Overlaps hold sector (sector + 1) → ⊥)
    → IsFree (space_of capacity taken held) holds sector
unused_free taken held edges holds capacity sector are of below unused spares = record {
  below = below;
  untaken = λ is. covered_inside (in_use taken held) edges sector are of (taken_covers capacity taken held sector is) unused;
  not_held = λ is. covered_inside (in_use taken held) edges sector are of (held_covers capacity taken held sector is) unused;
  not_shared = λ shared. spares shared.0 shared.1 shared.2 shared.3;
}

apart : (hold : Hold) → hold.kind ≡ Shared → hold.kind ≡ Exclusive → ⊥
apart hold shared exclusive = different (sym shared ∙ exclusive)
  where
    different : Shared ≡ Exclusive → ⊥
    different same = cc

module _ (taken : List Entry) (held : List HeldEntry) (edges : List ℕ) (shared exclusive : List Hold) (capacity len : ℕ) (long : 0 < len) (are : AreEntriesApart (in_use taken held))
    (of : AreEdgesOf (in_use taken held) edges) (some : All HasSectors (shared ++ exclusive)) (are_shared : All (λ hold. hold.kind ≡ Shared) shared)
    (are_exclusive : All (λ hold. hold.kind ≡ Exclusive) exclusive) where
  room_is_free : (start : ℕ) → IsRoom edges shared capacity len start → IsFreeRun (space_of capacity taken held) (shared ++ exclusive) start len
  room_is_free start room sector inside =
      unused_free taken held edges (shared ++ exclusive) capacity sector are of (omega (arith, inside, room.within)) (room.unused sector inside)
      (λ hold listed kind overlaps. ⊎_elim
      (λ left. room.spares hold left (record { begins = omega (arith, overlaps.begins, inside); ends = omega (arith, overlaps.ends, inside) }))
      (λ right. apart hold kind (All-contains (λ h. h.kind ≡ Exclusive) exclusive hold are_exclusive right))
      (Contains-append_cases shared exclusive hold listed))

  free_is_room : (start : ℕ) → IsFreeRun (space_of capacity taken held) (shared ++ exclusive) start len → IsRoom edges shared capacity len start
  free_is_room start free = record {
    within = free_within taken held (shared ++ exclusive) capacity len start long free;
    unused = λ sector inside. free_unused taken held edges (shared ++ exclusive) capacity sector of (free sector inside);
    spares = λ hold listed overlaps.
        let here = Contains-append_left shared exclusive hold listed in
        let has : hold.lo < hold.hi = All-contains HasSectors (shared ++ exclusive) hold some here in
        let both = common start len hold.lo hold.hi overlaps.begins overlaps.ends has long in
        (free both.0 both.1).not_shared (
          hold,
          here,
          All-contains (λ h. h.kind ≡ Shared) shared hold are_shared listed,
          record { begins = omega (arith, both.2); ends = both.2.1 },
        );
  }

  clear_spares : (start end : ℕ) → IsClear (shared ++ exclusive) start end Shared → Spares exclusive start end
  clear_spares start end clear hold listed overlaps = clear hold (Contains-append_right shared exclusive hold listed)
      (record { overlaps = overlaps; exclusive = inl (All-contains (λ h. h.kind ≡ Exclusive) exclusive hold are_exclusive listed) })

  spares_clear : (start end : ℕ) → Spares exclusive start end → IsClear (shared ++ exclusive) start end Shared
  spares_clear start end spares = first_alone shared exclusive start end None are_shared are_exclusive
      (λ hold listed blocks. spares hold listed blocks.overlaps)

  -- The lowest place is what a put takes.
  pub lowest_is_first : (start : ℕ) → IsLowest edges shared exclusive capacity len start → IsFirstFit (space_of capacity taken held) (shared ++ exclusive) len start
  lowest_is_first start lowest = record {
    free = room_is_free start lowest.room;
    clear = spares_clear start (start + len) lowest.clear;
    lowest = λ other free clear. ⊎_elim
        (λ less. absurd (lowest.none other less (free_is_room other free) (clear_spares other (other + len) clear)))
        (λ most. most) (cases_lt other start);
  }

  -- Where no room is long enough the space is full,
  pub no_room_is_full : ((other : ℕ) → IsRoom edges shared capacity len other → ⊥) → HasNoFreeRun (space_of capacity taken held) (shared ++ exclusive) len
  no_room_is_full none other free = none other (free_is_room other free)

  -- and where each is hindered it is busy.
  pub hindered_is_busy : (hold : Hold) → IsHinderedBy edges shared exclusive capacity len hold
      → ((other : ℕ) → IsRoom edges shared capacity len other → Spares exclusive other (other + len) → ⊥)
      → IsBusySpace (space_of capacity taken held) (shared ++ exclusive) len hold.actor
  hindered_is_busy hold hindered none = record {
    start = hindered.start;
    free = room_is_free hindered.start hindered.room;
    lowest = λ other free. hindered.lowest other (free_is_room other free);
    busy = busy_by_first (shared ++ exclusive) hindered.start (hindered.start + len) Shared hold
        (first_alone shared exclusive hindered.start (hindered.start + len) (Some hold) are_shared are_exclusive hindered.first);
    each = λ other free clear. none other (free_is_room other free) (clear_spares other (other + len) clear);
  }
