-- The runs in use stay in order, and apart.
use Rattle.std.proofs.Common.{List, [], ◌∷◌, ◌++◌, Bool, true, false, refl, sym, subst, arith, inl, inr, ⊎_elim}
use Rattle.std.proofs.Common.{append_assoc}
use Rattle.std.specs.Prelude.{◌≢◌, All, Contains, cond, filter}
use Rattle.std.proofs.lemmas.Bool.{cases_lt}
use Rattle.std.proofs.lemmas.List.Elements.{All-contains, Contains-append_left}
use Rattle.space_alloc.specs.declared.held.HeldEntry.{HeldEntry}
use Rattle.space_alloc.specs.declared.entry.Entry.{Entry}
use Rattle.space_alloc.specs.Space.{Gains}
use Rattle.space_alloc.specs.Entries.{entries_held, entry_end, in_use, IsEntry, IsApartFrom, Meets, AreEntriesApart}
use Rattle.range_locks.proofs.Lists.{all_listed, gains_cases, gains_item, pairs_beside, pairs_gain}
use Rattle.range_locks.proofs.Pairs.{all_pairs_leave, all_leave}

-- No run in use has a sector of this one.
abbrev pub IsApart : List Entry → Entry → Type 0
IsApart entries entry = (other : Entry) → Contains entries other → Meets other entry.start (entry_end entry) → ⊥

-- A run that no other meets begins elsewhere than each of them.
pub begins_elsewhere : (taken : List Entry) (held : List HeldEntry) (entry : Entry) → AreEntriesApart (in_use taken held) → IsEntry entry
    → IsApart (in_use taken held) entry → All (λ (other : Entry). other.start ≢ entry.start) taken
begins_elsewhere taken held entry are is apart =
    all_listed (λ (other : Entry). other.start ≢ entry.start) taken (λ other listed same.
    let here = Contains-append_left taken (entries_held held) other listed in
    let some = (All-contains IsEntry (in_use taken held) other are.each here).some in
    apart other here (record { begins = omega (arith, same, is.some); ends = omega (arith, same, some) }))

turned : (entry other : Entry) → IsApartFrom entry other → IsApartFrom other entry
turned entry other beside = ⊎_elim (λ before. inr before) (λ behind. inl behind) beside

beside_it : (entry other : Entry) → (Meets other entry.start (entry_end entry) → ⊥) → IsApartFrom entry other
beside_it entry other apart = ⊎_elim
    (λ begins. ⊎_elim (λ ends. absurd (apart (record { begins = begins; ends = ends }))) (λ before. inr before)
    (cases_lt entry.start (entry_end other)))
    (λ behind. inl behind) (cases_lt other.start (entry_end entry))

each_gained : (old new : List Entry) (entry : Entry) → Gains old new entry → IsEntry entry → All IsEntry old → All IsEntry new
each_gained old new entry gains is each =
    all_listed IsEntry new (λ other listed. ⊎_elim (λ same. subst IsEntry same is)
    (λ before. All-contains IsEntry old other each before) (gains_cases old new entry other gains listed))

-- In whatever order: one that no other meets may be put in,
pub apart_gained : (old new : List Entry) (entry : Entry) → Gains old new entry → IsEntry entry → IsApart old entry → AreEntriesApart old → AreEntriesApart new
apart_gained old new entry gains is apart are = record {
  each = each_gained old new entry gains is are.each;
  apart = pairs_gain IsApartFrom turned old new entry gains (λ other listed. beside_it entry other (apart other listed)) are.apart;
}

-- one may be taken away,
pub apart_lost : (old new : List Entry) (entry : Entry) → Gains new old entry → AreEntriesApart old → AreEntriesApart new
apart_lost old new entry lost are =
    let parts : AreEntriesApart (lost.before ++ entry ∷ lost.after) = subst AreEntriesApart lost.is are in
    subst AreEntriesApart (sym lost.was) (record {
      each = all_leave IsEntry lost.before lost.after entry parts.each;
      apart = all_pairs_leave IsApartFrom lost.before lost.after entry parts.apart;
    })

-- and one may stand elsewhere.
pub apart_moved : (less old new : List Entry) (entry : Entry) → Gains less old entry → Gains less new entry → AreEntriesApart old → AreEntriesApart new
apart_moved less old new entry lost gained are =
    let left : AreEntriesApart less = apart_lost old less entry lost are in
    record {
      each = each_gained less new entry gained (All-contains IsEntry old entry are.each (gains_item less old entry lost)) left.each;
      apart = pairs_gain IsApartFrom turned less new entry gained
          (λ other listed. pairs_beside IsApartFrom turned old less entry other lost are.apart listed) left.apart;
    }

-- What a filter keeps of the runs that are held back stays apart.
pub apart_filter : (test : HeldEntry → Bool) (taken : List Entry) (held : List HeldEntry) → AreEntriesApart (in_use taken held)
    → AreEntriesApart (in_use taken (filter test held))
apart_filter test taken [] are = are
apart_filter test taken (run ∷ held) are = by_test (test run)
    (apart_filter test (taken ++ run.entry ∷ []) held (subst AreEntriesApart (sym (append_assoc taken (run.entry ∷ []) (entries_held held))) are))
    (apart_filter test taken held (apart_lost (in_use taken (run ∷ held)) (in_use taken held) run.entry
    (record { before = taken; after = entries_held held; was = refl; is = refl }) are))
  where
    by_test : (left : Bool) → AreEntriesApart (in_use (taken ++ run.entry ∷ []) (filter test held)) → AreEntriesApart (in_use taken (filter test held))
        → AreEntriesApart (in_use taken (cond left (run ∷ filter test held) (filter test held)))
    by_test true with_it without = subst AreEntriesApart (append_assoc taken (run.entry ∷ []) (entries_held (filter test held))) with_it
    by_test false with_it without = without
