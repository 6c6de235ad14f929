-- The live entries of a list, and the count of the dead ones, as one entry changes.
use Rattle.std.proofs.Common.{◌≡◌, ℕ, suc, ◌<◌, ◌≤◌, ◌+◌, List, [], ◌∷◌, ◌++◌, Bool, true, false, length, get_or, set}
use Rattle.std.proofs.Common.{take, drop, refl, sym, ◌∙◌, ap, subst, zero-add, arith, length-append}
use Rattle.std.specs.Prelude.{◌≢◌, Some, All, Contains, cond, filter, slice_get}
use Rattle.std.proofs.lemmas.Bool.Decides.{nat_tests}
use Rattle.std.proofs.lemmas.List.{length-set, set_split, take-append-drop}
use Rattle.std.proofs.lemmas.List.Elements.{All-contains, Contains-get_or, filter-append, filter_passes}
use Rattle.std.proofs.lemmas.List.Kept.{AllPairs-filter}
use Rattle.std.proofs.lemmas.List.Sums.{count_by-le-length, length-filter}
use Rattle.std.proofs.lemmas.Option.{slice_get-get_or, slice_get_within}
use Rattle.range_locks.proofs.Lists.{filter_listed, filter_was}
use Rattle.space_alloc.specs.declared.entry.Entry.{Entry}
use Rattle.space_alloc.specs.Space.{Gains}
use Rattle.space_alloc.specs.Entries.{is_live, live_of, AreRuns, BeginInOrder, IsPartitionedAt, IsDeadAt}
use Rattle.space_alloc.proofs.Lists.{split_at}
use Rattle.space_alloc.proofs.Places.{gap_before, gap_here, order_insert, order_set, place_of}
use Rattle.space_alloc.proofs.Releasing.{gained_length}

live_is : (entry : Entry) → 0 < entry.len → is_live entry ≡ true
live_is entry some = grind (arith, nat_tests, some)

dead_is : (entry : Entry) → entry.len ≡ 0 → is_live entry ≡ false
dead_is entry none = grind (arith, nat_tests, none)

-- What is live is listed.
pub live_listed : (entries : List Entry) (entry : Entry) → Contains (live_of entries) entry → Contains entries entry × (0 < entry.len)
live_listed entries entry listed =
    let live : is_live entry ≡ true = All-contains (λ (e : Entry). is_live e ≡ true) (live_of entries) entry (filter_passes is_live entries) listed in
    (filter_was is_live entries entry listed, grind (arith, nat_tests, live))

-- Where no dead one stands, a run that begins elsewhere than the live ones may stand before.
pub gap_beside : (entries : List Entry) (start at : ℕ) → BeginInOrder entries → All (λ (e : Entry). e.start ≢ start) (live_of entries)
    → ((default : Entry) → at < length entries → 0 < (get_or entries at default).len) → IsPartitionedAt entries start start at at
    → IsPartitionedAt entries start (start + 1) at at
gap_beside entries start at order elsewhere live place = gap_before entries order start at place
    (λ default within. All-contains (λ (e : Entry). e.start ≢ start) (live_of entries) (get_or entries at default) elsewhere
    (filter_listed is_live entries (get_or entries at default) (live_is (get_or entries at default) (live default within))
    (Contains-get_or entries at default within)))

-- A live one is one more,
live_more : (before after : List Entry) (entry : Entry) → 0 < entry.len
    → live_of (before ++ entry ∷ after) ≡ live_of before ++ entry ∷ live_of after
live_more before after entry some = filter-append is_live before (entry ∷ after)
    ∙ ap (λ (b : Bool). live_of before ++ cond b (entry ∷ live_of after) (live_of after)) (live_is entry some)

-- and a dead one is none.
live_same : (before after : List Entry) (entry : Entry) → entry.len ≡ 0 → live_of (before ++ entry ∷ after) ≡ live_of before ++ live_of after
live_same before after entry none = filter-append is_live before (entry ∷ after)
    ∙ ap (λ (b : Bool). live_of before ++ cond b (entry ∷ live_of after) (live_of after)) (dead_is entry none)

live_gains : (old new before after : List Entry) (entry : Entry) → live_of old ≡ live_of before ++ live_of after → new ≡ before ++ entry ∷ after
    → 0 < entry.len → Gains (live_of old) (live_of new) entry
live_gains old new before after entry was is some = record {
  before = live_of before;
  after = live_of after;
  was = was;
  is = ap live_of is ∙ live_more before after entry some;
}

live_few : (entries : List Entry) → length (live_of entries) ≤ length entries
live_few entries = let same = length-filter is_live entries in let few = count_by-le-length is_live entries in omega (arith, same, few)

-- the dead entry that a run leaves
abbrev pub dead_of : Entry → Entry
dead_of entry = record { start = entry.start; len = 0 }

-- One stands in the place of a run, and is not counted yet.
pub record HasDied (entries : List Entry) (dead at : ℕ) (entry : Entry) (live : List Entry) : Type 0 where
  pub within : at < length entries
  pub in_order : BeginInOrder (set entries at (dead_of entry))
  pub count : dead + 1 + length (live_of (set entries at (dead_of entry))) ≡ length entries
  pub gains : Gains (live_of (set entries at (dead_of entry))) live entry

module _ (entries : List Entry) (dead at : ℕ) (runs : AreRuns entries dead) where
  module _ (entry : Entry) (some : 0 < entry.len) where
    -- A run is put in the place of a dead entry,
    module _ (none : IsDeadAt entries at) where
      pub set_gains : Gains (live_of entries) (live_of (set entries at entry)) entry
      set_gains = live_gains entries (set entries at entry) (take at entries) (drop (suc at) entries) entry
          (ap live_of (split_at entries (get_or entries at entry) at (slice_get-get_or entries at entry none.within))
          ∙ live_same (take at entries) (drop (suc at) entries) (get_or entries at entry) (none.dead entry))
          (set_split entries at entry none.within) some

      set_count : length (live_of (set entries at entry)) + dead ≡ length entries + 1
      set_count = let count = runs.count in let more = gained_length _ _ entry set_gains in omega (arith, count, more)

      pub some_dead : 0 < dead
      some_dead = let few = live_few (set entries at entry) in let count = set_count in let same = length-set entries at entry in
          omega (arith, few, count, same)

      pub set_runs : (less : ℕ) → less + 1 ≡ dead → IsPartitionedAt entries entry.start (entry.start + 1) at (at + 1) → AreRuns (set entries at entry) less
      set_runs less is gap = record {
        in_order = order_set entries runs.in_order entry at gap;
        count = (let count = set_count in let same = length-set entries at entry in omega (arith, count, same, is));
        few = (let few = runs.few in let more = gained_length _ _ entry set_gains in omega (arith, few, more, is));
      }

    -- or between two,
    pub insert_gains : Gains (live_of entries) (live_of (take at entries ++ entry ∷ drop at entries)) entry
    insert_gains = live_gains entries _ (take at entries) (drop at entries) entry
        (ap live_of (sym (take-append-drop at entries)) ∙ filter-append is_live (take at entries) (drop at entries)) refl some

    pub insert_runs : IsPartitionedAt entries entry.start (entry.start + 1) at at → AreRuns (take at entries ++ entry ∷ drop at entries) dead
    insert_runs gap = record {
      in_order = order_insert entries runs.in_order entry at gap;
      count = (let count = runs.count in let more = gained_length _ _ entry insert_gains in
          let long = length-append (take at entries) (entry ∷ drop at entries) in
          let was = ap length (take-append-drop at entries) in
          let parts = length-append (take at entries) (drop at entries) in
          omega (arith, count, more, long, was, parts));
      few = (let few = runs.few in let more = gained_length _ _ entry insert_gains in omega (arith, few, more));
    }

  -- and one that is listed leaves a dead entry.
  module _ (entry : Entry) (listed : Contains (live_of entries) entry) (place : IsPartitionedAt entries entry.start entry.start at at) where
    stands_here : slice_get entries at ≡ Some entry
    stands_here = place_of entries runs.in_order entry at (live_listed entries entry listed).0 place

    remove_gains : Gains (live_of (set entries at (dead_of entry))) (live_of entries) entry
    remove_gains = live_gains (set entries at (dead_of entry)) entries (take at entries) (drop (suc at) entries) entry
        (ap live_of (set_split entries at (dead_of entry) (slice_get_within entries at entry stands_here))
        ∙ live_same (take at entries) (drop (suc at) entries) (dead_of entry) refl)
        (split_at entries entry at stands_here) (live_listed entries entry listed).1

    remove_one : HasDied entries dead at entry (live_of entries)
    remove_one = record {
      within = slice_get_within entries at entry stands_here;
      in_order = order_set entries runs.in_order (dead_of entry) at
          (gap_here entries runs.in_order entry.start at place (slice_get_within entries at entry stands_here));
      count = (let count = runs.count in let fewer = gained_length _ _ entry remove_gains in omega (arith, count, fewer));
      gains = remove_gains;
    }

-- So it is with what is seen of them.
pub removed : (entries seen live : List Entry) (dead at : ℕ) (entry : Entry) → AreRuns entries dead → live_of entries ≡ live → seen ≡ entries
    → Contains live entry → IsPartitionedAt seen entry.start entry.start at at → HasDied entries dead at entry live
removed entries seen live dead at entry runs view_is same listed place =
    subst (HasDied entries dead at entry) view_is (remove_one entries dead at runs entry
    (subst (λ (l : List Entry). Contains l entry) (sym view_is) listed)
    (subst (λ (l : List Entry). IsPartitionedAt l entry.start entry.start at at) same place))

pub filter_again : {X : Type 0} (test : X → Bool) (xs : List X) → filter test (filter test xs) ≡ filter test xs
filter_again test [] = refl
filter_again {X} test (x ∷ xs) = by_test (test x) refl (filter_again test xs)
  where
    by_test : (left : Bool) → test x ≡ left → filter test (filter test xs) ≡ filter test xs
        → filter test (cond left (x ∷ filter test xs) (filter test xs)) ≡ cond left (x ∷ filter test xs) (filter test xs)
    by_test true passes rest = ap (λ (b : Bool). cond b (x ∷ filter test (filter test xs)) (filter test (filter test xs))) passes
        ∙ ap (λ (l : List X). x ∷ l) rest
    by_test false passes rest = rest

-- The live entries alone are the same runs.
pub live_runs : (entries : List Entry) → BeginInOrder entries → AreRuns (live_of entries) 0
live_runs entries order = record {
  in_order = AllPairs-filter (λ (e later : Entry). e.start < later.start) is_live entries order;
  count = zero-add _ ∙ ap length (filter_again is_live entries);
  few = omega arith;
}
