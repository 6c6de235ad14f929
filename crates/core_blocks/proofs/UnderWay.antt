-- Which puts are under way over each step.
use Rattle.std.proofs.Common.{◌≡◌, ℕ, ◌+◌, ◌<◌, Bool, true, false, cond, List, [], ◌∷◌, ◌++◌, append-nil, ◌==◌}
use Rattle.std.proofs.Common.{zero-add, refl, sym, ◌∙◌, ap, subst, arith, inl, inr, ⊎_elim, Some, None, if◌then◌else◌}
use Rattle.std.specs.Prelude.{Contains, Option, count_by, nat_eq, ◌||◌}
use Rattle.std.specs.Set.{is_member}
use Rattle.std.specs.List.Sorted.{IsPermutation}
use Rattle.std.proofs.lemmas.Bool.{cases_eq, eqb-true, eq-eqb}
use Rattle.std.proofs.lemmas.List.Sorted.{list_any-IsPermutation, sum_by-IsPermutation}
use Rattle.std.proofs.lemmas.List.Sums.{sum_by-append}
use Rattle.width_map.specs.declared.birth.Birth.{Birth}
use Rattle.range_locks.specs.declared.hold.Hold.{Hold}
use Rattle.space_alloc.specs.Space.{Run, Space, Gains, IsFreeRun, IsTaking, IsDropping, after_group}
use Rattle.block_record.specs.declared.entry.IndexEntry.{IndexEntry}
use Rattle.block_record.specs.Page.{IsIndex}
use Rattle.block_table.specs.Table.{Table, ChangesOnly, entry_of, without_one}
use Rattle.core_blocks.specs.declared.range.PutRange.{PutRange}
use Rattle.core_blocks.specs.Runs.{AreClear}
use Rattle.core_blocks.specs.Blocks.{AreInStep, AreUnderWay, IsListed, IsUnderWay, put_run, puts_of, range_of, run_of}
use Rattle.core_blocks.specs.Blocks.{times_reserved}
use Rattle.core_blocks.specs.Loading.{IsTakenBy}
use Rattle.core_blocks.specs.Puts.{HoldsBack}
use Rattle.core_blocks.proofs.Lists.{gains_cases, gains_item, gains_old, none_listed, pairs_beside, pairs_gain}
use Rattle.core_blocks.proofs.Lists.{pairs_lose, listed_cases}
use Rattle.core_blocks.proofs.Listed.{among_listed, put_cases, left_cases}
use Rattle.core_blocks.proofs.Runs.{clear_turned, free_of_taken, not_itself, stays_taken}
use Rattle.core_blocks.proofs.Steps.{with_parts, gone_stands, held_taken, put_clear_of_gone, same_listed}

-- The first item is counted where it passes,
counted_first : {T : Type 0} (p : T → Bool) (x : T) (xs : List T)
    → count_by p (x ∷ xs) ≡ cond (p x) 1 0 + count_by p xs
counted_first {T} p x xs = sum_by-append (λ (y : T). cond (p y) 1 0) (x ∷ []) xs
    ∙ ap (λ (n : ℕ). n + count_by p xs) (zero-add (cond (p x) 1 0))

-- and so is one that is gained.
gains_count : {T : Type 0} (p : T → Bool) (old new : List T) (x : T) → Gains old new x
    → count_by p new ≡ cond (p x) 1 0 + count_by p old
gains_count {T} p old new x gains =
    let weight : T → ℕ = λ y. cond (p y) 1 0 in
    let now : count_by p new ≡ count_by p gains.before + count_by p (x ∷ gains.after) =
    ap (λ (l : List T). count_by p l) gains.is
    ∙ sum_by-append weight gains.before (x ∷ gains.after) in
    let was : count_by p old ≡ count_by p gains.before + count_by p gains.after =
    ap (λ (l : List T). count_by p l) gains.was
    ∙ sum_by-append weight gains.before gains.after in
    omega (arith, now, was, counted_first p x gains.after)

-- One that passes is counted.
counted_some : {T : Type 0} (p : T → Bool) (xs : List T) (x : T) → p x ≡ true → Contains xs x
    → 0 < count_by p xs
counted_some p [] x passes listed = absurd (none_listed x listed)
counted_some {T} p (first ∷ xs) x passes listed = ⊎_elim
    (λ same. let here : cond {A = ℕ} (p first) 1 0 ≡ 1 =
    ap (λ (b : Bool). cond b 1 0) (ap p same ∙ passes) in
    omega (arith, here, counted_first p first xs))
    (λ rest. omega (arith, counted_some p xs x passes rest, counted_first p first xs))
    (listed_cases first x xs listed)

-- An id that is counted is a member.
counted_member : (ids : List ℕ) (id : ℕ) → 0 < count_by (λ other. id == other) ids
    → is_member nat_eq ids id ≡ true
counted_member [] id some = absurd (omega (arith, some))
counted_member (other ∷ ids) id some =
    let more : 0 < cond (id == other) 1 0 + count_by (λ o. id == o) ids =
    omega (arith, some, counted_first (λ (o : ℕ). id == o) other ids) in
    by_case (id == other) more (counted_member ids id)
  where
    by_case : (same : Bool) → 0 < cond same 1 0 + count_by (λ o. id == o) ids
        → (0 < count_by (λ o. id == o) ids → is_member nat_eq ids id ≡ true)
        → (same || is_member nat_eq ids id) ≡ true
    by_case true more rest = refl
    by_case false more rest = rest (omega (arith, more))

-- With one reservation less its id is counted once less.
count_without : (ids : List ℕ) (id other : ℕ) → is_member nat_eq ids id ≡ true
    → count_by (λ o. other == o) ids
    ≡ cond (other == id) 1 0 + count_by (λ o. other == o) (without_one id ids)
count_without [] id other there = cc
count_without (first ∷ ids) id other there = counted_first (λ (o : ℕ). other == o) first ids
    ∙ by_case (id == first) (λ same. eqb-true id first same) there (count_without ids id other)
  where
    by_case : (same : Bool) → (same ≡ true → id ≡ first)
        → (same || is_member nat_eq ids id) ≡ true
        → (is_member nat_eq ids id ≡ true → count_by (λ o. other == o) ids
        ≡ cond (other == id) 1 0 + count_by (λ o. other == o) (without_one id ids))
        → cond (other == first) 1 0 + count_by (λ o. other == o) ids
        ≡ cond (other == id) 1 0
        + count_by (λ o. other == o) (if same then ids else first ∷ without_one id ids)
    by_case true is there rest = ap
        (λ (n : ℕ). cond (other == n) 1 0 + count_by (λ o. other == o) ids) (sym (is refl))
    by_case false is there rest =
        let kept = counted_first (λ (o : ℕ). other == o) first (without_one id ids) in
        let less = rest there in
        ap (λ (n : ℕ). cond (other == first) 1 0 + n) less ∙ swap ∙ ap
        (λ (n : ℕ). cond (other == id) 1 0 + n) (sym kept)
      where
        swap : cond (other == first) 1 0
            + (cond (other == id) 1 0 + count_by (λ o. other == o) (without_one id ids))
            ≡ cond (other == id) 1 0
            + (cond (other == first) 1 0 + count_by (λ o. other == o) (without_one id ids))
        swap = omega arith

-- Each range has a reservation where they are as often.
booked_member : (table : Table) (ranges : List PutRange) (range : PutRange)
    → ((id : ℕ) → times_reserved table id ≡ puts_of ranges id) → Contains ranges range
    → is_member nat_eq table.reserved range.id ≡ true
booked_member table ranges range booked listed =
    let some : 0 < puts_of ranges range.id = counted_some (λ r. range.id == r.id) ranges range
    (eq-eqb range.id range.id refl) listed in
    counted_member table.reserved range.id (omega (arith, booked range.id, some))

-- A put and its reservation are gone.
booked_left : (table newer : Table) (left ranges : List PutRange) (range : PutRange)
    → Gains left ranges range → is_member nat_eq table.reserved range.id ≡ true
    → newer.reserved ≡ without_one range.id table.reserved
    → ((id : ℕ) → times_reserved table id ≡ puts_of ranges id) → (id : ℕ)
    → times_reserved newer id ≡ puts_of left id
booked_left table newer left ranges range gains there ended booked id =
    let now : times_reserved newer id
    ≡ count_by (λ other. id == other) (without_one range.id table.reserved) =
    ap (λ (ids : List ℕ). count_by (λ other. id == other) ids) ended in
    omega (
      arith,
      now,
      booked id,
      count_without table.reserved range.id id there,
      gains_count (λ (r : PutRange). id == r.id) left ranges range gains,
    )

-- A list with an item at its end.
at_end : {T : Type 0} (xs new : List T) (x : T) → new ≡ xs ++ x ∷ [] → Gains xs new x
at_end xs new x is = record { before = xs; after = []; was = sym (append-nil xs); is = is }

-- The puts are clear of each other, in either order.
abbrev ApartPuts : PutRange → PutRange → Type 0
ApartPuts one other = AreClear (put_run one) (put_run other)

puts_turned : (one other : PutRange) → ApartPuts one other → ApartPuts other one
puts_turned one other clear = clear_turned (put_run one) (put_run other) clear

module _ (parity : ℕ) (births : List Birth) where
  -- None is under way.
  pub none_under_way : (capacity : ℕ) (table : Table) (space : Space) → IsIndex table.entries
      → table.reserved ≡ [] → IsTakenBy parity births capacity table.entries space
      → AreUnderWay (with_parts parity births table space) []
  none_under_way capacity table space index none claimed = record {
    each = λ range listed. absurd (none_listed range listed);
    apart = λ i j d before within. absurd (omega (arith, within));
    every = λ run listed.
        let block = claimed.only run listed in
        inl (block.0, among_listed table.entries block.0 index block.1, block.2);
    reserved = λ id. ap (λ (ids : List ℕ). count_by (λ other. id == other) ids) none;
  }

  listed_back : (table newer : Table) (entry : IndexEntry) → newer.entries ≡ table.entries
      → IsListed table.entries entry → IsListed newer.entries entry
  listed_back table newer entry same listed =
      subst (λ (entries : List IndexEntry). IsListed entries entry) (sym same) listed

  -- A put begins.
  pub begun_under : (table newer : Table) (space later : Space) (holds : List Hold)
      (range : PutRange) (ranges : List PutRange) → newer.entries ≡ table.entries
      → newer.reserved ≡ table.reserved ++ range.id ∷ []
      → (let run : Run = put_run range in IsFreeRun space holds run.start run.len)
      → (let run : Run = put_run range in IsTaking space later run.start run.len)
      → IsUnderWay (with_parts parity births newer later) range
      → AreUnderWay (with_parts parity births table space) ranges
      → AreUnderWay (with_parts parity births newer later) (ranges ++ range ∷ [])
  begun_under table newer space later holds range ranges same more free taking begun under =
      let gains : Gains ranges (ranges ++ range ∷ []) range =
      at_end ranges (ranges ++ range ∷ []) range refl in
      let booked : (id : ℕ) → times_reserved newer id ≡ puts_of (ranges ++ range ∷ []) id =
      λ id. omega (
        arith,
        under.reserved id,
        gains_count (λ (other : ℕ). id == other) table.reserved newer.reserved range.id
            (at_end table.reserved newer.reserved range.id more),
        gains_count (λ (r : PutRange). id == r.id) ranges (ranges ++ range ∷ []) range gains,
      ) in
      record {
        each = λ r listed. ⊎_elim
            (λ is. subst (IsUnderWay (with_parts parity births newer later)) is begun)
            (λ was. record {
              reserved = booked_member newer (ranges ++ range ∷ []) r booked listed;
              taken = gains_old space.taken later.taken (put_run range) (put_run r) taking.taken
                  (under.each r was).taken;
              clear = λ entry found. (under.each r was).clear entry
                  (same_listed parity births table newer entry same found);
            })
            (gains_cases ranges (ranges ++ range ∷ []) range r gains listed);
        apart = pairs_gain ApartPuts puts_turned ranges (ranges ++ range ∷ []) range gains
            (λ r listed. free_of_taken space holds (put_run range) free (put_run r)
            (under.each r listed).taken)
            under.apart;
        every = λ run listed. ⊎_elim
            (λ is. inr (range, gains_item ranges (ranges ++ range ∷ []) range gains, is))
            (λ was. ⊎_elim
            (λ block. inl (block.0, listed_back table newer block.0 same block.1, block.2))
            (λ put. inr (
              put.0,
              gains_old ranges (ranges ++ range ∷ []) range put.0 gains put.1,
              put.2,
            ))
            (under.every run was))
            (gains_cases space.taken later.taken (put_run range) run taking.taken listed);
        reserved = booked;
      }

  -- A refusal leaves them.
  pub refused_under : (table newer : Table) (space later : Space) (ranges : List PutRange)
      → newer.entries ≡ table.entries → IsPermutation table.reserved newer.reserved
      → later ≡ space → AreUnderWay (with_parts parity births table space) ranges
      → AreUnderWay (with_parts parity births newer later) ranges
  refused_under table newer space later ranges same moved unchanged under = record {
    each = λ r listed. record {
      reserved = sym (list_any-IsPermutation (nat_eq r.id) table.reserved newer.reserved moved)
          ∙ (under.each r listed).reserved;
      taken = subst (λ (s : Space). Contains s.taken (put_run r)) (sym unchanged)
          (under.each r listed).taken;
      clear = λ entry found. (under.each r listed).clear entry
          (same_listed parity births table newer entry same found);
    };
    apart = under.apart;
    every = λ run listed. ⊎_elim
        (λ block. inl (block.0, listed_back table newer block.0 same block.1, block.2))
        (λ put. inr put)
        (under.every run (subst (λ (s : Space). Contains s.taken run) unchanged listed));
    reserved = λ id. sum_by-IsPermutation (λ (other : ℕ). cond (id == other) 1 0)
        table.reserved newer.reserved moved ∙ under.reserved id;
  }

  -- A group is answered.
  pub answered_under : (table : Table) (space : Space) (group : ℕ) (ranges : List PutRange)
      → AreUnderWay (with_parts parity births table space) ranges
      → AreUnderWay (with_parts parity births table (after_group space group)) ranges
  answered_under table space group ranges under = record {
    each = λ r listed. record {
      reserved = (under.each r listed).reserved;
      taken = (under.each r listed).taken;
      clear = (under.each r listed).clear;
    };
    apart = under.apart;
    every = under.every;
    reserved = under.reserved;
  }

  -- One is given up.
  pub given_up_under : (table newer : Table) (space later : Space) (range : PutRange)
      (left ranges : List PutRange) → AreInStep (with_parts parity births table space)
      → IsUnderWay (with_parts parity births table space) range
      → newer.entries ≡ table.entries → newer.reserved ≡ without_one range.id table.reserved
      → (let run : Run = put_run range in IsDropping space later run.start run.len)
      → Gains left ranges range → AreUnderWay (with_parts parity births table space) ranges
      → AreUnderWay (with_parts parity births newer later) left
  given_up_under table newer space later range left ranges step its same ended dropping gains
      under =
      let some : 0 < (put_run range).len = (step.spread.inside (put_run range) its.taken).some in
      let booked = booked_left table newer left ranges range gains its.reserved ended
      under.reserved in
      record {
        each = λ r listed.
            let was : IsUnderWay (with_parts parity births table space) r =
            under.each r (gains_old left ranges range r gains listed) in
            record {
              reserved = booked_member newer left r booked listed;
              taken = stays_taken space.taken later.taken (put_run range) (put_run r)
                  dropping.taken some
                  (pairs_beside ApartPuts puts_turned ranges left range r gains under.apart listed)
                  was.taken;
              clear = λ entry found. was.clear entry
                  (same_listed parity births table newer entry same found);
            };
        apart = pairs_lose ApartPuts puts_turned ranges left range gains under.apart;
        every = λ run listed. ⊎_elim
            (λ block. inl (block.0, listed_back table newer block.0 same block.1, block.2))
            (λ put. ⊎_elim
            (λ is. absurd (not_itself (put_run range) run some
            (pairs_beside AreClear clear_turned space.taken later.taken (put_run range) run
            dropping.taken step.spread.taken listed)
            (ap (λ (r : PutRange). put_run r) is ∙ put.2)))
            (λ still. inr (put.0, still, put.2))
            (gains_cases left ranges range put.0 gains put.1))
            (under.every run
            (gains_old later.taken space.taken (put_run range) run dropping.taken listed));
        reserved = booked;
      }

  -- What is taken was taken before something was held back,
  was_taken : (space later : Space) (group : ℕ) (gone : Option IndexEntry) (run : Run)
      → HoldsBack parity births space later group gone → Contains later.taken run
      → Contains space.taken run
  was_taken space later group None run same listed =
      subst (λ (s : Space). Contains s.taken run) same listed
  was_taken space later group (Some entry) run holding listed =
      gains_old later.taken space.taken (run_of parity births entry) run holding.taken listed

  -- and is no run of what is gone.
  not_of_gone : (table : Table) (space later : Space) (group : ℕ) (gone : Option IndexEntry)
      (entry : IndexEntry) (run : Run) → AreInStep (with_parts parity births table space)
      → IsListed table.entries entry → HoldsBack parity births space later group gone
      → gone ≡ Some entry → Contains later.taken run → run_of parity births entry ≡ run → ⊥
  not_of_gone table space later group was entry run step listed held is still same =
      let holding = subst (HoldsBack parity births space later group) is held in
      not_itself (run_of parity births entry) run
      (step.spread.inside (run_of parity births entry) (step.each entry listed).taken).some
      (pairs_beside AreClear clear_turned space.taken later.taken (run_of parity births entry) run
      holding.taken step.spread.taken still) same

  -- A block is removed.
  pub removed_under : (table newer : Table) (space later : Space) (id group : ℕ)
      (gone : Option IndexEntry) (ranges : List PutRange)
      → AreInStep (with_parts parity births table space)
      → gone ≡ entry_of table.entries id → ChangesOnly table.entries newer.entries id None
      → newer.reserved ≡ table.reserved → HoldsBack parity births space later group gone
      → AreUnderWay (with_parts parity births table space) ranges
      → AreUnderWay (with_parts parity births newer later) ranges
  removed_under table newer space later id group gone ranges step found change same held under =
      record {
        each = λ r listed. record {
          reserved = ap (λ (ids : List ℕ). is_member nat_eq ids r.id) same
              ∙ (under.each r listed).reserved;
          taken = held_taken parity births space later group gone (put_run r) held
              (gone_stands parity births table space id gone step found) step.spread
              (put_clear_of_gone parity births table space id gone r (under.each r listed) found)
              (under.each r listed).taken;
          clear = λ entry there. (under.each r listed).clear entry
              (left_cases table.entries newer.entries id entry change there).0;
        };
        apart = under.apart;
        every = λ run listed. ⊎_elim
            (λ block. ⊎_elim
            (λ equal. absurd (not_of_gone table space later group gone block.0 run step block.1 held
            (found ∙ ap (λ (n : ℕ). entry_of table.entries n) (sym equal) ∙ block.1)
            listed block.2))
            (λ differ. inl (block.0, change.others block.0.id differ ∙ block.1, block.2))
            (cases_eq block.0.id id))
            (λ put. inr put) (under.every run (was_taken space later group gone run held listed));
        reserved = λ other. ap (λ (ids : List ℕ). count_by (λ o. other == o) ids) same
            ∙ under.reserved other;
      }

  -- A put ends.
  pub ended_under : (table newer : Table) (space later : Space) (entry : IndexEntry) (group : ℕ)
      (gone : Option IndexEntry) (left ranges : List PutRange)
      → AreInStep (with_parts parity births table space)
      → IsUnderWay (with_parts parity births table space) (range_of parity births entry)
      → gone ≡ entry_of table.entries entry.id
      → ChangesOnly table.entries newer.entries entry.id (Some entry)
      → newer.reserved ≡ without_one entry.id table.reserved
      → HoldsBack parity births space later group gone
      → Gains left ranges (range_of parity births entry)
      → AreUnderWay (with_parts parity births table space) ranges
      → AreUnderWay (with_parts parity births newer later) left
  ended_under table newer space later entry group gone left ranges step its found change ended
      held gains under =
      let range : PutRange = range_of parity births entry in
      let booked = booked_left table newer left ranges range gains its.reserved ended
      under.reserved in
      record {
        each = λ r listed.
            let was : IsUnderWay (with_parts parity births table space) r =
            under.each r (gains_old left ranges range r gains listed) in
            let beside : ApartPuts range r =
            pairs_beside ApartPuts puts_turned ranges left range r gains under.apart listed in
            record {
              reserved = booked_member newer left r booked listed;
              taken = held_taken parity births space later group gone (put_run r) held
                  (gone_stands parity births table space entry.id gone step found) step.spread
                  (put_clear_of_gone parity births table space entry.id gone r was found) was.taken;
              clear = λ other there. ⊎_elim
                  (λ is. subst (λ (e : IndexEntry). AreClear (put_run r) (run_of parity births e))
                  (sym is) (puts_turned range r beside))
                  (λ old. was.clear other old.0)
                  (put_cases table.entries newer.entries entry other change there);
            };
        apart = pairs_lose ApartPuts puts_turned ranges left range gains under.apart;
        every = λ run listed. ⊎_elim
            (λ block. ⊎_elim
            (λ equal. absurd (not_of_gone table space later group gone block.0 run step block.1 held
            (found ∙ ap (λ (n : ℕ). entry_of table.entries n) (sym equal) ∙ block.1)
            listed block.2))
            (λ differ. inl (block.0, change.others block.0.id differ ∙ block.1, block.2))
            (cases_eq block.0.id entry.id))
            (λ put. ⊎_elim
            (λ is. inl (entry, change.there, ap (λ (r : PutRange). put_run r) is ∙ put.2))
            (λ still. inr (put.0, still, put.2))
            (gains_cases left ranges range put.0 gains put.1))
            (under.every run (was_taken space later group gone run held listed));
        reserved = booked;
      }
