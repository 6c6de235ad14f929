-- Each step leaves the table and the space in step.
use Rattle.std.proofs.Common.{◌≡◌, ◌≢◌, ℕ, ◌<◌, List, refl, sym, ◌∙◌, ap, subst, arith, ⊎_elim, Some, None, true}
use Rattle.std.specs.Prelude.{Contains, Option, IfSome, nat_eq}
use Rattle.std.specs.Set.{is_member}
use Rattle.width_map.specs.declared.birth.Birth.{Birth}
use Rattle.range_locks.specs.declared.hold.Hold.{Hold}
use Rattle.space_alloc.specs.Space.{Run, Space, IsFreeRun, IsTaking, IsDropping, after_group}
use Rattle.block_record.specs.declared.entry.IndexEntry.{IndexEntry}
use Rattle.block_record.specs.Page.{IsRightEntry}
use Rattle.block_table.specs.Table.{Table, ChangesOnly, entry_of}
use Rattle.core_blocks.specs.declared.range.PutRange.{PutRange}
use Rattle.core_blocks.specs.Runs.{AreClear, AreSpread, IsInside}
use Rattle.core_blocks.specs.Blocks.{Blocks, AreInStep, IsListed, IsStanding, IsUnderWay, put_run, range_of, run_of}
use Rattle.core_blocks.specs.Puts.{HoldsBack}
use Rattle.core_blocks.proofs.Lists.{gains_old}
use Rattle.core_blocks.proofs.Runs.{clear_turned, free_of_taken, spread_taking, spread_dropping, spread_holding}
use Rattle.core_blocks.proofs.Runs.{spread_after, stays_taken}
use Rattle.core_blocks.proofs.Listed.{found_id, found_listed, put_cases, left_cases}

module _ (parity : ℕ) (births : List Birth) where
  -- the blocks with this table and this space
  abbrev pub with_parts : Table → Space → Blocks
  with_parts table space =
      record { parity = parity; births = births; table = table; space = space }

  -- Fewer blocks, or none less, each with its sectors as before.
  fewer : (table newer : Table) (space later : Space) → AreInStep (with_parts table space)
      → later.capacity ≡ space.capacity → AreSpread later
      → ((entry : IndexEntry) → IsListed newer.entries entry
      → IsListed table.entries entry × Contains later.taken (run_of parity births entry))
      → AreInStep (with_parts newer later)
  fewer table newer space later step capacity spread left = record {
    layouts = step.layouts;
    small = omega (arith, step.small, capacity);
    spread = spread;
    each = λ entry listed. record {
      right = (step.each entry (left entry listed).0).right;
      start = (step.each entry (left entry listed).0).start;
      taken = (left entry listed).1;
    };
    apart = λ one other listed also differ.
        step.apart one other (left one listed).0 (left other also).0 differ;
  }

  pub same_listed : (table newer : Table) (entry : IndexEntry) → newer.entries ≡ table.entries
      → IsListed newer.entries entry → IsListed table.entries entry
  same_listed table newer entry same listed =
      subst (λ (entries : List IndexEntry). IsListed entries entry) same listed

  -- A put begins.
  pub begun_step : (table newer : Table) (space later : Space) (holds : List Hold) (run : Run)
      → 0 < run.len → AreInStep (with_parts table space) → newer.entries ≡ table.entries
      → IsFreeRun space holds run.start run.len → IsTaking space later run.start run.len
      → AreInStep (with_parts newer later)
  begun_step table newer space later holds run some step same free taking =
      fewer table newer space later step taking.capacity
      (spread_taking space later holds run some free taking step.spread)
      (λ entry listed. let was = same_listed table newer entry same listed in (
        was,
        gains_old space.taken later.taken run (run_of parity births entry) taking.taken
            (step.each entry was).taken,
      ))

  -- From then on it is under way.
  pub begun_under_way : (table newer : Table) (space later : Space) (holds : List Hold)
      (range : PutRange) → AreInStep (with_parts table space) → newer.entries ≡ table.entries
      → (let run : Run = put_run range in IsFreeRun space holds run.start run.len)
      → Contains later.taken (put_run range) → is_member nat_eq newer.reserved range.id ≡ true
      → IsUnderWay (with_parts newer later) range
  begun_under_way table newer space later holds range step same free listed reserved = record {
    reserved = reserved;
    taken = listed;
    clear = λ entry found. free_of_taken space holds (put_run range) free
        (run_of parity births entry)
        (step.each entry (same_listed table newer entry same found)).taken;
  }

  -- A refusal leaves the entries and the space.
  pub refused_step : (table newer : Table) (space later : Space)
      → AreInStep (with_parts table space) → newer.entries ≡ table.entries → later ≡ space
      → AreInStep (with_parts newer later)
  refused_step table newer space later step same unchanged =
      subst (λ (s : Space). AreInStep (with_parts newer s)) (sym unchanged)
      (fewer table newer space space step refl step.spread
      (λ entry listed. let was = same_listed table newer entry same listed in
      (was, (step.each entry was).taken)))

  -- A put is given up.
  pub given_up_step : (table newer : Table) (space later : Space) (range : PutRange)
      → AreInStep (with_parts table space) → newer.entries ≡ table.entries
      → IsUnderWay (with_parts table space) range
      → (let run : Run = put_run range in IsDropping space later run.start run.len)
      → AreInStep (with_parts newer later)
  given_up_step table newer space later range step same under_way dropping =
      fewer table newer space later step dropping.capacity
      (spread_dropping space later (put_run range) dropping step.spread)
      (λ entry listed. let was = same_listed table newer entry same listed in (
        was,
        stays_taken space.taken later.taken (put_run range) (run_of parity births entry)
            dropping.taken (step.spread.inside (put_run range) under_way.taken).some
            (under_way.clear entry was) (step.each entry was).taken,
      ))

  -- A group is answered.
  pub answered_step : (table : Table) (space : Space) (group : ℕ)
      → AreInStep (with_parts table space) → AreInStep (with_parts table (after_group space group))
  answered_step table space group step =
      fewer table table space (after_group space group) step refl
      (spread_after space group step.spread)
      (λ entry listed. (listed, (step.each entry listed).taken))

  -- What stood at an id, if anything, has its sectors.
  pub gone_stands : (table : Table) (space : Space) (id : ℕ) (gone : Option IndexEntry)
      → AreInStep (with_parts table space) → gone ≡ entry_of table.entries id
      → IfSome gone (IsStanding parity births space)
  gone_stands table space id None step found = tt
  gone_stands table space id (Some entry) step found =
      step.each entry (found_listed table.entries id entry (sym found))

  -- Where the sectors of what is gone are held back, the runs stay spread,
  held_spread : (space later : Space) (group : ℕ) (gone : Option IndexEntry)
      → HoldsBack parity births space later group gone → AreSpread space
      → (later.capacity ≡ space.capacity) × AreSpread later
  held_spread space later group None same spread =
      (ap (λ (s : Space). s.capacity) same, subst AreSpread (sym same) spread)
  held_spread space later group (Some entry) holding spread = (
    holding.capacity,
    spread_holding space later (run_of parity births entry) group holding spread,
  )

  -- and one that is clear of them is still taken.
  pub held_taken : (space later : Space) (group : ℕ) (gone : Option IndexEntry) (run : Run)
      → HoldsBack parity births space later group gone
      → IfSome gone (IsStanding parity births space) → AreSpread space
      → IfSome gone (λ entry. AreClear (run_of parity births entry) run) → Contains space.taken run
      → Contains later.taken run
  held_taken space later group None run same stood spread clear listed =
      subst (λ (s : Space). Contains s.taken run) (sym same) listed
  held_taken space later group (Some entry) run holding stood spread clear listed =
      stays_taken space.taken later.taken (run_of parity births entry) run holding.taken
      (spread.inside (run_of parity births entry) stood.taken).some clear listed

  -- Another block is clear of it,
  clear_of_gone : (table : Table) (space : Space) (id : ℕ) (gone : Option IndexEntry)
      (other : IndexEntry) → AreInStep (with_parts table space)
      → gone ≡ entry_of table.entries id → IsListed table.entries other → other.id ≢ id
      → IfSome gone (λ entry. AreClear (run_of parity births entry) (run_of parity births other))
  clear_of_gone table space id None other step found listed differ = tt
  clear_of_gone table space id (Some entry) other step found listed differ =
      step.apart entry other (found_listed table.entries id entry (sym found)) listed
      (λ same. differ (sym same ∙ found_id table.entries id entry (sym found)))

  -- and so is the range of a put under way.
  pub put_clear_of_gone : (table : Table) (space : Space) (id : ℕ) (gone : Option IndexEntry)
      (range : PutRange) → IsUnderWay (with_parts table space) range
      → gone ≡ entry_of table.entries id
      → IfSome gone (λ entry. AreClear (run_of parity births entry) (put_run range))
  put_clear_of_gone table space id None range under_way found = tt
  put_clear_of_gone table space id (Some entry) range under_way found =
      clear_turned (put_run range) (run_of parity births entry)
      (under_way.clear entry (found_listed table.entries id entry (sym found)))

  -- A block is removed.
  pub removed_step : (table newer : Table) (space later : Space) (id group : ℕ)
      (gone : Option IndexEntry) → AreInStep (with_parts table space)
      → gone ≡ entry_of table.entries id → ChangesOnly table.entries newer.entries id None
      → HoldsBack parity births space later group gone → AreInStep (with_parts newer later)
  removed_step table newer space later id group gone step found change held =
      let spread = held_spread space later group gone held step.spread in
      fewer table newer space later step spread.0 spread.1
      (λ entry listed. let was = left_cases table.entries newer.entries id entry change listed in (
        was.0,
        held_taken space later group gone (run_of parity births entry) held
            (gone_stands table space id gone step found) step.spread
            (clear_of_gone table space id gone entry step found was.0 was.1)
            (step.each entry was.0).taken,
      ))

  -- A put ends.
  module _ (table newer : Table) (space later : Space) (entry : IndexEntry) (group : ℕ)
      (gone : Option IndexEntry) (step : AreInStep (with_parts table space))
      (right : IsRightEntry entry)
      (under_way : IsUnderWay (with_parts table space) (range_of parity births entry))
      (found : gone ≡ entry_of table.entries entry.id)
      (change : ChangesOnly table.entries newer.entries entry.id (Some entry))
      (held : HoldsBack parity births space later group gone) where
    stands_new : IsStanding parity births later entry
    stands_new =
        let inside : IsInside space.capacity (run_of parity births entry) =
        step.spread.inside (run_of parity births entry) under_way.taken in
        record {
          right = right;
          start = omega (arith, inside.some, inside.below, step.small);
          taken = held_taken space later group gone (run_of parity births entry) held
              (gone_stands table space entry.id gone step found) step.spread
              (put_clear_of_gone table space entry.id gone (range_of parity births entry) under_way
              found)
              under_way.taken;
        }

    stands_old : (other : IndexEntry) → IsListed table.entries other → other.id ≢ entry.id
        → IsStanding parity births later other
    stands_old other listed differ = record {
      right = (step.each other listed).right;
      start = (step.each other listed).start;
      taken = held_taken space later group gone (run_of parity births other) held
          (gone_stands table space entry.id gone step found) step.spread
          (clear_of_gone table space entry.id gone other step found listed differ)
          (step.each other listed).taken;
    }

    stands_all : (other : IndexEntry) → IsListed newer.entries other
        → IsStanding parity births later other
    stands_all other listed = ⊎_elim
        (λ same. subst (IsStanding parity births later) (sym same) stands_new)
        (λ was. stands_old other was.0 was.1)
        (put_cases table.entries newer.entries entry other change listed)

    clear_of_new : (other : IndexEntry) → IsListed newer.entries other → other.id ≢ entry.id
        → AreClear (run_of parity births entry) (run_of parity births other)
    clear_of_new other listed differ = ⊎_elim
        (λ same. absurd (differ (ap (λ (e : IndexEntry). e.id) same)))
        (λ was. under_way.clear other was.0)
        (put_cases table.entries newer.entries entry other change listed)

    all_apart : (one other : IndexEntry) → IsListed newer.entries one
        → IsListed newer.entries other → one.id ≢ other.id
        → AreClear (run_of parity births one) (run_of parity births other)
    all_apart one other listed also differ = ⊎_elim
        (λ same. let is : one.id ≡ entry.id = ap (λ (e : IndexEntry). e.id) same in
        subst (λ (e : IndexEntry). AreClear (run_of parity births e) (run_of parity births other))
        (sym same) (clear_of_new other also (λ equal. differ (is ∙ sym equal))))
        (λ was. ⊎_elim
        (λ same. subst
        (λ (e : IndexEntry). AreClear (run_of parity births one) (run_of parity births e))
        (sym same)
        (clear_turned (run_of parity births entry) (run_of parity births one)
        (clear_of_new one listed was.1)))
        (λ had. step.apart one other was.0 had.0 differ)
        (put_cases table.entries newer.entries entry other change also))
        (put_cases table.entries newer.entries entry one change listed)

    pub ended_step : AreInStep (with_parts newer later)
    ended_step =
        let spread = held_spread space later group gone held step.spread in
        record {
          layouts = step.layouts;
          small = omega (arith, step.small, spread.0);
          spread = spread.1;
          each = stands_all;
          apart = all_apart;
        }
