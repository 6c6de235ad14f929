-- A walk over free runs and holds, one look further.
use Rattle.std.proofs.Common.{◌≡◌, ℕ, ◌+◌, ◌-◌, ◌*◌, ◌<◌, ◌≤◌, List, length, take, get_or, max, refl, sym, ◌∙◌, ap}
use Rattle.std.proofs.Common.{subst, arith, inl, inr, ⊎_elim, length-take}
use Rattle.std.specs.Prelude.{Some, None, Option, All, AllPairs, Contains}
use Rattle.std.specs.Option.{unwrap_or}
use Rattle.std.proofs.lemmas.Bool.{cases_lt}
use Rattle.std.proofs.lemmas.List.{get_or-take}
use Rattle.std.proofs.lemmas.List.Elements.{All-more}
use Rattle.range_locks.specs.declared.hold.Hold.{Hold}
use Rattle.range_locks.specs.declared.hold.HoldKind.TheVariants.{Exclusive}
use Rattle.range_locks.specs.Holds.{HasSectors, IsFirstIn, Precedes}
use Rattle.range_locks.specs.Order.{EndsBefore, IsInOrder}
use Rattle.range_locks.proofs.Ordered.{order_precedes}
use Rattle.range_locks.proofs.Searching.{precedes_itself}
use Rattle.space_alloc.specs.declared.walk.Walk.{Walk}
use Rattle.space_alloc.specs.Fit.{HasBegins, HasNoRoom, HasWalked, IsByStart, IsHead, IsHindered, IsHinderedBy}
use Rattle.space_alloc.specs.Fit.{IsLowest, IsRoom, IsRunTo, IsSorted, Spares, first_run, steps_to}
use Rattle.space_alloc.proofs.Counting.{looked_few, run_to}
use Rattle.space_alloc.proofs.Flipping.{rising_weakly}

begins_before : (one later : Hold) → IsInOrder one later → one.lo ≤ later.lo
begins_before one later order = ⊎_elim (λ less. omega (arith, less)) (λ same. omega (arith, same.0)) (order_precedes one later order)

pub shared_by_start : (holds : List Hold) → AllPairs IsInOrder holds → IsByStart holds
shared_by_start holds order i j default before within = begins_before (get_or holds i default) (get_or holds j default) (order i j default before within)

pub exclusive_by_start : (holds : List Hold) → All HasSectors holds → AllPairs EndsBefore holds → IsByStart holds
exclusive_by_start holds some order i j default before within =
    let ends : EndsBefore (get_or holds i default) (get_or holds j default) = order i j default before within in
    let has : HasSectors (get_or holds i default) = some i default (omega (arith, before, within)) in
    omega (arith, ends, has)

-- Of holds by their start, what those that are passed and the next one spare is spared by all.
pub head_spares : (holds : List Hold) (start end at : ℕ) → IsByStart holds → All (λ hold. hold.hi ≤ start) (take at holds)
    → IsHead holds at end None → Spares holds start end
head_spares holds start end at order passed head hold (k, within, is) overlaps = ⊎_elim
    (λ before. let inside : k < length (take at holds) = search (arith, length-take) in
    let ended : (get_or (take at holds) k hold).hi ≤ start = passed k hold inside in
    let same = ap (λ (h : Hold). h.hi) (get_or-take at holds k hold before ∙ is) in
    absurd (omega (arith, ended, same, overlaps.ends)))
    (λ from. let far : end ≤ (get_or holds at hold).lo = head hold (omega (arith, from, within)) in
    let same = ap (λ (h : Hold). h.lo) is in
    ⊎_elim
    (λ later. let order_is : (get_or holds at hold).lo ≤ (get_or holds k hold).lo = order at k hold later within in
    absurd (omega (arith, far, order_is, same, overlaps.begins)))
    (λ rest. let here = ap (λ (n : ℕ). (get_or holds n hold).lo) (omega (arith, rest, from)) in
    let there : (get_or holds at hold).lo ≡ (get_or holds k hold).lo = here in
    absurd (omega (arith, far, there, same, overlaps.begins)))
    (cases_lt at k))
    (cases_lt k at)

-- Holds that end by a start end by a later one, and so may one more.
pub passed_further : (holds : List Hold) (start further : ℕ) → start ≤ further → All (λ hold. hold.hi ≤ start) holds → All (λ hold. hold.hi ≤ further) holds
passed_further holds start further more passed k default within = let ended : (get_or holds k default).hi ≤ start = passed k default within in omega (arith, ended, more)

pub passed_more : (holds : List Hold) (at start further end : ℕ) (hold : Hold) → IsHead holds at end (Some hold) → start ≤ further → hold.hi ≤ further
    → All (λ h. h.hi ≤ start) (take at holds) → All (λ h. h.hi ≤ further) (take (at + 1) holds)
passed_more holds at start further end hold head more ended passed = All-more (λ h. h.hi ≤ further) holds at hold head.0
    (passed_further (take at holds) start further more passed)
    (subst (λ (h : Hold). h.hi ≤ further) (sym (head.1 hold)) ended)

head_listed : (holds : List Hold) (at end : ℕ) (hold : Hold) → IsHead holds at end (Some hold) → Contains holds hold
head_listed holds at end hold head = (at, head.0, head.1 hold)

-- A run that begins later is one still.
run_further : (edges : List ℕ) (capacity start further end next : ℕ) → start ≤ further → IsRunTo edges capacity start end next
    → IsRunTo edges capacity further end next
run_further edges capacity start further end next more run = record {
  odd = run.odd;
  unused = λ sector from. run.unused sector (omega (arith, from, more));
  ends = run.ends;
  behind = run.behind;
}

module _ (edges : List ℕ) (shared exclusive : List Hold) (capacity len : ℕ) (long : 0 < len) (sorted : IsSorted edges shared exclusive) where
  hindered_further : (start further : ℕ) (hindered : Option Hold) → ((other : ℕ) → start ≤ other → other < further → IsRoom edges shared capacity len other → ⊥)
      → IsHindered edges shared exclusive capacity len start hindered → IsHindered edges shared exclusive capacity len further hindered
  hindered_further start further None between none = λ other below room.
      ⊎_elim (λ before. none other before room) (λ from. between other from below room) (cases_lt other start)
  hindered_further start further (Some hold) between is = is

  module _ (walk : Walk) (walked : HasWalked edges shared exclusive capacity len walk) (within : walk.start + len ≤ capacity) where
    -- The run under way is too short: no room begins before the next one.
    no_room_before : walk.end < walk.start + len → (other : ℕ) → walk.start ≤ other → IsRoom edges shared capacity len other
        → (walk.next < length edges) × (walk.end < get_or edges walk.next 0) × (get_or edges walk.next 0 ≤ other)
    no_room_before short other from room = ⊎_elim
        (λ before. let seen = walked.run.behind walk.end (omega arith) (omega (arith, short, within))
        (room.unused walk.end (omega (arith, before), omega (arith, short, from))) in
        absurd (omega (arith, seen.1, seen.2)))
        (λ behind. walked.run.behind other behind (omega (arith, room.within, long)) (room.unused other (omega arith, omega (arith, long))))
        (cases_lt other walk.end)

    seen_more : walk.end < walk.start + len → walk.next < length edges → (edge : ℕ) → edge + 2 < walk.next + 2
        → (edge < length edges) × (get_or edges edge 0 < capacity)
    seen_more short more edge below =
        let last : ℕ = walk.next - 1 in
        let odd = walked.run.odd in
        let is : last + 1 ≡ walk.next = omega (arith, odd) in
        let inside : last < length edges = omega (arith, is, more) in
        let ends : get_or edges last 0 ≡ walk.end = walked.run.ends last is inside in
        let low : get_or edges edge 0 ≤ get_or edges last 0 = rising_weakly edges sorted.edges_rise edge last (omega (arith, is, below)) inside in
        (omega (arith, below, more), omega (arith, low, ends, short, within))

    pub walk_runs : walk.end < walk.start + len → walk.next < length edges → HasWalked edges shared exclusive capacity len (record walk {
      start = max walk.start (get_or edges walk.next 0);
      end = get_or edges (walk.next + 1) capacity;
      next = walk.next + 2;
    })
    walk_runs short more = record {
      run = (let odd = walked.run.odd in
          subst (IsRunTo edges capacity (max walk.start (get_or edges walk.next 0)) (get_or edges (walk.next + 1) capacity)) (omega arith)
          (run_to edges capacity (max walk.start (get_or edges walk.next 0)) (walk.next + 1) sorted.edges_rise (omega (arith, odd)) (omega (arith, more))
          (λ i is. let same : i ≡ walk.next = omega (arith, is) in
          let here = ap (λ (n : ℕ). get_or edges n 0) same in omega (arith, here))));
      seen = seen_more short more;
      none = λ other below room spares. ⊎_elim (λ before. walked.none other before room spares)
          (λ from. let seen = no_room_before short other from room in absurd (omega (arith, seen.2, below, from))) (cases_lt other walk.start);
      hindered = hindered_further walk.start _ walk.hindered
          (λ other from below room. let seen = no_room_before short other from room in omega (arith, seen.2, below, from)) walked.hindered;
      shared_within = walked.shared_within;
      exclusive_within = walked.exclusive_within;
      shared_passed = passed_further _ walk.start _ (omega arith) walked.shared_passed;
      exclusive_passed = passed_further _ walk.start _ (omega arith) walked.exclusive_passed;
    }

    -- There is no next one: no room is left.
    pub walk_ends : walk.end < walk.start + len → length edges ≤ walk.next → HasWalked edges shared exclusive capacity len (record walk { start = capacity })
    walk_ends short all = record {
      run = run_further edges capacity walk.start capacity walk.end walk.next (omega (arith, within)) walked.run;
      seen = walked.seen;
      none = λ other below room spares. ⊎_elim (λ before. walked.none other before room spares)
          (λ from. let seen = no_room_before short other from room in absurd (omega (arith, seen.0, all))) (cases_lt other walk.start);
      hindered = hindered_further walk.start capacity walk.hindered
          (λ other from below room. let seen = no_room_before short other from room in omega (arith, seen.0, all)) walked.hindered;
      shared_within = walked.shared_within;
      exclusive_within = walked.exclusive_within;
      shared_passed = passed_further _ walk.start capacity (omega (arith, within)) walked.shared_passed;
      exclusive_passed = passed_further _ walk.start capacity (omega (arith, within)) walked.exclusive_passed;
    }

    -- A shared hold begins too low: no room begins before its end.
    pub walk_shared : (hold : Hold) → IsHead shared walk.shared (walk.start + len) (Some hold)
        → HasWalked edges shared exclusive capacity len (record walk { start = max walk.start hold.hi; shared = walk.shared + 1 })
    walk_shared hold head = record {
      run = run_further edges capacity walk.start (max walk.start hold.hi) walk.end walk.next (omega arith) walked.run;
      seen = walked.seen;
      none = λ other below room spares. ⊎_elim (λ before. walked.none other before room spares)
          (λ from. absurd (met other from below room)) (cases_lt other walk.start);
      hindered = hindered_further walk.start (max walk.start hold.hi) walk.hindered met walked.hindered;
      shared_within = (let inside = head.0 in omega (arith, inside));
      exclusive_within = walked.exclusive_within;
      shared_passed = passed_more shared walk.shared walk.start (max walk.start hold.hi) (walk.start + len) hold head (omega arith) (omega arith) walked.shared_passed;
      exclusive_passed = passed_further _ walk.start (max walk.start hold.hi) (omega arith) walked.exclusive_passed;
    }
      where
        met : (other : ℕ) → walk.start ≤ other → other < max walk.start hold.hi → IsRoom edges shared capacity len other → ⊥
        met other from below room = room.spares hold (head_listed shared walk.shared (walk.start + len) hold head)
            (record { begins = (let begins = head.2 in omega (arith, begins, from)); ends = omega (arith, below, from) })

    -- The free run is long enough, and no shared hold is in the way.
    pub room_here : walk.start + len ≤ walk.end → IsHead shared walk.shared (walk.start + len) None → IsRoom edges shared capacity len walk.start
    room_here enough head = record {
      within = within;
      unused = λ sector inside. walked.run.unused sector inside.0 (omega (arith, inside, enough));
      spares = head_spares shared walk.start (walk.start + len) walk.shared (shared_by_start shared sorted.shared_order) walked.shared_passed head;
    }

    -- No exclusive hold is in the way either.
    pub walk_found : walk.start + len ≤ walk.end → IsHead shared walk.shared (walk.start + len) None → IsHead exclusive walk.exclusive (walk.start + len) None
        → IsLowest edges shared exclusive capacity len walk.start
    walk_found enough head other_head = record {
      room = room_here enough head;
      clear = head_spares exclusive walk.start (walk.start + len) walk.exclusive
          (exclusive_by_start exclusive sorted.exclusive_some sorted.exclusive_order) walked.exclusive_passed other_head;
      none = walked.none;
    }

    -- An exclusive hold that ended is passed.
    pub walk_passes : (hold : Hold) → IsHead exclusive walk.exclusive (walk.start + len) (Some hold) → hold.hi ≤ walk.start
        → HasWalked edges shared exclusive capacity len (record walk { exclusive = walk.exclusive + 1 })
    walk_passes hold head ended = record {
      run = walked.run;
      seen = walked.seen;
      none = walked.none;
      hindered = walked.hindered;
      shared_within = walked.shared_within;
      exclusive_within = (let inside = head.0 in omega (arith, inside));
      shared_passed = walked.shared_passed;
      exclusive_passed = passed_more exclusive walk.exclusive walk.start walk.start (walk.start + len) hold head (omega arith) ended walked.exclusive_passed;
    }

    -- The first in the way of a room here.
    first_here : (hold : Hold) → IsHead exclusive walk.exclusive (walk.start + len) (Some hold) → walk.start < hold.hi
        → IsFirstIn exclusive walk.start (walk.start + len) Exclusive hold
    first_here hold head ends = record {
      listed = head_listed exclusive walk.exclusive (walk.start + len) hold head;
      blocks = record { overlaps = record { begins = head.2; ends = ends }; exclusive = inr refl };
      lowest = λ other (k, inside, is) blocks. ⊎_elim
          (λ before. let short : k < length (take walk.exclusive exclusive) = search (arith, length-take) in
          let ended : (get_or (take walk.exclusive exclusive) k other).hi ≤ walk.start = walked.exclusive_passed k other short in
          let same = ap (λ (h : Hold). h.hi) (get_or-take walk.exclusive exclusive k other before ∙ is) in
          absurd (omega (arith, ended, same, blocks.overlaps.ends)))
          (λ from. ⊎_elim
          (λ later. let order : EndsBefore (get_or exclusive walk.exclusive other) (get_or exclusive k other) = sorted.exclusive_order walk.exclusive k other later inside in
          let some : HasSectors (get_or exclusive walk.exclusive other) = sorted.exclusive_some walk.exclusive other head.0 in
          let mine = ap (λ (h : Hold). h.lo) (head.1 other) in
          let theirs = ap (λ (h : Hold). h.lo) is in
          inl (omega (arith, order, some, mine, theirs)))
          (λ rest. let same : walk.exclusive ≡ k = omega (arith, rest, from) in
          subst (Precedes hold) (sym (head.1 other) ∙ ap (λ (n : ℕ). get_or exclusive n other) same ∙ is) (precedes_itself hold))
          (cases_lt walk.exclusive k))
          (cases_lt k walk.exclusive);
    }

    hinders : (hindered : Option Hold) (hold : Hold) → IsRoom edges shared capacity len walk.start → IsFirstIn exclusive walk.start (walk.start + len) Exclusive hold
        → IsHindered edges shared exclusive capacity len walk.start hindered → IsHinderedBy edges shared exclusive capacity len (unwrap_or hindered hold)
    hinders None hold room first none = record {
      start = walk.start;
      room = room;
      lowest = λ other fits. ⊎_elim (λ less. absurd (none other less fits)) (λ most. most) (cases_lt other walk.start);
      first = first;
    }
    hinders (Some earlier) hold room first is = is

    -- An exclusive hold hinders the room here: none is clear before its end.
    pub walk_hinders : (hold : Hold) → walk.start + len ≤ walk.end → IsHead shared walk.shared (walk.start + len) None
        → IsHead exclusive walk.exclusive (walk.start + len) (Some hold) → walk.start < hold.hi
        → HasWalked edges shared exclusive capacity len (record walk {
          start = hold.hi;
          exclusive = walk.exclusive + 1;
          hindered = Some (unwrap_or walk.hindered hold);
        })
    walk_hinders hold enough head met ends = record {
      run = run_further edges capacity walk.start hold.hi walk.end walk.next (omega (arith, ends)) walked.run;
      seen = walked.seen;
      none = λ other below room spares. ⊎_elim (λ before. walked.none other before room spares)
          (λ from. spares hold (head_listed exclusive walk.exclusive (walk.start + len) hold met)
          (record { begins = (let begins = met.2 in omega (arith, begins, from)); ends = below })) (cases_lt other walk.start);
      hindered = hinders walk.hindered hold (room_here enough head) (first_here hold met ends) walked.hindered;
      shared_within = walked.shared_within;
      exclusive_within = (let inside = met.0 in omega (arith, inside));
      shared_passed = passed_further _ walk.start hold.hi (omega (arith, ends)) walked.shared_passed;
      exclusive_passed = passed_more exclusive walk.exclusive walk.start hold.hi (walk.start + len) hold met (omega (arith, ends)) (omega arith) walked.exclusive_passed;
    }

    -- Either way it has walked.
    pub walk_next : (next : Walk) → walk.end < walk.start + len
        → (walk.next < length edges → next ≡ record walk {
          start = max walk.start (get_or edges walk.next 0);
          end = get_or edges (walk.next + 1) capacity;
          next = walk.next + 2;
        })
        → (length edges ≤ walk.next → next ≡ record walk { start = capacity }) → HasWalked edges shared exclusive capacity len next
    walk_next next short run none = ⊎_elim
        (λ more. subst (HasWalked edges shared exclusive capacity len) (sym (run more)) (walk_runs short more))
        (λ all. subst (HasWalked edges shared exclusive capacity len) (sym (none all)) (walk_ends short all)) (cases_lt walk.next (length edges))

    pub walk_pass : (next : Walk) (hold : Hold) → walk.start + len ≤ walk.end → IsHead shared walk.shared (walk.start + len) None
        → IsHead exclusive walk.exclusive (walk.start + len) (Some hold) → (hold.hi ≤ walk.start → next ≡ record walk { exclusive = walk.exclusive + 1 })
        → (walk.start < hold.hi → next ≡ record walk {
          start = hold.hi;
          exclusive = walk.exclusive + 1;
          hindered = Some (unwrap_or walk.hindered hold);
        })
        → HasWalked edges shared exclusive capacity len next
    walk_pass next hold enough head met ended hindered = ⊎_elim
        (λ ends. subst (HasWalked edges shared exclusive capacity len) (sym (hindered ends)) (walk_hinders hold enough head met ends))
        (λ passed. subst (HasWalked edges shared exclusive capacity len) (sym (ended passed)) (walk_passes hold met passed)) (cases_lt walk.start hold.hi)

  -- At the first free run none is below.
  pub walk_begins : HasWalked edges shared exclusive capacity len (record {
    start = 0;
    end = get_or edges 0 capacity;
    next = 1;
    shared = 0;
    exclusive = 0;
    hindered = None;
  })
  walk_begins = record {
    run = run_to edges capacity 0 0 sorted.edges_rise refl (omega arith) (λ i is. absurd (omega (arith, is)));
    seen = λ edge below. absurd (omega (arith, below));
    none = λ other below room spares. omega (arith, below);
    hindered = λ other below room. omega (arith, below);
    shared_within = omega arith;
    exclusive_within = omega arith;
    shared_passed = λ k default within. absurd (omega (arith, within));
    exclusive_passed = λ k default within. absurd (omega (arith, within));
  }

  none_is_left : (walk : Walk) (hindered : Option Hold) → HasWalked edges shared exclusive capacity len walk → capacity < walk.start + len
      → IsHindered edges shared exclusive capacity len walk.start hindered → HasNoRoom edges shared exclusive capacity len hindered
  none_is_left walk None walked over none = λ other room. none other (let ends = room.within in omega (arith, ends, over)) room
  none_is_left walk (Some hold) walked over is =
      (is, λ other room spares. walked.none other (let ends = room.within in omega (arith, ends, over)) room spares)

  -- Past the last start there is no room.
  pub walk_over : (walk : Walk) → HasWalked edges shared exclusive capacity len walk → capacity < walk.start + len
      → HasNoRoom edges shared exclusive capacity len walk.hindered
  walk_over walk walked over = none_is_left walk walk.hindered walked over walked.hindered

  -- The steps that lead to a walk are few, and so are they with a last look at both heads.
  pub steps_over : (walk : Walk) (before now : ℕ) (begins : List ℕ) → 0 < capacity → HasWalked edges shared exclusive capacity len walk
      → HasBegins edges capacity begins → now ≤ before + first_run edges capacity + steps_to walk
      → now ≤ before + 2 * (length begins + (length shared + length exclusive)) + 1
  steps_over walk before now begins some walked all few =
      let looked = looked_few edges capacity walk.next begins sorted.edges_rise some walked.run.odd walked.seen all in
      let shared_few = walked.shared_within in
      let exclusive_few = walked.exclusive_within in
      omega (arith, looked, shared_few, exclusive_few, few)

  pub steps_found : (walk : Walk) (before between now : ℕ) (begins : List ℕ) → 0 < capacity → HasWalked edges shared exclusive capacity len walk
      → HasBegins edges capacity begins → between ≤ before + first_run edges capacity + steps_to walk
      → now + walk.shared + walk.exclusive ≤ between + length shared + length exclusive
      → now ≤ before + 2 * (length begins + (length shared + length exclusive)) + 1
  steps_found walk before between now begins some walked all few last =
      let looked = looked_few edges capacity walk.next begins sorted.edges_rise some walked.run.odd walked.seen all in
      let shared_few = walked.shared_within in
      let exclusive_few = walked.exclusive_within in
      omega (arith, looked, shared_few, exclusive_few, few, last)
