-- A space that is full is tight, and what each step adds to what is in use.
use Rattle.std.proofs.Common.{◌≡◌, ◌⊎◌, inl, inr, ⊎_elim, ℕ, zero, suc, ◌+◌, ◌-◌, ◌*◌, ◌<◌, ◌≤◌, List, [], ◌∷◌, length}
use Rattle.std.proofs.Common.{Option, Some, None, refl, ◌∙◌, ap, subst, arith}
use Rattle.std.specs.Prelude.{AllPairs, Contains, map, sum_by}
use Rattle.std.proofs.Math.Nat.{add-mul, mul-le-mul_right}
use Rattle.std.proofs.lemmas.Bool.{cases_lt}
use Rattle.std.proofs.lemmas.List.{length-map}
use Rattle.std.proofs.lemmas.List.Elements.{All-contains, Contains-append_left, Contains-append_right}
use Rattle.std.proofs.lemmas.List.Sums.{sum_by-append, sum_by-cons, sum-map, sum_by-le-sum_by}
use Rattle.width_map.specs.declared.birth.Birth.{Birth}
use Rattle.row_layout.specs.Layout.{allocated_of}
use Rattle.space_alloc.specs.Space.{Run, HeldRun, Space, HasNoFreeRun, Gains, IsTaking, IsDropping, IsHolding}
use Rattle.block_record.specs.declared.entry.IndexEntry.{IndexEntry}
use Rattle.core_state.specs.Index.{layout_of}
use Rattle.core_blocks.specs.Runs.{AreClear, held_sectors}
use Rattle.core_blocks.specs.Blocks.{run_of}
use Rattle.core_blocks.specs.Loading.{IsTakenBy}
use Rattle.core_blocks.specs.Puts.{HoldsBack}
use Rattle.core_blocks.specs.Usage.{runs_in_use, sectors_in, UsesAtMost, AddsAtMost, IsTight}
use Rattle.core_blocks.proofs.Lists.{first_listed, rest_listed, listed_cases, none_listed, gains_cases, head_pairs}
use Rattle.core_blocks.proofs.Lists.{tail_pairs}
use Rattle.core_blocks.proofs.Runs.{clear_turned, not_itself}

-- One of the runs has a sector of this range.
abbrev IsMet : List Run → ℕ → ℕ → Type 0
IsMet runs start len =
    (run : Run) × Contains runs run × (run.start < start + len) × (start < run.start + run.len)

-- None has.
abbrev IsUnmet : List Run → ℕ → ℕ → Type 0
IsUnmet runs start len = (run : Run) → Contains runs run → run.start < start + len → start < run.start + run.len → ⊥

one_met : (run : Run) (start len : ℕ)
    → ((run.start < start + len) × (start < run.start + run.len))
    ⊎ ((run.start < start + len → start < run.start + run.len → ⊥))
one_met run start len = ⊎_elim
    (λ begins. ⊎_elim (λ ends. inl (begins, ends))
    (λ past. inr (λ b ends. absurd (omega (arith, past, ends))))
    (cases_lt start (run.start + run.len)))
    (λ past. inr (λ begins e. absurd (omega (arith, past, begins))))
    (cases_lt run.start (start + len))

met_or_not : (runs : List Run) (start len : ℕ) → IsMet runs start len ⊎ IsUnmet runs start len
met_or_not [] start len = inr (λ run listed begins ends. none_listed run listed)
met_or_not (run ∷ runs) start len = ⊎_elim
    (λ here. inl (run, first_listed run runs, here.0, here.1))
    (λ apart. ⊎_elim
    (λ (there : IsMet runs start len). inl (there.0, rest_listed run there.0 runs there.1, there.2, there.3))
    (λ none. inr (λ other listed. ⊎_elim
    (λ same. subst (λ (r : Run). r.start < start + len → start < r.start + r.len → ⊥) same apart)
    (λ rest. none other rest)
    (listed_cases run other runs listed)))
    (met_or_not runs start len))
    (one_met run start len)

-- What a list contains splits it.
split_at : {T : Type 0} (x : T) (xs : List T) → Contains xs x → (others : List T) × Gains others xs x
split_at x [] listed = absurd (none_listed x listed)
split_at {T} x (first ∷ xs) listed = ⊎_elim
    (λ same. (xs, subst (λ (y : T). Gains xs (first ∷ xs) y) same (record { before = []; after = xs; was = refl; is = refl })))
    (λ rest. let found = split_at x xs rest in (
      first ∷ found.0,
      record {
        before = first ∷ found.1.before;
        after = found.1.after;
        was = ap (λ (l : List T). first ∷ l) found.1.was;
        is = ap (λ (l : List T). first ∷ l) found.1.is;
      },
    ))
    (listed_cases first x xs listed)

module _ {T : Type 0} where
  -- A list that gains an item has its weight more,
  gained_sum : (f : T → ℕ) (old new : List T) (x : T) → Gains old new x → sum_by f new ≡ sum_by f old + f x
  gained_sum f old new x gains =
      let is : sum_by f new ≡ sum_by f gains.before + sum_by f (x ∷ gains.after) =
      ap (λ (l : List T). sum_by f l) gains.is ∙ sum_by-append f gains.before (x ∷ gains.after) in
      let was : sum_by f old ≡ sum_by f gains.before + sum_by f gains.after =
      ap (λ (l : List T). sum_by f l) gains.was ∙ sum_by-append f gains.before gains.after in
      let rest : sum_by f (x ∷ gains.after) ≡ f x + sum_by f gains.after = sum_by-cons f x gains.after in
      omega (arith, is, was, rest)

  -- and is one longer.
  ones : (xs : List T) → sum_by (λ (x : T). 1) xs ≡ length xs
  ones [] = refl
  ones (x ∷ xs) =
      let first : sum_by (λ (y : T). 1) (x ∷ xs) ≡ 1 + sum_by (λ (y : T). 1) xs = sum_by-cons (λ (y : T). 1) x xs in
      let rest = ones xs in omega (arith, first, rest)

  gained_length : (old new : List T) (x : T) → Gains old new x → length new ≡ length old + 1
  gained_length old new x gains =
      let more = gained_sum (λ (y : T). 1) old new x gains in
      let now = ones new in let then = ones old in omega (arith, more, now, then)

module _ (len : ℕ) (runs : List Run) (capacity : ℕ)
    (met : (start : ℕ) → start + len ≤ capacity → IsMet runs start len) where
  -- Below a run the others meet each window.
  others_met : (others : List Run) (run : Run) → Gains others runs run → run.start < capacity
      → (start : ℕ) → start + len ≤ run.start → IsMet others start len
  others_met others run gains begins start within =
      let found = met start (omega (arith, within, begins)) in
      ⊎_elim
      (λ same. absurd (let low = found.2 in
      let equal : run.start ≡ found.0.start = ap (λ (r : Run). r.start) same in omega (arith, low, equal, within)))
      (λ rest. (found.0, rest, found.2, found.3))
      (gains_cases others runs run found.0 gains found.1)

  -- Above the run that the highest window meets there is less than a window.
  above_highest : len ≤ capacity → (run : Run) (others : List Run) → Gains others runs run
      → capacity - len < run.start + run.len
      → run.start ≤ sectors_in others + (length others + 1) * (len - 1)
      → capacity ≤ sectors_in runs + (length runs + 1) * (len - 1)
  above_highest room run others gains ends below =
      let long = gained_length others runs run gains in
      let weighs : sectors_in runs ≡ sectors_in others + run.len =
      gained_sum (λ (r : Run). r.len) others runs run gains in
      let product : (length runs + 1) * (len - 1) ≡ (length others + 1) * (len - 1) + 1 * (len - 1) =
      ap (λ (n : ℕ). (n + 1) * (len - 1)) long ∙ add-mul (length others + 1) 1 (len - 1) in
      omega (arith, below, weighs, product, ends, room)

  below_window : capacity < len → capacity ≤ sectors_in runs + (length runs + 1) * (len - 1)
  below_window short =
      let one : 1 * (len - 1) ≤ (length runs + 1) * (len - 1) = mul-le-mul_right (len - 1) (omega arith) in
      omega (arith, short, one)

-- Where each window of a length meets a run, all below the capacity is runs or short gaps.
all_met : (len most : ℕ) (runs : List Run) (capacity : ℕ) → length runs ≤ most
    → ((start : ℕ) → start + len ≤ capacity → IsMet runs start len)
    → capacity ≤ sectors_in runs + (length runs + 1) * (len - 1)
all_met len zero runs capacity few met = ⊎_elim (below_window len runs capacity met)
    (λ room. absurd (let low = (met (capacity - len) (omega (arith, room))).1.1 in omega (arith, few, low)))
    (cases_lt capacity len)
all_met len (suc most) runs capacity few met = ⊎_elim (below_window len runs capacity met)
    (λ room.
    let there = met (capacity - len) (omega (arith, room)) in
    let found = split_at there.0 runs there.1 in
    let long = gained_length found.0 runs there.0 found.1 in
    let begins : there.0.start < capacity = (let low = there.2 in omega (arith, low, room)) in
    above_highest len runs capacity met room there.0 found.0 found.1 there.3
    (all_met len most found.0 there.0.start (omega (arith, few, long))
    (others_met len runs capacity met found.0 there.0 found.1 begins)))
    (cases_lt capacity len)

module _ {X Y : Type 0} (g : X → Y) where
  mapped_listed : (xs : List X) (x : X) → Contains xs x → Contains (map g xs) (g x)
  mapped_listed [] x listed = absurd (none_listed x listed)
  mapped_listed (first ∷ xs) x listed = ⊎_elim
      (λ same. subst (λ (y : X). Contains (g first ∷ map g xs) (g y)) same (first_listed (g first) (map g xs)))
      (λ rest. rest_listed (g first) (g x) (map g xs) (mapped_listed xs x rest))
      (listed_cases first x xs listed)

  mapped_sum : (f : Y → ℕ) (xs : List X) → sum_by f (map g xs) ≡ sum_by (λ (x : X). f (g x)) xs
  mapped_sum f [] = refl
  mapped_sum f (x ∷ xs) =
      let left : sum_by f (g x ∷ map g xs) ≡ f (g x) + sum_by f (map g xs) = sum_by-cons f (g x) (map g xs) in
      let right : sum_by (λ (y : X). f (g y)) (x ∷ xs) ≡ f (g x) + sum_by (λ (y : X). f (g y)) xs =
      sum_by-cons (λ (y : X). f (g y)) x xs in
      let rest = mapped_sum f xs in omega (arith, left, right, rest)

-- A space with no free run of this length is tight for it.
pub full_tight : (space : Space) (sizes : List ℕ) (len : ℕ) → UsesAtMost space sizes → HasNoFreeRun space [] len
    → IsTight space.capacity sizes len
full_tight space sizes len uses full =
    let runs = runs_in_use space in
    let met = all_met len (length runs) runs space.capacity (omega arith) window_met in
    let many : (length runs + 1) * (len - 1) ≤ (length sizes + 1) * (len - 1) =
    mul-le-mul_right (len - 1) (let fewer = uses.runs in omega (arith, fewer)) in
    let sectors = uses.sectors in
    record { tight = omega (arith, met, many, sectors) }
  where
    window_met : (start : ℕ) → start + len ≤ space.capacity → IsMet (runs_in_use space) start len
    window_met start within = ⊎_elim (λ (met : IsMet (runs_in_use space) start len). met)
        (λ none. absurd (full start (λ sector inside. record {
          below = (let high = inside.1 in omega (arith, high, within));
          untaken = λ taken. none taken.0 (Contains-append_left space.taken (map held_sectors space.held) taken.0 taken.1)
              (let low = taken.2.0 in let high = inside.1 in omega (arith, low, high))
              (let low = inside.0 in let high = taken.2.1 in omega (arith, low, high));
          not_held = λ held. none (held_sectors held.0)
              (Contains-append_right space.taken (map held_sectors space.held) (held_sectors held.0)
              (mapped_listed held_sectors space.held held.0 held.1))
              (let low = held.2.0 in let high = inside.1 in omega (arith, low, high))
              (let low = inside.0 in let high = held.2.1 in omega (arith, low, high));
          not_shared = λ shared. none_listed shared.0 shared.1;
        })))
        (met_or_not (runs_in_use space) start len)

-- What the runs in use weigh, those taken and those held back.
module _ (f : Run → ℕ) where
  in_use_sum : (space : Space)
      → sum_by f (runs_in_use space) ≡ sum_by f space.taken + sum_by (λ (held : HeldRun). f (held_sectors held)) space.held
  in_use_sum space = sum_by-append f space.taken (map held_sectors space.held)
      ∙ ap (λ (n : ℕ). sum_by f space.taken + n) (mapped_sum held_sectors f space.held)

  taking_sum : (old new : Space) (start len : ℕ) → IsTaking old new start len
      → sum_by f (runs_in_use new) ≡ sum_by f (runs_in_use old) + f (record { start = start; len = len })
  taking_sum old new start len taking =
      let now = in_use_sum new in let was = in_use_sum old in
      let taken = gained_sum f old.taken new.taken (record { start = start; len = len }) taking.taken in
      let held = ap (λ (l : List HeldRun). sum_by (λ (h : HeldRun). f (held_sectors h)) l) taking.held in
      omega (arith, now, was, taken, held)

  dropping_sum : (old new : Space) (start len : ℕ) → IsDropping old new start len
      → sum_by f (runs_in_use old) ≡ sum_by f (runs_in_use new) + f (record { start = start; len = len })
  dropping_sum old new start len dropping =
      let now = in_use_sum new in let was = in_use_sum old in
      let taken = gained_sum f new.taken old.taken (record { start = start; len = len }) dropping.taken in
      let held = ap (λ (l : List HeldRun). sum_by (λ (h : HeldRun). f (held_sectors h)) l) dropping.held in
      omega (arith, now, was, taken, held)

  holding_sum : (old new : Space) (start len group : ℕ) → IsHolding old new start len group
      → sum_by f (runs_in_use new) ≡ sum_by f (runs_in_use old)
  holding_sum old new start len group holding =
      let now = in_use_sum new in let was = in_use_sum old in
      let taken = gained_sum f new.taken old.taken (record { start = start; len = len }) holding.taken in
      let held = gained_sum (λ (h : HeldRun). f (held_sectors h)) old.held new.held
      (record { start = start; len = len; group = group }) holding.held in
      omega (arith, now, was, taken, held)

-- Each run counts once.
abbrev one_each : Run → ℕ
one_each run = 1

-- What weighs no more, whatever the weights, adds nothing.
adds_by_weight : (old new : Space) → new.capacity ≡ old.capacity
    → ((f : Run → ℕ) → sum_by f (runs_in_use new) ≤ sum_by f (runs_in_use old)) → AddsAtMost old new []
adds_by_weight old new same weighs = record {
  capacity = same;
  runs = (let less = weighs one_each in let now = ones (runs_in_use new) in let was = ones (runs_in_use old) in
      omega (arith, less, now, was));
  sectors = (let less = weighs (λ run. run.len) in omega (arith, less));
}

pub adds_none : (old new : Space) → new ≡ old → AddsAtMost old new []
adds_none old new same = adds_by_weight old new (ap (λ (s : Space). s.capacity) same)
    (λ f. let equal = ap (λ (s : Space). sum_by f (runs_in_use s)) same in omega (arith, equal))

pub adds_held_back : (parity : ℕ) (births : List Birth) (old new : Space) (group : ℕ) (gone : Option IndexEntry)
    → HoldsBack parity births old new group gone → AddsAtMost old new []
adds_held_back parity births old new group None same = adds_none old new same
adds_held_back parity births old new group (Some entry) holding =
    let run = run_of parity births entry in
    adds_by_weight old new holding.capacity
    (λ f. let equal = holding_sum f old new run.start run.len group holding in omega (arith, equal))

-- Nor does one that is taken and given back,
pub adds_taken_back : (old mid new : Space) (start len : ℕ) → IsTaking old mid start len → IsDropping mid new start len
    → AddsAtMost old new []
adds_taken_back old mid new start len taking dropping = adds_by_weight old new (dropping.capacity ∙ taking.capacity)
    (λ f. let more = taking_sum f old mid start len taking in let less = dropping_sum f mid new start len dropping in
    omega (arith, more, less))

pub uses_larger : {T : Type 0} (space : Space) (size larger : T → ℕ) (items : List T)
    → ((item : T) → size item ≤ larger item) → UsesAtMost space (map size items) → UsesAtMost space (map larger items)
uses_larger space size larger items more uses = record {
  runs = (let small = length-map items size in let large = length-map items larger in let few = uses.runs in
      omega (arith, small, large, few));
  sectors = (let small = sum-map size items in let large = sum-map larger items in
      let less = sum_by-le-sum_by size larger items more in let few = uses.sectors in
      omega (arith, small, large, less, few));
}

-- Runs that are clear of each other, each of them of the list, weigh no more than it.
among_sum : (f : Run → ℕ) (runs all : List Run) → ((run : Run) → Contains runs run → 0 < run.len)
    → AllPairs AreClear runs → ((run : Run) → Contains runs run → Contains all run)
    → sum_by f runs ≤ sum_by f all
among_sum f [] all some clear among = omega arith
among_sum f (run ∷ runs) all some clear among =
    let found = split_at run all (among run (first_listed run runs)) in
    let rest = among_sum f runs found.0 (λ other listed. some other (rest_listed run other runs listed))
    (tail_pairs AreClear clear_turned run runs clear)
    (λ other listed. ⊎_elim
    (λ same. absurd (not_itself run other (some run (first_listed run runs))
    (All-contains (AreClear run) runs other (head_pairs AreClear clear_turned run runs clear) listed) same))
    (λ there. there)
    (gains_cases found.0 all run other found.1 (among other (rest_listed run other runs listed)))) in
    let weighs = gained_sum f found.0 all run found.1 in
    let all_of = sum_by-cons f run runs in
    omega (arith, rest, weighs, all_of)

-- A space that an index has taken uses no more than the sizes of its blocks.
pub uses_loaded : (parity : ℕ) (births : List Birth) (capacity : ℕ) (entries : List IndexEntry) (space : Space)
    → IsTakenBy parity births capacity entries space
    → UsesAtMost space (map (λ entry. allocated_of (layout_of parity births entry)) entries)
uses_loaded parity births capacity entries space taken = record {
  runs = (let weighs = bound one_each in let now = ones (runs_in_use space) in let all = ones entries in
      let long = length-map entries (λ entry. allocated_of (layout_of parity births entry)) in
      omega (arith, weighs, now, all, long));
  sectors = (let weighs = bound (λ run. run.len) in
      let total = sum-map (λ entry. allocated_of (layout_of parity births entry)) entries in
      omega (arith, weighs, total));
}
  where
    listed : (run : Run) → Contains space.taken run → Contains (map (run_of parity births) entries) run
    listed run there = let found = taken.only run there in
        subst (λ (r : Run). Contains (map (run_of parity births) entries) r) found.2
        (mapped_listed (run_of parity births) entries found.0 found.1)

    bound : (f : Run → ℕ) → sum_by f (runs_in_use space) ≤ sum_by (λ entry. f (run_of parity births entry)) entries
    bound f =
        let now = in_use_sum f space in
        let none : sum_by (λ (held : HeldRun). f (held_sectors held)) space.held ≡ 0 =
        ap (λ (l : List HeldRun). sum_by (λ (held : HeldRun). f (held_sectors held)) l) taken.held in
        let few = among_sum f space.taken (map (run_of parity births) entries) (λ run there. (taken.spread.inside run there).some)
        taken.spread.taken listed in
        let all = mapped_sum (run_of parity births) f entries in
        omega (arith, now, none, few, all)
