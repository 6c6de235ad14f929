-- The runs in use stay spread over each step of the space.
use Rattle.std.proofs.Common.{◌≡◌, ◌⊎◌, ℕ, ◌+◌, ◌-◌, ◌<◌, ◌≤◌, List, sym, subst, arith, inl, inr, ⊎_elim}
use Rattle.std.specs.Prelude.{AllPairs, Contains, nat_lt}
use Rattle.std.proofs.lemmas.Bool.{cases_lt}
use Rattle.range_locks.specs.declared.hold.Hold.{Hold}
use Rattle.space_alloc.specs.Space.{Run, HeldRun, Space, IsIn, IsFreeRun, Gains, IsTaking, IsDropping, IsHolding}
use Rattle.space_alloc.specs.Space.{after_group}
use Rattle.range_locks.proofs.Pairs.{all_pairs_filter}
use Rattle.core_blocks.specs.Runs.{AreClear, AreSpread, IsInside, held_sectors}
use Rattle.core_blocks.proofs.Lists.{gains_old, gains_cases, gains_item, filter_was, pairs_gain, pairs_lose}
use Rattle.core_blocks.proofs.Lists.{pairs_beside}

pub clear_turned : (one other : Run) → AreClear one other → AreClear other one
clear_turned one other clear sector in_other in_one = clear sector in_one in_other

held_turned : (one other : HeldRun) → AreClear (held_sectors one) (held_sectors other)
    → AreClear (held_sectors other) (held_sectors one)
held_turned one other clear = clear_turned (held_sectors one) (held_sectors other) clear

-- A run with a sector isn't clear of itself.
pub not_itself : (one other : Run) → 0 < one.len → AreClear one other → one ≡ other → ⊥
not_itself one other some clear same =
    clear one.start (omega arith, omega (arith, some))
    (subst (λ (run : Run). IsIn run.start run.len one.start) same
    (omega arith, omega (arith, some)))

-- Of two runs that are clear, and have sectors, one ends before the other begins.
pub in_order : (one other : Run) → 0 < one.len → 0 < other.len → AreClear one other
    → (one.start + one.len ≤ other.start) ⊎ (other.start + other.len ≤ one.start)
in_order one other some filled clear = ⊎_elim
    (λ begins. ⊎_elim
    (λ ends. absurd (⊎_elim
    (λ lower. clear other.start (omega (arith, lower), begins) (omega arith, omega (arith, filled)))
    (λ higher. clear one.start (omega arith, omega (arith, some)) (higher, ends))
    (cases_lt one.start other.start)))
    (λ past. inr past) (cases_lt one.start (other.start + other.len)))
    (λ past. inl past) (cases_lt other.start (one.start + one.len))

-- Free sectors are clear of each run in use.
module _ (space : Space) (holds : List Hold) (run : Run)
    (free : IsFreeRun space holds run.start run.len) where
  pub free_of_taken : (other : Run) → Contains space.taken other → AreClear run other
  free_of_taken other listed sector inside there =
      (free sector inside).untaken (other, listed, there)

  pub free_of_held : (held : HeldRun) → Contains space.held held → AreClear run (held_sectors held)
  free_of_held held listed sector inside there =
      (free sector inside).not_held (held, listed, there)

  pub free_inside : 0 < run.len → IsInside space.capacity run
  free_inside some =
      let last : run.start + run.len - 1 < space.capacity =
      (free (run.start + run.len - 1) (omega (arith, some), omega (arith, some))).below in
      record { some = some; below = omega (arith, last) }

inside_of : (capacity other : ℕ) (run : Run) → other ≡ capacity → IsInside capacity run
    → IsInside other run
inside_of capacity other run same inside =
    subst (λ (most : ℕ). IsInside most run) (sym same) inside

-- A free run is taken.
pub spread_taking : (old new : Space) (holds : List Hold) (run : Run) → 0 < run.len
    → IsFreeRun old holds run.start run.len → IsTaking old new run.start run.len → AreSpread old
    → AreSpread new
spread_taking old new holds run some free taking spread = record {
  inside = λ other listed. inside_of old.capacity new.capacity other taking.capacity (⊎_elim
      (λ same. subst (IsInside old.capacity) same (free_inside old holds run free some))
      (λ was. spread.inside other was)
      (gains_cases old.taken new.taken run other taking.taken listed));
  taken = pairs_gain AreClear clear_turned old.taken new.taken run taking.taken
      (free_of_taken old holds run free) spread.taken;
  held = subst (λ (held : List HeldRun). AllPairs (λ one other.
      AreClear (held_sectors one) (held_sectors other)) held) (sym taking.held) spread.held;
  between = λ other held listed back.
      let was : Contains old.held held =
      subst (λ (all : List HeldRun). Contains all held) taking.held back in
      ⊎_elim
      (λ same. subst (λ (r : Run). AreClear r (held_sectors held)) same
      (free_of_held old holds run free held was))
      (λ still. spread.between other held still was)
      (gains_cases old.taken new.taken run other taking.taken listed);
}

-- A taken run is dropped.
pub spread_dropping : (old new : Space) (run : Run) → IsDropping old new run.start run.len
    → AreSpread old → AreSpread new
spread_dropping old new run dropping spread = record {
  inside = λ other listed. inside_of old.capacity new.capacity other dropping.capacity
      (spread.inside other (gains_old new.taken old.taken run other dropping.taken listed));
  taken = pairs_lose AreClear clear_turned old.taken new.taken run dropping.taken spread.taken;
  held = subst (λ (held : List HeldRun). AllPairs (λ one other.
      AreClear (held_sectors one) (held_sectors other)) held) (sym dropping.held) spread.held;
  between = λ other held listed back. spread.between other held
      (gains_old new.taken old.taken run other dropping.taken listed)
      (subst (λ (all : List HeldRun). Contains all held) dropping.held back);
}

-- A taken run is held back.
pub spread_holding : (old new : Space) (run : Run) (group : ℕ)
    → IsHolding old new run.start run.len group → AreSpread old → AreSpread new
spread_holding old new run group holding spread =
    let back : HeldRun = record { start = run.start; len = run.len; group = group } in
    let was_taken : Contains old.taken run = gains_item new.taken old.taken run holding.taken in
    record {
      inside = λ other listed. inside_of old.capacity new.capacity other holding.capacity
          (spread.inside other (gains_old new.taken old.taken run other holding.taken listed));
      taken = pairs_lose AreClear clear_turned old.taken new.taken run holding.taken spread.taken;
      held = pairs_gain (λ one other. AreClear (held_sectors one) (held_sectors other)) held_turned
          old.held new.held back holding.held
          (λ held listed. spread.between run held was_taken listed) spread.held;
      between = λ other held listed there. ⊎_elim
          (λ same. subst (λ (h : HeldRun). AreClear other (held_sectors h)) same
          (clear_turned run other (pairs_beside AreClear clear_turned old.taken new.taken run other
          holding.taken spread.taken listed)))
          (λ still. spread.between other held
          (gains_old new.taken old.taken run other holding.taken listed) still)
          (gains_cases old.held new.held back held holding.held there);
    }

-- A group is answered.
pub spread_after : (space : Space) (group : ℕ) → AreSpread space
    → AreSpread (after_group space group)
spread_after space group spread = record {
  inside = spread.inside;
  taken = spread.taken;
  held = all_pairs_filter (λ one other. AreClear (held_sectors one) (held_sectors other))
      (λ run. nat_lt group run.group) space.held spread.held;
  between = λ run held listed back. spread.between run held listed
      (filter_was (λ h. nat_lt group h.group) space.held held back);
}

-- A run that is clear of the one that leaves stays taken.
pub stays_taken : (old new : List Run) (run other : Run) → Gains new old run → 0 < run.len
    → AreClear run other → Contains old other → Contains new other
stays_taken old new run other gains some clear listed = ⊎_elim
    (λ same. absurd (not_itself run other some clear same)) (λ still. still)
    (gains_cases new old run other gains listed)
