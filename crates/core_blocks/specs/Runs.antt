-- Runs of sectors that have none in common.
use Rattle.std.specs.Prelude.{ℕ, ◌+◌, ◌<◌, ◌≤◌, AllPairs, Contains}
use Rattle.space_alloc.specs.Space.{Run, HeldRun, Space, IsIn}

-- No sector is in both.
abbrev pub AreClear : Run → Run → Type 0
AreClear one other =
    (sector : ℕ) → IsIn one.start one.len sector → IsIn other.start other.len sector → ⊥

-- the sectors that are held back
abbrev pub held_sectors : HeldRun → Run
held_sectors held = record { start = held.start; len = held.len }

-- The run has sectors, all below the capacity.
pub record IsInside (capacity : ℕ) (run : Run) : Type 0 where
  pub some : 0 < run.len
  pub below : run.start + run.len ≤ capacity

-- The runs in use are inside the pool, and no two of them have a sector in common.
pub record AreSpread (space : Space) : Type 0 where
  pub inside : (run : Run) → Contains space.taken run → IsInside space.capacity run
  pub taken : AllPairs AreClear space.taken
  pub held : AllPairs (λ one other. AreClear (held_sectors one) (held_sectors other)) space.held
  pub between : (run : Run) (held : HeldRun) → Contains space.taken run
      → Contains space.held held → AreClear run (held_sectors held)
