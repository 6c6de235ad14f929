-- An open pool while calls are under way, and the bank under it.
use Rattle.std.specs.Prelude.{◌≡◌, ℕ, ◌+◌, ◌^◌, ◌<◌, ◌≤◌, List, Option, Some, None, Bool, ◌&&◌, count_by, nat_lt}
use Rattle.bank_trait.specs.Disk.{Disk}
use Rattle.range_locks.specs.declared.hold.Hold.{Hold}
use Rattle.range_locks.specs.Order.{exclusive_count, is_exclusive}
use Rattle.core_blocks.specs.Blocks.{AreInStep}
use Rattle.core_open.specs.Pool.{Pool, State, IsPool, HasBank}
use Rattle.uberblock_ring.specs.Uberblock.{Uber, max_group}

-- the pool, the holds of the calls under way, the group that was begun last, who makes it where it isn't answered, who
-- copies sectors where a job is under way, who attaches a device, who scrubs, and how many devices may be out: the
-- pool's, and one that has joined it with a group that isn't answered
pub record Core : Type 0 where
  pub pool : Pool
  pub holds : List Hold
  pub begun : ℕ
  pub committing : Option ℕ
  pub copying : Option ℕ
  pub attaching : Option ℕ
  pub scrubbing : Option ℕ
  pub reach : ℕ

-- how many groups were begun and aren't answered
abbrev pub groups_begun : Option ℕ → ℕ
groups_begun None = 0
groups_begun (Some actor) = 1

-- how many jobs are under way
abbrev pub jobs_begun : Option ℕ → ℕ
jobs_begun None = 0
jobs_begun (Some actor) = 1

-- The hold is exclusive and begins below a front.
abbrev pub is_alone_below : ℕ → Hold → Bool
is_alone_below front hold = is_exclusive hold.kind && nat_lt hold.lo front

-- how many of the holds are so
abbrev pub alone_below : ℕ → List Hold → ℕ
alone_below front holds = count_by (is_alone_below front) holds

-- the pool as if the group that was begun last were the last answered one: blocks are born in the group after it
abbrev pub as_begun : Core → Pool
as_begun core = record core.pool { uber = record core.pool.uber { group = core.begun } }

-- The pool is one, its table and its space are in step, and the last group begun is the last answered one, or the
-- one after it, which is under way. The devices that are out are the pool's, or have joined it with that one. Nobody
-- holds sectors below the front alone but a commit, and none from it on but a job.
pub record IsCore (core : Core) : Type 0 where
  pub is : IsPool (as_begun core)
  pub reach : core.pool.uber.reflow.to ≤ core.reach
  pub rests : core.committing ≡ None → core.reach ≡ core.pool.uber.reflow.to
  pub below : core.pool.out < 2 ^ core.reach
  pub begun : core.begun ≡ core.pool.uber.group + groups_begun core.committing
  pub few : core.begun ≤ max_group
  pub step : AreInStep core.pool.blocks
  pub shared : core.committing ≡ None → alone_below core.pool.done core.holds ≡ 0
  pub copies : exclusive_count core.holds ≡ alone_below core.pool.done core.holds + jobs_begun core.copying

-- the pool's uberblock as if all devices that the pool reaches to were its own
abbrev pub reaching : Core → Uber
reaching core = record core.pool.uber { reflow = record core.pool.uber.reflow { to = core.reach } }

-- The bank has the pool's data rows, and the devices that it reaches to but for those that are out.
abbrev pub HasBankOf : Core → Disk → Type 0
HasBankOf core disk = HasBank (reaching core) core.pool.out disk

-- an open pool while calls are under way, and what its devices hold
pub record CoreState : Type 0 where
  pub core : Core
  pub disk : Disk

abbrev pub at_disk : Core → Disk → CoreState
at_disk core disk = record { core = core; disk = disk }

-- its pool and its disk alone
abbrev pub pool_at : CoreState → State
pool_at state = record { pool = state.core.pool; disk = state.disk }
