-- A pool whose next group is answered.
use Rattle.std.specs.Prelude.{◌≡◌, ◌==◌, ◌+◌, if◌then◌else◌}
use Rattle.reflow_mark.specs.Reflow.{sectors_of}
use Rattle.space_alloc.specs.Space.{after_group}
use Rattle.uberblock_ring.specs.Uberblock.{Uber}
use Rattle.uberblock_ring.specs.Valid.{IsRightUber}
use Rattle.mark_choice.specs.CommitChoice.{MayRecord, births_of_commit}
use Rattle.core_copy.specs.Behind.{front_behind}
use Rattle.core_blocks.specs.Blocks.{Blocks}
use Rattle.core_blocks.specs.Growing.{grown_by}
use Rattle.core_open.specs.Pool.{Pool}

-- The uberblock is one of the pool's next group: a commit may record its reflow.
pub record IsNextGroup (pool : Pool) (uber : Uber) : Type 0 where
  pub right : IsRightUber uber
  pub number : uber.group ≡ pool.uber.group + 1
  pub pool_is : uber.pool ≡ pool.uber.pool
  pub parity : uber.parity ≡ pool.uber.parity
  pub choice : MayRecord pool.uber.reflow pool.done uber.reflow
  pub births : uber.births ≡ births_of_commit pool.uber.reflow uber.reflow pool.uber.births uber.group

-- the blocks where the group has ended an expansion, or has not
abbrev pub blocks_at : Pool → Uber → Blocks
blocks_at pool uber = if uber.reflow.from == pool.uber.reflow.from then pool.blocks
    else grown_by pool.blocks uber.group (sectors_of uber.reflow)

-- the blocks behind its answer: the sectors that were held back until it are free
abbrev pub blocks_behind : Pool → Uber → Blocks
blocks_behind pool uber = record (blocks_at pool uber) { space = after_group (blocks_at pool uber).space uber.group }

-- the pool behind its answer
abbrev pub answered_by : Uber → Pool → Pool
answered_by uber pool = record pool {
  uber = uber;
  blocks = blocks_behind pool uber;
  done = front_behind pool.uber.reflow pool.done uber.reflow;
}
