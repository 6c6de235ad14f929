-- The group after a pool's last answered one.
use Rattle.std.specs.Prelude.{length}
use Rattle.sha2.specs.Sha256.{sha256}
use Rattle.reflow_mark.specs.declared.reflow.Reflow.{Reflow}
use Rattle.block_record.specs.Page.{index_page}
use Rattle.uberblock_ring.specs.Uberblock.{Uber}
use Rattle.core_commit.specs.NextUber.{next_uber}
use Rattle.core_open.specs.Pool.{Pool}

-- its uberblock at a chosen reflow, with the pool's table
abbrev pub uber_for : Pool → Reflow → Uber
uber_for pool chosen = next_uber pool.uber chosen (length pool.blocks.table.entries)
    (sha256 (index_page pool.blocks.table.entries)) pool.out
