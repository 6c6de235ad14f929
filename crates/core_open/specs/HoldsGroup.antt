-- What the devices hold of the last answered group.
use Rattle.std.specs.Prelude.{◌≡◌, []}
use Rattle.bank_trait.specs.Regions.{Tells}
use Rattle.uberblock_ring.specs.Valid.{AreAlike}
use Rattle.core_state.specs.Keeps.{Kept, Setting, blocks_of}
use Rattle.core_state.specs.Certain.{Knows}
use Rattle.core_blocks.specs.Kept.{NoneFree}
use Rattle.core_open.specs.Holds.{shape_of}
use Rattle.core_open.specs.Pool.{State}

-- The last answered group is certain on the devices, no sector of its blocks is free, and the bank tells what it holds.
pub record HoldsGroup (setting : Setting) (last : Kept) (state : State) : Type 0 where
  pub knows : Knows setting last [] state.disk
  pub alike : AreAlike state.pool.uber last.uber
  pub kept : NoneFree state.pool.blocks state.pool.uber.group (blocks_of last)
  pub shape : setting.shape ≡ shape_of state.disk
  pub tells : Tells state.disk
