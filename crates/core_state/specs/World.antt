-- What an opening began with.
use Rattle.std.specs.Prelude.{List}
use Rattle.core_state.specs.Map.{Map, PutBytes}
use Rattle.core_state.specs.Journal.{Calls}
use Rattle.core_state.specs.Keeps.{Kept, Setting}

-- the bank and who may fail, the groups that its images may show, the
-- opening map, the calls that are made, and the bytes that puts are handed
pub record World : Type 0 where
  pub setting : Setting
  pub known : List Kept
  pub opening : Map
  pub calls : Calls
  pub handed : PutBytes
