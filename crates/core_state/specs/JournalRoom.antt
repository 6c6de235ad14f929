-- A journal as it is kept.
use Rattle.std.specs.Prelude.{ℕ, List}
use Rattle.core_state.specs.declared.item.Item.{Item}

-- what it lists, and for how many more items there is room
pub record Journal : Type 0 where
  pub items : List Item
  pub room : ℕ
