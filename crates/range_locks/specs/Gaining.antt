-- Lists that gain one item.
use Rattle.std.specs.Prelude.{◌≡◌, List, ◌∷◌, ◌++◌}

-- One item is put into a list.
pub record Gains {T : Type 0} (old new : List T) (item : T) : Type 0 where
  pub before : List T
  pub after : List T
  pub was : old ≡ before ++ after
  pub is : new ≡ before ++ item ∷ after
