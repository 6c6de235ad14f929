-- What a reading has of a column.
use Rattle.std.proofs.Common.{◌≡◌, ℕ, ◌≤◌, List, Bool, true, false, Some, None, refl, arith}
use Rattle.std.specs.Prelude.{if◌then◌else◌}
use Rattle.std.proofs.lemmas.Bool.Decides.{nat_tests}
use Rattle.row_layout.specs.Layout.{Layout, IsLayout, columns_in}

-- A column that has bytes isn't lost.
pub has_bytes : (lost : Bool) (column bytes : List ℕ) → (if lost then None else Some column) ≡ Some bytes → (lost ≡ false) × (column ≡ bytes)
has_bytes true column bytes is = absurd (cc)
has_bytes false column bytes is = (refl, cc)

-- Each row has all parity columns.
pub parity_in_row : (layout : Layout) (row : ℕ) → IsLayout layout → layout.parity ≤ columns_in layout row
parity_in_row layout row is = grind (arith, nat_tests, is)
