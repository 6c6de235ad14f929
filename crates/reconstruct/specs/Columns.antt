-- What each column of a block's rows holds.
use Rattle.std.specs.Prelude.{ℕ, zero, suc, ◌-◌, ◌*◌, List, [], ◌∷◌, ◌++◌, take, drop, replicate}
use Rattle.gf_parity.specs.Parity.{parity_column}
use Rattle.row_layout.specs.declared.column.Part.{Part}
use Rattle.row_layout.specs.declared.column.Part.TheVariants.{Parity, Content, Missing}
use Rattle.row_layout.specs.Layout.{Layout, columns_of, content_part, part_of}

-- a sector of zeros
unfoldable pub zero_sector : List ℕ
zero_sector = replicate 512 0

-- a sector of a block's bytes, the last one filled up with zeros
unfoldable pub content_sector : List ℕ → ℕ → List ℕ
content_sector bytes number = take 512 (drop (512 * number) bytes ++ replicate 512 0)

-- what a content column holds; one that is missing counts as zeros
abbrev pub content_bytes : List ℕ → Part → List ℕ
content_bytes bytes (Content number) = content_sector bytes number
content_bytes bytes (Parity which) = zero_sector
content_bytes bytes Missing = zero_sector

-- the first content columns of a row
abbrev pub row_contents : Layout → List ℕ → ℕ → ℕ → List (List ℕ)
row_contents layout bytes row zero = []
row_contents layout bytes row (suc column) =
    row_contents layout bytes row column
    ++ content_bytes bytes (content_part layout row column) ∷ []

-- A parity column is that of the row's content columns, as many in each row of the block.
abbrev pub part_bytes : Layout → List ℕ → ℕ → Part → List ℕ
part_bytes layout bytes row (Parity which) =
    parity_column which (row_contents layout bytes row (columns_of layout - layout.parity))
part_bytes layout bytes row (Content number) = content_sector bytes number
part_bytes layout bytes row Missing = zero_sector

-- the bytes of a column of a row
unfoldable pub column_bytes : Layout → List ℕ → ℕ → ℕ → List ℕ
column_bytes layout bytes row column = part_bytes layout bytes row (part_of layout row column)
