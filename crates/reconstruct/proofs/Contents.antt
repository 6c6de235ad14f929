-- The content columns of a row, one by one.
use Rattle.std.proofs.Common.{◌≡◌, ℕ, zero, suc, ◌+◌, ◌-◌, ◌<◌, ◌≤◌, List, [], ◌∷◌, ◌++◌, length, refl, sym, ◌∙◌, ap}
use Rattle.std.proofs.Common.{arith, ⊎_elim, length-append}
use Rattle.std.specs.Prelude.{slice_index_or, Bool, true, false, if◌then◌else◌, nat_lt}
use Rattle.gf_parity.specs.Parity.{parity_column}
use Rattle.row_layout.specs.declared.column.Part.TheVariants.{Parity, Content, Missing}
use Rattle.std.proofs.lemmas.List.{get_or_append_left, get_or-append-add, get_or_push, ext_get_or}
use Rattle.std.proofs.lemmas.Bool.{cases_lt}
use Rattle.std.proofs.lemmas.Bool.Decides.{nat_tests}
use Rattle.row_layout.specs.Layout.{Layout, columns_of, height_of, content_before, part_of, content_part}
use Rattle.reconstruct.specs.Columns.{content_bytes, row_contents, part_bytes, column_bytes}

pub length-row_contents : (layout : Layout) (bytes : List ℕ) (row columns : ℕ) → length (row_contents layout bytes row columns) ≡ columns
length-row_contents layout bytes row zero = refl
length-row_contents layout bytes row (suc column) =
    length-append (row_contents layout bytes row column) (content_bytes bytes (content_part layout row column) ∷ [])
    ∙ omega (arith, length-row_contents layout bytes row column)

-- Behind the parity columns stands the content.
pub content_part_of : (layout : Layout) (row column : ℕ) → layout.parity ≤ column → part_of layout row column ≡ content_part layout row (column - layout.parity)
content_part_of layout row column high = grind (arith, nat_tests, high)

-- each content column, as the whole list has it
pub row_contents-at : (layout : Layout) (bytes : List ℕ) (row columns column : ℕ) → column < columns
    → slice_index_or (row_contents layout bytes row columns) column [] ≡ content_bytes bytes (content_part layout row column)
row_contents-at layout bytes row zero column low = absurd (omega (arith, low))
row_contents-at layout bytes row (suc columns) column low =
    ⊎_elim (λ before. get_or_append_left (row_contents layout bytes row columns) (content_bytes bytes (content_part layout row columns) ∷ []) [] column
    (omega (arith, before, length-row_contents layout bytes row columns)) ∙ row_contents-at layout bytes row columns column before)
    (λ last. let here : columns ≡ column = omega (arith, last, low) in
    get_or_push (row_contents layout bytes row columns) (content_bytes bytes (content_part layout row columns)) [] column (length-row_contents layout bytes row columns ∙ here)
    ∙ ap (λ (k : ℕ). content_bytes bytes (content_part layout row k)) here)
    (cases_lt column columns)

-- Columns that hold the content one by one are the row's content columns.
pub contents_are : (layout : Layout) (bytes : List ℕ) (row count : ℕ) (content : List (List ℕ)) → length content ≡ count
    → ((column : ℕ) → column < count → slice_index_or content column [] ≡ content_bytes bytes (content_part layout row column))
    → content ≡ row_contents layout bytes row count
contents_are layout bytes row count content long each =
    ext_get_or [] content (row_contents layout bytes row count) (long ∙ sym (length-row_contents layout bytes row count))
    (λ column low. let few : column < count = omega (arith, low, long) in each column few ∙ sym (row_contents-at layout bytes row count column few))

-- A content column holds the same whether it is counted in a row or in the row's content.
same_bytes : (layout : Layout) (bytes : List ℕ) (row number : ℕ) (test : Bool)
    → content_bytes bytes (if test then Content number else Missing) ≡ part_bytes layout bytes row (if test then Content number else Missing)
same_bytes layout bytes row number true = refl
same_bytes layout bytes row number false = refl

-- Parity and content columns side by side are the row.
pub row_holds : (layout : Layout) (bytes : List ℕ) (row : ℕ) (parity content : List (List ℕ)) → length parity ≡ layout.parity
    → content ≡ row_contents layout bytes row (columns_of layout - layout.parity)
    → ((which : ℕ) → which < layout.parity → slice_index_or parity which [] ≡ parity_column which content)
    → (column : ℕ) → column < columns_of layout → slice_index_or (parity ++ content) column [] ≡ column_bytes layout bytes row column
unfolding column_bytes
row_holds layout bytes row parity content long content_is parity_is column low =
    ⊎_elim (λ few. let part : part_of layout row column ≡ Parity column = grind (arith, nat_tests, few) in
    get_or_append_left parity content [] column (omega (arith, few, long)) ∙ parity_is column few
    ∙ ap (parity_column column) content_is ∙ ap (part_bytes layout bytes row) (sym part))
    (λ high. let behind : column - layout.parity < columns_of layout - layout.parity = omega (arith, low, high) in
    let shift : column ≡ length parity + (column - layout.parity) = omega (arith, high, long) in
    ap (λ (k : ℕ). slice_index_or (parity ++ content) k []) shift
    ∙ get_or-append-add parity content (column - layout.parity) []
    ∙ ap (λ (k : List (List ℕ)). slice_index_or k (column - layout.parity) []) content_is
    ∙ row_contents-at layout bytes row (columns_of layout - layout.parity) (column - layout.parity) behind
    ∙ same_bytes layout bytes row (content_before layout (column - layout.parity) + row) (nat_lt row (height_of layout (column - layout.parity)))
    ∙ ap (part_bytes layout bytes row) (sym (content_part_of layout row column high)))
    (cases_lt column layout.parity)
