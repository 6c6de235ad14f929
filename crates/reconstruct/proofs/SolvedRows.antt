-- Rows that are solved one by one.
use Rattle.std.proofs.Common.{◌≡◌, ℕ, ◌+◌, ◌*◌, ◌<◌, ◌≤◌, List, [], ◌++◌, length, sym, ◌∙◌, ap, subst, arith, ⊎_elim}
use Rattle.std.specs.Prelude.{take, drop, slice_index, slice_index_or}
use Rattle.std.proofs.lemmas.Bool.{cases_lt}
use Rattle.std.proofs.lemmas.List.{get_or-take, get_or-drop, length-take, length-drop, ext_get_or}
use Rattle.std.proofs.Math.Nat.{add-mul, one-mul}
use Rattle.std.proofs.Math.Seq.{take-append_seam}
use Rattle.row_layout.specs.Layout.{Layout, columns_of}
use Rattle.reconstruct.specs.SolvedRow.{columns_at, IsSolvedRow}
use Rattle.reconstruct.proofs.Places.{place_below}

-- A column of a row, as the whole list has it.
pub columns_at-at : (layout : Layout) (columns : List (List ℕ)) (row column : ℕ) → column < columns_of layout
    → slice_index_or (columns_at layout columns row) column [] ≡ slice_index_or columns (row * columns_of layout + column) []
columns_at-at layout columns row column low =
    get_or-take (columns_of layout) (drop (row * columns_of layout) columns) column [] low ∙ get_or-drop (row * columns_of layout) columns column []

-- Rows with the same columns are the same.
same_row : (layout : Layout) (a b : List (List ℕ)) (row : ℕ) → length a ≡ length b
    → ((column : ℕ) → column < columns_of layout → slice_index_or a (row * columns_of layout + column) [] ≡ slice_index_or b (row * columns_of layout + column) [])
    → columns_at layout a row ≡ columns_at layout b row
same_row layout a b row long same =
    ext_get_or [] (columns_at layout a row) (columns_at layout b row)
    (length-take (columns_of layout) (drop (row * columns_of layout) a)
    ∙ omega (arith, length-drop (row * columns_of layout) a, length-drop (row * columns_of layout) b, long, length-take (columns_of layout) (drop (row * columns_of layout) b)))
    (λ column low. let inside : column < columns_of layout = omega (arith, low, length-take (columns_of layout) (drop (row * columns_of layout) a)) in
    columns_at-at layout a row column inside ∙ same column inside ∙ sym (columns_at-at layout b row column inside))

-- One row more is solved.
pub one_more_solved : (layout : Layout) (masks : List ℕ) (done : ℕ) (first old new : List (List ℕ)) → length old ≡ length first → length new ≡ length old
    → ((row : ℕ) → row < done → IsSolvedRow layout row (slice_index masks row) (columns_at layout first row) (columns_at layout old row))
    → ((place : ℕ) → done * columns_of layout ≤ place → slice_index_or old place [] ≡ slice_index_or first place [])
    → ((place : ℕ) → place < done * columns_of layout → slice_index_or new place [] ≡ slice_index_or old place [])
    → IsSolvedRow layout done (slice_index masks done) (columns_at layout old done) (columns_at layout new done)
    → (row : ℕ) → row < done + 1 → IsSolvedRow layout row (slice_index masks row) (columns_at layout first row) (columns_at layout new row)
one_more_solved layout masks done first old new old_long new_long so_far later before here row row_in =
    ⊎_elim (λ earlier.
    subst (λ (k : List (List ℕ)). IsSolvedRow layout row (slice_index masks row) (columns_at layout first row) k)
    (sym (same_row layout new old row new_long (λ column low. before (row * columns_of layout + column) (place_below done (columns_of layout) row column earlier low))))
    (so_far row earlier))
    (λ last. let same : done ≡ row = omega (arith, last, row_in) in
    subst (λ (k : ℕ). IsSolvedRow layout k (slice_index masks k) (columns_at layout first k) (columns_at layout new k)) same
    (subst (λ (k : List (List ℕ)). IsSolvedRow layout done (slice_index masks done) k (columns_at layout new done))
    (same_row layout old first done old_long (λ column low. later (done * columns_of layout + column) (omega arith))) here))
    (cases_lt row done)

-- The places behind one row more.
pub behind_more : (cols done place : ℕ) → (done + 1) * cols ≤ place → done * cols + cols ≤ place
behind_more cols done place high = omega (arith, high, add-mul done 1 cols, one-mul cols)

-- All of a list is replaced.
pub all_replaced : (len : ℕ) (new old : List (List ℕ)) → length new ≡ len → take len (new ++ drop (length new) old) ≡ new
all_replaced len new old long = ap (λ (k : ℕ). take k (new ++ drop (length new) old)) (sym long) ∙ take-append_seam new (drop (length new) old)
