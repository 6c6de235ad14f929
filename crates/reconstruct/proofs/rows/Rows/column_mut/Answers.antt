use Rattle.std.proofs.Common.{sym, ◌∙◌, ◌+◌, ◌<◌, ◌≡◌, ◌*◌, ℕ, List, [], ap, refl, length, subst, get_or-set_same}
use Rattle.std.proofs.lemmas.List.{get_or-set_other, get_or_read_under}
use Rattle.reconstruct.specs.Rows.{Rows, IsColumnWritten, column_at, with_column}
use Rattle.reconstruct.proofs.Places.{place_below, places_differ}
use Rattle.reconstruct.proofs.rows.Rows.column_mut.Goals as goal

-- Where the rows' columns are as many as they have places, a column that is written holds what was written.
written : (rows : Rows) (row column : ℕ) (bytes : List ℕ) → length rows.columns ≡ rows.rows * rows.cols → row < rows.rows
    → column < rows.cols → IsColumnWritten row column bytes rows (with_column rows row column bytes)
written rows row column bytes long row_in column_in = record {
  rows = refl;
  cols = refl;
  here = get_or-set_same rows.columns _ bytes [] (rw long (place_below rows.rows rows.cols row column row_in column_in));
  others = λ other_row other other_row_in other_in differs. get_or-set_other rows.columns _ _ bytes []
      (places_differ rows.cols row column other_row other column_in other_in differs);
}

pub returns : goal.returns
returns c = (
  (refl, λ bytes. ap (λ (rows : Rows). with_column rows c.args.row c.args.column bytes) c.self.view_is),
  record {
    lends = tt;
    value = get_or_read_under c.self.inside.columns.items (c.args.row * c.self.inside.cols + c.args.column)
        (length c.self.inside.columns.items) c.index_mut.result.now [] c.index_mut.ensures.value (rw c.self.invariant (place_below c.self.inside.rows c.self.inside.cols c.args.row c.args.column
        (subst (λ (rows : Rows). c.args.row < rows.rows) (sym c.self.view_is) c.requires.row)
        (subst (λ (rows : Rows). c.args.column < rows.cols) (sym c.self.view_is) c.requires.column))) refl
        ∙ ap (λ (rows : Rows). column_at rows c.args.row c.args.column) c.self.view_is;
    written = λ bytes. written c.args.self.now c.args.row c.args.column bytes
        (subst (λ (rows : Rows). length rows.columns ≡ rows.rows * rows.cols) c.self.view_is c.self.invariant) c.requires.row
        c.requires.column;
  },
)
