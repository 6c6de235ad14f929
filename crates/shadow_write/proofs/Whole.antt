-- From the writes of a column to those of a row, and of a block.
use Rattle.std.proofs.Common.{◌≡◌, ◌⊎◌, ℕ, ◌<◌, ◌≤◌, ◌+◌, ◌*◌, ◌^◌, zero, suc, List, ◌++◌, refl, sym, ap, ◌∙◌, subst}
use Rattle.std.proofs.Common.{arith, inl, inr, ⊎_elim, append_assoc, add-one}
use Rattle.std.specs.Prelude.{Contains}
use Rattle.std.proofs.lemmas.Bool.{cases_lt}
use Rattle.std.proofs.lemmas.List.Elements.{Contains-append_cases, Contains-append_left, Contains-append_right}
use Rattle.width_map.specs.declared.position.Place.{Place}
use Rattle.width_map.specs.Place.{first_data_sector}
use Rattle.scratch_area.specs.Scratch.{first_scratch_sector, old_place, new_place, scratch_place}
use Rattle.reflow_mark.specs.declared.reflow.State.{State}
use Rattle.reflow_mark.specs.declared.reflow.State.TheVariants.{None, Valid, Moved}
use Rattle.reflow_mark.specs.declared.reflow.Reflow.{Reflow}
use Rattle.reflow_mark.specs.Reflow.{IsRightReflow}
use Rattle.reflow_mark.specs.Standing.{NeedsOld}
use Rattle.std.proofs.Math.Nat.{mul-le-mul}
use Rattle.std.proofs.lemmas.Bool.Decides.{nat_tests}
use Rattle.row_layout.specs.Standing.{IsWithinLimits}
use Rattle.row_layout.proofs.Counts.{rows_few, left_over_few}
use Rattle.row_layout.specs.Layout.{Layout, left_over, content_columns, rows_of, columns_in, end_of, sector_of}
use Rattle.row_layout.specs.Layout.{IsColumn}
use Rattle.shadow_write.specs.declared.write.Write.{Write}
use Rattle.shadow_write.specs.Required.{NeedsScratch, NeedsNew, IsRequiredPlace, IsFrontIn}
use Rattle.shadow_write.specs.Writes.{column_writes, row_writes, writes_of_rows, writes_of, write_at, AreRequired}
use Rattle.shadow_write.specs.Writes.{LeaveNoneOut}
use Rattle.shadow_write.proofs.Required.{some_is_required, only_required, all_required, column_is}

-- The sectors of a block are numbers that go on fitting.
pub sector_fits : (layout : Layout) (row column : ℕ) → IsWithinLimits layout → row < rows_of layout → column < columns_in layout row
    → sector_of layout row column < 2 ^ 55
sector_fits layout row column within below inside =
    let few : row ≤ 128 = omega (arith, below, rows_few layout within.is, within.sectors) in
    let rows : row * layout.width ≤ 128 * 64 = mul-le-mul few within.width in
    let over : left_over layout < content_columns layout = left_over_few layout within.is in
    let narrow : columns_in layout row ≤ layout.width = grind (arith, nat_tests, over) in
    omega (arith, within.start, within.width, rows, narrow, inside)

-- One more column.
pub row_more : (layout : Layout) (reflow : Reflow) (done row column : ℕ) (was before after : List Write)
    → before ≡ was ++ row_writes layout reflow done row column → after ≡ before ++ column_writes layout reflow done row column
    → after ≡ was ++ row_writes layout reflow done row (column + 1)
row_more layout reflow done row column was before after so_far one =
    one ∙ ap (λ (l : List Write). l ++ column_writes layout reflow done row column) so_far
    ∙ append_assoc was (row_writes layout reflow done row column) (column_writes layout reflow done row column)
    ∙ ap (λ (n : ℕ). was ++ row_writes layout reflow done row n) (sym (add-one column))

-- One more row.
pub rows_more : (layout : Layout) (reflow : Reflow) (done row : ℕ) (before after : List Write)
    → before ≡ writes_of_rows layout reflow done row → after ≡ before ++ row_writes layout reflow done row (columns_in layout row)
    → after ≡ writes_of_rows layout reflow done (row + 1)
rows_more layout reflow done row before after so_far one =
    one ∙ ap (λ (l : List Write). l ++ row_writes layout reflow done row (columns_in layout row)) so_far
    ∙ ap (λ (n : ℕ). writes_of_rows layout reflow done n) (sym (add-one row))

-- what a write says of itself, in the first columns of a row
record IsIn (layout : Layout) (reflow : Reflow) (done row columns : ℕ) (write : Write) : Type 0 where
  row_is : write.row ≡ row
  column_in : write.column < columns
  listed : Contains (column_writes layout reflow done row write.column) write

in_row : (layout : Layout) (reflow : Reflow) (done row columns : ℕ) (write : Write)
    → Contains (row_writes layout reflow done row columns) write → IsIn layout reflow done row columns write
in_row layout reflow done row zero write listed = absurd (omega (arith, listed.1))
in_row layout reflow done row (suc columns) write listed =
    ⊎_elim
    (λ before. let is = in_row layout reflow done row columns write before in
    record { row_is = is.row_is; column_in = omega (arith, is.column_in); listed = is.listed })
    (λ here. let is = column_is layout reflow done row columns write here in
    record {
      row_is = is.0;
      column_in = omega (arith, is.1);
      listed = subst (λ (column : ℕ). Contains (column_writes layout reflow done row column) write) (sym is.1) here;
    })
    (Contains-append_cases (row_writes layout reflow done row columns) (column_writes layout reflow done row columns) write listed)

has_row : (layout : Layout) (reflow : Reflow) (done row columns column : ℕ) (write : Write) → column < columns
    → Contains (column_writes layout reflow done row column) write → Contains (row_writes layout reflow done row columns) write
has_row layout reflow done row zero column write below listed = absurd (omega (arith, below))
has_row layout reflow done row (suc columns) column write below listed =
    ⊎_elim
    (λ before. Contains-append_left (row_writes layout reflow done row columns) (column_writes layout reflow done row columns) write
    (has_row layout reflow done row columns column write before listed))
    (λ last. let same : column ≡ columns = omega (arith, below, last) in
    Contains-append_right (row_writes layout reflow done row columns) (column_writes layout reflow done row columns) write
    (subst (λ (k : ℕ). Contains (column_writes layout reflow done row k) write) same listed))
    (cases_lt column columns)

in_rows : (layout : Layout) (reflow : Reflow) (done rows : ℕ) (write : Write) → Contains (writes_of_rows layout reflow done rows) write
    → (write.row < rows) × IsIn layout reflow done write.row (columns_in layout write.row) write
in_rows layout reflow done zero write listed = absurd (omega (arith, listed.1))
in_rows layout reflow done (suc rows) write listed =
    ⊎_elim
    (λ before. let is = in_rows layout reflow done rows write before in (omega (arith, is.0), is.1))
    (λ here. let is = in_row layout reflow done rows (columns_in layout rows) write here in (
      omega (arith, is.row_is),
      subst (λ (row : ℕ). IsIn layout reflow done row (columns_in layout row) write) (sym is.row_is) is,
    ))
    (Contains-append_cases (writes_of_rows layout reflow done rows) (row_writes layout reflow done rows (columns_in layout rows)) write listed)

has_rows : (layout : Layout) (reflow : Reflow) (done rows row column : ℕ) (write : Write) → row < rows → column < columns_in layout row
    → Contains (column_writes layout reflow done row column) write → Contains (writes_of_rows layout reflow done rows) write
has_rows layout reflow done zero row column write below inside listed = absurd (omega (arith, below))
has_rows layout reflow done (suc rows) row column write below inside listed =
    ⊎_elim
    (λ before. Contains-append_left (writes_of_rows layout reflow done rows) (row_writes layout reflow done rows (columns_in layout rows)) write
    (has_rows layout reflow done rows row column write before inside listed))
    (λ last. let same : row ≡ rows = omega (arith, below, last) in
    Contains-append_right (writes_of_rows layout reflow done rows) (row_writes layout reflow done rows (columns_in layout rows)) write
    (subst (λ (k : ℕ). Contains (row_writes layout reflow done k (columns_in layout k)) write) same
    (has_row layout reflow done row (columns_in layout row) column write inside listed)))
    (cases_lt row rows)

-- The writes of a block are those to the required places of its columns.
pub are_required : (layout : Layout) (reflow : Reflow) (done : ℕ) → AreRequired layout reflow done (writes_of layout reflow done)
are_required layout reflow done = record {
  only = λ write listed. let is = in_rows layout reflow done (rows_of layout) write listed in (
    record { row_in = is.0; column_in = is.1.column_in },
    only_required layout reflow done write.row write.column write is.1.listed,
  );
  all = λ row column device device_sector inside required.
      has_rows layout reflow done (rows_of layout) row column _ inside.row_in inside.column_in
      (all_required layout reflow done row column device device_sector required);
}

-- Some place of a sector is required, and so it is written.
written : (layout : Layout) (reflow : Reflow) (done row column : ℕ) → IsColumn layout row column
    → NeedsOld reflow.state reflow.mark (end_of layout row) ⊎ (NeedsScratch reflow.state reflow done (sector_of layout row column)
    ⊎ NeedsNew reflow.state done (sector_of layout row column))
    → (write : Write) × Contains (writes_of layout reflow done) write × (write.row ≡ row) × (write.column ≡ column)
written layout reflow done row column inside needs =
    let at : (first : ℕ) (place : Place) → IsRequiredPlace reflow done (end_of layout row) (sector_of layout row column) place.device (first + place.row)
    → (write : Write) × Contains (writes_of layout reflow done) write × (write.row ≡ row) × (write.column ≡ column) =
    λ first place required. (write_at first place row column, (are_required layout reflow done).all row column place.device (first + place.row) inside required, refl, refl) in
    ⊎_elim (λ old. at first_data_sector (old_place reflow (sector_of layout row column)) (inl (old, record { device_is = refl; sector_is = refl })))
    (λ others. ⊎_elim
    (λ scratch. at first_scratch_sector (scratch_place reflow.to (sector_of layout row column)) (inr (inl (scratch, record { device_is = refl; sector_is = refl }))))
    (λ new. at first_data_sector (new_place reflow (sector_of layout row column)) (inr (inr (new, record { device_is = refl; sector_is = refl }))))
    others) needs

-- A pool that isn't widened reads each sector at its old place.
old_at_rest : (state : State) (mark row_end : ℕ) → state ≡ None → NeedsOld state mark row_end
old_at_rest None mark row_end is = tt
old_at_rest Valid mark row_end is = cc
old_at_rest Moved mark row_end is = cc

-- No column is left out.
pub none_left_out : (layout : Layout) (reflow : Reflow) (done : ℕ) → IsRightReflow reflow → IsFrontIn reflow.state reflow done
    → LeaveNoneOut layout (writes_of layout reflow done)
none_left_out layout reflow done right front = record {
  each = λ row column inside. written layout reflow done row column inside
      (⊎_elim (λ rest. inl (old_at_rest reflow.state reflow.mark (end_of layout row) rest.2))
      (λ expands. some_is_required reflow.state reflow done (end_of layout row) (sector_of layout row column) expands.1 front
      (omega (arith, inside.column_in))) right);
}
