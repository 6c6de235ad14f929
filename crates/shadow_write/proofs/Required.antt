-- What the required places are: never none, and exactly those of the writes.
use Rattle.std.proofs.Common.{◌≡◌, ◌⊎◌, ℕ, ◌<◌, zero, suc, Bool, true, false, List, ◌++◌, refl, sym, ap, subst, arith}
use Rattle.std.proofs.Common.{inl, inr, ⊎_elim}
use Rattle.std.specs.Prelude.{Contains}
use Rattle.std.proofs.lemmas.List.Elements.{Contains-append_cases, Contains-append_left, Contains-append_right}
use Rattle.reflow_mark.specs.declared.reflow.State.{State}
use Rattle.reflow_mark.specs.declared.reflow.State.TheVariants.{None, Valid, Moved}
use Rattle.reflow_mark.specs.declared.reflow.Reflow.{Reflow}
use Rattle.reflow_mark.specs.Reflow.{IsMark}
use Rattle.reflow_mark.specs.Standing.{NeedsOld}
use Rattle.std.proofs.lemmas.Bool.Decides.{nat_tests}
use Rattle.width_map.specs.declared.position.Place.{Place}
use Rattle.width_map.specs.Place.{first_data_sector}
use Rattle.scratch_area.specs.Scratch.{first_scratch_sector, old_place, new_place, scratch_place}
use Rattle.row_layout.specs.Layout.{Layout, end_of, sector_of}
use Rattle.shadow_write.specs.declared.write.Write.{Write}
use Rattle.shadow_write.specs.Required.{NeedsScratch, NeedsNew, IsFrontIn, IsAt, IsRequiredPlace}
use Rattle.shadow_write.specs.Writes.{needs_old, needs_scratch, needs_new, only_if, write_at, column_writes}

-- Whatever the reflow, some place of a sector is required.
pub some_is_required : (state : State) (reflow : Reflow) (done row_end sector : ℕ) → IsMark state reflow → IsFrontIn state reflow done
    → sector < row_end → NeedsOld state reflow.mark row_end ⊎ (NeedsScratch state reflow done sector ⊎ NeedsNew state done sector)
some_is_required None reflow done row_end sector mark front below = inl tt
some_is_required Valid reflow done row_end sector mark front below = grind (arith, mark, below)
some_is_required Moved reflow done row_end sector mark front below = grind (arith, front, below)

-- What a list of one at most has, it has by its test.
by_test : {T : Type 0} (test : Bool) (value other : T) → Contains (only_if test value) other → (test ≡ true) × (value ≡ other)
by_test true value other (zero, low, is) = (refl, is)
by_test true value other (suc k, low, is) = absurd (omega (arith, low))
by_test false value other listed = absurd (omega (arith, listed.1))

has_it : {T : Type 0} (test : Bool) (value : T) → test ≡ true → Contains (only_if test value) value
has_it true value is = (0, omega arith, refl)
has_it false value is = absurd (false_true is)
  where
    false_true : false ≡ true → ⊥
    false_true same = cc

-- The tests say what they should.
old_by_test : (state : State) (mark row_end : ℕ) → needs_old state mark row_end ≡ true → NeedsOld state mark row_end
old_by_test None mark row_end is = tt
old_by_test Valid mark row_end is = grind (arith, nat_tests, is)
old_by_test Moved mark row_end is = grind (arith, nat_tests, is)

scratch_by_test : (state : State) (reflow : Reflow) (done sector : ℕ) → needs_scratch state reflow done sector ≡ true → NeedsScratch state reflow done sector
scratch_by_test None reflow done sector is = grind (arith, nat_tests, is)
scratch_by_test Valid reflow done sector is = grind (arith, nat_tests, is)
scratch_by_test Moved reflow done sector is = absurd (false_true is)
  where
    false_true : false ≡ true → ⊥
    false_true same = cc

new_by_test : (state : State) (done sector : ℕ) → needs_new state done sector ≡ true → NeedsNew state done sector
new_by_test None done sector is = absurd (false_true is)
  where
    false_true : false ≡ true → ⊥
    false_true same = cc
new_by_test Valid done sector is = grind (arith, nat_tests, is)
new_by_test Moved done sector is = grind (arith, nat_tests, is)

old_test : (state : State) (mark row_end : ℕ) → NeedsOld state mark row_end → needs_old state mark row_end ≡ true
old_test None mark row_end needs = refl
old_test Valid mark row_end needs = grind (arith, nat_tests, needs)
old_test Moved mark row_end needs = grind (arith, nat_tests, needs)

scratch_test : (state : State) (reflow : Reflow) (done sector : ℕ) → NeedsScratch state reflow done sector → needs_scratch state reflow done sector ≡ true
scratch_test None reflow done sector needs = grind (arith, nat_tests, needs)
scratch_test Valid reflow done sector needs = grind (arith, nat_tests, needs)
scratch_test Moved reflow done sector needs = absurd needs

new_test : (state : State) (done sector : ℕ) → NeedsNew state done sector → needs_new state done sector ≡ true
new_test None done sector needs = absurd needs
new_test Valid done sector needs = grind (arith, nat_tests, needs)
new_test Moved done sector needs = grind (arith, nat_tests, needs)

at_write : (first : ℕ) (place : Place) (row column : ℕ) (write : Write) → write_at first place row column ≡ write
    → IsAt place first write.device write.device_sector
at_write first place row column write same = record {
  device_is = sym (ap (λ (w : Write). w.device) same);
  sector_is = sym (ap (λ (w : Write). w.device_sector) same);
}

-- Each write of a column goes to a required place of its sector.
pub only_required : (layout : Layout) (reflow : Reflow) (done row column : ℕ) (write : Write)
    → Contains (column_writes layout reflow done row column) write
    → IsRequiredPlace reflow done (end_of layout row) (sector_of layout row column) write.device write.device_sector
unfolding column_writes
only_required layout reflow done row column write listed =
    ⊎_elim (λ both. ⊎_elim
    (λ old. let is = by_test _ _ write old in
    inl (old_by_test reflow.state reflow.mark _ is.0, at_write first_data_sector _ row column write is.1))
    (λ scratch. let is = by_test _ _ write scratch in
    inr (inl (scratch_by_test reflow.state reflow done _ is.0, at_write first_scratch_sector _ row column write is.1)))
    (Contains-append_cases _ _ write both))
    (λ new. let is = by_test _ _ write new in
    inr (inr (new_by_test reflow.state done _ is.0, at_write first_data_sector _ row column write is.1)))
    (Contains-append_cases _ _ write listed)

write_of_place : (first : ℕ) (place : Place) (row column device device_sector : ℕ) → IsAt place first device device_sector
    → write_at first place row column ≡ record { device = device; device_sector = device_sector; row = row; column = column }
write_of_place first place row column device device_sector is =
    λ i. record { device = sym is.device_is i; device_sector = sym is.sector_is i; row = row; column = column }

-- the three parts of a column's writes
abbrev old_part : Layout → Reflow → ℕ → ℕ → List Write
old_part layout reflow row column = only_if (needs_old reflow.state reflow.mark (end_of layout row))
    (write_at first_data_sector (old_place reflow (sector_of layout row column)) row column)

abbrev scratch_part : Layout → Reflow → ℕ → ℕ → ℕ → List Write
scratch_part layout reflow done row column = only_if (needs_scratch reflow.state reflow done (sector_of layout row column))
    (write_at first_scratch_sector (scratch_place reflow.to (sector_of layout row column)) row column)

abbrev new_part : Layout → Reflow → ℕ → ℕ → ℕ → List Write
new_part layout reflow done row column = only_if (needs_new reflow.state done (sector_of layout row column))
    (write_at first_data_sector (new_place reflow (sector_of layout row column)) row column)

-- A write of one of three lists is one of them all.
in_three : (one two three : List Write) (write : Write) → Contains one write ⊎ (Contains two write ⊎ Contains three write)
    → Contains (one ++ two ++ three) write
in_three one two three write listed =
    ⊎_elim (λ first. Contains-append_left (one ++ two) three write (Contains-append_left one two write first))
    (λ rest. ⊎_elim (λ second. Contains-append_left (one ++ two) three write (Contains-append_right one two write second))
    (λ third. Contains-append_right (one ++ two) three write third) rest) listed

has_write : (test : Bool) (first : ℕ) (place : Place) (row column device device_sector : ℕ) → test ≡ true → IsAt place first device device_sector
    → Contains (only_if test (write_at first place row column)) (record { device = device; device_sector = device_sector; row = row; column = column })
has_write test first place row column device device_sector is at_place =
    subst (λ (w : Write). Contains (only_if test (write_at first place row column)) w)
    (write_of_place first place row column device device_sector at_place) (has_it test (write_at first place row column) is)

-- Each required place of a column's sector has a write.
pub all_required : (layout : Layout) (reflow : Reflow) (done row column device device_sector : ℕ)
    → IsRequiredPlace reflow done (end_of layout row) (sector_of layout row column) device device_sector
    → Contains (column_writes layout reflow done row column) (record { device = device; device_sector = device_sector; row = row; column = column })
unfolding column_writes
all_required layout reflow done row column device device_sector required =
    in_three (old_part layout reflow row column) (scratch_part layout reflow done row column) (new_part layout reflow done row column)
    (record { device = device; device_sector = device_sector; row = row; column = column })
    (⊎_elim
    (λ old. inl (has_write _ first_data_sector (old_place reflow (sector_of layout row column)) row column device device_sector
    (old_test reflow.state reflow.mark (end_of layout row) old.0) old.1))
    (λ others. inr (⊎_elim
    (λ scratch. inl (has_write _ first_scratch_sector (scratch_place reflow.to (sector_of layout row column)) row column device device_sector
    (scratch_test reflow.state reflow done (sector_of layout row column) scratch.0) scratch.1))
    (λ new. inr (has_write _ first_data_sector (new_place reflow (sector_of layout row column)) row column device device_sector
    (new_test reflow.state done (sector_of layout row column) new.0) new.1))
    others))
    required)

one_row : (test : Bool) (first : ℕ) (place : Place) (row column : ℕ) (write : Write) → Contains (only_if test (write_at first place row column)) write
    → (write.row ≡ row) × (write.column ≡ column)
one_row test first place row column write listed =
    let same : write_at first place row column ≡ write = (by_test test (write_at first place row column) write listed).1 in
    (sym (ap (λ (w : Write). w.row) same), sym (ap (λ (w : Write). w.column) same))

-- A write of a column names its row and column.
pub column_is : (layout : Layout) (reflow : Reflow) (done row column : ℕ) (write : Write)
    → Contains (column_writes layout reflow done row column) write → (write.row ≡ row) × (write.column ≡ column)
unfolding column_writes
column_is layout reflow done row column write listed =
    ⊎_elim (λ both. ⊎_elim
    (λ old. one_row (needs_old reflow.state reflow.mark (end_of layout row)) first_data_sector (old_place reflow (sector_of layout row column)) row column write old)
    (λ scratch. one_row (needs_scratch reflow.state reflow done (sector_of layout row column)) first_scratch_sector (scratch_place reflow.to (sector_of layout row column)) row column write scratch)
    (Contains-append_cases (old_part layout reflow row column) (scratch_part layout reflow done row column) write both))
    (λ new. one_row (needs_new reflow.state done (sector_of layout row column)) first_data_sector (new_place reflow (sector_of layout row column)) row column write new)
    (Contains-append_cases (old_part layout reflow row column ++ scratch_part layout reflow done row column) (new_part layout reflow done row column) write listed)
