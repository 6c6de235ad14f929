-- One device whatever of which is wrong is covered by one suspect.
use Rattle.std.proofs.Common.{◌≡◌, ⊎_elim, inl, ℕ, zero, suc, ◌+◌, ◌-◌, ◌<◌, ◌≤◌, List, [], ◌∷◌, ◌++◌, length, Bool}
use Rattle.std.proofs.Common.{true, false, Option, Some, None, refl, sym, ◌∙◌, ap, subst, arith, get_or, Contains}
use Rattle.std.specs.Prelude.{◌||◌, ◌==◌, slice_get, if◌then◌else◌}
use Rattle.std.specs.List.{cons_option, list_any}
use Rattle.std.proofs.lemmas.Bool.{cases_eq, cases_lt, false≢true}
use Rattle.std.proofs.lemmas.Bool.Decides.{nat_tests}
use Rattle.std.proofs.lemmas.List.{get_or_append_left}
use Rattle.std.proofs.lemmas.Option.{get_or_from_slice_get, slice_get-get_or, slice_get_within}
use Rattle.std.proofs.Math.ListN.{length-append}
use Rattle.std.proofs.Math.Seq.{get_or-append_seam}
use Rattle.width_map.specs.declared.birth.Birth.{Birth}
use Rattle.width_map.specs.Births.{first_width, last_width}
use Rattle.reflow_mark.specs.declared.reflow.Reflow.{Reflow}
use Rattle.row_layout.specs.Layout.{IsColumn, columns_in, end_of, rows_of, sector_of}
use Rattle.gf_solve.proofs.Counting.{count_mono}
use Rattle.reconstruct.specs.declared.pair.Pair.{Pair}
use Rattle.reconstruct.specs.Columns.{column_bytes}
use Rattle.reconstruct.specs.Rows.{column_at}
use Rattle.reconstruct.specs.Suspects.{is_suspect, mark_for, pairs_down, pairs_of_width, suspects_of}
use Rattle.reconstruct.specs.Solved.{Question, IsPassedOver, lost_by_choice}
use Rattle.reconstruct.specs.Covered.{Covers}
use Rattle.uberblock_ring.specs.Devices.{count_of, has_device, with_device}
use Rattle.uberblock_ring.proofs.DeviceSets.{has_with, others_with}
use Rattle.core_state.specs.Whole.{Excepted}
use Rattle.core_client.specs.Asked.{question_of}
use Rattle.core_client.specs.BlockTurns.{BlockRead, IsColumnOf, IsReadSoFar, MayBeWrong}
use Rattle.core_client.specs.Got.{has_lost}
use Rattle.core_client.specs.Pool.{IsInPool}
use Rattle.core_client.specs.Reading.{spot_of}
use Rattle.core_client.proofs.Enough.{few_enough}
use Rattle.core_client.proofs.Suspected.{suspected_where_read}

-- ---- the place of a suspect

-- What a list has it has where more follows.
get_left : {T : Type 0} (xs ys : List T) (k : ℕ) (x : T) → slice_get xs k ≡ Some x → slice_get (xs ++ ys) k ≡ Some x
get_left xs ys k x is =
    let low = slice_get_within xs k x is in
    slice_get-get_or (xs ++ ys) k x (omega (arith, low, length-append xs ys))
    ∙ ap Some (get_or_append_left xs ys x k low ∙ get_or_from_slice_get xs k x x is)

abbrev pair_of : ℕ → ℕ → ℕ → Pair
pair_of mark width device = record { width = width; device = device; mark = mark }

-- A width has as many suspects as devices, in order,
length_width : (mark width count : ℕ) → length (pairs_of_width mark width count) ≡ count
length_width mark width zero = refl
length_width mark width (suc count) =
    length-append (pairs_of_width mark width count) (pair_of mark width count ∷ [])
    ∙ omega (arith, length_width mark width count)

in_width : (mark width count device : ℕ) → device < count
    → slice_get (pairs_of_width mark width count) device ≡ Some (pair_of mark width device)
in_width mark width zero device low = absurd (omega (arith, low))
in_width mark width (suc count) device low = ⊎_elim
    (λ less. get_left (pairs_of_width mark width count) (pair_of mark width count ∷ []) device
    (pair_of mark width device) (in_width mark width count device less))
    (λ high. last (omega (arith, low, high)))
    (cases_lt device count)
  where
    seam : slice_get (pairs_of_width mark width count ++ pair_of mark width count ∷ []) count
        ≡ Some (pair_of mark width count)
    seam =
        let all = length-append (pairs_of_width mark width count) (pair_of mark width count ∷ []) in
        let front = length_width mark width count in
        slice_get-get_or (pairs_of_width mark width count ++ pair_of mark width count ∷ []) count
        (pair_of mark width count) (omega (arith, all, front))
        ∙ ap Some (subst (λ (k : ℕ). get_or (pairs_of_width mark width count ++ pair_of mark width count ∷ []) k
        (pair_of mark width count) ≡ pair_of mark width count) front
        (get_or-append_seam (pairs_of_width mark width count) (pair_of mark width count) [] (pair_of mark width count)))

    last : device ≡ count → slice_get (pairs_of_width mark width count ++ pair_of mark width count ∷ []) device
        ≡ Some (pair_of mark width device)
    last same = rw same seam

-- and the widest comes first.
in_front : (mark_of : ℕ → ℕ) (lowest more device : ℕ) → device < lowest + more
    → slice_get (pairs_down mark_of lowest more) device
    ≡ Some (pair_of (mark_of (lowest + more)) (lowest + more) device)
in_front mark_of lowest zero device low =
    subst (λ (w : ℕ). slice_get (pairs_of_width (mark_of lowest) lowest lowest) device
    ≡ Some (pair_of (mark_of w) w device)) (omega arith)
    (in_width (mark_of lowest) lowest lowest device (omega (arith, low)))
in_front mark_of lowest (suc more) device low =
    get_left (pairs_of_width (mark_of (lowest + suc more)) (lowest + suc more) (lowest + suc more))
    (pairs_down mark_of lowest more) device (pair_of (mark_of (lowest + suc more)) (lowest + suc more) device)
    (in_width (mark_of (lowest + suc more)) (lowest + suc more) (lowest + suc more) device low)

-- The suspects begin with the devices of the present width.
suspect_at : (births : List Birth) (to mark device : ℕ) → first_width births ≤ to → device < to
    → slice_get (suspects_of births to mark) device ≡ Some (pair_of (mark_for births to mark to) to device)
suspect_at births to mark device first low =
    let wide : first_width births + (to - first_width births) ≡ to = omega (arith, first) in
    subst (λ (w : ℕ). slice_get (suspects_of births to mark) device
    ≡ Some (pair_of (mark_for births to mark w) w device)) wide
    (in_front (mark_for births to mark) (first_width births) (to - first_width births) device
    (omega (arith, low, wide)))

-- ---- what the choice of one leaves

or_false : (b : Bool) → (b || false) ≡ b
or_false true = refl
or_false false = refl

left_false : (one other : Bool) → (one || other) ≡ false → one ≡ false
left_false true other is = is
left_false false other is = refl

right_false : (one other : Bool) → (one || other) ≡ false → other ≡ false
right_false true other is = absurd (false≢true (sym is))
right_false false other is = is

module _ (run : BlockRead) (reflow : Reflow) (births : List Birth) (content : List ℕ) (out device len : ℕ)
    (digest : List ℕ) (wrong : Excepted) (pool : IsInPool run.layout reflow) (last : last_width births ≡ reflow.from)
    (first : first_width births ≤ reflow.to) (low : device < reflow.to) (whole : run.row ≡ rows_of run.layout)
    (so_far : IsReadSoFar content reflow out wrong run)
    (on_it : (sector spoiled device_sector : ℕ) → Contains wrong (sector, (spoiled, device_sector)) → spoiled ≡ device)
    (few : count_of (with_device out device) ≤ run.layout.parity) where
  abbrev question : Question
  question = question_of run.layout run.read len digest
      (record { births = births; to = reflow.to; mark = reflow.mark })

  -- Lost is what could not be read, and what is read on the device.
  lost_is : (row column : ℕ) → IsColumn run.layout row column → lost_by_choice question (device ∷ []) row column
      ≡ (has_lost run.read row column || ((spot_of run.layout reflow row column).device == device))
  lost_is row column there =
      let at = suspect_at births reflow.to reflow.mark device first low in
      let suspected = suspected_where_read run.layout reflow births row column device pool last there in
      ap (λ (b : Bool). has_lost run.read row column || b)
      (ap (λ (found : Option Pair). list_any (is_suspect (end_of run.layout row) (sector_of run.layout row column))
      (cons_option found [])) at
      ∙ or_false (is_suspect (end_of run.layout row) (sector_of run.layout row column)
      (pair_of (mark_for births reflow.to reflow.mark reflow.to) reflow.to device)) ∙ suspected)

  -- A device that is out is one of those and this one.
  more : (other : ℕ) → has_device out other ≡ true → has_device (with_device out device) other ≡ true
  more other is = ⊎_elim
      (λ same. rw same (has_with out device))
      (λ apart. others_with out device other apart ∙ is)
      (cases_eq other device)

  -- What could not be read is on one that is out.
  lost_out : (row column : ℕ) → IsColumn run.layout row column → has_lost run.read row column ≡ true
      → has_device out (spot_of run.layout reflow row column).device ≡ true
  lost_out row column there lost =
      subst (IsColumnOf run.layout content reflow out wrong row column)
      (ap (λ (b : Bool). if b then None else Some (column_at run.read.rows row column)) lost)
      (so_far.got row column there (inl (omega (arith, there.row_in, whole))))

  -- So no row has lost too much,
  enough : IsPassedOver run.layout (lost_by_choice question (device ∷ [])) → ⊥
  enough passed =
      let left = (few_enough run.layout reflow (with_device out device) pool few).each passed.row passed.row_in in
      let counted = count_mono (lost_by_choice question (device ∷ []) passed.row)
      (λ column. has_device (with_device out device) (spot_of run.layout reflow passed.row column).device) 0
      (columns_in run.layout passed.row)
      (λ column from below lost.
      is_out column (record { row_in = passed.row_in; column_in = omega (arith, below) }) lost) in
      omega (arith, counted, left, passed.many)
    where
      is_out : (column : ℕ) → IsColumn run.layout passed.row column
          → lost_by_choice question (device ∷ []) passed.row column ≡ true
          → has_device (with_device out device) (spot_of run.layout reflow passed.row column).device ≡ true
      is_out column there lost =
          by (has_lost run.read passed.row column) refl (sym (lost_is passed.row column there) ∙ lost)
        where
          by : (b : Bool) → has_lost run.read passed.row column ≡ b
              → (has_lost run.read passed.row column
              || ((spot_of run.layout reflow passed.row column).device == device)) ≡ true
              → has_device (with_device out device) (spot_of run.layout reflow passed.row column).device ≡ true
          by true is either = more (spot_of run.layout reflow passed.row column).device
              (lost_out passed.row column there is)
          by false is either =
              let test : ((spot_of run.layout reflow passed.row column).device == device) ≡ true
              = ap (λ (b : Bool). b || ((spot_of run.layout reflow passed.row column).device == device)) (sym is)
              ∙ either in
              let same : (spot_of run.layout reflow passed.row column).device ≡ device
              = grind (arith, nat_tests, test) in
              rw same (has_with out device)

  -- Law: Where all that may be wrong is on one device, and it and those that are out are no more than the parities, the
  -- choice of that device covers the block.
  pub device_covers : Covers question (device ∷ []) content
  device_covers = record {
    choice_is = record {
      few = omega (arith, pool.within.is.parity);
      ascending = (
        omega arith,
        slice_get_within (suspects_of births reflow.to reflow.mark) device _
            (suspect_at births reflow.to reflow.mark device first low),
        tt,
      );
    };
    enough = enough;
    right = λ row column there left. is_right row column there (sym (lost_is row column there) ∙ left);
  }
    where
      is_right : (row column : ℕ) → IsColumn run.layout row column
          → (has_lost run.read row column || ((spot_of run.layout reflow row column).device == device)) ≡ false
          → column_at run.read.rows row column ≡ column_bytes run.layout content row column
      is_right row column there left =
          let read = left_false (has_lost run.read row column) _ left in
          let apart = right_false (has_lost run.read row column) _ left in
          subst (IsColumnOf run.layout content reflow out wrong row column)
          (ap (λ (b : Bool). if b then None else Some (column_at run.read.rows row column)) read)
          (so_far.got row column there (inl (omega (arith, there.row_in, whole))))
          (λ (may : MayBeWrong run.layout reflow wrong row column).
          let same = on_it (sector_of run.layout row column) (spot_of run.layout reflow row column).device
          (spot_of run.layout reflow row column).device_sector may in
          let test : ((spot_of run.layout reflow row column).device == device) ≡ true
          = grind (arith, nat_tests, same) in
          false≢true (sym apart ∙ test))
