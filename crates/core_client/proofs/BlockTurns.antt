-- A block that is written or read one device call at a time.
use Rattle.std.proofs.Common.{◌≡◌, ◌≢◌, ◌⊎◌, inl, inr, ⊎_elim, ℕ, ◌+◌, ◌<◌, ◌≤◌, List, [], length, Bool, true, false}
use Rattle.std.proofs.Common.{Option, Some, None, refl, sym, ◌∙◌, ap, subst, arith}
use Rattle.std.specs.Prelude.{◌&&◌, nat_lt, slice_get, Contains, IsSome, if◌then◌else◌}
use Rattle.std.proofs.lemmas.Bool.{cases_eq, cases_lt, true≢false}
use Rattle.std.proofs.lemmas.Bool.Decides.{nat_tests}
use Rattle.std.proofs.lemmas.Option.{get_or_from_slice_get, slice_get-get_or, slice_get_within}
use Rattle.bank_trait.specs.Disk.{Known, Other, Wrote}
use Rattle.reflow_mark.specs.declared.reflow.Reflow.{Reflow}
use Rattle.row_layout.specs.Layout.{Layout, IsLayout, IsColumn, rows_of, columns_of, columns_in, sector_of, end_of}
use Rattle.row_layout.proofs.Parts.{row_few}
use Rattle.row_layout.proofs.Laws.{missing_behind}
use Rattle.shadow_write.specs.Required.{IsFrontIn, IsRequiredPlace}
use Rattle.shadow_write.specs.declared.write.Write.{Write}
use Rattle.reconstruct.specs.Columns.{zero_sector, column_bytes}
use Rattle.reconstruct.specs.Rows.{column_at}
use Rattle.reconstruct.specs.Lost.{IsLeftOver}
use Rattle.uberblock_ring.specs.Devices.{has_device, count_of, IsWithin}
use Rattle.core_state.specs.Committing.{Point}
use Rattle.core_state.specs.Whole.{Excepted, IsAmong}
use Rattle.core_state.proofs.Listed.{contains_none}
use Rattle.core_client.specs.declared.columns_read.ColumnsRead.{ColumnsRead}
use Rattle.core_client.specs.Pool.{IsInPool, IsRightBlock}
use Rattle.core_state.specs.SpotReads.{IsGot}
use Rattle.core_client.specs.Reading.{spot_of}
use Rattle.core_client.specs.Got.{got_of, has_lost, HasLostFew, IsShapedAs}
use Rattle.core_client.specs.BlockTurns.{BlockWrite, IsWrittenSoFar, BlockRead, IsAtColumn, IsPassedColumn, IsReadBegun}
use Rattle.core_client.specs.BlockTurns.{GoesOneOn, ReadsColumn, IsColumnOf, IsReadSoFar}
use Rattle.core_client.specs.Writing.{ChecksPlace, bytes_of, IsMade, IsPassedOrMade, IsPlanOf, spot_written}
use Rattle.core_state.proofs.Outs.{was_used, went_well, outs_called}
use Rattle.core_client.proofs.Written.{IsNumber, plan_agrees}
use Rattle.core_state.proofs.SpotReads.{got_by_step, outs_by_step, unchanged_by_step}
use Rattle.core_client.proofs.Gotten.{has_bytes, parity_in_row}
use Rattle.core_client.proofs.LeftOver.{missing_bytes, told_there}
use Rattle.core_client.proofs.Enough.{lost_few_out}

-- ---- writes

-- A write that is found at a number stands there.
pub numbered : (writes : List Write) (number : ℕ) (write : Write) → slice_get writes number ≡ Some write
    → IsNumber writes number write
numbered writes number write is = (slice_get_within writes number write is, get_or_from_slice_get writes number write write is)

pub listed_at : (writes : List Write) (number : ℕ) (write : Write) → slice_get writes number ≡ Some write → Contains writes write
listed_at writes number write is = let at = numbered writes number write is in (number, at.0, at.1)

same_at : (writes : List Write) (number : ℕ) (write other : Write) → slice_get writes number ≡ Some write
    → slice_get writes number ≡ Some other → other ≡ write
same_at writes number write other is also = given (sym also ∙ is)
  where
    given : {one two : Write} → Some one ≡ Some two → one ≡ two
    given same = cc

-- Nothing was written yet.
pub written_none : (layout : Layout) (bytes : List ℕ) (reflow : Reflow) (done : ℕ) (known : Known) (out : ℕ) (run : BlockWrite)
    → IsPlanOf layout reflow done bytes run.rows run.writes → run.next ≡ 0
    → IsWrittenSoFar layout bytes reflow done known out run
written_none layout bytes reflow done known out run plan first = record {
  plan = plan;
  held = λ number write low is used. absurd (omega (arith, low, first));
}

-- What was written stays where the places of the block read what they read, on devices still in use.
pub written_stays : (layout : Layout) (bytes : List ℕ) (reflow : Reflow) (done : ℕ) (known now : Known) (out still : ℕ)
    (run : BlockWrite) → IsWithin out still
    → ((write : Write) → Contains run.writes write → has_device still write.device ≡ false
    → now write.device write.device_sector ≡ known write.device write.device_sector)
    → IsWrittenSoFar layout bytes reflow done known out run
    → IsWrittenSoFar layout bytes reflow done now still run
written_stays layout bytes reflow done known now out still run within same so_far = record {
  plan = so_far.plan;
  held = λ number write low is used. same write (listed_at run.writes number write is) used
      ∙ so_far.held number write low is (was_used out still write.device within used);
}

module _ (layout : Layout) (bytes : List ℕ) (reflow : Reflow) (done : ℕ) (run : BlockWrite) (write : Write)
    (before after : Point) (is : slice_get run.writes run.next ≡ Some write)
    (so_far : IsWrittenSoFar layout bytes reflow done before.disk.reads before.out run) where
  passed_over : has_device before.out write.device ≡ true
      → IsWrittenSoFar layout bytes reflow done before.disk.reads before.out (record run { next = run.next + 1 })
  passed_over out = record {
    plan = so_far.plan;
    held = λ number other low is_other used. ⊎_elim
        (λ (earlier : number < run.next). so_far.held number other earlier is_other used)
        (λ (now : run.next ≤ number).
        let last : number ≡ run.next = omega (arith, now, low) in
        let same : other ≡ write = same_at run.writes run.next write other is
        (subst (λ (n : ℕ). slice_get run.writes n ≡ Some other) last is_other) in
        absurd (true≢false (sym out ∙ ap (λ (w : Write). has_device before.out w.device) (sym same) ∙ used)))
        (cases_lt number run.next);
  }

  made : IsMade run.rows write before after → IsSome (before.disk.reads write.device write.device_sector)
      → IsWrittenSoFar layout bytes reflow done after.disk.reads after.out (record run { next = run.next + 1 })
  made made_one told = record {
    plan = so_far.plan;
    held = λ number other low is_other used. ⊎_elim
        (λ (device : other.device ≡ write.device). ⊎_elim
        (λ (device_sector : other.device_sector ≡ write.device_sector). at_place other number is_other device device_sector used)
        (λ (apart : other.device_sector ≢ write.device_sector). elsewhere number other low is_other (inr apart) used)
        (cases_eq other.device_sector write.device_sector))
        (λ (apart : other.device ≢ write.device). elsewhere number other low is_other (inl apart) used)
        (cases_eq other.device write.device);
  }
    where
      still : IsWithin before.out after.out
      still = (outs_called write.device made_one.result before after made_one.called made_one.wrote.failed).still

      here : has_device after.out write.device ≡ false
          → after.disk.reads write.device write.device_sector ≡ Some (bytes_of run.rows write)
      here used = (went_well write.device made_one.result before after made_one.called used
          (Wrote before.disk after.disk write.device write.device_sector (bytes_of run.rows write)) made_one.wrote).told told

      at_place : (other : Write) (number : ℕ) → slice_get run.writes number ≡ Some other
          → other.device ≡ write.device → other.device_sector ≡ write.device_sector → has_device after.out other.device ≡ false
          → after.disk.reads other.device other.device_sector ≡ Some (bytes_of run.rows other)
      at_place other number is_other device device_sector used =
          ap (λ (d : ℕ). after.disk.reads d other.device_sector) device
          ∙ ap (λ (x : ℕ). after.disk.reads write.device x) device_sector
          ∙ here (ap (λ (d : ℕ). has_device after.out d) (sym device) ∙ used)
          ∙ ap Some ((plan_agrees layout reflow done bytes run.rows run.writes so_far.plan).same write other
          (listed_at run.writes run.next write is) (listed_at run.writes number other is_other) device device_sector)

      elsewhere : (number : ℕ) (other : Write) → number < run.next + 1 → slice_get run.writes number ≡ Some other
          → Other write.device write.device_sector other.device other.device_sector → has_device after.out other.device ≡ false
          → after.disk.reads other.device other.device_sector ≡ Some (bytes_of run.rows other)
      elsewhere number other low is_other apart used = ⊎_elim
          (λ (earlier : number < run.next).
          made_one.wrote.others_read other.device other.device_sector apart
          ∙ so_far.held number other earlier is_other (was_used before.out after.out other.device still used))
          (λ (now : run.next ≤ number).
          let last : number ≡ run.next = omega (arith, now, low) in
          let same : other ≡ write = same_at run.writes run.next write other is
          (subst (λ (n : ℕ). slice_get run.writes n ≡ Some other) last is_other) in
          absurd (⊎_elim (λ (ne : other.device ≢ write.device). ne (ap (λ (w : Write). w.device) same))
          (λ (ne : other.device_sector ≢ write.device_sector). ne (ap (λ (w : Write). w.device_sector) same)) apart))
          (cases_lt number run.next)

  -- One write more was made or passed over.
  pub written_more : IsPassedOrMade run.rows write before after
      → (has_device before.out write.device ≡ false → IsSome (before.disk.reads write.device write.device_sector))
      → IsWrittenSoFar layout bytes reflow done after.disk.reads after.out (record run { next = run.next + 1 })
  written_more step told = ⊎_elim
      (λ (passed : (has_device before.out write.device ≡ true) × (after ≡ before)).
      subst (λ (p : Point). IsWrittenSoFar layout bytes reflow done p.disk.reads p.out (record run { next = run.next + 1 }))
      (sym passed.1) (passed_over passed.0))
      (λ (one : IsMade run.rows write before after). made one (told one.called.in_use))
      step

  -- A place that was looked at and not told of reads what it should, or its device is out.
  pub checked_more : ChecksPlace run.rows write false before after
      → (has_device before.out write.device ≡ false → IsSome (before.disk.reads write.device write.device_sector))
      → IsWrittenSoFar layout bytes reflow done after.disk.reads after.out (record run { next = run.next + 1 })
  checked_more checks told = record {
    plan = so_far.plan;
    held = λ number other low is_other used. ⊎_elim
        (λ (earlier : number < run.next). same other.device other.device_sector
        ∙ so_far.held number other earlier is_other (was_used before.out after.out other.device still used))
        (λ (now : run.next ≤ number).
        let last : number ≡ run.next = omega (arith, now, low) in
        let one : other ≡ write = same_at run.writes run.next write other is
        (subst (λ (n : ℕ). slice_get run.writes n ≡ Some other) last is_other) in
        subst (λ (w : Write). after.disk.reads w.device w.device_sector ≡ Some (bytes_of run.rows w)) (sym one)
        (here checks.given refl (got_by_step (spot_written write) checks.given before after checks.read)
        (ap (λ (w : Write). has_device after.out w.device) (sym one) ∙ used)))
        (cases_lt number run.next);
  }
    where
      still : IsWithin before.out after.out
      still = (outs_by_step (spot_written write) checks.given before after checks.read).still

      same : (device device_sector : ℕ)
          → after.disk.reads device device_sector ≡ before.disk.reads device device_sector
      same = (unchanged_by_step (spot_written write) checks.given before after checks.read).reads

      told_at : (read : Option (List ℕ)) → IsSome read → (bytes : List ℕ) × (read ≡ Some bytes)
      told_at (Some bytes) is_some = (bytes, refl)
      told_at None is_some = absurd (true≢false (sym is_some))

      here : (given : Option (List ℕ)) → checks.given ≡ given
          → IsGot before.disk.reads before.out after.out (spot_written write) given
          → has_device after.out write.device ≡ false
          → after.disk.reads write.device write.device_sector ≡ Some (bytes_of run.rows write)
      here None is_given out used = absurd (true≢false (sym out ∙ used))
      here (Some bytes) is_given (in_use, gave) used =
          let there = told_at (before.disk.reads write.device write.device_sector) (told in_use) in
          same write.device write.device_sector ∙ there.1
          ∙ ap Some (sym (gave there.0 there.1) ∙ checks.same refl bytes is_given)

-- Once all writes were made or passed over, the block is right, whatever may be wrong.
pub written_all : (layout : Layout) (bytes : List ℕ) (reflow : Reflow) (done : ℕ) (known : Known) (out : ℕ) (run : BlockWrite)
    → run.next ≡ length run.writes → IsWrittenSoFar layout bytes reflow done known out run
    → (wrong : Excepted) → IsRightBlock layout bytes reflow done known out wrong
written_all layout bytes reflow done known out run whole so_far wrong = record {
  each = λ cell is. record {
    at = λ device device_sector required used not_odd.
        let at_sector : IsRequiredPlace reflow done (end_of layout is.row) cell.sector device device_sector =
        subst (λ (e : ℕ). IsRequiredPlace reflow done e cell.sector device device_sector) is.row_end required in
        let at : IsRequiredPlace reflow done (end_of layout is.row) (sector_of layout is.row is.column) device device_sector =
        subst (λ (s : ℕ). IsRequiredPlace reflow done (end_of layout is.row) s device device_sector) is.sector at_sector in
        let write : Write = record { device = device; device_sector = device_sector; row = is.row; column = is.column } in
        let listed = so_far.plan.required.all is.row is.column device device_sector is.there at in
        let found : slice_get run.writes listed.0 ≡ Some write =
        slice_get-get_or run.writes listed.0 write listed.1 ∙ ap Some listed.2 in
        so_far.held listed.0 write (omega (arith, whole, listed.1)) found used
        ∙ ap Some (so_far.plan.encoded.holds is.row is.column is.there.row_in
        (omega (arith, is.there.column_in, row_few layout is.row so_far.plan.pool.within.is)) ∙ sym is.bytes);
  };
}

-- ---- reads

-- A reading begins with the first column.
pub place_begun : (layout : Layout) (read : ColumnsRead) → IsLayout layout → IsShapedAs layout read
    → ((row column : ℕ) → row < rows_of layout → column < columns_of layout → got_of read row column ≡ Some zero_sector)
    → IsAtColumn (record { layout = layout; read = read; row = 0; column = 0 })
place_begun layout read is shape zero = record {
  is = is;
  shape = shape;
  row_in = omega arith;
  column_in = λ some. omega (arith, parity_in_row layout 0 is, is.parity);
  first = λ none. refl;
  unlost = λ row column row_in column_in later.
      (has_bytes (has_lost read row column) (column_at read.rows row column) zero_sector (zero row column row_in column_in)).0;
}

-- Nothing was read yet.
pub read_begun : (layout : Layout) (bytes : List ℕ) (reflow : Reflow) (out : ℕ) (wrong : Excepted) (run : BlockRead)
    → IsReadBegun layout run → IsReadSoFar bytes reflow out wrong run
read_begun layout bytes reflow out wrong run begun = record {
  got = λ row column there before. absurd (⊎_elim
      (λ low. let first = begun.first.0 in omega (arith, low, first))
      (λ here. let first = begun.first.1 in omega (arith, here.1, first)) before);
  missing = λ row column row_in behind column_in. begun.zero row column
      (subst (λ (l : Layout). row < rows_of l) begun.layout_is row_in)
      (subst (λ (l : Layout). column < columns_of l) begun.layout_is column_in);
}

-- A column that was read stays so while more devices go out.
pub column_stays : (layout : Layout) (bytes : List ℕ) (reflow : Reflow) (out still : ℕ) (wrong : Excepted)
    (row column : ℕ) (given : Option (List ℕ)) → IsWithin out still
    → IsColumnOf layout bytes reflow out wrong row column given
    → IsColumnOf layout bytes reflow still wrong row column given
column_stays layout bytes reflow out still wrong row column None within is =
    within (spot_of layout reflow row column).device is
column_stays layout bytes reflow out still wrong row column (Some got) within is = is

pub read_stays : (bytes : List ℕ) (reflow : Reflow) (out still : ℕ) (wrong : Excepted) (run : BlockRead)
    → IsWithin out still → IsReadSoFar bytes reflow out wrong run → IsReadSoFar bytes reflow still wrong run
read_stays bytes reflow out still wrong run within so_far = record {
  got = λ row column there before. column_stays run.layout bytes reflow out still wrong row column (got_of run.read row column)
      within (so_far.got row column there before);
  missing = so_far.missing;
}

-- A column is so where more may be wrong,
column_with_more : (layout : Layout) (bytes : List ℕ) (reflow : Reflow) (out : ℕ) (wrong more : Excepted)
    (row column : ℕ) (given : Option (List ℕ)) → IsAmong wrong more
    → IsColumnOf layout bytes reflow out wrong row column given
    → IsColumnOf layout bytes reflow out more row column given
column_with_more layout bytes reflow out wrong more row column None among is = is
column_with_more layout bytes reflow out wrong more row column (Some got) among is = λ none. is (λ listed. none (among _ listed))

-- and so is what was read so far.
pub read_with_more : (bytes : List ℕ) (reflow : Reflow) (out : ℕ) (wrong more : Excepted) (run : BlockRead)
    → IsAmong wrong more → IsReadSoFar bytes reflow out wrong run → IsReadSoFar bytes reflow out more run
read_with_more bytes reflow out wrong more run among so_far = record {
  got = λ row column there before. column_with_more run.layout bytes reflow out wrong more row column
      (got_of run.read row column) among (so_far.got row column there before);
  missing = so_far.missing;
}

-- What reading a column of a right block gives is the block's.
pub column_got : (layout : Layout) (bytes : List ℕ) (reflow : Reflow) (done : ℕ) (known : Known) (before after row column : ℕ)
    (wrong : Excepted) (given : Option (List ℕ)) → IsInPool layout reflow → IsFrontIn reflow.state reflow done
    → IsRightBlock layout bytes reflow done known before wrong → IsColumn layout row column
    → IsGot known before after (spot_of layout reflow row column) given
    → IsColumnOf layout bytes reflow after wrong row column given
column_got layout bytes reflow done known before after row column wrong None pool front right there got = got
column_got layout bytes reflow done known before after row column wrong (Some bytes_got) pool front right there got =
    λ not_wrong. got.1 (column_bytes layout bytes row column)
    (told_there layout reflow done known before bytes row column wrong pool front right there not_wrong got.0)

-- What comes before the next column once one more was read came before, or is that one.
before_more : (before after : BlockRead) (row column : ℕ) → GoesOneOn before after → column < columns_in before.layout row
    → IsPassedColumn after row column
    → IsPassedColumn before row column ⊎ ((row ≡ before.row) × (column ≡ before.column))
before_more before after row column on inside earlier = ⊎_elim
    (λ same. ⊎_elim
    (λ low. inl (inl (let r = same.1 in omega (arith, low, r))))
    (λ here. let r = same.1 in let c = same.2 in ⊎_elim
    (λ less. inl (inr ((here.0 ∙ r), less)))
    (λ most. inr ((here.0 ∙ r), omega (arith, here.1, c, most)))
    (cases_lt column before.column))
    earlier)
    (λ next. let r = next.1 in let c = next.2 in ⊎_elim
    (λ low. ⊎_elim
    (λ less. inl (inl less))
    (λ most. let same : row ≡ before.row = omega (arith, low, r, most) in
    let wide : column < columns_in before.layout before.row = subst (λ (k : ℕ). column < columns_in before.layout k) same inside in
    ⊎_elim
    (λ less. inl (inr (same, less)))
    (λ at_least. inr (same, omega (arith, at_least, wide, next.0)))
    (cases_lt column before.column))
    (cases_lt row before.row))
    (λ here. absurd (omega (arith, here.1, c)))
    earlier)
    on.next

-- One column more was read.
pub read_more : (bytes : List ℕ) (reflow : Reflow) (done : ℕ) (wrong : Excepted) (before after : BlockRead)
    (here there : Point) → IsAtColumn before → before.row < rows_of before.layout → IsInPool before.layout reflow → IsFrontIn reflow.state reflow done
    → IsRightBlock before.layout bytes reflow done here.disk.reads here.out wrong
    → ReadsColumn reflow before here after there → IsReadSoFar bytes reflow here.out wrong before
    → IsReadSoFar bytes reflow there.out wrong after
read_more bytes reflow done wrong before after here there place left pool front right reads so_far = record {
  got = λ row column is earlier.
      let was : IsColumn before.layout row column = subst (λ (l : Layout). IsColumn l row column) reads.on.layout_is is in
      subst (λ (l : Layout). IsColumnOf l bytes reflow there.out wrong row column (got_of after.read row column)) (sym reads.on.layout_is)
      (⊎_elim
      (λ old. old_got row column was old (cases_eq row before.row) (cases_eq column before.column))
      (λ new. now_got row column new.0 new.1)
      (before_more before after row column reads.on was.column_in earlier));
  missing = λ row column row_in behind column_in.
      let row_was = subst (λ (l : Layout). row < rows_of l) reads.on.layout_is row_in in
      let behind_was = subst (λ (l : Layout). columns_in l row ≤ column) reads.on.layout_is behind in
      let column_was = subst (λ (l : Layout). column < columns_of l) reads.on.layout_is column_in in
      others row column row_was column_was
      (λ same. λ also. let inside = place.column_in left in
      let wide : columns_in before.layout before.row ≤ column = subst (λ (k : ℕ). columns_in before.layout k ≤ column) same behind_was in
      omega (arith, inside, wide, also))
      ∙ so_far.missing row column row_was behind_was column_was;
}
  where
    others : (row column : ℕ) → row < rows_of before.layout → column < columns_of before.layout
        → (row ≡ before.row → column ≡ before.column → ⊥)
        → got_of after.read row column ≡ got_of before.read row column
    others row column row_in column_in apart = reads.column.put.others row column
        (subst (λ (n : ℕ). row < n) (sym place.shape.rows.rows_are) row_in)
        (subst (λ (n : ℕ). column < n) (sym place.shape.rows.cols_are) column_in)
        (⊎_elim (λ same. inr (λ also. apart same also)) (λ differs. inl differs) (cases_eq row before.row))

    now_got : (row column : ℕ) → row ≡ before.row → column ≡ before.column
        → IsColumnOf before.layout bytes reflow there.out wrong row column (got_of after.read row column)
    now_got row column same also =
        let at : IsColumn before.layout before.row before.column = record { row_in = left; column_in = place.column_in left } in
        subst (λ (r : ℕ). IsColumnOf before.layout bytes reflow there.out wrong r column (got_of after.read r column)) (sym same)
        (subst (λ (c : ℕ). IsColumnOf before.layout bytes reflow there.out wrong before.row c (got_of after.read before.row c)) (sym also)
        (subst (IsColumnOf before.layout bytes reflow there.out wrong before.row before.column) (sym reads.column.put.here)
        (column_got before.layout bytes reflow done here.disk.reads here.out there.out before.row before.column wrong
        reads.column.given pool
        front right at
        (got_by_step (spot_of before.layout reflow before.row before.column) reads.column.given here there reads.column.read))))

    old_got : (row column : ℕ) → IsColumn before.layout row column → IsPassedColumn before row column
        → (row ≡ before.row) ⊎ (row ≢ before.row) → (column ≡ before.column) ⊎ (column ≢ before.column)
        → IsColumnOf before.layout bytes reflow there.out wrong row column (got_of after.read row column)
    old_got row column is old rows columns =
        let narrow = row_few before.layout row place.is in
        let wide : column < columns_of before.layout = omega (arith, is.column_in, narrow) in
        subst (IsColumnOf before.layout bytes reflow there.out wrong row column)
        (sym (others row column is.row_in wide
        (λ same also. ⊎_elim (λ low. omega (arith, low, same)) (λ at. omega (arith, at.1, also)) old)))
        (column_stays before.layout bytes reflow here.out there.out wrong row column (got_of before.read row column)
        (outs_by_step (spot_of before.layout reflow before.row before.column) reads.column.given here there reads.column.read).still
        (so_far.got row column is old))

-- ---- what a whole reading has

-- A column that isn't lost has its bytes.
got_unlost : (read : ColumnsRead) (row column : ℕ) → has_lost read row column ≡ false
    → got_of read row column ≡ Some (column_at read.rows row column)
got_unlost read row column unlost = ap (λ (b : Bool). if b then None else Some (column_at read.rows row column)) unlost

got_lost : (read : ColumnsRead) (row column : ℕ) → has_lost read row column ≡ true → got_of read row column ≡ None
got_lost read row column lost = ap (λ (b : Bool). if b then None else Some (column_at read.rows row column)) lost

-- Once all columns were read and none may be wrong, what is there of the block is left of these bytes,
pub read_left_over : (bytes : List ℕ) (reflow : Reflow) (out : ℕ) (run : BlockRead) → IsLayout run.layout
    → run.row ≡ rows_of run.layout → IsReadSoFar bytes reflow out [] run
    → IsLeftOver run.layout bytes run.read.rows run.read.lost.items
read_left_over bytes reflow out run is whole so_far = record {
  there = λ row column row_in column_in not_lost. ⊎_elim
      (λ (inside : column < columns_in run.layout row).
      let test : nat_lt column (columns_in run.layout row) ≡ true = grind (arith, nat_tests, inside) in
      let unlost : has_lost run.read row column ≡ false =
      sym (ap (λ (b : Bool). b && has_lost run.read row column) test) ∙ not_lost in
      (subst (IsColumnOf run.layout bytes reflow out [] row column) (got_unlost run.read row column unlost)
      (so_far.got row column (record { row_in = row_in; column_in = inside }) (inl (omega (arith, row_in, whole)))))
      (contains_none _))
      (λ (behind : columns_in run.layout row ≤ column).
      (has_bytes (has_lost run.read row column) (column_at run.read.rows row column) zero_sector
      (so_far.missing row column row_in behind column_in)).1
      ∙ sym (missing_bytes run.layout bytes row column ((missing_behind run.layout row column is row_in column_in).1 behind)))
      (cases_lt column (columns_in run.layout row));
}

-- and of no row too much is lost.
pub read_lost_few : (bytes : List ℕ) (reflow : Reflow) (out : ℕ) (wrong : Excepted) (run : BlockRead)
    → IsInPool run.layout reflow
    → run.row ≡ rows_of run.layout → IsReadSoFar bytes reflow out wrong run → count_of out ≤ run.layout.parity
    → HasLostFew run.layout run.read
read_lost_few bytes reflow out wrong run pool whole so_far few = record {
  each = λ row row_in too_few. lost_few_out run.layout reflow out run.read pool few row row_in
      (λ column inside lost. subst (IsColumnOf run.layout bytes reflow out wrong row column) (got_lost run.read row column lost)
      (so_far.got row column (record { row_in = row_in; column_in = inside }) (inl (omega (arith, row_in, whole)))))
      too_few;
}
