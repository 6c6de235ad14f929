use Rattle.std.proofs.Common.{◌≡◌, ◌+◌, ◌*◌, ◌/◌, ◌<◌, ◌≤◌, ℕ, ◌∙◌, [], length, drop, false, subst, List, sym, refl}
use Rattle.std.proofs.Common.{arith, get_or}
use Rattle.file_bank.specs.MemFile.{file_of}
use Rattle.file_bank.specs.Row.{KeptSector, TellsSame, HasRisingMoments, kept_row, kept_sector, with_sector}
use Rattle.std.specs.Result.{is_err}
use Rattle.file_bank.proofs.KeptRows.{kept_at, row_long}
use Rattle.file_bank.proofs.MemRows.{of_err, of_ok, stopped_at, row_step, row_done, rising_step, by_at, well}
use Rattle.file_bank.proofs.MemRows.{same_length}
use Rattle.file_bank.proofs.mem_file.MemFileRowFile.write_row.Goals as goal

pub write_at-requires-clause-later : goal.write_at-requires-clause-later
write_at-requires-clause-later c =
    let row : List KeptSector = kept_row c.args.moments.now c.args.row.now in
    let kept : KeptSector = kept_sector (get_or c.args.moments.now c.loop-index.index 0)
    (get_or c.args.row.now c.loop-index.index []) in
    let inside : c.loop-index.index < length c.args.row.now = omega arith in
    let below : c.loop-index.index < length row =
    omega (arith, inside, row_long c.args.moments.now c.args.row.now c.requires.paired) in
    (rising_step _ _ row kept below (kept_at _ _ _ kept c.requires.paired inside refl) c.loop-index.invariant.rising).0

pub returns-then-is_err-clause-handed : goal.returns-then-is_err-clause-handed
returns-then-is_err-clause-handed c =
    let inside : c.loop-index.index < length c.args.row.now = omega arith in
    let below : c.loop-index.index < length (kept_row c.args.moments.now c.args.row.now) =
    omega (arith, inside, row_long c.args.moments.now c.args.row.now c.requires.paired) in
    stopped_at _ _ _ _ _ _ below (of_err _ _ (sym c.is_err.ensures.value ∙ c.if-is_err.true) c.write_at.ensures.none)
    c.loop-index.invariant.last c.loop-index.invariant.same

pub returns-clause-handed : goal.returns-clause-handed
returns-clause-handed c =
    let all : length (kept_row c.args.moments.now c.args.row.now) ≤ c.loop-index.index =
    omega (arith, row_long c.args.moments.now c.args.row.now c.requires.paired) in
    record {
      last = c.loop-index.invariant.last;
      done = row_done _ _ _ _ _ all c.loop-index.invariant.same;
      stopped = tt;
    }

pub loop-index-preserved : goal.loop-index-preserved
loop-index-preserved c =
    let row : List KeptSector = kept_row c.args.moments.now c.args.row.now in
    let kept : KeptSector = kept_sector (get_or c.args.moments.now c.loop-index.index 0)
    (get_or c.args.row.now c.loop-index.index []) in
    let went : is_err c.write_at.result ≡ false = sym c.is_err.ensures.value ∙ c.if-is_err.false in
    let place : (c.args.offset + c.loop-index.index * 512) / 512
    ≡ c.args.offset / 512 + c.loop-index.index = omega arith in
    let inside : c.loop-index.index < length c.args.row.now = omega arith in
    let below : c.loop-index.index < length row =
    omega (arith, inside, row_long c.args.moments.now c.args.row.now c.requires.paired) in
    let at : kept ≡ get_or row c.loop-index.index kept = kept_at _ _ _ kept c.requires.paired inside refl in
    let exact : TellsSame (with_sector (file_of c.loop-index.self)
    ((c.args.offset + c.loop-index.index * 512) / 512) kept) (file_of c.write_at.new.self) =
    of_ok _ _ went c.write_at.ensures.exact in
    let last : (file_of c.write_at.new.self).last ≡ kept.moment = of_ok _ _ went c.write_at.ensures.last in
    let same = row_step (file_of c.args.self.now) (file_of c.loop-index.self) (file_of c.write_at.new.self) _ _ _ row
    kept below at place c.loop-index.invariant.same exact in
    record {
      same = same;
      length = same_length (file_of c.args.self.now) (file_of c.write_at.new.self) (c.args.offset / 512)
          (c.args.offset / 512 + (c.loop-index.index + 1)) row (drop (c.loop-index.index + 1) row) same;
      rising = subst (λ (m : ℕ). HasRisingMoments m (drop (c.loop-index.index + 1) row)) (sym last)
          (rising_step _ _ _ kept below at c.loop-index.invariant.rising).1;
      last = λ moment le by. omega (arith, last, by_at moment _ row kept below at by);
      faults = well _ _ _ went c.write_at.ensures.counts ∙ c.loop-index.invariant.faults;
    }
