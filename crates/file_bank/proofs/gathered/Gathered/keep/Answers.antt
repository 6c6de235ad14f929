use Rattle.std.proofs.Common.{sym, subst, ◌≡◌, List, ◌+◌, length, arith}
use Rattle.file_bank.specs.Row.{KeptSector, AllKeptBy, HasRisingMoments, kept_sector}
use Rattle.file_bank.specs.KeptRow.{sectors_kept}
use Rattle.file_bank.specs.RowLaws.{row_length, gathered_lawful}
use Rattle.file_bank.proofs.KeptRows.{row_long}
use Rattle.file_bank.proofs.Rows.{by_one_more, by_later, rising_one_more, kept_written_at}
use Rattle.file_bank.proofs.gathered.Gathered.keep.Goals as goal

pub invariant_of-self-clause-by : goal.invariant_of-self-clause-by
invariant_of-self-clause-by g c =
    subst (λ (l : List KeptSector). AllKeptBy c.args.moment l) (sym c.push.ensures.row)
    (by_one_more _ _ _ (by_later _ _ _ (omega (arith, c.requires.later)) c.args.self.now.by) (omega arith))

pub invariant_of-self-clause-rising : goal.invariant_of-self-clause-rising
invariant_of-self-clause-rising g c = λ free.
    subst (λ (l : List KeptSector). HasRisingMoments (g.F.RowFile.contents c.args.self.now.file).last l)
    (sym c.push.ensures.row)
    (rising_one_more _ _ _ _ (c.args.self.now.rising c.requires.free) c.args.self.now.paced c.args.self.now.by
    c.requires.later)

pub invariant_of-self-clause-inside : goal.invariant_of-self-clause-inside
invariant_of-self-clause-inside g c =
    omega (
      arith,
      c.push.ensures.first,
      c.push.ensures.len,
      c.requires.next,
      c.requires.inside,
      row_length (g.F.RowFile.contents c.args.self.now.file) c.args.self.now.kept.first
          (sectors_kept c.args.self.now.kept),
    )

pub returns-clause-written : goal.returns-clause-written
returns-clause-written g c =
    let long = row_long _ _ c.args.self.now.kept.paired in
    let at : c.args.sector ≡ c.args.self.now.kept.first + length (sectors_kept c.args.self.now.kept) =
    omega (arith, long, c.requires.next) in
    kept_written_at _ _ _ _ _ _ _ (kept_sector c.args.moment c.args.from.now)
    (gathered_lawful _ _ _ _ (g.met.F.RowFile.lawful c.args.self.now.file) c.args.self.now.kept.whole
    c.args.self.now.paced c.args.self.now.by)
    c.requires.later at c.push.ensures.first c.push.ensures.row
