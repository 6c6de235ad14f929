use Rattle.std.proofs.Common.{sym, subst, ◌≡◌, ◌*◌, ◌/◌, List, arith}
use Rattle.file_bank.specs.Row.{KeptSector, AllKeptBy}
use Rattle.file_bank.proofs.KeptRows.{row_long, row_same}
use Rattle.file_bank.proofs.Rows.{handed_last, stopped_same, stopped_length, done_length, stopped_tells, done_tells}
use Rattle.file_bank.proofs.Rows.{by_none, rising_none, by_drop}
use Rattle.file_bank.proofs.gathered.Gathered.hand_over.Goals as goal

pub invariant_of-self-in-Ok-clause-paced : goal.invariant_of-self-in-Ok-clause-paced
invariant_of-self-in-Ok-clause-paced g c =
    let at : c.args.self.now.kept.first * 512 / 512 ≡ c.args.self.now.kept.first = omega arith in
    handed_last _ _ _ _ _ _ at (row_same c.deref.ensures.value c.deref-2.ensures.value) _ c.write_row.ensures.handed _
    c.args.self.now.paced c.args.self.now.by

pub invariant_of-self-in-Err-clause-paced : goal.invariant_of-self-in-Err-clause-paced
invariant_of-self-in-Err-clause-paced g c =
    let at : c.args.self.now.kept.first * 512 / 512 ≡ c.args.self.now.kept.first = omega arith in
    handed_last _ _ _ _ _ _ at (row_same c.deref.ensures.value c.deref-2.ensures.value) _ c.write_row.ensures.handed _
    c.args.self.now.paced c.args.self.now.by

pub invariant_of-self-in-Ok-clause-by : goal.invariant_of-self-in-Ok-clause-by
invariant_of-self-in-Ok-clause-by g c = by_none _ _ c.restart_at.ensures.row

pub invariant_of-self-in-Ok-clause-rising : goal.invariant_of-self-in-Ok-clause-rising
invariant_of-self-in-Ok-clause-rising g c = λ free. rising_none _ _ c.restart_at.ensures.row

pub invariant_of-self-in-Ok-clause-inside : goal.invariant_of-self-in-Ok-clause-inside
invariant_of-self-in-Ok-clause-inside g c =
    let at : c.args.self.now.kept.first * 512 / 512 ≡ c.args.self.now.kept.first = omega arith in
    let long = done_length _ _ _ _ _ _ at (row_same c.deref.ensures.value c.deref-2.ensures.value) _ _ c.in-Ok.is
    c.write_row.ensures.handed in
    omega (arith, long, c.restart_at.ensures.first, c.restart_at.ensures.len, c.args.self.now.inside)

pub returns-in-Ok-clause-same : goal.returns-in-Ok-clause-same
returns-in-Ok-clause-same g c =
    let at : c.args.self.now.kept.first * 512 / 512 ≡ c.args.self.now.kept.first = omega arith in
    done_tells _ _ _ _ _ _ at (row_same c.deref.ensures.value c.deref-2.ensures.value) _ _ _ _ _ _ c.in-Ok.is
    c.restart_at.ensures.row c.write_row.ensures.handed

pub invariant_of-self-in-Err-clause-by : goal.invariant_of-self-in-Err-clause-by
invariant_of-self-in-Err-clause-by g c =
    subst (λ (l : List KeptSector). AllKeptBy c.args.self.now.last l) (sym c.drop_front.ensures.row)
    (by_drop _ c.in-Err.count _ c.args.self.now.by)

pub invariant_of-self-in-Err-clause-inside : goal.invariant_of-self-in-Err-clause-inside
invariant_of-self-in-Err-clause-inside g c =
    let at : c.args.self.now.kept.first * 512 / 512 ≡ c.args.self.now.kept.first = omega arith in
    let long = stopped_length _ _ _ _ _ _ at (row_same c.deref.ensures.value c.deref-2.ensures.value) _ _ c.in-Err.is
    c.write_row.ensures.handed in
    omega (arith, long, c.drop_front.ensures.first, c.drop_front.ensures.len, c.args.self.now.inside)

pub returns-in-Err-clause-same : goal.returns-in-Err-clause-same
returns-in-Err-clause-same g c =
    let at : c.args.self.now.kept.first * 512 / 512 ≡ c.args.self.now.kept.first = omega arith in
    stopped_tells _ _ _ _ _ _ at (row_same c.deref.ensures.value c.deref-2.ensures.value) _ _ _ _ _ _ c.in-Err.is
    c.drop_front.ensures.first c.drop_front.ensures.row c.write_row.ensures.handed

pub drop_front-requires : goal.drop_front-requires
drop_front-requires g c =
    let at : c.args.self.now.kept.first * 512 / 512 ≡ c.args.self.now.kept.first = omega arith in
    let few = (stopped_same _ _ _ _ _ _ at (row_same c.deref.ensures.value c.deref-2.ensures.value) _ _ c.in-Err.is
    c.write_row.ensures.handed).0 in
    omega (arith, few, row_long _ _ c.args.self.now.kept.paired)
