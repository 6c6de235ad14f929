use Rattle.std.proofs.Common.{inl, inr}
use Rattle.std.proofs.lemmas.Result.{IfOk-weaker}
use Rattle.raidzx.proofs.Listed.{found_before, none_before}
use Rattle.raidzx.proofs.seen.out_by.Goals as goal

pub returns-then-all_show-clause-out : goal.returns-then-all_show-clause-out
returns-then-all_show-clause-out g c = λ image holds. inr (c.empty.ensures.value, inl c.if-all_show.ensures.shown)

pub returns-in-Ok-clause-out : goal.returns-in-Ok-clause-out
returns-in-Ok-clause-out g c = λ image holds.
    found_before (g.B.Bank.disk c.args.bank.now) (g.B.Bank.disk c.all_show.new.bank) (g.B.Bank.disk c.find.new.bank)
    c.if-all_show.ensures.unchanged image c.args.group c.in-Ok.found c.listed_in.result holds c.in-Ok.ensures.found
    c.in-Ok.ensures.silent c.listed_in.ensures

pub returns-in-Err-clause-out : goal.returns-in-Err-clause-out
returns-in-Err-clause-out g c = IfOk-weaker c.none_listed.result _ _ (λ out none image holds. inr (
  none.0,
  inr (none_before (g.B.Bank.disk c.args.bank.now) (g.B.Bank.disk c.all_show.new.bank) (g.B.Bank.disk c.find.new.bank)
      c.if-all_show.ensures.unchanged image c.in-Err.why holds none.1 c.in-Err.ensures.cause),
)) c.none_listed.ensures
