use Rattle.std.proofs.Common.{Result, inl, refl, subst}
use Rattle.std.specs.Prelude.{IfErr}
use Rattle.core_open.specs.declared.why.OpenWhy.{OpenWhy}
use Rattle.schedule.specs.declared.whole_run.Ran.{Ran}
use Rattle.raidzx_top.specs.Running.{IsUnopened, Unopened}
use Rattle.raidzx_top.proofs.running.run.Goals as goal

pub returns-in-Err-clause-ends : goal.returns-in-Err-clause-ends
returns-in-Err-clause-ends g c = rw (
  c.without_turns.ensures.status,
  c.without_turns.ensures.turns,
  c.without_turns.ensures.bank,
  c.without_turns.ensures.journal,
  c.refuse.ensures.same,
) (inl (record {
  none = refl;
  no_turns = refl;
  refused = c.in-Err.ensures.ends (g.B.Bank.disk c.args.bank);
  said = c.refuse.ensures.said;
}))

pub returns-in-Err-ran-clause-ends : goal.returns-in-Err-ran-clause-ends
returns-in-Err-ran-clause-ends g c = rw (
  c.without_turns-in-Err-ran.ensures.status,
  c.without_turns-in-Err-ran.ensures.turns,
  c.without_turns-in-Err-ran.ensures.bank,
  c.without_turns-in-Err-ran.ensures.journal,
  c.refuse-in-Err-ran.ensures.same,
)
    (inl (record {
      none = refl;
      no_turns = refl;
      refused = Unopened c.in-Ok.script c.in-Ok.ensures.ends c.in-Err-ran.why
          (subst (λ (ran : Result Ran OpenWhy). IfErr ran (IsUnopened (g.B.Bank.disk c.args.bank)
          (g.B.Bank.disk c.carry_script-ran.result.bank))) c.in-Err-ran.is c.carry_script-ran.ensures.unopened)
          c.from.ensures;
      said = c.refuse-in-Err-ran.ensures.said;
    }))
