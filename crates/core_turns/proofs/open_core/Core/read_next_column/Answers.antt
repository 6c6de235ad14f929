use Rattle.core_turns.proofs.Words.{◌≡◌, ap, arith, Reflow}
use Rattle.core_turns.proofs.state.Cores.{bank_has, bank_within, core_out}
use Rattle.core_turns.proofs.read.Turns.{read_ended}
use Rattle.core_turns.proofs.open_core.Core.read_next_column.Goals as goal

pub step-requires-clause-bank : goal.step-requires-clause-bank
step-requires-clause-bank g c = bank_has c.self.inside.uber c.reflow-reflow.ensures.value
    (bank_within _ (g.B.Bank.disk c.args.bank.now) c.self.invariant (rw (← c.self.view_is) at c.requires.bank))

pub invariant_of-self : goal.invariant_of-self
invariant_of-self g c = read_ended c.self.invariant (rw (← c.self.view_is) at c.requires.of) c.end.ensures.ends

pub invariant_of-self-2 : goal.invariant_of-self-2
invariant_of-self-2 g c =
    let to : c.reflow-reflow.result.to ≡ c.self.inside.uber.reflow.to = ap
    (λ (r : Reflow). r.to) c.reflow-reflow.ensures.value in
    let more = c.self.invariant.reach in
    core_out _ c.step.new.out c.self.invariant
    (c.step.ensures.below c.self.inside.reach (omega (arith, to, more)) c.self.invariant.below) c.step.ensures.out.still
