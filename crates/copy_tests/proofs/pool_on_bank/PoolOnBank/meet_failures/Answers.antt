use Rattle.std.proofs.Common.{Option, subst}
use Rattle.bank_mem.specs.MemBank.{mem_disk}
use Rattle.core_state.specs.declared.answer.Answer.{Answer}
use Rattle.core_turns.specs.Core.{at_disk}
use Rattle.core_turns.specs.Getting.{IsMoreOf, ReadsTurn}
use Rattle.core_turns.specs.Steps.{turn_with}
use Rattle.copy_tests.proofs.UnderWay.{job_at_read}
use Rattle.copy_tests.proofs.pool_on_bank.PoolOnBank.meet_failures.Goals as goal

pub loop-preserved : goal.loop-preserved
loop-preserved c =
    let before = at_disk c.loop.self.core (mem_disk c.loop.self.bank) in
    let after = at_disk c.get_read.new.self (mem_disk c.get_read.new.bank) in
    record {
      of = subst (λ (given : Option Answer). IsMoreOf c.get_read.new.self (turn_with c.get_read.new.run given)) c.in-None.is
          c.get_read.ensures.of;
      jobs = λ job of. job_at_read before after c.loop.run c.get_read.new.run job
          (subst (λ (given : Option Answer). ReadsTurn before c.loop.run after (turn_with c.get_read.new.run given)) c.in-None.is
          c.get_read.ensures.reads) c.get_read.ensures.out (c.loop.invariant.jobs job of);
    }
