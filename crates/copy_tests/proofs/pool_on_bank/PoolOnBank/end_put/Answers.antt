use Rattle.std.proofs.Common.{◌+◌, Option, ap, subst}
use Rattle.bank_mem.specs.MemBank.{mem_disk}
use Rattle.core_state.specs.declared.answer.Answer.{Answer}
use Rattle.core_turns.specs.declared.putting.PutRun.{PutRun}
use Rattle.core_turns.specs.declared.turn.Turn.TheVariants.{Done}
use Rattle.core_turns.specs.Core.{at_disk}
use Rattle.core_turns.specs.Putting.{IsMorePut, WritesTurn}
use Rattle.core_turns.specs.Steps.{turn_with}
use Rattle.copy_tests.proofs.UnderWay.{put_end_bank}
use Rattle.copy_tests.proofs.pool_on_bank.PoolOnBank.end_put.Goals as goal

pub invariant_of-self : goal.invariant_of-self
invariant_of-self c = record {
  has_bank = put_end_bank c.loop.self.core c.put_end.new.self c.loop.run (Done c.put_end.result) (mem_disk c.loop.self.bank)
      c.put_end.ensures.ends c.loop.self.has_bank;
}

pub put_write-requires-clause-left : goal.put_write-requires-clause-left
put_write-requires-clause-left c =
    let filled = c.loop.invariant.filled in (
      filled.0,
      filled.1,
      c.is_written.ensures.left c.loop.self.core filled.0 c.loop.invariant.of filled.1
          c.if-is_written.false,
    )

pub loop-preserved : goal.loop-preserved
loop-preserved c =
    let before = at_disk c.loop.self.core (mem_disk c.loop.self.bank) in
    let after = at_disk c.put_write.new.self (mem_disk c.put_write.new.bank) in
    let more = subst (λ (given : Option Answer). IsMorePut c.put_write.new.self (turn_with c.put_write.new.run given))
    c.in-None.is c.put_write.ensures.of in
    let wrote = subst (λ (given : Option Answer). WritesTurn before c.loop.run after (turn_with c.put_write.new.run given))
    c.in-None.is c.put_write.ensures.writes in
    let filled = wrote.writes.filled in
    record {
      of = more.0;
      under_way = more.1;
      filled = (
        record filled { write = record filled.write { next = filled.write.next + 1 } },
        ap (λ (run : PutRun). run.filled) wrote.writes.next_is,
      );
    }
