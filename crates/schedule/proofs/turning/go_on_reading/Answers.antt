use Rattle.schedule.proofs.Words.{rules, turn_with, Done}
use Rattle.schedule.proofs.order.CallTurns.{read_end_goes, read_ends, read_goes_on, read_of, read_with_memory}
use Rattle.schedule.proofs.turning.go_on_reading.Goals as goal

pub returns-then-not-is_read-clause-goes_on : goal.returns-then-not-is_read-clause-goes_on
returns-then-not-is_read-clause-goes_on g c = read_goes_on _ _ c.args.run.now
    (turn_with c.get_read.new.run c.get_read.result) c.get_read.ensures.reads
    c.get_read.ensures.unchanged c.get_read.ensures.out

pub get_end-requires-clause-of : goal.get_end-requires-clause-of
get_end-requires-clause-of g c = read_of c.solve.ensures.solves c.requires.of

pub returns-clause-goes : goal.returns-clause-goes
returns-clause-goes g c = read_ends c.args.core.now c.get_end.new.self (g.B.Bank.disk c.args.bank.now)
    (Done c.get_end.result) c.solve.ensures.solves (search rules) c.get_end.ensures.ends

pub returns-clause-goes_on : goal.returns-clause-goes_on
returns-clause-goes_on g c = read_end_goes c.solve.new.run (Done c.get_end.result) c.get_end.ensures.ends

pub returns-clause-taken : goal.returns-clause-taken
returns-clause-taken g c = read_with_memory c.args.core.now c.get_end.new.self c.args.run.now c.args.solved
    c.solve.ensures.taken c.get_end.ensures.ends
