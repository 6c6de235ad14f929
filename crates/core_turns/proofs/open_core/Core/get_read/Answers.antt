use Rattle.core_turns.proofs.Words.{reaching, bank_later, turn_with}
use Rattle.core_turns.proofs.read.Laws.{get_reads_or_ends}
use Rattle.core_turns.proofs.read.Turns.{get_of_more, reads_reaching}
use Rattle.core_turns.proofs.open_core.Core.get_read.Goals as goal

pub returns-clause-keeps : goal.returns-clause-keeps
returns-clause-keeps g c = λ wrong content holds. get_reads_or_ends _ _ c.read_next_column.new.run c.read_next_column.result
    c.read_next_column.ensures.front c.requires.of c.read_next_column.ensures.place c.requires.left
    c.read_next_column.ensures.unchanged c.read_next_column.ensures.out holds c.read_next_column.ensures.reads

pub returns-clause-of : goal.returns-clause-of
returns-clause-of g c = get_of_more _ _ (turn_with c.read_next_column.new.run c.read_next_column.result) c.requires.of
    c.read_next_column.ensures.reads

pub returns-clause-bank : goal.returns-clause-bank
returns-clause-bank g c =
    rw (reads_reaching _ _ c.args.run.now (turn_with c.read_next_column.new.run c.read_next_column.result) c.read_next_column.ensures.reads)
    (bank_later (reaching c.args.self.now) _ _ _ _ c.read_next_column.ensures.unchanged.goes_on.later
    c.read_next_column.ensures.out.still c.requires.bank)
