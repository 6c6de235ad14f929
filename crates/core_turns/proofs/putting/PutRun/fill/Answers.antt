use Rattle.core_turns.proofs.put.Turns.{went_filled}
use Rattle.core_turns.proofs.putting.PutRun.fill.Goals as goal

pub returns-clause-of : goal.returns-clause-of
returns-clause-of c = went_filled c.args.self.now c.fill_in.new.self c.args.bytes.now c.fill_in.result
    c.fill_in.ensures.ok c.fill_in.ensures.err c.requires.fillable.len
