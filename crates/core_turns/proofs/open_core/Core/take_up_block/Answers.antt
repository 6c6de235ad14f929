use Rattle.core_turns.proofs.Words.{refl, ◌∙◌, ap, Core}
use Rattle.core_turns.proofs.scrub.Turns.{block_begins_of}
use Rattle.core_turns.proofs.open_core.Core.take_up_block.Goals as goal

pub returns : goal.returns
returns c =
    let begins = c.in-More.ensures.begins in
    let uber = ap (λ (core : Core). core.pool.uber.reflow) (c.self.view_is ∙ begins.6) in
    let done = ap (λ (core : Core). core.pool.done) (c.self.view_is ∙ begins.6) in
    let mend = rw (c.reflow-reflow.ensures.value ∙ uber, done) at c.of_block-mend.ensures in
    record {
      begins = (
        begins,
        mend,
        refl,
        rw mend (block_begins_of c.args.id (rw c.self.view_is at c.self.invariant) begins c.requires.scrubs),
      );
    }
