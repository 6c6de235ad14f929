use Rattle.core_turns.proofs.scrub.Turns.{block_reads_or_ends}
use Rattle.core_turns.proofs.open_core.Core.read_block.Goals as goal

pub returns-clause-of : goal.returns-clause-of
returns-clause-of g c = block_reads_or_ends _ _ c.get_read.new.run c.get_read.result c.get_read.ensures.out.still
    c.requires.of c.get_read.ensures.reads
