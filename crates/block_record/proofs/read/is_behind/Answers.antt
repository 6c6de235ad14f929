use Rattle.block_record.proofs.Pages.{behind_last}
use Rattle.block_record.proofs.read.is_behind.Goals as goal

pub returns-in-Some : goal.returns-in-Some
returns-in-Some c = record { value = behind_last c.args.entries.now c.in-Some.last.now c.args.id c.requires.index c.in-Some.ensures.value }
