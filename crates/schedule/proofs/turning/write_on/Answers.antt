use Rattle.schedule.proofs.Words.{Done}
use Rattle.schedule.proofs.order.CallTurns.{put_end_goes}
use Rattle.schedule.proofs.turning.write_on.Goals as goal

pub returns-then-is_written-clause-goes_on : goal.returns-then-is_written-clause-goes_on
returns-then-is_written-clause-goes_on g c = put_end_goes c.args.run.now (Done c.put_end.result) c.put_end.ensures.ends
