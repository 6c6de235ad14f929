use Rattle.commit_job.proofs.Lefts.{spread_meant}
use Rattle.commit_job.proofs.commit.Commit.spread.Goals as goal

pub returns : goal.returns
returns c = record { value = spread_meant c.args.devices c.args.count c.args.page c.args.uber }
