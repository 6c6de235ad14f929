use Rattle.commit_job.specs.Stages.{plan_of}
use Rattle.commit_job.proofs.Lefts.{all_meant}
use Rattle.commit_job.proofs.commit.Commit.new.Goals as goal

pub returns : goal.returns
returns c = record { value = all_meant (plan_of c.args.devices c.args.count) }
