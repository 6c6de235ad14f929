use Rattle.std.proofs.Common.{ℕ, drop, ◌∙◌, ap, arith}
use Rattle.commit_job.specs.Stages.{plan_of}
use Rattle.commit_job.proofs.Lefts.{all_meant}
use Rattle.commit_job.proofs.Plans.{length-signing, signing_left}
use Rattle.commit_job.proofs.commit.Commit.signing.Goals as goal

pub invariant_of-result : goal.invariant_of-result
invariant_of-result c = record {
  narrow = c.requires.devices;
  few = omega arith;
  inside = omega (arith, length-signing c.args.devices, c.from.ensures);
}

pub returns : goal.returns
returns c = record {
  value = all_meant (drop c.from.result (plan_of c.args.devices 0))
      ∙ ap (λ (place : ℕ). drop place (plan_of c.args.devices 0)) c.from.ensures ∙ signing_left c.args.devices;
}
