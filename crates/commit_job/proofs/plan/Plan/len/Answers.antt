use Rattle.std.proofs.Common.{◌*◌, ◌+◌, ◌∙◌, ap, sym, ℕ}
use Rattle.commit_job.proofs.Plans.{length-plan}
use Rattle.commit_job.proofs.plan.Plan.len.Goals as goal

pub returns : goal.returns
returns c = record {
  value = ap (λ (s : ℕ). c.args.self.now.devices * (s + 3)) c.page_sectors.ensures
      ∙ sym (length-plan c.args.self.now.devices c.args.self.now.count);
}
