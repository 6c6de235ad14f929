use Rattle.core_turns.proofs.Words.{◌≡◌, ◌∙◌, ap, Exclusive, Reflow, job_end, hold_for_job}
use Rattle.core_turns.proofs.copy.Turns.{job_begins}
use Rattle.core_turns.proofs.open_core.Core.hold_job.Goals as goal

pub returns-in-Ok-hold_exclusive : goal.returns-in-Ok-hold_exclusive
returns-in-Ok-hold_exclusive c =
    let reflow : c.reflow-reflow.result ≡ c.self.inside.uber.reflow = c.reflow-reflow.ensures.value in
    let hold_is : c.in-Ok-hold_exclusive.hold ≡ hold_for_job c.self.inside.uber.reflow c.args.job c.args.actor
    = c.in-Ok-hold_exclusive.ensures.hold ∙ (λ i. record {
      lo = c.begin.ensures.value i;
      hi = (c.end.ensures.value ∙ ap (λ (r : Reflow). job_end r c.args.job) reflow) i;
      actor = c.args.actor;
      kind = Exclusive;
    }) in
    rw (← c.self.view_is, c.in-Ok.ensures.value, reflow) (job_begins c.self.invariant
    (rw (← c.self.view_is) at c.requires.due) hold_is c.in-Ok-hold_exclusive.ensures.ok
    (rw c.in-Ok-hold_exclusive.ensures.hold c.in-Ok-hold_exclusive.ensures.clear))
