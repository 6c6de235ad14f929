use Rattle.std.proofs.Common.{◌≡◌, ℕ, ◌+◌, ◌<◌, List, ◌∙◌, ap, sym, subst}
use Rattle.reflow_mark.specs.declared.reflow.Reflow.{Reflow}
use Rattle.uberblock_ring.specs.Uberblock.{Uber}
use Rattle.commit_job.specs.declared.call.CommitCall.{CommitCall}
use Rattle.commit_job.specs.Stages.{signing_of}
use Rattle.core_commit.specs.declared.commit_run.Stage.TheVariants.{Signs}
use Rattle.core_commit.specs.CommitTurns.{CommitRun, IsCommitRun}
use Rattle.core_commit.specs.Widening.{widened_run, widened_uber}
use Rattle.core_commit.proofs.Widening.{widened_run_right}
use Rattle.core_commit.proofs.commit_run.CommitRun.widened.Goals as goal

pub invariant_of-result : goal.invariant_of-result
invariant_of-result c =
    let uber = c.self.inside.uber.value in
    let run : CommitRun = record {
      uber = uber;
      entries = c.self.inside.entries.items;
      calls = c.self.inside.calls;
      stage = c.self.inside.stage;
    } in
    let births = c.births-births.result.now in
    let reflow = c.reflow-reflow.result in
    let uber_is : c.set_out.new.self ≡ widened_uber uber =
    c.set_out.ensures.value
    ∙ ap (λ (u : Uber). record u { out = c.args.out })
    (c.deref_mut-2.ensures.value ∙ c.set_widths.ensures.value
    ∙ ap (λ (u : Uber). record u { reflow = record reflow { to = reflow.to + 1 }; births = births }) c.deref_mut.ensures.value)
    ∙ ap (λ (r : Reflow). record uber { reflow = record r { to = r.to + 1 }; births = births; out = c.args.out })
    (c.reflow-reflow.ensures.value ∙ ap (λ (u : Uber). u.reflow) c.deref.ensures)
    ∙ ap (λ bs. record uber { reflow = record uber.reflow { to = uber.reflow.to + 1 }; births = bs; out = c.args.out })
    (c.births-births.ensures.value ∙ ap (λ (u : Uber). u.births) c.deref-2.ensures)
    ∙ ap (λ (out : ℕ). record uber { reflow = record uber.reflow { to = uber.reflow.to + 1 }; out = out })
    c.requires.whole in
    let calls_are : c.signing.result ≡ signing_of (uber.reflow.to + 1) = c.signing.ensures.value
    ∙ ap (λ (r : Reflow). signing_of (r.to + 1)) (c.reflow-reflow.ensures.value ∙ ap (λ (u : Uber). u.reflow) c.deref.ensures) in
    let right : IsCommitRun (widened_run run) = widened_run_right run
    (subst (λ (r : CommitRun). r.uber.reflow.to ≡ r.uber.reflow.from) (sym c.self.view_is) c.requires.rest)
    (subst (λ (r : CommitRun). r.uber.reflow.to < 16) (sym c.self.view_is) c.requires.room) c.self.invariant.0 in (
      subst (λ (calls : List CommitCall). IsCommitRun (record {
        uber = c.set_out.new.self;
        entries = run.entries;
        calls = calls;
        stage = Signs;
      })) (sym calls_are)
          (subst (λ (u : Uber). IsCommitRun (record {
            uber = u;
            entries = run.entries;
            calls = signing_of (uber.reflow.to + 1);
            stage = Signs;
          })) (sym uber_is) right),
      c.self.invariant.1,
    )
