use Rattle.std.proofs.Common.{ℕ, ◌+◌, List, Option, sym, ◌∙◌, subst, ap}
use Rattle.std.specs.Prelude.{IsSome}
use Rattle.core_state.specs.Committing.{point_of}
use Rattle.core_state.specs.SpotReads.{given_by}
use Rattle.core_copy.specs.declared.job_run.CopiedSoFar.{CopiedSoFar}
use Rattle.core_copy.specs.JobRun.{IsJobRun, JobRun, MakesCall}
use Rattle.core_copy.proofs.Calls.{read_where_given}
use Rattle.core_copy.proofs.Steps.{below_by_step, call_can_be_made, call_steps, outs_by_step, read_by_step}
use Rattle.core_copy.proofs.Steps.{write_has_bytes}
use Rattle.core_copy.proofs.job_run.JobRun.step.Goals as goal

pub make-run-requires-clause-callable : goal.make-run-requires-clause-callable
make-run-requires-clause-callable g c =
    call_can_be_made c.args.self.now c.in-Some.call c.args.out.now (g.B.Bank.disk c.args.bank.now)
    (subst (λ (r : JobRun). IsJobRun r) c.self.view_is c.self.invariant)
    (sym c.next.ensures.value ∙ c.in-Some.is) c.requires.whole c.requires.bank

pub make-run-requires-clause-read : goal.make-run-requires-clause-read
make-run-requires-clause-read g c = λ writes.
    read_where_given c.deref_mut-run.result.now.has_read c.deref_mut-run.result.now.bytes
    (subst IsSome (sym (ap (λ (r : CopiedSoFar). given_by r.has_read r.bytes) c.deref_mut-run.ensures.value
    ∙ ap (λ (r : JobRun). r.read) c.self.view_is))
    (write_has_bytes c.args.self.now c.in-Some.call c.requires.read (sym c.next.ensures.value ∙ c.in-Some.is) writes))

pub returns-clause-steps : goal.returns-clause-steps
returns-clause-steps g c =
    let before = point_of c.args.out.now (g.B.Bank.disk c.args.bank.now) in
    let after = point_of c.make-run.new.out (g.B.Bank.disk c.make-run.new.bank) in
    let given = given_by c.make-run.result c.make-run.new.bytes in
    call_steps c.args.self.now _ c.in-Some.call given before after (sym c.next.ensures.value ∙ c.in-Some.is)
    (subst (λ (read : Option (List ℕ)). MakesCall c.in-Some.call read given before after)
    (ap (λ (r : CopiedSoFar). given_by r.has_read r.bytes) c.deref_mut-run.ensures.value
    ∙ ap (λ (r : JobRun). r.read) c.self.view_is)
    c.make-run.ensures)
    (ap (λ (r : CopiedSoFar). record { reflow = r.reflow; job = r.job; made = r.made + 1; read = given })
    c.deref_mut-run.ensures.value ∙ ap (λ (r : JobRun). record r { made = r.made + 1; read = given }) c.self.view_is)

pub returns-clause-out : goal.returns-clause-out
returns-clause-out g c =
    outs_by_step c.args.self.now _ (point_of c.args.out.now (g.B.Bank.disk c.args.bank.now))
    (point_of c.make-run.new.out (g.B.Bank.disk c.make-run.new.bank)) (returns-clause-steps g c)

pub returns-clause-below : goal.returns-clause-below
returns-clause-below g c =
    below_by_step c.args.self.now _ (point_of c.args.out.now (g.B.Bank.disk c.args.bank.now))
    (point_of c.make-run.new.out (g.B.Bank.disk c.make-run.new.bank))
    (subst (λ (r : JobRun). IsJobRun r) c.self.view_is c.self.invariant) c.requires.left c.requires.whole
    (returns-clause-steps g c)

pub returns-clause-read : goal.returns-clause-read
returns-clause-read g c = λ whole.
    read_by_step c.args.self.now _ (point_of c.args.out.now (g.B.Bank.disk c.args.bank.now))
    (point_of c.make-run.new.out (g.B.Bank.disk c.make-run.new.bank)) (returns-clause-steps g c) whole
