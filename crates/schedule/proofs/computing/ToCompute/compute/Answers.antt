use Rattle.schedule.proofs.computing.ToCompute.compute.Goals as goal

pub returns-in-Solve-clause-right : goal.returns-in-Solve-clause-right
returns-in-Solve-clause-right c = c.solve.ensures.right c.args.calls.now
