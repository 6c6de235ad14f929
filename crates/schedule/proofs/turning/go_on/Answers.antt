use Rattle.schedule.proofs.turning.go_on.Goals as goal

pub go_on_reading-requires-clause-solved : goal.go_on_reading-requires-clause-solved
go_on_reading-requires-clause-solved g c = c.into_solved.ensures.solved c.args.call.now c.requires.computed
