use Rattle.core_turns.proofs.solving.solve_columns.Goals as goal

pub returns-in-Err-Damaged : goal.returns-in-Err-Damaged
returns-in-Err-Damaged c = c.in-Err-Damaged.ensures.cause_damaged (cc)
