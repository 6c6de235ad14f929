use Rattle.std.proofs.Common.{arith, length}
use Rattle.gf_solve.specs.Row.{is_masked}
use Rattle.gf_solve.proofs.Counting.{count_all}
use Rattle.gf_solve.proofs.solving.fill_single.Goals as goal

pub returns-in_default-clause-filled : goal.returns-in_default-clause-filled
returns-in_default-clause-filled c = λ was sectors agree parities.
    absurd (omega (
      arith,
      c.requires.few,
      count_all (is_masked c.args.lost) 0 (length c.args.parities.now)
          (λ k from below. c.in_default.ensures.none k from (omega (arith, below))),
    ))
