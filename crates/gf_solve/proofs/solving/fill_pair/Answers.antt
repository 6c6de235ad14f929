use Rattle.std.proofs.Common.{arith, length}
use Rattle.gf_solve.specs.Row.{is_masked}
use Rattle.gf_solve.proofs.Counting.{count_but_one}
use Rattle.gf_solve.proofs.solving.fill_pair.Goals as goal

pub returns-in_default-next_there-clause-filled : goal.returns-in_default-next_there-clause-filled
returns-in_default-next_there-clause-filled c = λ was sectors agree parities.
    absurd (omega (
      arith,
      c.requires.few,
      count_but_one (is_masked c.args.lost) (length c.args.parities.now) c.in-Some.sooner c.in-Some.ensures.below
          c.in-Some.ensures.lowest c.in_default-next_there.ensures.none,
    ))

pub returns-in_default-next_there-clause-fits : goal.returns-in_default-next_there-clause-fits
returns-in_default-next_there-clause-fits c =
    absurd (omega (
      arith,
      c.requires.few,
      count_but_one (is_masked c.args.lost) (length c.args.parities.now) c.in-Some.sooner c.in-Some.ensures.below
          c.in-Some.ensures.lowest c.in_default-next_there.ensures.none,
    ))
