use Rattle.std.proofs.Common.{◌≡◌, arith, rules}
use Rattle.std.specs.Prelude.{◌++◌, codes}
use Rattle.raidzx_top.proofs.WordTexts.{same_sectors}
use Rattle.raidzx_top.proofs.images.memory_of.Goals as goal
use Rattle.raidzx_top.proofs.images.memory_of.Goals.{then-sectors-lt1-via-then-sectors-lt1}
use Rattle.raidzx_top.proofs.images.memory_of.Goals.{then-sectors-lt1-via-else-sectors-lt1+then-sectors-gt-MOST_SECTORS}

pub returns-then-sectors-lt1-clause-none : goal.returns-then-sectors-lt1-clause-none
returns-then-sectors-lt1-clause-none c = λ sectors is.
    let spelled : c.args.word.now ≡ codes "mem:" ++ c.in_ok-digits.digits.now = search rules in
    let same = same_sectors c.args.word.now c.in_ok-digits.digits.now c.in_ok-sectors.sectors sectors
    (omega arith) (omega (arith, is.few)) spelled c.in_ok-sectors.ensures.some is.spelled in
    elim c.then-sectors-lt1.branch [
      | then-sectors-lt1-via-then-sectors-lt1 w ↦ omega (arith, same, is.some)
      | then-sectors-lt1-via-else-sectors-lt1+then-sectors-gt-MOST_SECTORS w ↦ omega (arith, same, is.few)
    ]
