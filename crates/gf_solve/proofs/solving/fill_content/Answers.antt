use Rattle.std.proofs.Common.{◌≡◌, ◌<◌, arith, sym, length, inl, inr, refl}
use Rattle.gf_solve.specs.declared.gaps.Gaps.TheVariants.{Whole, One, Two, Three}
use Rattle.gf_solve.specs.Row.{is_masked, count_lost}
use Rattle.gf_solve.proofs.Counting.{count_one, count_two, count_none}
use Rattle.gf_solve.proofs.Found.{three_count, count_gaps}
use Rattle.gf_solve.proofs.Serving.{serving_alike}
use Rattle.gf_solve.proofs.Restored.{no_gap_left}
use Rattle.gf_solve.proofs.Solved.{agree_but_gaps}
use Rattle.gf_solve.proofs.solving.fill_content.Goals as goal

pub fill_single-requires-clause-few : goal.fill_single-requires-clause-few
fill_single-requires-clause-few c =
    omega (
      arith,
      c.requires.few,
      count_one (is_masked c.args.lost_content) (length c.args.content.now) c.in-One.first
          (c.in-One.ensures.inside c.in-One.first refl) (c.in-One.ensures.lost_there c.in-One.first refl),
    )

pub fill_pair-requires-clause-few : goal.fill_pair-requires-clause-few
fill_pair-requires-clause-few c =
    omega (
      arith,
      c.requires.few,
      count_two (is_masked c.args.lost_content) (length c.args.content.now) c.in-Two.first c.in-Two.second c.in-Two.ensures.ascend
          (c.in-Two.ensures.inside c.in-Two.second (inr refl)) (c.in-Two.ensures.lost_there c.in-Two.first (inl refl))
          (c.in-Two.ensures.lost_there c.in-Two.second (inr refl)),
    )

pub fill_pair-requires-clause-second : goal.fill_pair-requires-clause-second
fill_pair-requires-clause-second c = c.in-Two.ensures.inside c.in-Two.second (inr refl)

pub fill_three-requires-clause-parities : goal.fill_three-requires-clause-parities
fill_three-requires-clause-parities c = omega (arith, c.requires.few, c.requires.parities, three_count (is_masked c.args.lost_content) (length c.args.content.now) c.in-Three.first c.in-Three.second c.in-Three.third c.in-Three.ensures)

pub fill_three-requires-clause-third : goal.fill_three-requires-clause-third
fill_three-requires-clause-third c = c.in-Three.ensures.inside c.in-Three.third (inr (inr refl))

pub returns-in-Whole-clause-filled : goal.returns-in-Whole-clause-filled
returns-in-Whole-clause-filled c = λ was sectors left parities.
    no_gap_left was c.args.content.now (agree_but_gaps was c.args.content.now (is_masked c.args.lost_content) Whole left c.in-Whole.ensures)

pub returns-in-Whole-clause-fits : goal.returns-in-Whole-clause-fits
returns-in-Whole-clause-fits c = record {
  each = λ which serves.
      absurd (omega (arith, serves.lowest, count_gaps (is_masked c.args.lost_content) (length c.args.content.now) Whole c.in-Whole.ensures));
}

pub returns-in-One-clause-filled : goal.returns-in-One-clause-filled
returns-in-One-clause-filled c = λ was sectors left serving.
    c.fill_single.ensures.filled was sectors
    (agree_but_gaps was c.args.content.now (is_masked c.args.lost_content) (One c.in-One.first) left c.in-One.ensures)
    (serving_alike was c.args.parities.now (is_masked c.args.lost) (length c.args.parities.now) _ _
    (count_gaps (is_masked c.args.lost_content) (length c.args.content.now) (One c.in-One.first) c.in-One.ensures) serving)

pub returns-in-One-clause-fits : goal.returns-in-One-clause-fits
returns-in-One-clause-fits c =
    serving_alike c.fill_single.new.content c.args.parities.now (is_masked c.args.lost) (length c.args.parities.now) _ _
    (sym (count_gaps (is_masked c.args.lost_content) (length c.args.content.now) (One c.in-One.first) c.in-One.ensures)) c.fill_single.ensures.fits

pub returns-in-Two-clause-filled : goal.returns-in-Two-clause-filled
returns-in-Two-clause-filled c = λ was sectors left serving.
    c.fill_pair.ensures.filled was sectors
    (agree_but_gaps was c.args.content.now (is_masked c.args.lost_content) (Two c.in-Two.first c.in-Two.second) left c.in-Two.ensures)
    (serving_alike was c.args.parities.now (is_masked c.args.lost) (length c.args.parities.now) _ _
    (count_gaps (is_masked c.args.lost_content) (length c.args.content.now) (Two c.in-Two.first c.in-Two.second) c.in-Two.ensures) serving)

pub returns-in-Two-clause-fits : goal.returns-in-Two-clause-fits
returns-in-Two-clause-fits c =
    serving_alike c.fill_pair.new.content c.args.parities.now (is_masked c.args.lost) (length c.args.parities.now) _ _
    (sym (count_gaps (is_masked c.args.lost_content) (length c.args.content.now) (Two c.in-Two.first c.in-Two.second) c.in-Two.ensures)) c.fill_pair.ensures.fits

pub returns-in-Three-clause-filled : goal.returns-in-Three-clause-filled
returns-in-Three-clause-filled c = λ was sectors left serving.
    let all : count_lost (is_masked c.args.lost_content) 0 (length c.args.content.now) ≡ 3 =
    count_gaps (is_masked c.args.lost_content) (length c.args.content.now) (Three c.in-Three.first c.in-Three.second c.in-Three.third) c.in-Three.ensures in
    c.fill_three.ensures.filled was sectors
    (agree_but_gaps was c.args.content.now (is_masked c.args.lost_content) (Three c.in-Three.first c.in-Three.second c.in-Three.third) left c.in-Three.ensures)
    (λ which low.
    let inside : which < length c.args.parities.now = omega (arith, low, c.requires.few, c.requires.parities, all) in
    serving.each which (record {
      among = inside;
      there = count_none (is_masked c.args.lost) (length c.args.parities.now) which (omega (arith, c.requires.few, c.requires.parities, all)) inside;
      lowest = omega (arith, low, all);
    }))

pub returns-in-Three-clause-fits : goal.returns-in-Three-clause-fits
returns-in-Three-clause-fits c = record { each = λ which serves. c.fill_three.ensures.fits which (omega (arith, serves.among, c.requires.parities)) }
