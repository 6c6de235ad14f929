use Rattle.std.proofs.Common.{◌∙◌}
use Rattle.std.proofs.lemmas.Int.Digits.{digits_more}
use Rattle.client_script.proofs.Cuts.{if_none}
use Rattle.client_script.proofs.Numbers.{value_of_more, stays_too_great}
use Rattle.client_script.proofs.number.value_of.Goals as goal

pub returns-in_err-value-clause-none : goal.returns-in_err-value-clause-none
returns-in_err-value-clause-none c =
    let loop = c.loop-byte in
    let so_far = loop.invariant.value in
    let great = c.in_err-value.ensures.none in
    if_none c.from_residual.result _
    (stays_too_great c.args.word.now loop.byte-index loop.value c.loop-byte-test.true so_far great)

pub loop-byte-preserved : goal.loop-byte-preserved
loop-byte-preserved c =
    let word = c.args.word.now in
    let loop = c.loop-byte in
    let within = c.loop-byte-test.true in
    let known = c.in_ok-value.ensures.some in
    record {
      digits = digits_more 10 word loop.byte-index within loop.invariant.digits known.0;
      value = value_of_more word loop.byte-index loop.value within loop.invariant.value ∙ known.1;
      fits = c.in_ok-value.ensures.fits;
    }
