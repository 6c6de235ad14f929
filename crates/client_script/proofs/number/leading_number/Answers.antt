use Rattle.std.proofs.Common.{decimal}
use Rattle.client_script.proofs.Cuts.{if_none, no_cut, one_cut}
use Rattle.client_script.proofs.Numbers.{cut_at_number}
use Rattle.client_script.proofs.number.leading_number.Goals as goal

pub returns-in_err-word-clause-none : goal.returns-in_err-word-clause-none
returns-in_err-word-clause-none c =
    if_none c.from_residual.result _ (λ other rest led. no_cut c.args.text.now 32 (decimal other) rest c.in_err-word.ensures.none (cut_at_number c.args.text.now other rest led))

pub returns-in_err-number-clause-none : goal.returns-in_err-number-clause-none
returns-in_err-number-clause-none c =
    if_none c.from_residual-in_err-number.result _
    (λ other rest led.
    let same = one_cut c.args.text.now 32 c.in_ok-word.word.now (decimal other) c.in_ok-word.rest.now rest c.in_ok-word.ensures.some (cut_at_number c.args.text.now other rest led) in
    c.in_err-number.ensures.none other (record { spelled = same.0; fits = led.fits }))
