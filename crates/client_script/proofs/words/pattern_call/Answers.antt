use Rattle.std.proofs.Common.{decimal, arith}
use Rattle.client_script.proofs.CallWords.{after_id, after_len}
use Rattle.client_script.proofs.Cuts.{if_none}
use Rattle.client_script.proofs.words.pattern_call.Goals as goal
use Rattle.client_script.proofs.words.pattern_call.Goals.{then-len-eq0-via-then-len-eq0}
use Rattle.client_script.proofs.words.pattern_call.Goals.{then-len-eq0-via-else-len-eq0+then-len-gt-MOST_BYTES}

pub returns-in_err-len-clause-none : goal.returns-in_err-len-clause-none
returns-in_err-len-clause-none c =
    if_none c.from_residual-in_err-len.result _
    (λ id len seed is. c.in_err-len.ensures.none len (decimal seed) (after_id _ _ _ id len seed c.in_ok-id.ensures.some is))

pub returns-in_err-seed-clause-none : goal.returns-in_err-seed-clause-none
returns-in_err-seed-clause-none c =
    if_none c.from_residual-in_err-seed.result _
    (λ id len seed is. c.in_err-seed.ensures.none seed (after_len _ _ _ _ _ id len seed c.in_ok-id.ensures.some c.in_ok-len.ensures.some is).1)

pub returns-then-len-eq0-clause-none : goal.returns-then-len-eq0-clause-none
returns-then-len-eq0-clause-none c id len seed is =
    let same = after_len _ _ _ _ _ id len seed c.in_ok-id.ensures.some c.in_ok-len.ensures.some is in
    elim c.then-len-eq0.branch [
      | then-len-eq0-via-then-len-eq0 w ↦ omega (arith, same.0, is.some, w.if-len-eq0.true)
      | then-len-eq0-via-else-len-eq0+then-len-gt-MOST_BYTES w ↦ omega (arith, same.0, is.few, w.if-len-gt-MOST_BYTES.true)
    ]
