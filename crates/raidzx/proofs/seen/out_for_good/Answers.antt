use Rattle.std.proofs.Common.{Some, None}
use Rattle.std.proofs.lemmas.Result.{IfOk-weaker}
use Rattle.raidzx.proofs.seen.out_for_good.Goals as goal

pub returns-in-Some-clause-out : goal.returns-in-Some-clause-out
returns-in-Some-clause-out g c = IfOk-weaker c.out_by.result _ _
    (λ out listed. (Some c.in-Some.group, c.in-Some.ensures, listed)) c.out_by.ensures.out

pub returns-in-None-clause-out : goal.returns-in-None-clause-out
returns-in-None-clause-out g c = (None, c.in-None.ensures, c.empty.ensures.value)
