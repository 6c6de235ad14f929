use Rattle.schedule.proofs.Words.{◌∙◌, subst, sym, fill_bytes, IsFillable, MayGoOn}
use Rattle.client_script.specs.declared.call.ScriptCall.{ScriptCall as CallOf}
use Rattle.schedule.proofs.order.CallTurns.{put_computable}
use Rattle.schedule.proofs.turn.Theirs.{some_is}
use Rattle.schedule.proofs.client.Work.to_compute.Goals as goal

pub returns-in-Some-clause-can : goal.returns-in-Some-clause-can
returns-in-Some-clause-can c = λ calls is call there.
    subst (λ (asked : CallOf). IsFillable c.in-Some.block (fill_bytes asked.fill)) (some_is (sym is ∙ there))
    (put_computable c.args.call.now (subst (MayGoOn c.requires.may.0 c.args.call.now) c.in-Put.is c.requires.may.1)
    (sym c.to_fill.ensures ∙ c.in-Some.is))
