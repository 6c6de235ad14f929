use Rattle.std.proofs.lemmas.Result.{on_ok_weaker, on_err_weaker}
use Rattle.client_script.proofs.Writing.{given_by_new}
use Rattle.raidzx_top.proofs.report.write_run.Goals as goal

pub returns-clause-ok : goal.returns-clause-ok
returns-clause-ok g c = on_ok_weaker c.finish.result
    (λ given. given _ _ (given_by_new _ _ _ _ _ c.new-writer.ensures c.put_run.ensures.gains))
    c.finish.ensures.ok

pub returns-clause-err : goal.returns-clause-err
returns-clause-err g c = on_err_weaker c.finish.result
    (λ given. given _ _ (given_by_new _ _ _ _ _ c.new-writer.ensures c.put_run.ensures.gains))
    c.finish.ensures.err
