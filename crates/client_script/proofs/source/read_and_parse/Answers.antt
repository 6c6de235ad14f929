use Rattle.std.proofs.Common.{◌∙◌}
use Rattle.std.proofs.lemmas.Result.{err_from_is_err_and}
use Rattle.client_script.proofs.FromSource.{not_parsed}
use Rattle.client_script.proofs.source.read_and_parse.Goals as goal

pub returns-in_err-script-clause-err : goal.returns-in_err-script-clause-err
returns-in_err-script-clause-err g c =
    let p = err_from_is_err_and c.from_residual-in_err-script.result c.from_residual-in_err-script.ensures.1 in
    rw (p.1, p.2)
    (not_parsed _ _ _ c.as_slice.result.now c.in_err-script.field-0.0 (λ told is. c.as_slice.ensures.value ∙ c.in_ok-bytes.ensures.ok told is) c.in_err-script.ensures.err)
