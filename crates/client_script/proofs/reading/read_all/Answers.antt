use Rattle.std.proofs.Common.{◌≡◌, length, arith}
use Rattle.std.proofs.lemmas.Bool.Decides.{nat_tests}
use Rattle.std.proofs.lemmas.List.{nil_from_length}
use Rattle.std.proofs.lemmas.Result.{err_from_is_err_and}
use Rattle.client_script.proofs.WholeScript.{read_none, read_more, refused_step, read_all, script_read, clients_lacking}
use Rattle.client_script.proofs.reading.read_all.Goals as goal

pub loop-rest-init : goal.loop-rest-init
loop-rest-init c = record { fits = omega arith; so_far = read_none c.args.bytes.now }

pub loop-rest-preserved : goal.loop-rest-preserved
loop-rest-preserved c = record {
  fits = omega (arith, c.loop-rest.invariant.fits, c.first_line.ensures.less);
  so_far = read_more _ _ _ _ _ _ _ c.loop-rest.invariant.so_far c.first_line.ensures.split c.in_ok-take_line.ensures;
}

pub returns-in_err-take_line-clause-err : goal.returns-in_err-take_line-clause-err
returns-in_err-take_line-clause-err c =
    let p = err_from_is_err_and c.from_residual.result c.from_residual.ensures.1 in
    rw (p.1, p.2) (refused_step _ _ c.first_line.result.1.now _ _ _ _ c.in_err-take_line.field-0.0 c.if-bytes-gt-MOST_SCRIPT_BYTES.false c.loop-rest.invariant.so_far c.first_line.ensures.split c.in_err-take_line.ensures)

pub returns-in-Some-clause-ok : goal.returns-in-Some-clause-ok
returns-in-Some-clause-ok c =
    let none : length c.loop-rest.rest.now ≡ 0 = grind (arith, nat_tests, c.is_empty.ensures, c.loop-rest-test.false) in
    script_read _ _ _ c.if-bytes-gt-MOST_SCRIPT_BYTES.false (read_all _ _ _ _ _ c.loop-rest.invariant.so_far (nil_from_length c.loop-rest.rest.now none) c.in-Some.is)

pub returns-in-None-clause-err : goal.returns-in-None-clause-err
returns-in-None-clause-err c =
    let none : length c.loop-rest.rest.now ≡ 0 = grind (arith, nat_tests, c.is_empty.ensures, c.loop-rest-test.false) in
    clients_lacking _ _ c.if-bytes-gt-MOST_SCRIPT_BYTES.false (read_all _ _ _ _ _ c.loop-rest.invariant.so_far (nil_from_length c.loop-rest.rest.now none) c.in-None.is)
