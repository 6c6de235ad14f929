use Rattle.std.proofs.Common.{◌≡◌, ℕ, ◌-◌, List, arith, take, drop, length, subst, sym}
use Rattle.std.proofs.lemmas.List.{take_all, length-drop, nil_from_length}
use Rattle.std.specs.Prelude.{Result, Ok, Err, OnErr}
use Rattle.std.proofs.lemmas.Bool.Decides.{nat_tests}
use Rattle.client_script.proofs.Sending.{IsWrittenTo, written_none, written_more, written_whole, written_part}
use Rattle.client_script.proofs.output.write_all.Goals as goal

pub loop-rest-init : goal.loop-rest-init
loop-rest-init g c = record { later = omega arith; so_far = written_none _ _ }

pub loop-rest-preserved : goal.loop-rest-preserved
loop-rest-preserved g c =
    let rest = c.loop-rest.rest.now in
    let all : take (length rest - c.in_ok-taken.taken) (drop c.in_ok-taken.taken rest) ≡ drop c.in_ok-taken.taken rest =
    take_all (length rest - c.in_ok-taken.taken) (drop c.in_ok-taken.taken rest) (omega (arith, length-drop c.in_ok-taken.taken rest)) in
    record {
      later = omega (arith, c.loop-rest.invariant.later, c.write.ensures.cause.later);
      so_far = subst (λ (r : List ℕ). IsWrittenTo c.args.text.now r (g.K.Sink.held c.args.out.now) (g.K.Sink.held c.write.new.self)) (sym all)
          (written_more _ rest _ _ _ c.in_ok-taken.taken c.loop-rest.invariant.so_far c.in_ok-taken.ensures.bytes);
    }

on_err : {T E : Type 0} (r : Result T E) (P : Type 0) → P → OnErr r P
on_err (Ok x) P p = tt
on_err (Err e) P p = p

pub returns-clause-ok : goal.returns-clause-ok
returns-clause-ok g c =
    let none : length c.loop-rest.rest.now ≡ 0 = grind (arith, nat_tests, c.is_empty.ensures, c.loop-rest-test.false) in
    written_whole _ _ _ _ c.loop-rest.invariant.so_far (nil_from_length c.loop-rest.rest.now none)

pub returns-in_err-taken-clause-err : goal.returns-in_err-taken-clause-err
returns-in_err-taken-clause-err g c =
    on_err c.from_residual.result _ (written_part _ _ _ _ _ c.in_err-taken.field-0.0 c.loop-rest.invariant.so_far c.in_err-taken.ensures.bytes)
