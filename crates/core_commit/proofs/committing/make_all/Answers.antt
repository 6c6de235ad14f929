use Rattle.std.proofs.Common.{[], refl, sym, ap, arith, length, subst}
use Rattle.std.specs.Prelude.{All, List}
use Rattle.commit_job.specs.declared.call.CommitCall.{CommitCall}
use Rattle.core_commit.specs.Ran.{IsCallInPool, Ran}
use Rattle.core_state.specs.Committing.{point_of}
use Rattle.core_commit.proofs.Running.{next_is, ran_more}
use Rattle.core_commit.proofs.Touching.{touched_none, touched_more}
use Rattle.core_commit.proofs.Stopping.{stops_none, stops_then}
use Rattle.core_commit.proofs.committing.make_all.Goals as goal

pub make-requires-clause-inside : goal.make-requires-clause-inside
make-requires-clause-inside g c =
    (next_is (IsCallInPool c.args.uber.now) c.loop-call.out c.loop-call.calls c.in-Some.call c.loop-call.invariant.inside
    (c.next_call.ensures.some c.in-Some.call c.in-Some.is)).fits

pub make-requires-clause-in_use : goal.make-requires-clause-in_use
make-requires-clause-in_use g c =
    (next_is (IsCallInPool c.args.uber.now) c.loop-call.out c.loop-call.calls c.in-Some.call c.loop-call.invariant.inside
    (c.next_call.ensures.some c.in-Some.call c.in-Some.is)).in_use

pub loop-call-init : goal.loop-call-init
loop-call-init g c = record {
  ran = ([], (refl, refl));
  touches = touched_none c.args.uber.now (point_of c.args.out.now (g.B.Bank.disk c.args.bank.now));
  stops = stops_none c.args.uber.now.parity (point_of c.args.out.now (g.B.Bank.disk c.args.bank.now));
  fits = c.requires.fits;
  inside = c.requires.inside;
  below = c.requires.below;
}

pub loop-call-smaller : goal.loop-call-smaller
loop-call-smaller g c =
    let next = next_is (IsCallInPool c.args.uber.now) c.loop-call.out c.loop-call.calls c.in-Some.call
    c.loop-call.invariant.inside (c.next_call.ensures.some c.in-Some.call c.in-Some.is) in
    omega (arith, next.less, ap length c.advance.ensures.left)

pub loop-call-preserved : goal.loop-call-preserved
loop-call-preserved g c =
    let next = next_is (IsCallInPool c.args.uber.now) c.loop-call.out c.loop-call.calls c.in-Some.call
    c.loop-call.invariant.inside (c.next_call.ensures.some c.in-Some.call c.in-Some.is) in
    record {
      ran = subst (λ (l : List CommitCall). Ran c.args.uber.now c.args.entries.now c.args.calls.now
          (point_of c.args.out.now (g.B.Bank.disk c.args.bank.now)) l
          (point_of c.make.new.out (g.B.Bank.disk c.make.new.bank)))
          (sym c.advance.ensures.left)
          (ran_more c.args.uber.now c.args.entries.now c.args.calls.now c.loop-call.calls
          (point_of c.args.out.now (g.B.Bank.disk c.args.bank.now))
          (point_of c.loop-call.out (g.B.Bank.disk c.loop-call.bank))
          (point_of c.make.new.out (g.B.Bank.disk c.make.new.bank))
          c.in-Some.call c.loop-call.invariant.ran (c.next_call.ensures.some c.in-Some.call c.in-Some.is) c.make.ensures.made);
      touches = touched_more c.args.uber.now c.args.entries.now c.in-Some.call
          (point_of c.args.out.now (g.B.Bank.disk c.args.bank.now))
          (point_of c.loop-call.out (g.B.Bank.disk c.loop-call.bank))
          (point_of c.make.new.out (g.B.Bank.disk c.make.new.bank))
          (g.met.B.Bank.lawful c.loop-call.bank) next.fits c.loop-call.invariant.touches c.make.ensures.made;
      stops =
          let few = c.next_call.ensures.few c.in-Some.call c.in-Some.is in
          stops_then c.args.uber.now.parity
          (point_of c.args.out.now (g.B.Bank.disk c.args.bank.now))
          (point_of c.loop-call.out (g.B.Bank.disk c.loop-call.bank))
          (point_of c.make.new.out (g.B.Bank.disk c.make.new.bank))
          c.loop-call.invariant.stops (omega (arith, few, c.parity.ensures.value))
          (omega (arith, few, c.make.ensures.one, c.parity.ensures.value));
      fits = c.make.ensures.fits;
      inside = subst (All (IsCallInPool c.args.uber.now)) (sym c.advance.ensures.left) next.rest;
      below = c.make.ensures.below;
    }

pub returns-clause-ends : goal.returns-clause-ends
returns-clause-ends g c few = c.next_call.ensures.none c.in_default.is (omega (arith, few, c.parity.ensures.value))
