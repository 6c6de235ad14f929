use Rattle.std.proofs.Common.{◌≡◌, ◌+◌, ℕ, List, sym, ap, subst, arith}
use Rattle.std.specs.Prelude.{All, Contains}
use Rattle.uberblock_ring.specs.Devices.{count_below, IsWithin, with_device}
use Rattle.uberblock_ring.proofs.DeviceSets.{count_most, count_with, within_with}
use Rattle.core_open.specs.declared.stopped.Stopped.{Stopped}
use Rattle.core_open.specs.declared.ring_uber.RingUber.{RingUber}
use Rattle.core_open.specs.Failing.{HasStopped, HaveFailedSince}
use Rattle.core_open.proofs.Failures.{since_with}
use Rattle.core_open.proofs.Givers.{first_given_before}
use Rattle.core_open.proofs.Unchanged.{unchanged_then}
use Rattle.core_open.proofs.finding.choose_anew.Goals as goal

pub returns-in-Ok-clause-listed : goal.returns-in-Ok-clause-listed
returns-in-Ok-clause-listed g c =
    subst (λ (list : List RingUber). All (Contains list) c.in-Ok.candidates.ubers.items) c.loop-candidates.invariant.ubers c.in-Ok.ensures.listed

pub loop-candidates-smaller : goal.loop-candidates-smaller
loop-candidates-smaller g c =
    let silent = c.loop-candidates.rings.silent in
    let stopped = subst (λ (why : Stopped). HasStopped silent (g.B.Bank.disk c.loop-candidates.bank) (g.B.Bank.disk c.choose.new.bank) why)
    c.in-Err-Failed.field-0-is c.in-Err-Failed.ensures.stopped in
    let more : count_below (with_device silent c.in-Err-Failed.device) 16 ≡ count_below silent 16 + 1 =
    count_with silent c.in-Err-Failed.device 16 stopped.1 (omega (arith, stopped.0)) in
    omega (arith, more, count_most (with_device silent c.in-Err-Failed.device) 16, ap (λ (set : ℕ). count_below set 16) c.insert.ensures.value)

pub loop-candidates-preserved : goal.loop-candidates-preserved
loop-candidates-preserved g c =
    let old = g.B.Bank.disk c.args.bank.now in
    let mid = g.B.Bank.disk c.loop-candidates.bank in
    let new = g.B.Bank.disk c.choose.new.bank in
    let before = c.args.rings.now.silent in
    let silent = c.loop-candidates.rings.silent in
    let device = c.in-Err-Failed.device in
    let stopped = subst (λ (why : Stopped). HasStopped silent mid new why) c.in-Err-Failed.field-0-is c.in-Err-Failed.ensures.stopped in
    record {
      unchanged = unchanged_then c.loop-candidates.invariant.unchanged c.choose.ensures.unchanged;
      ubers = c.loop-candidates.invariant.ubers;
      taken = c.loop-candidates.invariant.taken;
      within = subst (λ (set : ℕ). IsWithin before set) (sym c.insert.ensures.value)
          (λ other has. within_with silent device other (c.loop-candidates.invariant.within other has));
      since = subst (λ (set : ℕ). HaveFailedSince old new before set) (sym c.insert.ensures.value)
          (since_with old mid new before silent device c.loop-candidates.invariant.since c.loop-candidates.invariant.unchanged
          c.choose.ensures.unchanged stopped.0 stopped.2);
    }

pub returns-in-Ok-clause-given : goal.returns-in-Ok-clause-given
returns-in-Ok-clause-given g c = first_given_before (g.B.Bank.disk c.args.bank.now) (g.B.Bank.disk c.loop-candidates.bank)
    c.loop-candidates.rings.silent c.in-Ok.candidates.ubers.items c.in-Ok.candidates.entries.items c.in-Ok.candidates.giver
    c.loop-candidates.invariant.unchanged c.in-Ok.ensures.given
