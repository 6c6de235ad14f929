use Rattle.std.proofs.Common.{ℕ, arith, refl}
use Rattle.bank_trait.specs.Regions.{zero_sector}
use Rattle.bank_trait.proofs.Touches.{touches_then, touches_widen, wrote_touches}
use Rattle.core_open.specs.Regions.{IsBelow}
use Rattle.core_open.proofs.Rings.{cleared_none, cleared_more}
use Rattle.core_open.proofs.creating.clear_ring.Goals as goal

pub loop-slot-preserved : goal.loop-slot-preserved
unfolding zero_sector
loop-slot-preserved g c =
    cleared_more c.args.device c.loop-slot.slot (g.B.Bank.disk c.args.bank.now) (g.B.Bank.disk c.loop-slot.bank) (g.B.Bank.disk c.write.new.self)
    c.requires.device (omega (arith, c.requires.sectors)) c.loop-slot.invariant c.in_ok-write.ensures

pub loop-slot-init : goal.loop-slot-init
loop-slot-init g c = cleared_none c.args.device (g.B.Bank.disk c.args.bank.now)

pub returns-in_err-write-clause-only : goal.returns-in_err-write-clause-only
returns-in_err-write-clause-only g c =
    let ring : ℕ → ℕ → Type 0 = IsBelow c.args.device 32 in
    touches_then (IsBelow c.args.device c.loop-slot.slot) ring ring (λ d x p. (p.0, omega (arith, p.1))) (λ d x q. q)
    c.loop-slot.invariant.only (wrote_touches ring (refl, omega arith) c.write.ensures)

pub returns-clause-only : goal.returns-clause-only
returns-clause-only g c =
    touches_widen (IsBelow c.args.device c.loop-slot.slot) (IsBelow c.args.device 32) (λ d x p. (p.0, omega (arith, p.1))) c.loop-slot.invariant.only
