use Rattle.std.proofs.Common.{◌≡◌, ℕ, ◌+◌, Some, refl, sym, subst}
use Rattle.attach_ring.specs.Ring.{ReadsSlot, RingRead}
use Rattle.attach_ring.proofs.ring_read.RingRead.step.Goals as goal

pub returns-clause-reads : goal.returns-clause-reads
returns-clause-reads g c =
    let at = c.self.inside in
    subst (λ (old : RingRead). ReadsSlot (g.B.Bank.disk c.args.bank.now) old
    (record { device = at.device; slots = at.slots + 1; taken = c.lowest_taken-self-inside.result })) c.self.view_is
    (record {
      bytes = c.read.new.into;
      told = λ known is. c.in_ok-read.ensures.bytes known
          (subst (λ (slot : ℕ). (g.B.Bank.disk c.args.bank.now).reads at.device slot ≡ Some known) (sym c.from.ensures) is);
      taken = c.lowest_taken-self-inside.ensures;
      rest = refl;
    })
