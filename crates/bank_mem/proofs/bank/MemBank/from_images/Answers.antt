use Rattle.std.proofs.Common.{sym, subst}
use Rattle.bank_mem.specs.Record.{Shelf}
use Rattle.bank_mem.specs.Sound.{AllWide}
use Rattle.bank_mem.proofs.bank.MemBank.from_images.Goals as goal

pub invariant_of-result-clause-wide : goal.invariant_of-result-clause-wide
invariant_of-result-clause-wide c =
    subst (λ (s : Shelf). AllWide s c.match-first.sectors) c.deref-2.ensures.value
    (c.is_wide.ensures.0 c.if-not-is_wide.false)

pub invariant_of-result-clause-as_wide : goal.invariant_of-result-clause-as_wide
invariant_of-result-clause-as_wide c =
    c.in_ok-first.ensures.width c.match-first.sectors
    (subst (λ (s : Shelf). AllWide s c.match-first.sectors) (sym c.deref-3.ensures.value)
    (subst (λ (s : Shelf). AllWide s c.match-first.sectors) c.deref-2.ensures.value
    (c.is_wide.ensures.0 c.if-not-is_wide.false)))
