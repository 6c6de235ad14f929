use Rattle.std.proofs.Common.{sym, subst}
use Rattle.bank_mem.specs.MemBank.{mem_disk}
use Rattle.core_turns.specs.Core.{Core, HasBankOf}
use Rattle.copy_tests.proofs.pool_on_bank.PoolOnBank.open.Goals as goal

pub invariant_of-result : goal.invariant_of-result
invariant_of-result c = record {
  has_bank = subst (λ (core : Core). HasBankOf core (mem_disk c.open_pool.new.bank)) (sym c.new-core.ensures)
      c.in_ok-opened.ensures.bank;
}
