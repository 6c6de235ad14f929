use Rattle.bank_mem.specs.MemBank.{mem_disk}
use Rattle.core_turns.specs.Attaching.{HasNewDevice, IsAttachRunOf}
use Rattle.copy_tests.proofs.pool_on_bank.PoolOnBank.end_attach.Given as goal

abbrev pub invariant-loop : goal.invariant-loop
invariant-loop l = IsAttachRunOf l.self.core l.run × HasNewDevice (mem_disk l.self.bank) l.run
