use Rattle.std.proofs.Common.{arith}
use Rattle.client_script.proofs.LineFaults.{no_words}
use Rattle.client_script.proofs.line_fault.fault_behind.Goals as goal

pub call_fault-requires : goal.call_fault-requires
call_fault-requires c = no_words _ _ (omega (arith, c.if-letter-lt97.false)) c.requires
