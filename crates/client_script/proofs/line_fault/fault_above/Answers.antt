use Rattle.std.proofs.Common.{sym, ◌∙◌}
use Rattle.client_script.proofs.LineFaults.{if_some, no_count}
use Rattle.client_script.proofs.line_fault.fault_above.Goals as goal

pub returns-then-is_some : goal.returns-then-is_some
returns-then-is_some c = no_count _ _ c.requires (if_some c.after.result _ _ c.after.ensures (sym c.is_some.ensures ∙ c.if-is_some.true)).1
