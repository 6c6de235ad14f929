use Rattle.std.proofs.Common.{ℕ, List, Some, sym, ◌∙◌, subst}
use Rattle.client_script.specs.Lines.{Line, IsLineText}
use Rattle.client_script.specs.Faults.{IsFaultOf}
use Rattle.client_script.proofs.LineFaults.{if_some, no_turns}
use Rattle.client_script.proofs.line_fault.fault_below.Goals as goal

pub returns-then-is_some-2 : goal.returns-then-is_some-2
returns-then-is_some-2 c = no_turns _ _ _ c.requires (if_some c.after-2.result _ _ c.after-2.ensures (sym c.is_some-2.ensures ∙ c.if-is_some-2.true)).1

pub fault_behind-requires : goal.fault_behind-requires
fault_behind-requires c = subst (λ (text : List ℕ). (line : Line) → IsLineText text line → ⊥) c.in-Some.ensures.some c.requires

pub returns-in-Some : goal.returns-in-Some
returns-in-Some c = subst (λ (text : List ℕ). IsFaultOf (Some c.args.clients) text c.fault_behind.result) (sym c.in-Some.ensures.some) c.fault_behind.ensures
