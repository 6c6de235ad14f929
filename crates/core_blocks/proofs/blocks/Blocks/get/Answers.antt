use Rattle.std.proofs.Common.{Bor, None, Some, subst}
use Rattle.std.specs.Prelude.{IfSome, Option}
use Rattle.std.specs.Option.{option_copied}
use Rattle.block_record.specs.declared.entry.IndexEntry.{IndexEntry}
use Rattle.core_blocks.specs.Blocks.{Blocks, IsStanding}
use Rattle.core_blocks.proofs.Steps.{gone_stands}
use Rattle.core_blocks.proofs.blocks.Blocks.get.Goals as goal

-- What holds of a copy holds of what it was made of.
copied : (P : IndexEntry → Type 0) (found : Option (Bor IndexEntry))
    → IfSome (option_copied found) P → IfSome found (λ entry. P entry.now)
copied P None holds = tt
copied P (Some entry) holds = holds

pub returns-clause-stands : goal.returns-clause-stands
returns-clause-stands c =
    subst (λ (b : Blocks).
    IfSome c.get.result (λ entry. IsStanding b.parity b.births b.space entry.now))
    c.self.view_is
    (copied (IsStanding c.self.inside.parity c.self.inside.births c.self.inside.space)
    c.get.result
    (gone_stands c.self.inside.parity c.self.inside.births c.self.inside.table
    c.self.inside.space c.args.id (option_copied c.get.result) c.self.invariant.0
    c.get.ensures.value))
