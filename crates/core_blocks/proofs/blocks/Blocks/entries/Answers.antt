use Rattle.std.proofs.Common.{subst}
use Rattle.block_record.specs.Page.{IsIndex}
use Rattle.core_blocks.specs.Blocks.{Blocks, AreInStep}
use Rattle.core_blocks.proofs.Fitting.{fits}
use Rattle.core_blocks.proofs.Keeping.{blocks_kept}
use Rattle.core_blocks.proofs.blocks.Blocks.entries.Goals as goal

pub returns-clause-fitting : goal.returns-clause-fitting
returns-clause-fitting c =
    fits c.args.self.now (subst AreInStep c.self.view_is c.self.invariant.0)
    (subst (λ (b : Blocks). IsIndex b.table.entries) c.self.view_is c.entries.ensures.table.index)

pub returns-clause-kept : goal.returns-clause-kept
returns-clause-kept c past =
    blocks_kept c.args.self.now past (subst AreInStep c.self.view_is c.self.invariant.0)
    (subst (λ (b : Blocks). IsIndex b.table.entries) c.self.view_is c.entries.ensures.table.index)
