use Rattle.std.proofs.Common.{◌∙◌, ap, List, ℕ, ◌++◌, ◌∷◌, []}
use Rattle.std.proofs.lemmas.List.{replicate-append-replicate}
use Rattle.bank_trait.specs.Regions.{zero_sector}
use Rattle.file_bank.proofs.mem_file.blank.Goals as goal

pub loop-sector-preserved : goal.loop-sector-preserved
unfolding zero_sector
loop-sector-preserved c =
    c.in_ok-push.ensures.items ∙ ap (λ (l : List (List ℕ)). l ++ zero_sector ∷ []) c.loop-sector.invariant
    ∙ replicate-append-replicate c.loop-sector._sector 1 zero_sector
