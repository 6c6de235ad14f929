use Rattle.std.proofs.Common.{◌≡◌, ℕ, Result, subst, sym}
use Rattle.std.specs.Prelude.{IfErr}
use Rattle.file_bank.proofs.Untold.{untold_handed}
use Rattle.raidzx.proofs.files.ImageFileRowFile.write_row.Goals as goal

pub returns-clause-handed : goal.returns-clause-handed
returns-clause-handed g c =
    untold_handed _ _ _ _ (subst (λ (r : Result (Unit {0}) ℕ). IfErr r (λ count. count ≡ 0))
    (sym c.count_call.ensures.same)
    c.all_or_none.ensures.none)
