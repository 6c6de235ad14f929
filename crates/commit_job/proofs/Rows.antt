-- A commit over three devices, of which the second is out.
use Rattle.std.proofs.Common.{◌≡◌, [], ◌∷◌, refl}
use Rattle.commit_job.specs.declared.call.CommitCall.TheVariants.{IndexWrite, BaseSync, UberWrite, UberSync}
use Rattle.commit_job.specs.Stages.{plan_of, signing_of, calls_left}

one_block : calls_left 0 (plan_of 2 1) ≡ IndexWrite 0 0 ∷ IndexWrite 1 0 ∷ BaseSync 0 ∷ BaseSync 1
    ∷ UberWrite 0 ∷ UberWrite 1 ∷ UberSync 0 ∷ UberSync 1 ∷ []
one_block = refl

without_1 : calls_left 2 (plan_of 3 1) ≡ IndexWrite 0 0 ∷ IndexWrite 2 0 ∷ BaseSync 0 ∷ BaseSync 2
    ∷ UberWrite 0 ∷ UberWrite 2 ∷ UberSync 0 ∷ UberSync 2 ∷ []
without_1 = refl

-- An empty index has no sectors to write.
no_blocks : calls_left 0 (plan_of 1 0) ≡ BaseSync 0 ∷ UberWrite 0 ∷ UberSync 0 ∷ []
no_blocks = refl

-- Nine entries take two sectors.
nine_blocks : calls_left 0 (plan_of 1 9) ≡ IndexWrite 0 0 ∷ IndexWrite 0 1 ∷ BaseSync 0 ∷ UberWrite 0 ∷ UberSync 0 ∷ []
nine_blocks = refl

-- The second half alone.
uberblocks_alone : calls_left 0 (signing_of 2) ≡ UberWrite 0 ∷ UberWrite 1 ∷ UberSync 0 ∷ UberSync 1 ∷ []
uberblocks_alone = refl
