use Rattle.std.proofs.Common.{ℕ, List}
use Rattle.reconstruct.specs.Suspects.{Choice}
use Rattle.reconstruct.specs.Solved.{question_with, Told}
use Rattle.reconstruct.specs.Tried.{IsPick}
use Rattle.reconstruct.proofs.Choices.{StartsBelow}
use Rattle.reconstruct.proofs.choosing.+try_choices.Given as goal

abbrev pub decreases-try_choices : goal.decreases-try_choices
decreases-try_choices l = l.more

-- No choice that begins before the place tells.
abbrev pub invariant-loop-place : goal.invariant-loop-place
invariant-loop-place l =
    (choice : Choice) (bytes : List ℕ) → IsPick l.search.reach l.from l.more choice → StartsBelow l.place choice
    → Told (question_with l.search.layout.now l.search.rows.now l.lost l.search.len l.search.digest.now
    l.search.suspects.now) choice bytes → ⊥
