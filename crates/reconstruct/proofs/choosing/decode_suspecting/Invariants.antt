use Rattle.std.proofs.Common.{ℕ, ◌<◌, length}
use Rattle.reconstruct.specs.Suspects.{choice_reach}
use Rattle.reconstruct.specs.Solved.{question_with}
use Rattle.reconstruct.specs.Tried.{NoneTold}
use Rattle.reconstruct.proofs.choosing.decode_suspecting.Given as goal

-- no smaller choice tells
abbrev pub invariant-loop-size : goal.invariant-loop-size
invariant-loop-size l =
    (size : ℕ) → size < l.size
    → NoneTold (question_with l.layout l.rows l.lost l.len l.digest l.suspects)
    (choice_reach (length l.suspects) size) 0 size
