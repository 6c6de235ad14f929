use Rattle.std.proofs.Common.{◌≡◌, ◌++◌, ◌-◌}
use Rattle.reconstruct.specs.Suspects.{mark_for, pairs_down, suspects_of}
use Rattle.reconstruct.proofs.suspecting.suspects.Given as goal

-- what is left makes up all
abbrev pub invariant-loop-narrower : goal.invariant-loop-narrower
invariant-loop-narrower l =
    l.pairs.items ++ pairs_down (mark_for l.births l.to l.mark) l.first (l.narrower - l.first)
    ≡ suspects_of l.births l.to l.mark
