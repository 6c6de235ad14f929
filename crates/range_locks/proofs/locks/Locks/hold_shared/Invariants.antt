use Rattle.range_locks.proofs.locks.Locks.hold_shared.Given as goal

-- The counter that nobody reads.
abbrev pub ghosts-share_by : goal.ghosts-share_by
ghosts-share_by a = record { name = a.blank.name; parts = a.blank.parts }
