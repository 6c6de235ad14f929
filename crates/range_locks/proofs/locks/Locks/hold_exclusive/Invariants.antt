use Rattle.range_locks.proofs.locks.Locks.hold_exclusive.Given as goal

-- The counter that nobody reads.
abbrev pub ghosts-exclude_by : goal.ghosts-exclude_by
ghosts-exclude_by a = record { name = a.blank.name; parts = a.blank.parts }
