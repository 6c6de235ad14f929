use Rattle.space_alloc.proofs.space.Space.take_lowest.Given as goal

-- The counter that nobody reads.
abbrev pub ghosts-take_by : goal.ghosts-take_by
ghosts-take_by a = record { name = a.blank.name; parts = a.blank.parts }
