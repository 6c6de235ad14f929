use Rattle.part_tests.proofs.range_locks_tests.a_reader_is_granted_beside_a_thousand_in_twelve_steps.Given as goal

-- The counter that the test reads.
abbrev pub ghosts-beside_a_thousand : goal.ghosts-beside_a_thousand
ghosts-beside_a_thousand g a = record { name = a.blank.name; parts = a.blank.parts }
