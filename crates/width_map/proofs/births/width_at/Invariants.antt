use Rattle.std.proofs.Common.{◌≡◌, drop}
use Rattle.width_map.specs.Births.{width_from, width_of_birth}
use Rattle.width_map.proofs.births.width_at.Given as goal

-- The entries that are left decide, or the width so far stands.
abbrev pub invariant-loop-birth : goal.invariant-loop-birth
invariant-loop-birth l = width_from l.width (drop l.birth-index l.birth-items) l.group ≡ width_of_birth l.births l.group
