use Rattle.width_map.specs.declared.birth.Birth.{Birth}
use Rattle.uberblock_ring.proofs.BirthRules.{ends_right}
use Rattle.uberblock_ring.proofs.births.have_ends.Goals as goal

-- what a place has that is not there
abbrev nothing : Birth
nothing = record { group = 0; width = 0 }

pub returns-then-births-parity : goal.returns-then-births-parity
returns-then-births-parity c = record {
  value = ends_right c.args.births.now nothing c.args.parity c.args.width c.requires.some c.if-births-parity.true;
}
