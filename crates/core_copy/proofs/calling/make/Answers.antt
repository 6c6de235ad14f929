use Rattle.std.proofs.Common.{Bool, rules, inl, inr, refl, ap}
use Rattle.core_state.specs.SpotReads.{given_by}
use Rattle.core_copy.proofs.calling.make.Goals as goal

pub returns-then-eq : goal.returns-then-eq
returns-then-eq g c = inl (search rules, c.read_spot.ensures)

pub returns-then-has_read : goal.returns-then-has_read
returns-then-has_read g c = inr (
  search rules,
  refl,
  (c.args.bytes.now, ap (λ (has : Bool). given_by has c.args.bytes.now) c.if-has_read.true, c.write_spot.ensures),
)
