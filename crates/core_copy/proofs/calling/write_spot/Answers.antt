use Rattle.std.proofs.Common.{◌≡◌, ℕ, sym, subst}
use Rattle.std.specs.Prelude.{◌||◌}
use Rattle.uberblock_ring.specs.Devices.{has_device}
use Rattle.core_state.specs.Committing.{lost_by}
use Rattle.core_state.proofs.Outs.{none_lost, one_lost}
use Rattle.core_copy.proofs.calling.write_spot.Goals as goal

pub returns-then-is_err : goal.returns-then-is_err
returns-then-is_err g c = record {
  result = c.write.result;
  wrote = c.write.ensures;
  called = record {
    in_use = c.requires.callable.in_use;
    out = λ other.
        subst (λ (out : ℕ). has_device out other ≡ (has_device c.args.out.now other || lost_by c.args.spot.device c.write.result other))
        (sym c.insert.ensures.value) (one_lost c.args.spot.device c.write.result c.if-is_err.ensures.value c.args.out.now other);
    lawful = g.met.B.Bank.lawful c.write.new.self;
  };
}

pub returns-else-is_err : goal.returns-else-is_err
returns-else-is_err g c = record {
  result = c.write.result;
  wrote = c.write.ensures;
  called = record {
    in_use = c.requires.callable.in_use;
    out = λ other. none_lost c.args.spot.device c.write.result c.if-is_err.ensures.value c.args.out.now other;
    lawful = g.met.B.Bank.lawful c.write.new.self;
  };
}
