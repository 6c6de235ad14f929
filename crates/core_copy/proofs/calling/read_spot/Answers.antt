use Rattle.std.proofs.Common.{◌≡◌, ℕ, sym, subst}
use Rattle.std.specs.Prelude.{◌||◌}
use Rattle.uberblock_ring.specs.Devices.{has_device}
use Rattle.core_state.specs.Committing.{lost_by, point_of}
use Rattle.core_state.proofs.Outs.{none_lost, one_lost}
use Rattle.core_copy.proofs.Calls.{read_failed, read_came_off}
use Rattle.core_copy.proofs.calling.read_spot.Goals as goal

pub returns-then-is_err : goal.returns-then-is_err
returns-then-is_err g c =
    read_failed c.args.spot c.read.result (point_of c.args.out.now (g.B.Bank.disk c.args.bank.now))
    (point_of c.insert.new.self (g.B.Bank.disk c.read.new.self)) c.if-is_err.ensures.value c.read.ensures.failed c.read.ensures.once
    c.read.ensures.unchanged (record {
      in_use = c.requires.callable.in_use;
      out = λ other.
          subst (λ (out : ℕ). has_device out other ≡ (has_device c.args.out.now other || lost_by c.args.spot.device c.read.result other))
          (sym c.insert.ensures.value) (one_lost c.args.spot.device c.read.result c.if-is_err.ensures.value c.args.out.now other);
      lawful = g.met.B.Bank.lawful c.read.new.self;
    })

pub returns : goal.returns
returns g c =
    read_came_off c.args.spot c.read.new.into c.read.result (point_of c.args.out.now (g.B.Bank.disk c.args.bank.now))
    (point_of c.args.out.now (g.B.Bank.disk c.read.new.self)) c.if-is_err.ensures.value c.read.ensures.bytes c.read.ensures.well
    c.read.ensures.unchanged (record {
      in_use = c.requires.callable.in_use;
      out = λ other. none_lost c.args.spot.device c.read.result c.if-is_err.ensures.value c.args.out.now other;
      lawful = g.met.B.Bank.lawful c.read.new.self;
    })
