use Rattle.std.proofs.Common.{◌≡◌, inr, ℕ, Ok, Err, refl, ◌∙◌, sym, subst}
use Rattle.std.specs.Prelude.{◌||◌}
use Rattle.uberblock_ring.specs.Devices.{has_device}
use Rattle.core_state.specs.Committing.{lost_by}
use Rattle.core_state.proofs.Outs.{none_lost, one_lost}
use Rattle.core_client.proofs.reading.read_spot.Goals as goal

pub returns-in-Ok : goal.returns-in-Ok
returns-in-Ok g c = inr (record {
  result = Ok tt;
  gave = c.in-Ok.ensures.bytes;
  well = c.in-Ok.ensures.well;
  failed = tt;
  once = tt;
  unchanged = c.in-Ok.ensures.unchanged;
  called = record {
    in_use = sym c.has.ensures.value ∙ c.if-has.false;
    out = λ other. none_lost c.args.spot.device (Ok tt) refl c.args.out.now other;
    lawful = g.met.B.Bank.lawful c.read.new.self;
  };
})

pub returns-in-Err : goal.returns-in-Err
returns-in-Err g c =
    let device = c.args.spot.device in
    inr (record {
      result = Err c.in-Err.field-0;
      gave = tt;
      well = tt;
      failed = c.in-Err.ensures.failed;
      once = c.in-Err.ensures.once;
      unchanged = c.in-Err.ensures.unchanged;
      called = record {
        in_use = sym c.has.ensures.value ∙ c.if-has.false;
        out = λ other.
            subst (λ (out : ℕ). has_device out other ≡ (has_device c.args.out.now other || lost_by device (Err c.in-Err.field-0) other))
            (sym c.insert.ensures.value) (one_lost device (Err c.in-Err.field-0) refl c.args.out.now other);
        lawful = g.met.B.Bank.lawful c.read.new.self;
      };
    })
