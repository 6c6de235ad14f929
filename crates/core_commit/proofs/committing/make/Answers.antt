use Rattle.std.proofs.Common.{◌≡◌, sym, subst, ℕ, arith}
use Rattle.std.specs.Prelude.{◌||◌, ◌+◌, ◌<◌, ◌≤◌, ◌^◌}
use Rattle.uberblock_ring.proofs.DeviceSets.{with_below}
use Rattle.uberblock_ring.specs.Devices.{has_device, with_device, count_of}
use Rattle.commit_job.specs.Stages.{device_of}
use Rattle.core_state.specs.Committing.{lost_by, point_of}
use Rattle.core_commit.specs.Ran.{MadeOne}
use Rattle.core_commit.proofs.Going.{inside_device, in_use_before}
use Rattle.core_commit.proofs.Halves.{goes_on, stays_out}
use Rattle.core_commit.proofs.Running.{none_lost, one_lost}
use Rattle.core_commit.proofs.Stopping.{one_out}
use Rattle.core_commit.proofs.committing.make.Goals as goal

pub returns-then-is_err-clause-made : goal.returns-then-is_err-clause-made
returns-then-is_err-clause-made g c = record {
  result = c.call_bank.result;
  made = c.call_bank.ensures;
  called = record {
    in_use = c.requires.in_use;
    out = λ other.
        subst (λ (out : ℕ). has_device out other ≡ (has_device c.args.out.now other || lost_by (device_of c.args.call) c.call_bank.result other))
        (sym c.insert.ensures.value)
        (subst (λ (device : ℕ). has_device (with_device c.args.out.now device) other ≡ (has_device c.args.out.now other || lost_by (device_of c.args.call) c.call_bank.result other))
        (sym c.device.ensures.value)
        (one_lost (device_of c.args.call) c.call_bank.result c.if-is_err.ensures.value c.args.out.now other));
    lawful = g.met.B.Bank.lawful c.call_bank.new.bank;
  };
}

pub returns-else-is_err-clause-made : goal.returns-else-is_err-clause-made
returns-else-is_err-clause-made g c = record {
  result = c.call_bank.result;
  made = c.call_bank.ensures;
  called = record {
    in_use = c.requires.in_use;
    out = λ other. none_lost (device_of c.args.call) c.call_bank.result c.if-is_err.ensures.value c.args.out.now other;
    lawful = g.met.B.Bank.lawful c.call_bank.new.bank;
  };
}

pub returns-then-is_err-clause-below : goal.returns-then-is_err-clause-below
returns-then-is_err-clause-below g c = subst (λ (out : ℕ). out < 2 ^ c.args.uber.now.reflow.to)
    (sym c.insert.ensures.value)
    (with_below c.args.out.now c.device.result c.args.uber.now.reflow.to c.requires.below
    (subst (λ (device : ℕ). device < c.args.uber.now.reflow.to) (sym c.device.ensures.value)
    (inside_device c.args.uber.now c.args.call c.requires.inside)))

pub returns-then-is_err-clause-fits : goal.returns-then-is_err-clause-fits
returns-then-is_err-clause-fits g c =
    let before = point_of c.args.out.now (g.B.Bank.disk c.args.bank.now) in
    let after = point_of c.insert.new.self (g.B.Bank.disk c.call_bank.new.bank) in
    let made : MadeOne c.args.uber.now c.args.entries.now c.args.call before after =
    returns-then-is_err-clause-made g c in
    let later = (goes_on c.args.uber.now c.args.entries.now c.args.call before after made).later in
    let fits = c.requires.fits in
    record {
      devices = λ device below in_use.
          let low = fits.devices device below
          (in_use_before before after device
          (stays_out (device_of c.args.call) made.result before after made.called) in_use) in
          let same = later.devices in omega (arith, low, same);
      few = fits.few;
      sectors = (let many = fits.sectors in let same = later.sectors in omega (arith, many, same));
      area = fits.area;
      counted = fits.counted;
      count = fits.count;
    }

pub returns-then-is_err-clause-one : goal.returns-then-is_err-clause-one
returns-then-is_err-clause-one g c =
    let few = c.requires.fits.few in
    let inside = inside_device c.args.uber.now c.args.call c.requires.inside in
    subst (λ (out : ℕ). count_of out ≤ count_of c.args.out.now + 1) (sym c.insert.ensures.value)
    (subst (λ (device : ℕ). count_of (with_device c.args.out.now device) ≤ count_of c.args.out.now + 1)
    (sym c.device.ensures.value)
    (one_out c.args.out.now (device_of c.args.call) c.requires.in_use (omega (arith, few, inside))))
