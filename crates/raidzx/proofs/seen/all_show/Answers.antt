use Rattle.std.proofs.Common.{ℕ, arith, below_more}
use Rattle.core_open.proofs.Unchanged.{unchanged_then}
use Rattle.raidzx.specs.Rings.{ShowsNoneOut}
use Rattle.raidzx.proofs.Slots.{lacks_before, shows_before}
use Rattle.raidzx.proofs.seen.all_show.Goals as goal

pub loop-device-preserved : goal.loop-device-preserved
loop-device-preserved g c =
    let old = g.B.Bank.disk c.args.bank.now in
    let so_far = c.loop-device.invariant in
    record {
      unchanged = unchanged_then so_far.unchanged c.if-not-shows.ensures.unchanged;
      shown = below_more (λ (device : ℕ). ShowsNoneOut old c.args.group device) c.loop-device.device so_far.shown
          (shows_before old _ so_far.unchanged c.args.group c.loop-device.device c.if-not-shows.ensures.shown);
    }

pub returns-then-not-shows-clause-shown : goal.returns-then-not-shows-clause-shown
returns-then-not-shows-clause-shown g c = (
  c.loop-device.device,
  omega arith,
  lacks_before (g.B.Bank.disk c.args.bank.now) _ c.loop-device.invariant.unchanged (g.B.Bank.disk c.shows.new.bank) c.args.group c.loop-device.device c.if-not-shows.ensures.shown,
)

pub returns-clause-shown : goal.returns-clause-shown
returns-clause-shown g c = λ device below. c.loop-device.invariant.shown device (omega arith)
