use Rattle.std.proofs.Common.{arith}
use Rattle.core_open.proofs.Unchanged.{unchanged_none, unchanged_then}
use Rattle.raidzx.proofs.Seeing.{seen_all, seen_more, seen_none}
use Rattle.raidzx.proofs.sightings.see.Goals as goal

pub loop-place-init : goal.loop-place-init
loop-place-init g c = record {
  unchanged = unchanged_none (g.B.Bank.disk c.args.bank.now);
  seen = seen_none (g.B.Bank.disk c.args.bank.now) _ c.new.ensures.items c.empty.ensures.value;
}

pub loop-place-preserved : goal.loop-place-preserved
loop-place-preserved g c =
    let old = g.B.Bank.disk c.args.bank.now in
    let mid = g.B.Bank.disk c.loop-place.bank in
    let so_far = c.loop-place.invariant in
    let sees = c.in_ok-see_ring.ensures in
    record {
      unchanged = unchanged_then so_far.unchanged sees.unchanged;
      seen = seen_more old mid (g.B.Bank.disk c.see_ring.new.bank) c.loop-place.place c.loop-place.sightings
          c.see_ring.new.sightings so_far.unchanged sees.unchanged
          (omega (arith, c.devices.ensures, c.min-place-end.ensures), omega (arith, c.min-place-end.ensures))
          so_far.seen sees.seen;
    }

pub returns-clause-seen : goal.returns-clause-seen
returns-clause-seen g c =
    seen_all (g.B.Bank.disk c.args.bank.now) (g.B.Bank.disk c.loop-place.bank) c.loop-place.place c.loop-place.sightings
    (λ place looked_at. omega (arith, looked_at, c.devices.ensures, c.min-place-end.ensures))
    c.loop-place.invariant.seen
