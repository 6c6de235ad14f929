use Rattle.std.proofs.Common.{ℕ, ◌<◌}
use Rattle.bank_trait.specs.Disk.{Unchanged}
use Rattle.raidzx.specs.Rings.{ShowsNoneOut}
use Rattle.raidzx.proofs.seen.all_show.Given as goal

abbrev pub invariant-loop-device : goal.invariant-loop-device
invariant-loop-device g l = record {
  unchanged : Unchanged (g.B.Bank.disk l.fn.bank) (g.B.Bank.disk l.bank);
  shown : (device : ℕ) → device < l.device → ShowsNoneOut (g.B.Bank.disk l.fn.bank) l.group device;
}
