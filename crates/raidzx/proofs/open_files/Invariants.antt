use Rattle.std.proofs.Common.{◌≡◌, length}
use Rattle.raidzx.proofs.open_files.Given as goal

abbrev pub invariant-loop-device : goal.invariant-loop-device
invariant-loop-device g l = record {
  files : length l.files.items ≡ l.device;
  faults : length l.faults.items ≡ l.device;
}
