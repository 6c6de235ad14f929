use Rattle.std.proofs.Common.{◌≡◌, ℕ, length}
use Rattle.bank_mem.specs.Record.{content, blank}
use Rattle.bank_mem.specs.Sound.{AllWide}
use Rattle.bank_mem.proofs.shelf.blank_shelf.Given as goal

abbrev pub invariant-loop-device : goal.invariant-loop-device
invariant-loop-device l = record {
  len : length l.shelf.items ≡ l._device;
  held : (d x : ℕ) → content l.shelf.items d x ≡ blank l._device l.sectors d x;
  wide : AllWide l.shelf.items l.sectors;
}
