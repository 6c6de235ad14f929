use Rattle.std.proofs.Common.{◌≡◌, ℕ, ◌+◌, rules, sym, subst}
use Rattle.bank_mem.specs.Record.{Shelf, content, blank}
use Rattle.bank_mem.specs.Sound.{AllWide}
use Rattle.bank_mem.proofs.Blank.{held_push, wide_push}
use Rattle.bank_mem.proofs.shelf.blank_shelf.Goals as goal

pub loop-device-preserved : goal.loop-device-preserved
loop-device-preserved c =
    let zeros = c.in_ok-row.ensures in
    let pushed = sym c.in_ok-push.ensures.items in
    let old = c.loop-device.invariant in
    record {
      len = search rules;
      held = subst (λ (s : Shelf). (d x : ℕ) → content s d x ≡ blank (c.loop-device._device + 1) c.args.sectors d x) pushed
          (held_push c.loop-device.shelf.items c.in_ok-row.row c.loop-device._device c.args.sectors old.len zeros old.held);
      wide = subst (λ (s : Shelf). AllWide s c.args.sectors) pushed
          (wide_push c.loop-device.shelf.items c.in_ok-row.row c.loop-device._device c.args.sectors old.len zeros old.wide);
    }
