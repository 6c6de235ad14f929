use Rattle.std.proofs.Common.{sym, ◌∙◌, ap, subst, arith}
use Rattle.reflow_mark.specs.declared.reflow.Reflow.{Reflow}
use Rattle.core_open.specs.Lacking.{GivesOrLacks}
use Rattle.core_open.proofs.Givers.{asked_first, giver_after}
use Rattle.core_open.proofs.Lacking.{asked_at, asked_failed, asked_given, asked_lacked, asked_past, not_within}
use Rattle.core_open.proofs.page_lack.devices_without_page.Goals as goal
use Rattle.core_open.proofs.page_lack.devices_without_page.Goals.{in-Ok-true, in-Ok-false, in-Err}

pub loop-device-preserved-then-has : goal.loop-device-preserved-then-has
loop-device-preserved-then-has g c =
    asked_past (g.B.Bank.disk c.args.bank.now) (g.B.Bank.disk c.loop-device.bank)
    c.args.uber.now c.args.entries.now c.args.out.now c.loop-device.device c.loop-device.out
    c.loop-device.lacking c.loop-device.invariant (sym c.if-has.ensures.value)

pub gives_page-requires-clause-given : goal.gives_page-requires-clause-given
gives_page-requires-clause-given g c =
    (giver_after (g.B.Bank.disk c.args.bank.now) (g.B.Bank.disk c.loop-device.bank) c.args.out.now
    c.args.uber.now c.args.entries.now c.args.giver c.loop-device.invariant.unchanged
    c.requires.given).gives

pub gives_page-requires-clause-before : goal.gives_page-requires-clause-before
gives_page-requires-clause-before g c low =
    let old = g.B.Bank.disk c.args.bank.now in
    let mid = g.B.Bank.disk c.loop-device.bank in
    let so_far = c.loop-device.invariant in
    asked_first mid c.args.out.now c.args.uber.now c.args.entries.now c.args.giver c.loop-device.device
    (giver_after old mid c.args.out.now c.args.uber.now c.args.entries.now c.args.giver so_far.unchanged c.requires.given)
    (omega (arith, c.loop-device-test.true, ap (λ (r : Reflow). r.to) c.reflow-device-end.ensures.value))
    (not_within c.args.out.now c.loop-device.out c.loop-device.device so_far.within (sym c.if-has.ensures.value)) low

pub loop-device-preserved : goal.loop-device-preserved
loop-device-preserved g c =
    let old = g.B.Bank.disk c.args.bank.now in
    let mid = g.B.Bank.disk c.loop-device.bank in
    let new = g.B.Bank.disk c.gives_page.new.bank in
    let uber = c.args.uber.now in
    let entries = c.args.entries.now in
    let before = c.args.out.now in
    let device = c.loop-device.device in
    let out = c.loop-device.out in
    let lacking = c.loop-device.lacking in
    let so_far = c.loop-device.invariant in
    let same = c.gives_page.ensures.unchanged in
    elim c.match-gives_page.branch [
      | in-Ok-true w ↦ asked_at c.match-gives_page.out c.match-gives_page.lacking w.out-is w.lacking-is
          (asked_given old mid uber entries before device out lacking so_far new same
          (subst (GivesOrLacks mid uber device entries) w.in-Ok-true.field-0-test w.in-Ok-true.ensures.gives))
      | in-Ok-false w ↦ asked_at c.match-gives_page.out c.match-gives_page.lacking w.out-is
          (w.lacking-is ∙ w.insert.ensures.value)
          (asked_lacked old mid uber entries before device out lacking so_far new same
          (sym c.if-has.ensures.value)
          (subst (GivesOrLacks mid uber device entries) w.in-Ok-false.field-0-test w.in-Ok-false.ensures.gives))
      | in-Err w ↦ asked_at c.match-gives_page.out c.match-gives_page.lacking
          (w.out-is ∙ w.insert-in-Err.ensures.value) w.lacking-is
          (asked_failed old mid uber entries before device out lacking so_far new same
          c.requires.devices c.requires.right.widths.1 (sym c.if-has.ensures.value)
          (omega (arith, c.loop-device-test.true, ap (λ (r : Reflow). r.to) c.reflow-device-end.ensures.value))
          w.in-Err.ensures.failed)
    ]
