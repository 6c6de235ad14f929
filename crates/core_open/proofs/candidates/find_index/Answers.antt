use Rattle.std.proofs.Common.{Option, sym, subst}
use Rattle.std.specs.Prelude.{IfSome, Vec}
use Rattle.std.specs.declared.alloc.Global.{Global}
use Rattle.bank_trait.specs.Disk.{Image}
use Rattle.block_record.specs.declared.entry.IndexEntry.{IndexEntry}
use Rattle.core_open.specs.Candidates.{IsGivenIndex, IsIndexFor}
use Rattle.core_open.specs.Holds.{HoldsImage, shape_of}
use Rattle.core_open.specs.Pages.{IsGivenPage}
use Rattle.core_open.proofs.Asking.{asked_more, index_given}
use Rattle.core_open.proofs.Givers.{first_giver}
use Rattle.core_open.proofs.candidates.find_index.Goals as goal

pub returns-in-Some-clause-found : goal.returns-in-Some-clause-found
returns-in-Some-clause-found g c =
    let mid = g.B.Bank.disk c.loop-device.bank in
    let fits : IsIndexFor c.args.uber.now c.in-Some.entries.items =
    subst (λ (found : Option (Vec IndexEntry Global)). IfSome found (λ e. IsIndexFor c.args.uber.now e.items)) c.in-Some.is
    c.in_ok-entries.ensures.fits in
    index_given c.args.silent c.loop-device.device c.args.uber.now (g.B.Bank.disk c.args.bank.now) mid
    c.loop-device.invariant (record { device = c.loop-device.device; entries = c.in-Some.entries }) (sym c.if-has.ensures.value) fits.fitting
    (subst (λ (found : Option (Vec IndexEntry Global)). (image : Image) → HoldsImage mid image
    → IsGivenIndex (shape_of mid) image c.args.uber.now c.loop-device.device found) c.in-Some.is c.in_ok-entries.ensures.found)

pub loop-device-preserved : goal.loop-device-preserved
loop-device-preserved g c =
    let mid = g.B.Bank.disk c.loop-device.bank in
    asked_more c.args.silent c.loop-device.device c.args.uber.now (g.B.Bank.disk c.args.bank.now) mid
    c.loop-device.invariant (g.B.Bank.disk c.give_index.new.bank) c.in_ok-entries.ensures.unchanged
    (subst (λ (found : Option (Vec IndexEntry Global)). (image : Image) → HoldsImage mid image
    → IsGivenIndex (shape_of mid) image c.args.uber.now c.loop-device.device found) c.in_default.is c.in_ok-entries.ensures.found)

pub returns-in-Some-clause-given : goal.returns-in-Some-clause-given
returns-in-Some-clause-given g c =
    let mid = g.B.Bank.disk c.loop-device.bank in
    let fits : IsIndexFor c.args.uber.now c.in-Some.entries.items =
    subst (λ (found : Option (Vec IndexEntry Global)). IfSome found (λ e. IsIndexFor c.args.uber.now e.items)) c.in-Some.is
    c.in_ok-entries.ensures.fits in
    first_giver c.args.silent c.loop-device.device c.args.uber.now (g.B.Bank.disk c.args.bank.now) mid
    c.in-Some.entries.items c.loop-device.invariant fits.fitting
    (subst (λ (found : Option (Vec IndexEntry Global)). IfSome found
    (λ e. IsGivenPage mid c.args.uber.now c.loop-device.device e.items)) c.in-Some.is c.in_ok-entries.ensures.given)
