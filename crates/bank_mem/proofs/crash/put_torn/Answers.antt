use Rattle.std.proofs.Common.{⊎_elim, Some, ◌∙◌, ap, sym, refl}
use Rattle.bank_mem.specs.Record.{content, called_device, called_sector}
use Rattle.bank_mem.specs.CrashSteps.{tear_of}
use Rattle.bank_mem.specs.declared.crash.Tear.TheVariants.{Kept, Filled}
use Rattle.bank_mem.proofs.Placed.{in_row}
use Rattle.bank_mem.proofs.Handed.{torn_put}
use Rattle.bank_mem.proofs.crash.put_torn.Goals as goal

pub put_sector-requires-clause-sector : goal.put_sector-requires-clause-sector
put_sector-requires-clause-sector c =
    in_row _ _ _ _ c.requires (ap called_device c.in-Spoil.is) (ap called_sector c.in-Spoil.is)

pub put_sector-requires-in-Some-Kept-clause-sector : goal.put_sector-requires-in-Some-Kept-clause-sector
put_sector-requires-in-Some-Kept-clause-sector c = ⊎_elim
    (λ w. in_row _ _ _ _ c.requires (ap called_device w.1) (ap called_sector w.1))
    (λ w. in_row _ _ _ _ c.requires (ap called_device w.1) (ap called_sector w.1)) c.in-Write.is

pub put_sector-requires-in-Some-Filled-clause-sector : goal.put_sector-requires-in-Some-Filled-clause-sector
put_sector-requires-in-Some-Filled-clause-sector c = ⊎_elim
    (λ w. in_row _ _ _ _ c.requires (ap called_device w.1) (ap called_sector w.1))
    (λ w. in_row _ _ _ _ c.requires (ap called_device w.1) (ap called_sector w.1)) c.in-Write.is

pub returns-in-Some-Kept-clause-held : goal.returns-in-Some-Kept-clause-held
returns-in-Some-Kept-clause-held c =
    torn_put (tear_of c.args.tears.now) (content c.args.images.now.items) _
    c.args.call.now c.in-Write.device c.in-Write.sector c.in-Write.bytes c.in-Write.bytes Kept
    c.in-Write.is (sym c.in-Some-Kept.ensures.value ∙ ap Some c.in-Some-Kept.field-0-is) refl
    c.put_sector-in-Some-Kept.ensures.held

pub returns-in-Some-Filled-clause-held : goal.returns-in-Some-Filled-clause-held
returns-in-Some-Filled-clause-held c =
    torn_put (tear_of c.args.tears.now) (content c.args.images.now.items) _
    c.args.call.now c.in-Write.device c.in-Write.sector c.in-Write.bytes _
    (Filled c.in-Some-Filled.byte) c.in-Write.is
    (sym c.in-Some-Filled.ensures.value ∙ ap Some c.in-Some-Filled.field-0-is)
    (ap Some (sym c.filled_sector.ensures))
    c.put_sector-in-Some-Filled.ensures.held
