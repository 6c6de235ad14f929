use Rattle.std.proofs.Common.{inl, rules}
use Rattle.std.specs.Prelude.{IfErr}
use Rattle.core_open.specs.Finding.{IsFindCause}
use Rattle.core_open.proofs.Finishing.{opens_promises, known, refused, fits_then, untouched_all, others_of}
use Rattle.core_open.proofs.Givers.{giver_after}
use Rattle.core_open.proofs.Unhindered.{caused, find_memory}
use Rattle.core_open.proofs.opening.open.Goals as goal

pub open_found-requires-clause-fits : goal.open_found-requires-clause-fits
open_found-requires-clause-fits g c = fits_then c.in_ok-found.found (g.B.Bank.disk c.args.bank.now)
    (g.B.Bank.disk c.find.new.bank) c.find.ensures.unchanged c.in_ok-found.ensures.fits

pub open_found-requires-clause-given : goal.open_found-requires-clause-given
open_found-requires-clause-given g c =
    let found = c.in_ok-found.found in
    giver_after (g.B.Bank.disk c.args.bank.now) (g.B.Bank.disk c.find.new.bank) found.silent found.uber found.entries.items
    found.giver c.find.ensures.unchanged c.in_ok-found.ensures.given

pub returns-in_err-found-clause-untouched : goal.returns-in_err-found-clause-untouched
returns-in_err-found-clause-untouched g c = untouched_all c.from_residual.result (g.B.Bank.disk c.args.bank.now)
    (g.B.Bank.disk c.find.new.bank) c.find.ensures.unchanged

pub returns-clause-right : goal.returns-clause-right
returns-clause-right g c = known c.open_found.result (λ opened told. told.right) (opens_promises _ c.open_found.result (g.met.B.Bank.lawful c.args.bank.now)
    c.find.ensures.unchanged c.in_ok-found.ensures.found c.in_ok-found.ensures.right c.in_ok-found.ensures.silent
    c.in_ok-found.ensures.fits c.in_ok-found.ensures.index c.open_found.ensures.opens).0

pub returns-clause-index : goal.returns-clause-index
returns-clause-index g c = known c.open_found.result (λ opened told. told.index) (opens_promises _ c.open_found.result (g.met.B.Bank.lawful c.args.bank.now)
    c.find.ensures.unchanged c.in_ok-found.ensures.found c.in_ok-found.ensures.right c.in_ok-found.ensures.silent
    c.in_ok-found.ensures.fits c.in_ok-found.ensures.index c.open_found.ensures.opens).0

pub returns-clause-silent : goal.returns-clause-silent
returns-clause-silent g c = known c.open_found.result (λ opened told. told.silent) (opens_promises _ c.open_found.result (g.met.B.Bank.lawful c.args.bank.now)
    c.find.ensures.unchanged c.in_ok-found.ensures.found c.in_ok-found.ensures.right c.in_ok-found.ensures.silent
    c.in_ok-found.ensures.fits c.in_ok-found.ensures.index c.open_found.ensures.opens).0

pub returns-clause-missed : goal.returns-clause-missed
returns-clause-missed g c = known c.open_found.result (λ opened told. told.missed) (opens_promises _ c.open_found.result (g.met.B.Bank.lawful c.args.bank.now)
    c.find.ensures.unchanged c.in_ok-found.ensures.found c.in_ok-found.ensures.right c.in_ok-found.ensures.silent
    c.in_ok-found.ensures.fits c.in_ok-found.ensures.index c.open_found.ensures.opens).0

pub returns-clause-writes : goal.returns-clause-writes
returns-clause-writes g c = known c.open_found.result (λ opened told. told.writes) (opens_promises _ c.open_found.result (g.met.B.Bank.lawful c.args.bank.now)
    c.find.ensures.unchanged c.in_ok-found.ensures.found c.in_ok-found.ensures.right c.in_ok-found.ensures.silent
    c.in_ok-found.ensures.fits c.in_ok-found.ensures.index c.open_found.ensures.opens).0

pub returns-clause-renews : goal.returns-clause-renews
returns-clause-renews g c = known c.open_found.result (λ opened told. told.renews) (opens_promises _ c.open_found.result (g.met.B.Bank.lawful c.args.bank.now)
    c.find.ensures.unchanged c.in_ok-found.ensures.found c.in_ok-found.ensures.right c.in_ok-found.ensures.silent
    c.in_ok-found.ensures.fits c.in_ok-found.ensures.index c.open_found.ensures.opens).0

pub returns-clause-out : goal.returns-clause-out
returns-clause-out g c = known c.open_found.result (λ opened told. told.out) (opens_promises _ c.open_found.result (g.met.B.Bank.lawful c.args.bank.now)
    c.find.ensures.unchanged c.in_ok-found.ensures.found c.in_ok-found.ensures.right c.in_ok-found.ensures.silent
    c.in_ok-found.ensures.fits c.in_ok-found.ensures.index c.open_found.ensures.opens).0

pub returns-clause-spares : goal.returns-clause-spares
returns-clause-spares g c = known c.open_found.result (λ opened told. told.spares) (opens_promises _ c.open_found.result (g.met.B.Bank.lawful c.args.bank.now)
    c.find.ensures.unchanged c.in_ok-found.ensures.found c.in_ok-found.ensures.right c.in_ok-found.ensures.silent
    c.in_ok-found.ensures.fits c.in_ok-found.ensures.index c.open_found.ensures.opens).0

pub returns-clause-few : goal.returns-clause-few
returns-clause-few g c = known c.open_found.result (λ opened told. told.few) (opens_promises _ c.open_found.result (g.met.B.Bank.lawful c.args.bank.now)
    c.find.ensures.unchanged c.in_ok-found.ensures.found c.in_ok-found.ensures.right c.in_ok-found.ensures.silent
    c.in_ok-found.ensures.fits c.in_ok-found.ensures.index c.open_found.ensures.opens).0

pub returns-clause-below : goal.returns-clause-below
returns-clause-below g c = known c.open_found.result (λ opened told. told.below) (opens_promises _ c.open_found.result (g.met.B.Bank.lawful c.args.bank.now)
    c.find.ensures.unchanged c.in_ok-found.ensures.found c.in_ok-found.ensures.right c.in_ok-found.ensures.silent
    c.in_ok-found.ensures.fits c.in_ok-found.ensures.index c.open_found.ensures.opens).0

pub returns-clause-bank : goal.returns-clause-bank
returns-clause-bank g c = known c.open_found.result (λ opened told. told.bank) (opens_promises _ c.open_found.result (g.met.B.Bank.lawful c.args.bank.now)
    c.find.ensures.unchanged c.in_ok-found.ensures.found c.in_ok-found.ensures.right c.in_ok-found.ensures.silent
    c.in_ok-found.ensures.fits c.in_ok-found.ensures.index c.open_found.ensures.opens).0

pub returns-clause-group : goal.returns-clause-group
returns-clause-group g c = known c.open_found.result (λ opened told. told.group) (opens_promises _ c.open_found.result (g.met.B.Bank.lawful c.args.bank.now)
    c.find.ensures.unchanged c.in_ok-found.ensures.found c.in_ok-found.ensures.right c.in_ok-found.ensures.silent
    c.in_ok-found.ensures.fits c.in_ok-found.ensures.index c.open_found.ensures.opens).0

pub returns-clause-kept : goal.returns-clause-kept
returns-clause-kept g c = known c.open_found.result (λ opened told. told.kept) (opens_promises _ c.open_found.result (g.met.B.Bank.lawful c.args.bank.now)
    c.find.ensures.unchanged c.in_ok-found.ensures.found c.in_ok-found.ensures.right c.in_ok-found.ensures.silent
    c.in_ok-found.ensures.fits c.in_ok-found.ensures.index c.open_found.ensures.opens).0

pub returns-clause-since : goal.returns-clause-since
returns-clause-since g c = known c.open_found.result (λ opened told. told.since) (opens_promises _ c.open_found.result (g.met.B.Bank.lawful c.args.bank.now)
    c.find.ensures.unchanged c.in_ok-found.ensures.found c.in_ok-found.ensures.right c.in_ok-found.ensures.silent
    c.in_ok-found.ensures.fits c.in_ok-found.ensures.index c.open_found.ensures.opens).0

pub returns-clause-cause : goal.returns-clause-cause
returns-clause-cause g c = refused c.open_found.result (λ why told. told.cause) (opens_promises _ c.open_found.result (g.met.B.Bank.lawful c.args.bank.now)
    c.find.ensures.unchanged c.in_ok-found.ensures.found c.in_ok-found.ensures.right c.in_ok-found.ensures.silent
    c.in_ok-found.ensures.fits c.in_ok-found.ensures.index c.open_found.ensures.opens).1

pub returns-clause-untouched : goal.returns-clause-untouched
returns-clause-untouched g c = refused c.open_found.result (λ why told. told.untouched) (opens_promises _ c.open_found.result (g.met.B.Bank.lawful c.args.bank.now)
    c.find.ensures.unchanged c.in_ok-found.ensures.found c.in_ok-found.ensures.right c.in_ok-found.ensures.silent
    c.in_ok-found.ensures.fits c.in_ok-found.ensures.index c.open_found.ensures.opens).1

pub returns-in_err-found-clause-opens : goal.returns-in_err-found-clause-opens
returns-in_err-found-clause-opens g c =
    let cause : IfErr c.from_residual.result
    (IsFindCause (g.B.Bank.disk c.args.bank.now) (g.B.Bank.disk c.find.new.bank)) = search rules in
    find_memory c.from_residual.result (g.B.Bank.disk c.args.bank.now) (g.B.Bank.disk c.find.new.bank)
    (g.met.B.Bank.lawful c.args.bank.now) cause

pub returns-clause-opens : goal.returns-clause-opens
returns-clause-opens g c = refused c.open_found.result (λ why told. caused (g.B.Bank.disk c.args.bank.now) (g.B.Bank.disk c.open_found.new.bank) why
    (g.met.B.Bank.lawful c.args.bank.now) told.cause) (opens_promises _ c.open_found.result (g.met.B.Bank.lawful c.args.bank.now)
    c.find.ensures.unchanged c.in_ok-found.ensures.found c.in_ok-found.ensures.right c.in_ok-found.ensures.silent
    c.in_ok-found.ensures.fits c.in_ok-found.ensures.index c.open_found.ensures.opens).1

pub returns-clause-only : goal.returns-clause-only
returns-clause-only g c = known c.open_found.result (λ opened told. told.only) (opens_promises _ c.open_found.result (g.met.B.Bank.lawful c.args.bank.now)
    c.find.ensures.unchanged c.in_ok-found.ensures.found c.in_ok-found.ensures.right c.in_ok-found.ensures.silent
    c.in_ok-found.ensures.fits c.in_ok-found.ensures.index c.open_found.ensures.opens).0

pub returns-clause-others : goal.returns-clause-others
returns-clause-others g c =
    let told = opens_promises _ c.open_found.result (g.met.B.Bank.lawful c.args.bank.now)
    c.find.ensures.unchanged c.in_ok-found.ensures.found c.in_ok-found.ensures.right c.in_ok-found.ensures.silent
    c.in_ok-found.ensures.fits c.in_ok-found.ensures.index c.open_found.ensures.opens in
    others_of c.open_found.result told.0 told.1

pub returns-in_err-found-clause-others : goal.returns-in_err-found-clause-others
returns-in_err-found-clause-others g c = inl c.find.ensures.unchanged
