use Rattle.std.proofs.Common.{rules, ◌<◌}
use Rattle.std.specs.Prelude.{IfErr}
use Rattle.uberblock_ring.specs.Devices.{count_of}
use Rattle.core_open.specs.Finding.{IsFindCause}
use Rattle.core_open.proofs.Seen.{many_cause, many_memory, none_memory, seen}
use Rattle.core_open.proofs.looking.look.Goals as goal

pub returns-in_err-found-clause-looks : goal.returns-in_err-found-clause-looks
returns-in_err-found-clause-looks g c =
    let cause : IfErr c.from_residual.result
    (IsFindCause (g.B.Bank.disk c.args.bank.now) (g.B.Bank.disk c.find.new.bank)) = search rules in
    none_memory c.from_residual.result (g.B.Bank.disk c.args.bank.now) (g.B.Bank.disk c.find.new.bank)
    (g.met.B.Bank.lawful c.args.bank.now) cause

pub returns-then-has_too_many_out-clause-cause : goal.returns-then-has_too_many_out-clause-cause
returns-then-has_too_many_out-clause-cause g c =
    let many : c.in_ok-found.found.uber.parity < count_of c.in_ok-found.found.out = search rules in
    many_cause (g.B.Bank.disk c.args.bank.now) (g.B.Bank.disk c.find.new.bank) c.in_ok-found.found
    (g.met.B.Bank.lawful c.args.bank.now) c.find.ensures.unchanged c.in_ok-found.ensures.found
    c.in_ok-found.ensures.right c.in_ok-found.ensures.silent c.in_ok-found.ensures.fits many

pub returns-then-has_too_many_out-clause-looks : goal.returns-then-has_too_many_out-clause-looks
returns-then-has_too_many_out-clause-looks g c =
    let many : c.in_ok-found.found.uber.parity < count_of c.in_ok-found.found.out = search rules in
    many_memory (g.B.Bank.disk c.args.bank.now) (g.B.Bank.disk c.find.new.bank) c.in_ok-found.found
    (g.met.B.Bank.lawful c.args.bank.now) c.find.ensures.unchanged c.in_ok-found.ensures.found
    c.in_ok-found.ensures.right c.in_ok-found.ensures.silent c.in_ok-found.ensures.fits many

pub returns-clause-seen : goal.returns-clause-seen
returns-clause-seen g c = seen (g.B.Bank.disk c.args.bank.now) c.in_ok-found.found c.in_ok-found.ensures.found
