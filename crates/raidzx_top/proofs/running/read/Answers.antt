use Rattle.std.proofs.lemmas.Result.{err_from_is_err_and}
use Rattle.std.proofs.Common.{refl}
use Rattle.raidzx_top.specs.Call.{Stream, stream_of}
use Rattle.raidzx_top.specs.Running.{Unread, Roomless}
use Rattle.raidzx_top.proofs.Reading.{was_read, was_unread}
use Rattle.raidzx_top.proofs.running.read.Goals as goal

pub returns-in_err-script-clause-ends : goal.returns-in_err-script-clause-ends
returns-in_err-script-clause-ends g c =
    let source : Stream = stream_of (g.S.Source.left c.args.source.now) (g.S.Source.faults c.args.source.now) in
    let after : Stream = stream_of (g.S.Source.left c.read_script.new.source) (g.S.Source.faults c.read_script.new.source) in
    let why = c.in_err-script.field-0.0 in
    let told = c.in_err-script.ensures in
    let given = err_from_is_err_and c.from_residual.result c.from_residual.ensures.1 in
    rw (given.1, given.2)
    (λ disk. Unread why (was_unread source after why told.err told.every_script told.every_fault told.every_limit) refl refl)

pub returns-in_err-reserve-clause-ends : goal.returns-in_err-reserve-clause-ends
returns-in_err-reserve-clause-ends g c =
    let source : Stream = stream_of (g.S.Source.left c.args.source.now) (g.S.Source.faults c.args.source.now) in
    let after : Stream = stream_of (g.S.Source.left c.read_script.new.source) (g.S.Source.faults c.read_script.new.source) in
    let script = c.in_ok-script.script in
    let told = c.in_ok-script.ensures in
    let given = err_from_is_err_and c.from_residual-in_err-reserve.result c.from_residual-in_err-reserve.ensures.1 in
    rw (given.1, given.2) (λ disk. Roomless script (was_read source after script told.ok told.allowed told.actors
    told.every_script told.every_fault told.every_limit) refl refl)

pub returns-clause-ends : goal.returns-clause-ends
returns-clause-ends g c =
    let source : Stream = stream_of (g.S.Source.left c.args.source.now) (g.S.Source.faults c.args.source.now) in
    let after : Stream = stream_of (g.S.Source.left c.read_script.new.source) (g.S.Source.faults c.read_script.new.source) in
    let told = c.in_ok-script.ensures in
    was_read source after c.in_ok-script.script told.ok told.allowed told.actors told.every_script told.every_fault
    told.every_limit
