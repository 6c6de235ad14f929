use Rattle.std.proofs.Common.{ℕ, [], sym, subst}
use Rattle.client_script.specs.Script.{Script}
use Rattle.core_turns.specs.Core.{at_disk}
use Rattle.schedule.specs.Live.{turns_in}
use Rattle.schedule.specs.Playing.{IsReady}
use Rattle.pool_live.specs.Sharing.{StandsFor}
use Rattle.pool_live.proofs.Sharing.{carried_on, stands_first}
use Rattle.pool_live.proofs.beside.share.Goals as goal

pub take_turns_beside-left-requires-clause-stands : goal.take_turns_beside-left-requires-clause-stands
take_turns_beside-left-requires-clause-stands g c κs within =
    let live = c.args.live in
    let first = turns_in g.B.Bank.disk live in
    subst (λ (taken : ℕ). StandsFor g.J.Setup.script g.J.Setup.start [] first live.journal.room taken)
    (sym c.requires.none)
    (stands_first g.J.Setup.script g.J.Setup.start first live.journal.room c.requires.start
    (subst (λ (s : Script). IsReady s first live.journal.room) c.requires.script c.requires.ready))

pub returns-clause-taken : goal.returns-clause-taken
returns-clause-taken g c =
    let live = c.args.live in
    let left = c.take_turns_beside-left.result in
    let ended = c.finish.result in
    let first = turns_in g.B.Bank.disk live in
    let middle = turns_in g.B.Bank.disk left in
    let had = c.take_turns_beside-left.ensures.stands in
    carried_on c.args.script.now g.J.Setup.start first middle had.0 left.journal.room left.progress.turns
    (at_disk ended.core (g.B.Bank.disk ended.bank)) ended.journal.items ended.turns c.requires.start
    (subst (λ (s : Script). StandsFor s g.J.Setup.start had.0 middle left.journal.room left.progress.turns)
    (sym c.requires.script) had.1) c.finish.ensures.taken
