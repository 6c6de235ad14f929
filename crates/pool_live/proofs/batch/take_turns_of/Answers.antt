use Rattle.std.proofs.Common.{ℕ, List, inl, subst, sym}
use Rattle.client_script.specs.Script.{Script}
use Rattle.schedule.specs.Live.{turns_in}
use Rattle.turn_lock.specs.Turn.{entries}
use Rattle.pool_live.specs.declared.live.TurnsTaken.{TurnsTaken}
use Rattle.pool_live.specs.Sharing.{IsNextFor, MovesOn, StandsFor, actors_told}
use Rattle.pool_live.proofs.Sharing.{actors_more, told_on}
use Rattle.pool_live.proofs.batch.take_turns_of.Goals as goal

pub give-requires-clause-stands : goal.give-requires-clause-stands
give-requires-clause-stands g c =
    let held = c.in-Ok.held.state.live.value in
    let lent = c.deref_mut.result.now in
    let new = c.have_turns-batch.new.live in
    let after = turns_in g.B.Bank.disk new in
    let seen = entries c.take.new.seat.me.seen in
    let had = c.have_turns-batch.result.turns in
    subst (λ (actors : List ℕ). StandsFor g.J.Setup.script g.J.Setup.start actors after new.journal.room new.progress.turns)
    (sym (actors_more seen (record { actor = c.args.actor; turns = had })))
    (subst (λ live. MovesOn g.J.Setup.script (turns_in g.B.Bank.disk live)
    live.journal.room live.progress.turns c.args.actor had after new.journal.room new.progress.turns)
    c.deref_mut.ensures.value
    (subst (λ (s : Script). MovesOn s (turns_in g.B.Bank.disk lent)
    lent.journal.room lent.progress.turns c.args.actor had after new.journal.room new.progress.turns) c.requires.script
    c.have_turns-batch.ensures.stands) g.J.Setup.start (actors_told seen) c.in-Ok.ensures.stands)

pub returns-clause-next : goal.returns-clause-next
returns-clause-next g c =
    let held = c.in-Ok.held.state.live.value in
    let lent = c.deref_mut.result.now in
    let new = c.have_turns-batch.new.live in
    let after = turns_in g.B.Bank.disk new in
    let seen = entries c.take.new.seat.me.seen in
    let had = c.have_turns-batch.result.turns in
    let told : TurnsTaken = record { actor = c.args.actor; turns = had } in
    let stood = subst (λ live. MovesOn g.J.Setup.script (turns_in g.B.Bank.disk live)
    live.journal.room live.progress.turns c.args.actor had after new.journal.room new.progress.turns)
    c.deref_mut.ensures.value
    (subst (λ (s : Script). MovesOn s (turns_in g.B.Bank.disk lent)
    lent.journal.room lent.progress.turns c.args.actor had after new.journal.room new.progress.turns) c.requires.script
    c.have_turns-batch.ensures.stands) g.J.Setup.start (actors_told seen) c.in-Ok.ensures.stands in
    inl (record {
      now = after;
      room = new.journal.room;
      taken = new.progress.turns;
      stands = rw c.give.ensures.gave (told_on g.J.Setup.script g.J.Setup.start c.take.new.seat.me.seen told
          c.take.new.seat.me.name after new.journal.room new.progress.turns stood);
      next_is = subst (λ (s : Script). IsNextFor s c.args.actor after new.progress.turns c.have_turns-batch.result.next)
          c.requires.script c.have_turns-batch.ensures.next;
    })
