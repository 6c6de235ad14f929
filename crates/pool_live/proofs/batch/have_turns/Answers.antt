use Rattle.std.proofs.Common.{◌+◌, arith, refl, sym}
use Rattle.schedule.specs.InTurn.{turns_by}
use Rattle.schedule.specs.declared.computing.ToCompute.TheVariants as to_compute
use Rattle.schedule.specs.Live.{turns_in}
use Rattle.pool_live.proofs.Batches.{answers_more, next_still, ready_begun}
use Rattle.pool_live.proofs.Sharing.{counts_more, moves_still}
use Rattle.pool_live.proofs.batch.have_turns.Goals as goal

pub returns-then-not-goes_on_at_once-clause-stands : goal.returns-then-not-goes_on_at_once-clause-stands
returns-then-not-goes_on_at_once-clause-stands g c =
    let live = c.args.live.now in
    let was = c.loop-turn.live in
    let new = c.turn_of.new.live in
    moves_still c.args.script.now (turns_in g.B.Bank.disk live) new.core (g.B.Bank.disk new.bank) new.journal new.progress
    c.next_of.new.progress c.args.actor (c.loop-turn.turns + 1) live.journal.room live.progress.turns c.next_of.ensures.same
    c.next_of.ensures.turns
    (counts_more c.args.script.now (turns_in g.B.Bank.disk live) was.core
    (g.B.Bank.disk was.bank) was.journal was.progress c.count.new.self
    (turns_in g.B.Bank.disk new) c.args.actor c.loop-turn.turns live.journal.room
    new.journal.room live.progress.turns new.progress.turns c.count.ensures.clients c.in-Ok.ensures.turns
    c.turn_of.ensures.turns c.loop-turn.invariant.moves c.turn_of.ensures.turn c.turn_of.ensures.ready)

pub returns-in_default-clause-answered : goal.returns-in_default-clause-answered
returns-in_default-clause-answered g c = λ count answered. rw c.count.ensures.clients
    (c.loop-turn.invariant.counts count answered)

pub turn_of-requires-clause-left : goal.turn_of-requires-clause-left
turn_of-requires-clause-left g c = rw c.count.ensures.clients c.loop-turn.invariant.left

pub returns-then-not-goes_on_at_once-clause-next : goal.returns-then-not-goes_on_at_once-clause-next
returns-then-not-goes_on_at_once-clause-next g c =
    let was = c.loop-turn.live in
    let new = c.turn_of.new.live in
    next_still c.args.script.now new.core (g.B.Bank.disk new.bank) new.journal new.progress
    c.next_of.new.progress c.args.actor c.next_of.result c.next_of.ensures.same c.next_of.ensures.turns
    (c.next_of.ensures.next
    (turns_by was.core (g.B.Bank.disk was.bank) was.journal c.count.new.self)
    (turns_in g.B.Bank.disk new) c.turn_of.ensures.turn.is refl (sym c.len-before.ensures) (sym c.len-now.ensures))

pub returns-then-not-goes_on_at_once-clause-answered : goal.returns-then-not-goes_on_at_once-clause-answered
returns-then-not-goes_on_at_once-clause-answered g c = λ count answered.
    let was = c.loop-turn.live in
    let new = c.turn_of.new.live in
    rw c.next_of.ensures.same (answers_more new.progress.clients.items c.args.actor count c.loop-turn.answered
    c.count_answered-answered.result (c.count_answered-answered.ensures.answered c.args.script.now
    (turns_by was.core (g.B.Bank.disk was.bank) was.journal c.count.new.self)
    (turns_in g.B.Bank.disk new) (count + c.loop-turn.answered) c.turn_of.ensures.turn.is
    (rw c.count.ensures.clients (ready_begun c.loop-turn.invariant.ready)) refl
    (sym c.len-before.ensures) (sym c.len-now.ensures)
    (rw c.count.ensures.clients (c.loop-turn.invariant.counts count answered))))

pub returns-clause-next : goal.returns-clause-next
returns-clause-next g c = (c.loop-turn.invariant.left, c.loop-turn.invariant.next (omega (arith, c.loop-turn-test.false)))

pub returns-clause-answered : goal.returns-clause-answered
returns-clause-answered g c = c.loop-turn.invariant.counts

pub loop-turn-preserved : goal.loop-turn-preserved
loop-turn-preserved g c =
    let live = c.args.live.now in
    let was = c.loop-turn.live in
    let new = c.turn_of.new.live in
    let count = c.loop-turn.invariant.had in
    let few = c.loop-turn.invariant.answered in
    let next = c.goes_on_at_once.ensures c.if-not-goes_on_at_once.false in
    record {
      had = omega (arith, count);
      answered = let one = c.count_answered-answered.ensures.few in omega (arith, few, one);
      left = next.0;
      next = λ some. next.1;
      counts = λ count had. answers_more new.progress.clients.items c.args.actor count
          c.loop-turn.answered c.count_answered-answered.result (c.count_answered-answered.ensures.answered
          c.args.script.now (turns_by was.core (g.B.Bank.disk was.bank) was.journal c.count.new.self)
          (turns_in g.B.Bank.disk new) (count + c.loop-turn.answered) c.turn_of.ensures.turn.is
          (rw c.count.ensures.clients (ready_begun c.loop-turn.invariant.ready)) refl
          (sym c.len-before.ensures) (sym c.len-now.ensures)
          (rw c.count.ensures.clients (c.loop-turn.invariant.counts count had)));
      computed = tt;
      ready = c.turn_of.ensures.ready;
      moves = counts_more c.args.script.now (turns_in g.B.Bank.disk live)
          was.core (g.B.Bank.disk was.bank) was.journal was.progress c.count.new.self
          (turns_in g.B.Bank.disk new) c.args.actor c.loop-turn.turns
          live.journal.room new.journal.room live.progress.turns new.progress.turns c.count.ensures.clients
          c.in-Ok.ensures.turns c.turn_of.ensures.turns c.loop-turn.invariant.moves c.turn_of.ensures.turn
          c.turn_of.ensures.ready;
    }
