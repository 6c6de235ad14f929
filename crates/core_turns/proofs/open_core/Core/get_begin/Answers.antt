use Rattle.core_turns.proofs.Words.{ap, Core}
use Rattle.core_turns.proofs.read.Turns.{get_of, begins_rest, begins_holds}
use Rattle.core_turns.proofs.read.Laws.{get_finds}
use Rattle.core_turns.proofs.open_core.Core.get_begin.Goals as goal

pub returns-clause-finds : goal.returns-clause-finds
returns-clause-finds c = λ wrong map disk holds. get_finds wrong map _ _ disk c.args.actor c.args.id c.args.kind c.find_and_hold.result
    holds c.find_and_hold.ensures

pub returns-clause-others : goal.returns-clause-others
returns-clause-others c = λ run of.
    let rest = begins_rest c.args.self.now c.find_and_hold.new.self c.args.actor c.args.id c.args.kind c.find_and_hold.result
    c.find_and_hold.ensures in
    get_of {old = c.args.self.now} (ap (λ (core : Core). core.pool.uber) rest) (ap (λ (core : Core). core.begun) rest)
    (begins_holds c.args.self.now c.find_and_hold.new.self c.args.actor c.args.id c.args.kind c.find_and_hold.result run.hold
    c.find_and_hold.ensures of.holds) of

pub returns-clause-bank : goal.returns-clause-bank
returns-clause-bank c = λ disk bank. rw (begins_rest c.args.self.now c.find_and_hold.new.self c.args.actor c.args.id
    c.args.kind c.find_and_hold.result c.find_and_hold.ensures) bank
