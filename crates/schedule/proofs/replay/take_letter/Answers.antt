use Rattle.schedule.proofs.Words.{sym, ◌∙◌, ◌∷◌, InOrder}
use Rattle.schedule.proofs.order.Playing.{at_err, passed_letter, played_letter}
use Rattle.schedule.proofs.replay.take_letter.Goals as goal

pub returns-then-not-has_turn-clause-played : goal.returns-then-not-has_turn-clause-played
returns-then-not-has_turn-clause-played g c =
    λ letters. passed_letter letters c.requires.ready (sym c.has_turn.ensures ∙ c.if-not-has_turn.true)

pub returns-clause-played : goal.returns-clause-played
returns-clause-played g c = λ letters. played_letter letters c.requires.ready
    (sym c.has_turn.ensures ∙ c.if-not-has_turn.false) c.in_ok-count_turn_of.ensures.turn
    c.in_ok-count_turn_of.ensures.turns c.in_ok-count_turn_of.ensures.ready

pub returns-in_err-count_turn_of-clause-stopped : goal.returns-in_err-count_turn_of-clause-stopped
returns-in_err-count_turn_of-clause-stopped g c = at_err _ c.from_residual.result
    (λ letters. c.in_err-count_turn_of.ensures.stopped (InOrder (c.args.actor ∷ letters)))
