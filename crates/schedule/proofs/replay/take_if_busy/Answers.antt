use Rattle.schedule.proofs.Words.{sym, ◌∙◌, InRound}
use Rattle.schedule.proofs.order.Playing.{at_err, passed_in_round, played_in_round}
use Rattle.schedule.proofs.order.RoundTaken.{round_idle, round_turn}
use Rattle.schedule.proofs.replay.take_if_busy.Goals as goal

pub returns-then-not-is_busy-clause-played : goal.returns-then-not-is_busy-clause-played
returns-then-not-is_busy-clause-played g c = passed_in_round c.requires.ready c.requires.client
    (sym c.is_busy.ensures ∙ c.if-not-is_busy.true)

pub returns-then-not-is_busy-clause-round : goal.returns-then-not-is_busy-clause-round
returns-then-not-is_busy-clause-round g c =
    λ old taken round. round_idle round (sym c.is_busy.ensures ∙ c.if-not-is_busy.true)

pub returns-clause-played : goal.returns-clause-played
returns-clause-played g c = played_in_round c.requires.ready c.requires.client
    (sym c.is_busy.ensures ∙ c.if-not-is_busy.false) c.in_ok-count_turn_of.ensures.turn
    c.in_ok-count_turn_of.ensures.turns c.in_ok-count_turn_of.ensures.ready

pub returns-clause-round : goal.returns-clause-round
returns-clause-round g c = λ old taken round. round_turn round c.in_ok-count_turn_of.ensures.turn.others
    c.in_ok-count_turn_of.ensures.below c.in_ok-count_turn_of.ensures.turns

pub returns-in_err-count_turn_of-clause-stopped : goal.returns-in_err-count_turn_of-clause-stopped
returns-in_err-count_turn_of-clause-stopped g c =
    at_err _ c.from_residual.result (c.in_err-count_turn_of.ensures.stopped (InRound c.args.actor))
