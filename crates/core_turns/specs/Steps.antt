-- A turn of a call under way that stays where its caller keeps it.
use Rattle.std.specs.Prelude.{Option, Some, None}
use Rattle.core_state.specs.declared.answer.Answer.{Answer}
use Rattle.core_turns.specs.declared.turn.Turn.{Turn}
use Rattle.core_turns.specs.declared.turn.Turn.TheVariants.{More, Done}

-- what a turn comes to that leaves the call so: it goes on, or is answered
abbrev pub turn_with : {R : Type 0} → R → Option Answer → Turn R
turn_with run None = More run
turn_with run (Some given) = Done given
