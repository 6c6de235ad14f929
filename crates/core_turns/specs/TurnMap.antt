-- Turns that come to the same, with other runs.
use Rattle.std.specs.Prelude.{◌≡◌, ⊤}
use Rattle.core_turns.specs.declared.turn.Turn.{Turn}
use Rattle.core_turns.specs.declared.turn.Turn.TheVariants.{More, Busy, Done}

-- It holds of what a turn goes on with, where it goes on.
abbrev pub ForMore : {R : Type 0} → Turn R → (R → Type 0) → Type 0
ForMore (More run) holds = holds run
ForMore turn holds = ⊤

-- The first goes on where the second does, with what it makes of that; they find the same call in their way, and are
-- answered alike.
abbrev pub MapsTurn : {R W : Type 0} → (R → W → Type 0) → Turn R → Turn W → Type 0
MapsTurn makes (More run) (More made) = makes run made
MapsTurn makes (More run) turn = ⊥
MapsTurn makes (Busy by) turn = turn ≡ Busy by
MapsTurn makes (Done given) turn = turn ≡ Done given
