-- What an open pool, its journal and its clients have come to.
use Rattle.bank_trait.specs.Disk.{Disk}
use Rattle.schedule.specs.declared.live.Live.{Live}
use Rattle.schedule.specs.Turns.{Turns}
use Rattle.schedule.specs.InTurn.{Cursor, Replay, replay_by, turns_by}

abbrev pub turns_in : {B : Type 0} → (B → Disk) → Live B → Turns
turns_in disk live = turns_by live.core (disk live.bank) live.journal live.progress

abbrev pub replay_in : {B : Type 0} → (B → Disk) → Live B → Cursor → Replay
replay_in disk live cursor = replay_by live.core (disk live.bank) live.journal live.progress cursor
