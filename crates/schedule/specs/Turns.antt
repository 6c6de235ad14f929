-- What a script's clients have come to, turn by turn.
use Rattle.std.specs.Prelude.{◌≡◌, ℕ, ◌^◌, ◌<◌, ◌≤◌, List, [], ◌∷◌, length, if◌then◌else◌, nat_lt, ⊤}
use Rattle.bank_trait.specs.Disk.{Disk}
use Rattle.core_state.specs.declared.item.Item.{Item}
use Rattle.core_turns.specs.Core.{CoreState}
use Rattle.schedule.specs.declared.client.Client.{Client}

-- the core with its disk, the journal's items, and what the clients have come to
pub record Turns : Type 0 where
  pub state : CoreState
  pub items : List Item
  pub clients : List Client

abbrev pub turns_of : CoreState → List Item → List Client → Turns
turns_of state items clients = record { state = state; items = items; clients = clients }

-- a turn that was taken: whose it was, and what it left
pub record TurnTaken : Type 0 where
  pub actor : ℕ
  pub left : Turns

abbrev pub taken_by : ℕ → Turns → TurnTaken
taken_by actor left = record { actor = actor; left = left }

-- what the last of these turns left
abbrev pub last_left : Turns → List TurnTaken → Turns
last_left start [] = start
last_left start (turn ∷ later) = last_left turn.left later

-- the bank as the turn left it by which the journal first had so many items; that of the start where it had them then,
-- and that of the end where it never came to so many
abbrev pub bank_when : Turns → List TurnTaken → ℕ → Disk
bank_when start [] count = start.state.disk
bank_when start (turn ∷ later) count =
    if nat_lt (length start.items) count then bank_when turn.left later count else start.state.disk

-- This bank is the one that the journal's new items were listed with.
abbrev pub IsListedWith : (ℕ → Disk) → List Item → List Item → Disk → Type 0
IsListedWith banks before after disk =
    (count : ℕ) → length before < count → count ≤ length after → banks count ≡ disk

-- So it is with each of these turns.
abbrev pub AreListedWith : (ℕ → Disk) → Turns → List TurnTaken → Type 0
AreListedWith banks start [] = ⊤
AreListedWith banks start (turn ∷ later) = IsListedWith banks start.items turn.left.items turn.left.state.disk
    × AreListedWith banks turn.left later

-- most turns of a run
abbrev pub most_turns : ℕ
most_turns = 2 ^ 62
