-- Why calls were answered so, as the journal tells and the bank.
use Rattle.std.specs.Prelude.{◌≡◌, ℕ, ◌+◌, List, Some, ⊤}
use Rattle.bank_trait.specs.Disk.{Disk}
use Rattle.attach_ring.specs.Ring.{IsLowestTaken}
use Rattle.core_state.specs.declared.answer.Answer.{Answer}
use Rattle.core_state.specs.declared.answer.Answer.TheVariants as answer
use Rattle.core_state.specs.declared.item.Entry.{Entry}
use Rattle.core_state.specs.declared.item.Group.{Group as GroupItem}
use Rattle.core_state.specs.declared.item.Item.{Item}
use Rattle.core_state.specs.Map.{Map}
use Rattle.core_state.specs.Legal.{CallAt, IsGroupBefore}
use Rattle.client_script.specs.Script.{Script}
use Rattle.journal_law.specs.Caused.{HasTooManyIds, IsAtLastGroup}

-- Where an answer says that the table is full, the map that the journal began with and the script's puts have more ids
-- than there is room for.
pub record FullIsCaused (script : Script) (opening : Map) (items : List Item) : Type 0 where
  pub each : (index : ℕ) (entry : Entry) → CallAt items index entry → entry.answer ≡ answer.Full
      → HasTooManyIds script opening

-- The devices that the last group before an index tells of: its widths, where it expands, and its width.
abbrev pub IsExpandingAt : List Item → ℕ → ℕ → Type 0
IsExpandingAt items index to =
    (group : GroupItem) × IsGroupBefore items index group × (group.from + 1 ≡ to) × (group.to ≡ to)

abbrev pub IsWidthAt : List Item → ℕ → ℕ → Type 0
IsWidthAt items index width = (group : GroupItem) × IsGroupBefore items index group × (group.to ≡ width)

-- Why a call was answered so, by the groups listed before it and the bank with which it was listed. No group is left;
-- the pool expands, to so many devices; it has so many; the device behind them shows an uberblock in this slot, and in
-- none below. A copy is paused only while the pool expands.
abbrev pub IsAnswerCause : List Item → ℕ → Disk → Answer → Type 0
IsAnswerCause items index disk (answer.Limit reached) = IsAtLastGroup items index reached
IsAnswerCause items index disk (answer.Expanding to) = IsExpandingAt items index to
IsAnswerCause items index disk (answer.NoDevice devices width) = IsWidthAt items index width
IsAnswerCause items index disk (answer.Taken slot) =
    (device : ℕ) × IsWidthAt items index device × IsLowestTaken disk device 32 (Some slot)
IsAnswerCause items index disk (answer.Paused device) = (to : ℕ) × IsExpandingAt items index to
IsAnswerCause items index disk other = ⊤

-- So it is of each answer, where the bank was this one once the journal had so many items.
pub record AnswersAreCaused (items : List Item) (banks : ℕ → Disk) : Type 0 where
  pub each : (index : ℕ) (entry : Entry) → CallAt items index entry
      → IsAnswerCause items index (banks (index + 1)) entry.answer
