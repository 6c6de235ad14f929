-- Answers have their cause while the journal grows.
use Rattle.schedule.proofs.Words.{ℕ, ◌+◌, ◌≤◌, List, [], ◌∷◌, ◌++◌, length, arith, Disk, Answer, Entry, Item, Group}
use Rattle.schedule.proofs.Words.{Call, new_or_before, group_before_grown, AnswersAreCaused, IsAnswerCause}
use Rattle.core_state.specs.declared.item.Group.{Group as GroupItem}

-- A cause in the items before an index is one in the grown journal.
cause_grown : (items more : List Item) {index : ℕ} (disk : Disk) (given : Answer) → index ≤ length items
    → IsAnswerCause items index disk given → IsAnswerCause (items ++ more) index disk given
cause_grown items more {index = index} disk given within = grind (arith, group_before_grown)

-- A new answer that has its cause in the items so far.
pub caused_call : {items : List Item} (entry : Entry) {banks : ℕ → Disk} → AnswersAreCaused items banks
    → IsAnswerCause items (length items) (banks (length items + 1)) entry.answer
    → AnswersAreCaused (items ++ Call entry ∷ []) banks
caused_call {items = items} entry {banks = banks} caused new = grind (arith, new_or_before, cause_grown)

-- A new group answers nothing.
pub caused_group : (items : List Item) (group : GroupItem) {banks : ℕ → Disk} → AnswersAreCaused items banks
    → AnswersAreCaused (items ++ Group group ∷ []) banks
caused_group items group caused = grind (arith, new_or_before, cause_grown)
