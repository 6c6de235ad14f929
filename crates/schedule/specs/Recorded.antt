-- What a journal tells while calls are under way, and what the devices kept meanwhile.
use Rattle.std.specs.Prelude.{◌≡◌, ◌≢◌, ℕ, ◌+◌, ◌<◌, ◌≤◌, List, [], ◌∷◌, ◌++◌, length}
use Rattle.bank_trait.specs.Disk.{Disk}
use Rattle.core_state.specs.declared.answer.Answer.TheVariants as answer
use Rattle.core_state.specs.declared.item.Entry.{Entry}
use Rattle.core_state.specs.declared.item.Group.{Group as GroupItem}
use Rattle.core_state.specs.declared.item.Item.{Item}
use Rattle.core_state.specs.declared.item.Item.TheVariants.{Call}
use Rattle.core_state.specs.Map.{SameMap, map_after}
use Rattle.core_state.specs.Legal.{CallAt, IsPrevious, IsGroupBefore, IsRightCall, AnswersAreRight}
use Rattle.core_state.specs.Journal.{GroupsAreRight, IsWidthStep}
use Rattle.core_state.specs.Keeps.{Kept}
use Rattle.core_state.specs.Moment.{IsGroupOf, Groups, KeepsSince, item_of}
use Rattle.core_state.specs.World.{World}
use Rattle.journal_law.specs.Parity.{HaveParityOf}
use Rattle.schedule.specs.Caused.{AnswersAreCaused, IsAnswerCause}
use Rattle.schedule.specs.Moments.{KeptSoFar, KeepsOn, Past}

-- No answer of the journal is that a block is damaged.
abbrev pub NoneIsDamaged : List Item → Type 0
NoneIsDamaged items = (index : ℕ) (entry : Entry) → CallAt items index entry → entry.answer ≢ answer.Damaged

-- those of a run: known when it began, answered, or begun after these
abbrev pub all_groups : (world : World) {items : List Item}
    → Groups world.calls world.handed world.opening world.known items → List Kept
all_groups world groups = world.known ++ groups.answered ++ groups.begun

-- The journal is right so far; each image since the bank was the first one keeps groups of the run in a row, none
-- older than the last one listed by then. The last group listed is this one, by this item, and these that images can
-- show were begun after it; each image since the last item was listed keeps some of them. All groups of the run have
-- one parity.
pub record Recorded (world : World) (past : Past) (items : List Item) (item : GroupItem) (last : Kept)
    (begun : List Kept) (now : Disk) : Type 0 where
  pub groups : Groups world.calls world.handed world.opening world.known items
  pub earlier : List Kept
  pub answered_are : groups.answered ≡ earlier ++ last ∷ []
  pub begun_are : groups.begun ≡ begun
  pub latest : IsGroupBefore items (length items) item
  pub item_is : IsGroupOf world.handed world.opening items item last
  pub in_order : GroupsAreRight items
  pub right : AnswersAreRight world.handed world.opening items
  pub sound : NoneIsDamaged items
  pub caused : AnswersAreCaused items past.banks
  pub since : KeepsSince world.setting (all_groups world groups) past.origin.clock now
  pub parity : HaveParityOf world.known (all_groups world groups)
  pub no_older : KeptSoFar world.setting world.calls world.handed world.opening world.known items past
  pub kept_on : KeepsOn world.setting world.calls world.handed world.opening items item last begun
      (past.banks (length items)) now

-- The next entry is right where it is listed, with this bank.
pub record IsRightNext (world : World) (items : List Item) (entry : Entry) (disk : Disk) : Type 0 where
  pub right : (previous : ℕ) → IsPrevious (items ++ Call entry ∷ []) entry.caller (length items) previous
      → IsRightCall world.handed world.opening (items ++ Call entry ∷ []) previous (length items) entry entry.kind
  pub sound : entry.answer ≢ answer.Damaged
  pub caused : IsAnswerCause items (length items) disk entry.answer

-- A commit of this group began after so many items, those of the last group or later ones. Nothing of it may be wrong.
-- It has that group's widths, ends its expansion, or begins one where that may be.
pub record IsBegunAt (world : World) (items : List Item) (item : GroupItem) (after : ℕ) (attached : Type 0)
    (next : Kept) : Type 0 where
  pub number : next.uber.group ≡ item.group + 1
  pub listed : (item.after ≤ after) × (after ≤ length items)
  pub map : SameMap next.map (map_after world.handed world.opening items after)
  pub excepted : next.excepted ≡ []
  pub widths : IsWidthStep attached item (item_of next after)

-- All entries of this caller stand below this index.
abbrev pub AllBelow : List Item → ℕ → ℕ → Type 0
AllBelow items caller index =
    (place : ℕ) (entry : Entry) → CallAt items place entry → entry.caller ≡ caller → place < index
