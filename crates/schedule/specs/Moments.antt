-- The banks that a run of turns came by.
use Rattle.std.specs.Prelude.{◌≡◌, ℕ, ◌+◌, ◌<◌, ◌≤◌, List, ◌∷◌, length, take, Contains}
use Rattle.bank_trait.specs.Disk.{Disk, Later}
use Rattle.core_state.specs.declared.item.Group.{Group as GroupItem}
use Rattle.core_state.specs.declared.item.Item.{Item}
use Rattle.core_state.specs.Map.{Map, PutBytes}
use Rattle.core_state.specs.Journal.{Calls}
use Rattle.core_state.specs.Keeps.{Kept, Setting, ReachesNoFurther}
use Rattle.core_state.specs.Collision.{BankKeeps}
use Rattle.core_state.specs.Moment.{IsBegunAfter, KeepsSince, KeepsThroughout}
use Rattle.journal_law.specs.Moments.{KeepsUntil}

-- the bank before the opening, and for each number of items the bank as the turn left it that listed the last of them
pub record Past : Type 0 where
  pub origin : Disk
  pub banks : ℕ → Disk

-- The banks of a run whose journal has come to these items. Until the opening listed the first, whatever a stop left
-- keeps some of the groups known and that first one; since then, no older group than the last one listed by then.
pub record KeptSoFar (setting : Setting) (calls : Calls) (handed : PutBytes) (opening : Map) (known : List Kept)
    (items : List Item) (past : Past) : Type 0 where
  pub later : Later past.origin (past.banks 1)
  pub opened : KeepsThroughout setting calls handed opening known (take 1 items) past.origin (past.banks 1)
  pub each : (count : ℕ) → 1 ≤ count → count < length items
      → KeepsUntil setting calls handed opening known (take count items) (past.banks count) (past.banks (count + 1))

-- So it is to the run's end, when the bank is this one.
pub record KeepsTurnByTurn (setting : Setting) (calls : Calls) (handed : PutBytes) (opening : Map) (known : List Kept)
    (items : List Item) (past : Past) (new : Disk) : Type 0 where
  pub later : Later past.origin (past.banks 1)
  pub opened : KeepsThroughout setting calls handed opening known (take 1 items) past.origin (past.banks 1)
  pub each : (count : ℕ) → 1 ≤ count → count ≤ length items
      → KeepsUntil setting calls handed opening known (take count items) (past.banks count) (past.banks (count + 1))
  pub ends : past.banks (length items + 1) ≡ new

-- From the moment at which the journal came to these items, whose last group this is: first the bank kept it, and
-- maybe one that was begun after it; and whatever a stop left keeps some in a row of it and those begun by now.
pub record KeepsOn (setting : Setting) (calls : Calls) (handed : PutBytes) (opening : Map) (items : List Item)
    (item : GroupItem) (last : Kept) (begun : List Kept) (from now : Disk) : Type 0 where
  pub later : Later from now
  pub first : List Kept
  pub one : length first ≤ 1
  pub first_is : (kept : Kept) → Contains first kept → IsBegunAfter calls handed opening items item kept
  pub reach : ℕ
  pub no_further : ReachesNoFurther (last ∷ first) reach
  pub keeps : BankKeeps (record setting { reach = reach }) last first from
  pub since : KeepsSince setting (last ∷ begun) from.clock now
