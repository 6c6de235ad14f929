-- What a run keeps from one item of its journal to the next.
use Rattle.std.specs.Prelude.{ℕ, ◌≤◌, List, ◌∷◌, length, Contains}
use Rattle.bank_trait.specs.Disk.{Disk, Later}
use Rattle.core_state.specs.declared.item.Group.{Group as GroupItem}
use Rattle.core_state.specs.declared.item.Item.{Item}
use Rattle.core_state.specs.Map.{Map, PutBytes}
use Rattle.core_state.specs.Legal.{IsGroupBefore}
use Rattle.core_state.specs.Journal.{Calls}
use Rattle.core_state.specs.Keeps.{Kept, Setting, ReachesNoFurther}
use Rattle.core_state.specs.Collision.{BankKeeps}
use Rattle.core_state.specs.Moment.{IsGroupOf, IsBegunAfter, KeepsSince}
use Rattle.journal_law.specs.Parity.{HaveParityOf}

-- The bank keeps the journal's last group, and maybe one that was begun after it, in a pool that reaches so far by
-- then, as far as the wider one.
pub record KeepsLast (setting : Setting) (calls : Calls) (handed : PutBytes) (opening : Map) (items : List Item)
    (disk : Disk) : Type 0 where
  pub group : GroupItem
  pub latest : IsGroupBefore items (length items) group
  pub last : Kept
  pub last_is : IsGroupOf handed opening items group last
  pub begun : List Kept
  pub one : length begun ≤ 1
  pub begun_is : (kept : Kept) → Contains begun kept
      → IsBegunAfter calls handed opening items group kept
  pub reach : ℕ
  pub no_further : ReachesNoFurther (last ∷ begun) reach
  pub keeps : BankKeeps (record setting { reach = reach }) last begun disk

-- From the moment at which the journal came to these items until it came to the next one: first the bank
-- kept their last group, and whatever a stop left keeps that group, one that was begun after it, or both. These
-- have the parity of each of the groups known.
pub record KeepsUntil (setting : Setting) (calls : Calls) (handed : PutBytes) (opening : Map) (known : List Kept)
    (items : List Item) (now next : Disk) : Type 0 where
  pub later : Later now next
  pub kept : KeepsLast setting calls handed opening items now
  pub onward : List Kept
  pub one : length onward ≤ 1
  pub onward_is : (group : Kept) → Contains onward group
      → IsBegunAfter calls handed opening items kept.group group
  pub since : KeepsSince setting (kept.last ∷ onward) now.clock next
  pub parity : HaveParityOf known (kept.last ∷ onward)
