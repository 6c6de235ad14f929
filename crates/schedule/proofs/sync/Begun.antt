-- A commit begins after the last group listed, which is one alone.
use Rattle.schedule.proofs.Words.{◌≡◌, ℕ, ◌+◌, List, [], length, arith, Disk, Item, SameMap, map_of, IsWidthStep, Kept}
use Rattle.schedule.proofs.Words.{item_of, World, KeepsOrEnds, map_at_end, Recorded, IsBegunAt, Past}
use Rattle.core_state.specs.declared.item.Group.{Group as GroupItem}
use Rattle.schedule.proofs.turn.Recording.{after_few}

-- A group that keeps the widths of the last one, or ends its expansion, follows it with its widths.
steps_from : (item : GroupItem) (last next : Kept) (after : ℕ)
    → (last.uber.reflow.from ≡ item.from) × (last.uber.reflow.to ≡ item.to)
    → KeepsOrEnds last.uber.reflow next.uber.reflow → IsWidthStep ⊥ item (item_of next after)
steps_from item last next after is ends = grind arith

-- A commit begins now: the group after the last one, with its widths or at the end of its expansion, and the map of all
-- items.
pub begun_now : {world : World} {past : Past} {items : List Item} {item : GroupItem} {last next : Kept}
    {begun : List Kept} {now : Disk} (so_far : Recorded world past items item last begun now)
    → next.uber.group ≡ last.uber.group + 1 → KeepsOrEnds last.uber.reflow next.uber.reflow
    → SameMap next.map (map_of world.handed world.opening items) → next.excepted ≡ []
    → IsBegunAt world items item (length items) ⊥ next
begun_now so_far number widths same excepted = record {
  number = cc;
  listed = (after_few so_far, omega arith);
  map = search (map_at_end, arith);
  excepted = excepted;
  widths = search steps_from;
}
