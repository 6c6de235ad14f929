-- What a stop leaves once a group was listed shows that group, so no run commits later than it lists.
use Rattle.schedule.proofs.Words.{take, arith, Image, Disk, Uber, Item, IsGroupBefore, Shows, Kept, Setting, MightStand}
use Rattle.schedule.proofs.Words.{Script, RunKeeps}
use Rattle.std.specs.Prelude.{◌≡◌, ℕ, ◌<◌, ◌≤◌, List, length}
use Rattle.core_state.specs.declared.item.Group.{Group as GroupItem}
use Rattle.schedule.proofs.turn.BothListed.{one_latest}

-- A device shows an uberblock of this group.
abbrev pub IsShown : Setting → Image → GroupItem → Type 0
IsShown setting image group = (device : ℕ) × (uber : Uber) × Shows setting.shape image device uber
    × (uber.group ≡ group.group)

module _ {script : Script} {setting : Setting} {first : Kept} {later : List Kept} {old new : Disk} {items : List Item}
    {parity silent : ℕ} {banks : ℕ → Disk}
    (run : RunKeeps script setting first later old new items parity silent banks)
    (count : ℕ) (some : 1 ≤ count) (few : count ≤ length items) (group : GroupItem)
    (last : IsGroupBefore (take count items) (length (take count items)) group) (image : Image)
    (left : MightStand setting.shape (banks count) (banks count).clock image) where
  -- A group was listed: it is shown by whatever a stop leaves of the bank as it was then.
  pub listed_is_shown : IsShown setting image group
  listed_is_shown =
      let until = run.no_older.each count some few in
      let stands = (until.kept.keeps image left).there in
      let same = one_latest until.kept.latest last in
      (stands.device, stands.shown.0, stands.shown.2.shows, cc)

  -- So where a stop leaves older groups alone, as of a run that commits all at its end, no such promise is met.
  pub commits_come_first : ((device : ℕ) (uber : Uber) → Shows setting.shape image device uber
      → uber.group < group.group) → ⊥
  commits_come_first older = search (listed_is_shown, arith)
