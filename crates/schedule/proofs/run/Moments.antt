-- The banks that a run of turns came by, as the devices go on and as the journal grows.
use Rattle.schedule.proofs.Words.{◌≡◌, ⊎_elim, ℕ, ◌+◌, ◌≤◌, List, [], ◌∷◌, ◌++◌, length, sym, arith, length-append}
use Rattle.schedule.proofs.Words.{take, Contains, cases_lt, append-nil, take-append-le, take-length, Disk, Later}
use Rattle.schedule.proofs.Words.{later_refl, later_trans, Item, Map, PutBytes, IsGroupBefore, Calls, Kept, Setting}
use Rattle.schedule.proofs.Words.{Knows, IsGroupOf, IsBegunAfter, IsRowOf, KeepsSince, KeepsThroughout, knows_keep}
use Rattle.schedule.proofs.Words.{since_now, KeepsUntil, HaveParityOf, KeepsTurnByTurn, KeepsOn, KeptSoFar, Past}
use Rattle.schedule.proofs.Words.{KeepsRow, widest_reach, reaches_no_further, keeps_to_reach}
use Rattle.core_state.specs.declared.item.Group.{Group as GroupItem}

-- The last group of a journal, and at most one that was begun after it, of the parity of the groups known.
pub record AreLatest (calls : Calls) (handed : PutBytes) (opening : Map) (known : List Kept) (items : List Item)
    (item : GroupItem) (last : Kept) (begun : List Kept) : Type 0 where
  pub latest : IsGroupBefore items (length items) item
  pub last_is : IsGroupOf handed opening items item last
  pub one : length begun ≤ 1
  pub begun_is : (kept : Kept) → Contains begun kept → IsBegunAfter calls handed opening items item kept
  pub parity : HaveParityOf known (last ∷ begun)

-- Images are judged by how far the pool reached when each was left, so that it is all one how far it does by now.
pub since_any_reach : (setting : Setting) {groups : List Kept} {time : ℕ} {disk : Disk} {reach other : ℕ}
    → KeepsSince (record setting { reach = reach }) groups time disk
    → KeepsSince (record setting { reach = other }) groups time disk
since_any_reach setting {groups = groups} {time = time} {disk = disk} {reach = reach} {other = other} kept = record {
  each = λ moment from until. row_of (kept.each moment from until);
}
  where
    row_of : {moment : ℕ} → KeepsRow (record setting { reach = reach }) groups disk moment
        → KeepsRow (record setting { reach = other }) groups disk moment
    row_of row = record {
      before = row.before;
      first = row.first;
      later = row.later;
      after = row.after;
      row = row.row;
      reach = row.reach;
      no_further = row.no_further;
      keeps = row.keeps;
    }

-- A group and those after it are a row of themselves.
pub whole_row : (first : Kept) (later : List Kept) → IsRowOf (first ∷ later) first later
whole_row first later = record { before = []; after = []; row = sym (append-nil (first ∷ later)) }

module _ {setting : Setting} {calls : Calls} {handed : PutBytes} {opening : Map} {items : List Item}
    {item : GroupItem} {last : Kept} {begun : List Kept} where
  -- The devices go on, or groups are begun, and each image keeps some in a row still.
  pub on_goes : {onward : List Kept} {from now next : Disk}
      → KeepsOn setting calls handed opening items item last begun from now → Later now next
      → (KeepsSince setting (last ∷ begun) from.clock now → KeepsSince setting (last ∷ onward) from.clock next)
      → KeepsOn setting calls handed opening items item last onward from next
  on_goes on later keeps = record {
    later = later_trans on.later later;
    first = on.first;
    one = on.one;
    first_is = on.first_is;
    reach = on.reach;
    no_further = on.no_further;
    keeps = on.keeps;
    since = keeps on.since;
  }

  -- What is certain now the bank keeps, in a pool that reaches so far, and each image from now on.
  pub on_now : {known : List Kept} {now : Disk} {reach : ℕ} → AreLatest calls handed opening known items item last begun
      → Knows (record setting { reach = reach }) last begun now
      → KeepsOn setting calls handed opening items item last begun now now
  on_now {now = now} {reach = reach} are knows = record {
    later = later_refl now;
    first = begun;
    one = are.one;
    first_is = are.begun_is;
    reach = widest_reach last begun;
    no_further = reaches_no_further last begun;
    keeps = λ image might. keeps_to_reach (record setting { reach = reach }) last begun image
        (knows_keep (record setting { reach = reach }) last begun now knows image might);
    since = since_any_reach setting
        (since_now (record setting { reach = reach }) (last ∷ begun) last begun now (whole_row last begun) knows);
  }

  -- So the bank kept the last group until then.
  pub until_of : {known : List Kept} {from now : Disk} → AreLatest calls handed opening known items item last begun
      → KeepsOn setting calls handed opening items item last begun from now
      → KeepsUntil setting calls handed opening known items from now
  until_of are on = record {
    later = on.later;
    kept = record {
      group = item;
      latest = are.latest;
      last = last;
      last_is = are.last_is;
      begun = on.first;
      one = on.one;
      begun_is = on.first_is;
      reach = on.reach;
      no_further = on.no_further;
      keeps = on.keeps;
    };
    onward = begun;
    one = are.one;
    onward_is = are.begun_is;
    since = on.since;
    parity = are.parity;
  }

-- The opening's item alone.
pub kept_first : {setting : Setting} {calls : Calls} {handed : PutBytes} {opening : Map} {known : List Kept}
    {past : Past} {now : Disk} {item : Item} → past.banks 1 ≡ now → Later past.origin now
    → KeepsThroughout setting calls handed opening known (item ∷ []) past.origin now
    → KeptSoFar setting calls handed opening known (item ∷ []) past
kept_first {setting = setting} {calls = calls} {handed = handed} {opening = opening} {known = known} {past = past}
    {item = item} here later opened = search arith

module _ {setting : Setting} {calls : Calls} {handed : PutBytes} {opening : Map} {known : List Kept} {items : List Item}
    {past : Past} (by : KeptSoFar setting calls handed opening known items past) (some : 1 ≤ length items) {now : Disk}
    {item : GroupItem} {last : Kept} {begun : List Kept}
    (are : AreLatest calls handed opening known items item last begun)
    (on : KeepsOn setting calls handed opening items item last begun (past.banks (length items)) now) where
  -- Until now the bank kept the last group of so many items, if this is the bank of one more.
  until : (count : ℕ) → past.banks (length items + 1) ≡ now → 1 ≤ count → count ≤ length items
      → KeepsUntil setting calls handed opening known (take count items) (past.banks count) (past.banks (count + 1))
  until count next from below = ⊎_elim (search arith)
      (λ (not_less : length items ≤ count).
      let end : count ≡ length items = omega arith in
      rw (end, take-length, next) (until_of are on)) (cases_lt count (length items))

  -- One item more is listed with this bank,
  pub kept_more : (new : Item) → past.banks (length items + 1) ≡ now
      → KeptSoFar setting calls handed opening known (items ++ new ∷ []) past
  kept_more new next = record {
    later = by.later;
    opened = search take-append-le;
    each = search (length-append, take-append-le, until, arith);
  }

  -- or the run ends with it.
  pub kept_to_end : past.banks (length items + 1) ≡ now
      → KeepsTurnByTurn setting calls handed opening known items past now
  kept_to_end next = search (until, arith)
