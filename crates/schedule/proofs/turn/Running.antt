-- What stands between two turns stands after a client's next one.
use Rattle.schedule.proofs.Words.{◌≡◌, ◌≢◌, ℕ, ◌≤◌, List, [], ◌∷◌, ◌++◌, length, arith, length-append, eq-eqb, ne_eqb}
use Rattle.schedule.proofs.Words.{◌==◌, cases_eq, Entry, Item, Group, CallAt, Kept, World, CommitRun, ScriptCall}
use Rattle.schedule.proofs.Words.{Script, map_before, new_or_before, width_step_where, awaits_grown, Commits}
use Rattle.schedule.proofs.Words.{SetsContent, Client, UnderWay, Work, IsBegunAt, HasBegunBy, HasBegunIn, HasContent}
use Rattle.schedule.proofs.Words.{IsClient, MakesCommit}
use Rattle.std.specs.Prelude.{Option, Some, None, if◌then◌else◌}
use Rattle.core_state.specs.declared.item.Group.{Group as GroupItem}
use Rattle.core_state.specs.declared.item.Item.TheVariants.{Call as CallItem}
use Rattle.schedule.specs.declared.client.Work.TheVariants as work

-- What a call is about stays as the journal grows.
content_grown : (world : World) (items more : List Item) (call : ScriptCall) {at : ℕ} (content : List ℕ) (does : Work)
    → at ≤ length items
    → HasContent world items call at content does → HasContent world (items ++ more) call at content does
content_grown world items more call {at = at} content does low has = grind (arith, map_before)

pub begun_grown : {attached told : Type 0} {world : World} {items : List Item} (more : List Item) {item : GroupItem}
    (after : ℕ) {next : Kept} → (attached → told) → IsBegunAt world items item after attached next
    → IsBegunAt world (items ++ more) item after told next
begun_grown {world = world} {items = items} more {item = item} after {next = next} tells begun = search
    (length-append, map_before, width_step_where, arith)

-- So it is of the group of an attach, which was to be answered when its commit began.
in_grown : (world : World) (items more : List Item) (item : GroupItem) (begun : List Kept) (at : ℕ)
    (commit : Option CommitRun) → HasBegunIn world items item begun at commit
    → HasBegunIn world (items ++ more) item begun at commit
in_grown world items more item begun at None is = is
in_grown world items more item begun at (Some run) (next, is, was) = search (begun_grown, awaits_grown)

-- What a work knows of its group stays as the journal grows.
pub group_grown : (world : World) (items more : List Item) (item : GroupItem) (begun : List Kept) (at : ℕ) (does : Work)
    → HasBegunBy world items item begun at does → HasBegunBy world (items ++ more) item begun at does
group_grown world items more item begun at (work.Sync run) (next, is, was) = search begun_grown
group_grown world items more item begun at (work.Attach run) is = search in_grown
group_grown world items more item begun at (work.Copy (Commits run)) (next, is, was) = search begun_grown
group_grown world items more item begun at other is = is

-- Work that makes no commit knows nothing of groups.
pub group_free : (world : World) (items : List Item) (item : GroupItem) (begun : List Kept) (at : ℕ) (does : Work)
    → (MakesCommit does → ⊥) → HasBegunBy world items item begun at does
group_free world items item begun at does none = grind (arith, none)

-- Clients go on as the journal grows by items that are none of theirs.
pub client_grown : {world : World} {script : Script} {items : List Item} (more : List Item) {item now : GroupItem}
    {begun onward : List Kept} {content : List ℕ} {index : ℕ} {client : Client} {under : UnderWay}
    → (HasBegunBy world items item begun under.at under.work
    → HasBegunBy world (items ++ more) now onward under.at under.work)
    → ((place : ℕ) (entry : Entry) → CallAt (items ++ more) place entry → entry.caller ≡ index
    → CallAt items place entry) → IsClient world script items item begun content index client under
    → IsClient world script (items ++ more) now onward content index client under
client_grown {world} {script} {items} more {content = content} {under = under} group none is = grind
    (arith, length-append, content_grown)

-- ---- the bytes of one more client's block

-- the bytes of each client's block, where those of one are these
abbrev pub with_content : (ℕ → List ℕ) → ℕ → List ℕ → ℕ → List ℕ
with_content contents index content other = if other == index then content else contents other

pub with_own : (contents : ℕ → List ℕ) (index : ℕ) (content : List ℕ)
    → with_content contents index content index ≡ content
with_own contents index content = search eq-eqb

pub with_other : (contents : ℕ → List ℕ) (index : ℕ) (content : List ℕ) (other : ℕ) → other ≢ index
    → with_content contents index content other ≡ contents other
with_other contents index content other apart = search ne_eqb

-- Those that one has already change none.
pub with_same : (contents : ℕ → List ℕ) (index : ℕ) → with_content contents index (contents index) ≡ contents
with_same contents index = search (with_own, with_other, cases_eq, arith)

pub sets_content : (contents : ℕ → List ℕ) (index : ℕ) (content : List ℕ)
    → SetsContent contents (with_content contents index content) index content
sets_content contents index content = search (with_own, with_other)

-- A new entry is none of another caller's.
pub entry_apart : (items : List Item) (entry : Entry) (index : ℕ) → entry.caller ≢ index → (place : ℕ) (other : Entry)
    → CallAt (items ++ CallItem entry ∷ []) place other → other.caller ≡ index → CallAt items place other
entry_apart items entry index apart place other there its = search (new_or_before, arith)

-- A new group is none of any caller's.
pub group_apart : (items : List Item) (group : GroupItem) (place : ℕ) {other : Entry}
    → CallAt (items ++ Group group ∷ []) place other → CallAt items place other
group_apart items group place {other = other} there = search (new_or_before, arith)

pub head_is : {A : Type 0} {one two : A} → one ∷ [] ≡ two ∷ [] → one ≡ two
head_is same = cc
