-- The works that make groups of the widths that are, or that end an expansion: those of a sync and of a copy.
use Rattle.schedule.proofs.Words.{◌≡◌, ℕ, List, [], Some, None, CommitRun, Kind, Item, Kept, World, ScriptCall}
use Rattle.schedule.proofs.Words.{AttachRun, Commits, Work, IsGroupKind, HasBegun, HasBegunBy, HasContent, IsHoldOf}
use Rattle.schedule.proofs.Words.{IsWorkFor, commit_in, held_by, made_in, arith}
use Rattle.core_state.specs.declared.answer.Kind.TheVariants as kind
use Rattle.core_state.specs.declared.item.Group.{Group as GroupItem}
use Rattle.schedule.specs.declared.client.Work.TheVariants as work

-- A call of this kind makes a commit by such a work: it holds no sectors, and its group begins no expansion.
pub record MakesGroups (asked : Kind) (does : CommitRun → Work) : Type 0 where
  pub holds : (run : CommitRun) → held_by (does run) ≡ []
  pub commit : (run : CommitRun) → commit_in (does run) ≡ Some run
  pub made : (run : CommitRun) → made_in (does run) ≡ None
  pub no_attach : (run : CommitRun) (attach : AttachRun) → does run ≡ work.Attach attach → ⊥
  pub its : (index : ℕ) (run : CommitRun) → IsHoldOf index (does run)
  pub for : (call : ScriptCall) (run : CommitRun) → (call.kind ≡ asked) × (call.id ≡ None) → IsWorkFor call (does run)
  pub is : (call : ScriptCall) (run : CommitRun) → IsWorkFor call (does run) → (call.kind ≡ asked) × (call.id ≡ None)
  pub begins : (world : World) (items : List Item) (item : GroupItem) (begun : List Kept) (at : ℕ) (run : CommitRun)
      → HasBegun world items item begun at ⊥ → HasBegunBy world items item begun at (does run)
  pub begun : (world : World) (items : List Item) (item : GroupItem) (begun : List Kept) (at : ℕ) (run : CommitRun)
      → HasBegunBy world items item begun at (does run) → HasBegun world items item begun at ⊥
  pub content : (world : World) (items : List Item) (call : ScriptCall) (at : ℕ) (content : List ℕ) (run : CommitRun)
      → HasContent world items call at content (does run)
  pub kind : IsGroupKind asked

pub sync_makes : MakesGroups kind.Sync (λ run. work.Sync run)
sync_makes = grind arith

pub copy_makes : MakesGroups kind.Copy (λ run. work.Copy (Commits run))
copy_makes = grind arith
