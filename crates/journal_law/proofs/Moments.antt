-- A run that keeps no older group than the last one listed goes on by an item.
use Rattle.std.proofs.Common.{[], ◌≡◌, inl, inr, List, ◌∷◌, sym, subst}
use Rattle.std.specs.Prelude.{Contains}
use Rattle.bank_trait.specs.Disk.{Disk}
use Rattle.core_state.specs.declared.item.Item.{Item}
use Rattle.core_state.specs.Map.{Map, PutBytes}
use Rattle.core_state.specs.Journal.{Calls}
use Rattle.core_state.specs.Keeps.{Kept, Setting}
use Rattle.core_state.proofs.Listed.{contains_cases, contains_none}
use Rattle.journal_law.specs.Moments.{KeepsUntil}

-- A list of one holds nothing else.
pub contains_one : (only kept : Kept) → Contains (only ∷ []) kept → kept ≡ only
contains_one only kept has = elim (contains_cases only [] kept has) [
  | inl same ↦ same
  | inr none ↦ absurd (contains_none kept none)
]

-- What was kept between two banks, for the names that the banks and the items have now.
pub moved : (setting : Setting) (calls : Calls) (handed : PutBytes) (opening : Map) (known : List Kept)
    (part same : List Item) (from now first second : Disk) → same ≡ part → first ≡ from → second ≡ now
    → KeepsUntil setting calls handed opening known part from now
    → KeepsUntil setting calls handed opening known same first second
moved setting calls handed opening known part same from now first second items_are first_is second_is keeps =
    subst (λ (l : List Item). KeepsUntil setting calls handed opening known l first second) (sym items_are)
    (subst (λ (d : Disk). KeepsUntil setting calls handed opening known part d second) (sym first_is)
    (subst (λ (d : Disk). KeepsUntil setting calls handed opening known part from d) (sym second_is) keeps))
