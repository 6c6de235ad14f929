-- All groups of a run have one parity.
use Rattle.std.proofs.Common.{[], ◌≡◌, ⊎_elim, List, ◌∷◌, ◌++◌, sym, ◌∙◌, ap, ℕ}
use Rattle.std.proofs.lemmas.List.Elements.{Contains-append_cases}
use Rattle.std.specs.Prelude.{Contains}
use Rattle.bank_trait.specs.Disk.{Disk}
use Rattle.block_record.specs.declared.entry.IndexEntry.{IndexEntry}
use Rattle.uberblock_ring.specs.Uberblock.{Uber}
use Rattle.core_state.specs.Keeps.{HaveParity, Kept, Setting}
use Rattle.core_open.specs.Opens.{HasOpened}
use Rattle.journal_law.specs.Parity.{HaveParityOf}
use Rattle.journal_law.proofs.Moments.{contains_one}

-- One group more has the parity of one of them.
pub parity_with : (known groups : List Kept) (last next : Kept) → Contains groups last
    → next.uber.parity ≡ last.uber.parity → HaveParityOf known groups → HaveParityOf known (groups ++ next ∷ [])
parity_with known groups last next listed alike have group has_group kept has = ⊎_elim (have group has_group kept)
    (λ (one : Contains (next ∷ []) kept). ap (λ (k : Kept). k.uber.parity) (contains_one next kept one)
    ∙ alike ∙ have group has_group last listed)
    (Contains-append_cases groups (next ∷ []) kept has)

module _ {setting : Setting} {first : Kept} {later : List Kept} {uber : Uber} {entries : List IndexEntry}
    {silent : ℕ} {old new : Disk} (have : HaveParity first.uber.parity (first ∷ later))
    (opened : HasOpened setting first later uber entries silent old new) where
  -- An opening's uberblock has the parity of the groups kept before,
  pub opened_parity : uber.parity ≡ first.uber.parity
  opened_parity = ap (λ (u : Uber). u.parity) opened.alike
      ∙ ap (λ (u : Uber). u.parity) opened.renews.alike ∙ have opened.chosen opened.listed

  -- and so has its group.
  pub parity_opened : HaveParityOf (first ∷ later) ((first ∷ later) ++ opened.next ∷ [])
  parity_opened = parity_with (first ∷ later) (first ∷ later) opened.chosen opened.next opened.listed
      (ap (λ (u : Uber). u.parity) opened.renews.alike)
      (λ group known kept listed. have kept listed ∙ sym (have group known))
