-- Where an image keeps groups, whichever device of the first one is out at opening has failed.
use Rattle.std.proofs.Common.{◌≡◌, inl, inr, ⊎_elim, ℕ, ◌+◌, ◌<◌, ◌≤◌, List, ◌∷◌, Bool, true, false, refl, sym, ◌∙◌, ap}
use Rattle.std.proofs.Common.{arith}
use Rattle.std.proofs.lemmas.List.Elements.{All-contains}
use Rattle.bank_trait.specs.Disk.{Image}
use Rattle.block_record.specs.declared.entry.IndexEntry.{IndexEntry}
use Rattle.uberblock_ring.specs.Devices.{has_device}
use Rattle.uberblock_ring.specs.Uberblock.{Uber}
use Rattle.core_state.specs.Shown.{IsCandidate}
use Rattle.core_state.specs.Choosing.{IsBlank, IsChosen, IsLeftBehind, IsListedOut, IsOutAtOpening}
use Rattle.core_state.specs.Keeps.{IsKept, IsNextOf, Kept, Keeps, Setting}
use Rattle.core_state.proofs.Calls.{true_false}
use Rattle.core_state.proofs.Chosen.{above_first, chosen_pool, first_candidate}
use Rattle.core_state.proofs.Listed.{contains_cases}
use Rattle.core_state.proofs.Widths.{first_within}

-- A group is at most two after the one that it is next of.
near_number : (first next : Kept) → IsNextOf first next → next.uber.group ≤ first.uber.group + 2
near_number first next (inl is) = let number = is.0 in omega (arith, number)
near_number first next (inr renews) =
    let number = ap (λ (u : Uber). u.group) renews.alike in omega (arith, number)

module _ (setting : Setting) (first : Kept) (later : List Kept) (image : Image)
    (keeps : Keeps setting first later image) (silent : ℕ)
    (within : (device : ℕ) → device < first.uber.reflow.to → has_device silent device ≡ true
    → has_device setting.failed device ≡ true)
    (shower : ℕ) (uber : Uber) (entries : List IndexEntry)
    (chosen : IsChosen setting.shape silent image shower uber entries) where
  pool_is : uber.pool ≡ setting.pool
  pool_is = chosen_pool setting first later image keeps silent within shower uber entries chosen

  -- The chosen group is at most two above the first one.
  near_first : first.uber.group ≤ uber.group → uber.group ≤ first.uber.group + 2
  near_first above =
      let held : IsKept setting image (first ∷ later) uber =
      keeps.only shower uber above chosen.candidate.shows pool_is in
      let number : uber.group ≡ held.kept.uber.group = ap (λ (u : Uber). u.group) held.alike in
      ⊎_elim
      (λ same. let is = ap (λ (k : Kept). k.uber.group) same in omega (arith, number, is))
      (λ listed. let near = near_number first held.kept (All-contains (IsNextOf first) later held.kept keeps.further listed) in
      omega (arith, number, near))
      (contains_cases first later held.kept held.listed)

  module _ (device : ℕ) (below : device < first.uber.reflow.to) where
    works_candidate : has_device setting.failed device ≡ false
        → (shown : Uber) × (shown.group ≡ first.uber.group)
        × IsCandidate setting.shape silent uber.pool image device shown first.entries
    works_candidate = first_candidate setting first later image keeps silent within shower uber entries chosen device below

    works_above : has_device setting.failed device ≡ false → first.uber.group ≤ uber.group
    works_above = above_first setting first later image keeps silent within shower uber entries chosen device below

    -- Such a device isn't left behind,
    not_behind : has_device setting.failed device ≡ false → IsLeftBehind setting.shape image uber device → ⊥
    not_behind works left =
        let candidate = works_candidate works in
        let group = candidate.1 in
        let near = near_first (works_above works) in
        let behind = left.behind candidate.0 candidate.2.shows candidate.2.pool_is in
        omega (arith, group, near, behind)

    -- nor blank,
    not_blank : has_device setting.failed device ≡ false → IsBlank setting.shape image uber device → ⊥
    not_blank works blank =
        let candidate = works_candidate works in
        blank.none candidate.0 candidate.2.shows candidate.2.pool_is

    -- nor listed as out,
    not_listed : has_device setting.failed device ≡ false → IsListedOut setting.shape silent image uber device → ⊥
    not_listed works listed =
        let group = listed.group in
        let above = works_above works in
        let held : IsKept setting image (first ∷ later) listed.twin =
        keeps.only listed.other listed.twin (omega (arith, group, above)) listed.candidate.shows
        (listed.candidate.pool_is ∙ pool_is) in
        true_false (sym (held.out device listed.out) ∙ works)

    -- nor missing.
    not_missing : has_device setting.failed device ≡ false → setting.shape.devices ≤ device → ⊥
    not_missing works missing =
        let low = keeps.inside device (first_within setting first later device keeps.widths below) works in
        omega (arith, low, missing)

    by_failing : (b : Bool) → has_device setting.failed device ≡ b → (has_device setting.failed device ≡ false → ⊥)
        → has_device setting.failed device ≡ true
    by_failing true is none = is
    by_failing false is none = absurd (none is)

    pub left_behind_has_failed : IsLeftBehind setting.shape image uber device
        → has_device setting.failed device ≡ true
    left_behind_has_failed left = by_failing (has_device setting.failed device) refl (λ works. not_behind works left)

    pub out_has_failed : IsOutAtOpening setting.shape silent image uber device
        → has_device setting.failed device ≡ true
    out_has_failed (low, inl listed) = by_failing (has_device setting.failed device) refl (λ works. not_listed works listed)
    out_has_failed (low, inr (inl quiet)) = within device below quiet
    out_has_failed (low, inr (inr (inl missing))) =
        by_failing (has_device setting.failed device) refl (λ works. not_missing works missing)
    out_has_failed (low, inr (inr (inr (inl blank)))) =
        by_failing (has_device setting.failed device) refl (λ works. not_blank works blank)
    out_has_failed (low, inr (inr (inr (inr left)))) = left_behind_has_failed left
