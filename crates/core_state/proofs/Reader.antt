-- What whoever reads an image concludes, where no page in it is another's by chance.
use Rattle.std.proofs.Common.{◌≡◌, ℕ, ◌<◌, ◌≤◌, List, ◌∷◌, sym, ◌∙◌, ap, subst, arith, ⊎_elim}
use Rattle.std.specs.Prelude.{Contains, AllPairs, slice_index_or}
use Rattle.std.proofs.lemmas.Bool.{cases_lt, cases_eq}
use Rattle.std.proofs.lemmas.List.{get_or_default}
use Rattle.bank_trait.specs.Disk.{Image}
use Rattle.block_record.specs.declared.entry.IndexEntry.{IndexEntry}
use Rattle.block_record.specs.Page.{index_page}
use Rattle.uberblock_ring.specs.Uberblock.{Uber}
use Rattle.uberblock_ring.specs.Valid.{AreAlike}
use Rattle.core_state.specs.Shown.{Shows}
use Rattle.core_state.specs.Keeps.{Kept, Setting, Keeps, IsKept, ShowsCandidate}
use Rattle.core_state.specs.Collision.{HasNoOtherPage}

-- A candidate from the first group on is one of the groups kept, whole, and its index page is that group's.
pub candidate_kept : (setting : Setting) (first : Kept) (later : List Kept) (image : Image) (device : ℕ) (uber : Uber) (entries : List IndexEntry)
    → Keeps setting first later image → HasNoOtherPage setting (first ∷ later) image → first.uber.group ≤ uber.group
    → ShowsCandidate setting image device uber entries
    → (held : IsKept setting image (first ∷ later) uber) × (index_page entries ≡ index_page held.kept.entries)
candidate_kept setting first later image device uber entries keeps none above candidate =
    let held : IsKept setting image (first ∷ later) uber = keeps.only device uber above candidate.shows candidate.pool_is in (
      held,
      sym candidate.gives.page.page ∙ none.page held.kept device candidate.giver uber held.listed candidate.shows
          candidate.gives.device_in candidate.pool_is
          (ap (λ (u : Uber). u.group) held.alike) candidate.gives.digest,
    )

-- Groups that ascend are told apart by their numbers.
pub same_group : (groups : List Kept) (one other : Kept) → AllPairs (λ a b. a.uber.group < b.uber.group) groups
    → Contains groups one → Contains groups other → one.uber.group ≡ other.uber.group → one ≡ other
same_group groups one other ascending (i, i_low, i_is) (j, j_low, j_is) same =
    ⊎_elim (λ equal. at_once equal) (λ apart. ⊎_elim (λ less. absurd (below less)) (λ more. absurd (above (omega (arith, more, apart)))) (cases_lt i j)) (cases_eq i j)
  where
    j_at_one : slice_index_or groups j one ≡ other
    j_at_one = get_or_default groups j one other j_low ∙ j_is

    at_once : i ≡ j → one ≡ other
    at_once equal = sym i_is ∙ (ap (λ (k : ℕ). slice_index_or groups k one) equal ∙ j_at_one)

    one_is : (slice_index_or groups i one).uber.group ≡ one.uber.group
    one_is = ap (λ (k : Kept). k.uber.group) i_is

    other_is : (slice_index_or groups j one).uber.group ≡ other.uber.group
    other_is = ap (λ (k : Kept). k.uber.group) j_at_one

    below : i < j → ⊥
    below less = let step = ascending i j one less j_low in omega (arith, step, one_is, other_is, same)

    above : j < i → ⊥
    above more = let step = ascending j i one more i_low in omega (arith, step, one_is, other_is, same)

-- Uberblocks of one of the groups differ from it in their out set alone.
pub shown_alike : (setting : Setting) (first : Kept) (later : List Kept) (image : Image) (device : ℕ) (uber : Uber) (kept : Kept)
    → Keeps setting first later image → Contains (first ∷ later) kept → first.uber.group ≤ kept.uber.group
    → Shows setting.shape image device uber → uber.pool ≡ setting.pool → uber.group ≡ kept.uber.group → AreAlike uber kept.uber
shown_alike setting first later image device uber kept keeps listed above shows pool_is group =
    let held : IsKept setting image (first ∷ later) uber = keeps.only device uber (omega (arith, above, group)) shows pool_is in
    let number : uber.group ≡ held.kept.uber.group = ap (λ (u : Uber). u.group) held.alike in
    subst (λ (k : Kept). AreAlike uber k.uber) (same_group (first ∷ later) held.kept kept keeps.ascending held.listed listed (sym number ∙ group)) held.alike
