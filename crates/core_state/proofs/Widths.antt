-- The widths of the groups of a row: each group has one that the pool may have.
use Rattle.std.proofs.Common.{◌≡◌, inl, inr, ⊎_elim, ℕ, suc, ◌++◌, ◌<◌, List, [], ◌∷◌, sym, ◌∙◌, ap, subst, arith, All}
use Rattle.std.specs.Prelude.{AllPairs, Contains}
use Rattle.std.proofs.lemmas.List.Elements.{All-contains, All-cons, All-nil}
use Rattle.uberblock_ring.specs.Uberblock.{Uber}
use Rattle.core_state.specs.Keeps.{AreNearWidths, HasWidthIn, IsNextOf, Kept, Renews, Setting}
use Rattle.core_state.proofs.Listed.{contains_cases}
use Rattle.core_state.proofs.Reader.{same_group}

pub first_width : (setting : Setting) (first : Kept) (later : List Kept)
    → All (HasWidthIn setting) (first ∷ later)
    → HasWidthIn setting first
first_width setting first later widths = widths 0 first (omega arith)

pub listed_width : (setting : Setting) (groups : List Kept) (kept : Kept)
    → All (HasWidthIn setting) groups → Contains groups kept
    → HasWidthIn setting kept
listed_width setting groups kept widths listed = All-contains (HasWidthIn setting) groups kept widths listed

pub only_width : (setting : Setting) (kept : Kept) → HasWidthIn setting kept
    → All (HasWidthIn setting) (kept ∷ [])
only_width setting kept width = All-cons (HasWidthIn setting) kept [] width (All-nil (HasWidthIn setting))

pub widths_behind : (setting : Setting) (front back : List Kept) → All (HasWidthIn setting) (front ++ back)
    → All (HasWidthIn setting) back
widths_behind setting [] back widths = widths
widths_behind setting (kept ∷ front) back widths =
    widths_behind setting front back (λ place default low. widths (suc place) default (omega (arith, low)))

-- A group with as many devices has such a width too.
pub width_like : (setting : Setting) (one other : Kept) → one.uber.reflow.to ≡ other.uber.reflow.to
    → HasWidthIn setting one
    → HasWidthIn setting other
width_like setting one other same width =
    let least = width.least in
    let most = width.most in
    record { least = omega (arith, least, same); most = omega (arith, most, same) }

-- A device that each group has is one of the first group's, and those are all within reach.
pub below_first : (setting : Setting) (first : Kept) (later : List Kept) (device : ℕ)
    → All (HasWidthIn setting) (first ∷ later) → device < setting.base
    → device < first.uber.reflow.to
below_first setting first later device widths below =
    let least = (first_width setting first later widths).least in omega (arith, least, below)

pub first_within : (setting : Setting) (first : Kept) (later : List Kept) (device : ℕ)
    → All (HasWidthIn setting) (first ∷ later) → device < first.uber.reflow.to
    → device < setting.reach
first_within setting first later device widths below =
    let most = (first_width setting first later widths).most in omega (arith, most, below)

-- The widths of any two groups of a row differ by one device at most: one that is two after the first renews it.
module _ (first : Kept) (later : List Kept)
    (ascending : AllPairs (λ one other. one.uber.group < other.uber.group) (first ∷ later))
    (further : All (IsNextOf first) later) where
  near_same : (one other : Kept) → one.uber.reflow.to ≡ other.uber.reflow.to → AreNearWidths one other
  near_same one other same = record { up = omega (arith, same); down = omega (arith, same) }

  near_back : {one other : Kept} → AreNearWidths one other → AreNearWidths other one
  near_back near = record { up = near.down; down = near.up }

  renewed_to : {next : Kept} → Renews first next → next.uber.reflow.to ≡ first.uber.reflow.to
  renewed_to renews = ap (λ (u : Uber). u.reflow.to) renews.alike

  near_first : (next : Kept) → IsNextOf first next → AreNearWidths first next
  near_first next (inl is) = is.2
  near_first next (inr renews) = near_same first next (sym (renewed_to renews))

  -- One that renews the first has its width.
  near_renewed : (one next : Kept) → Renews first next → IsNextOf first one → AreNearWidths one next
  near_renewed one next renews is =
      let near = near_first one is in
      let to = renewed_to renews in
      record {
        up = (let down = near.down in omega (arith, down, to));
        down = (let up = near.up in omega (arith, up, to));
      }

  near_later : (one other : Kept) → Contains (first ∷ later) one → Contains (first ∷ later) other → IsNextOf first one
      → IsNextOf first other → AreNearWidths one other
  near_later one other has also (inl is) (inl other_is) = near_same one other (ap (λ (k : Kept). k.uber.reflow.to)
      (same_group (first ∷ later) one other ascending has also (is.0 ∙ sym other_is.0)))
  near_later one other has also is (inr renews) = near_renewed one other renews is
  near_later one other has also (inr renews) is = near_back (near_renewed other one renews is)

  -- Law: No two groups that an image keeps differ by more than one device.
  pub near_widths : (one other : Kept) → Contains (first ∷ later) one → Contains (first ∷ later) other
      → AreNearWidths one other
  near_widths one other has also = ⊎_elim
      (λ (same : one ≡ first). ⊎_elim
      (λ (other_same : other ≡ first). near_same one other (ap (λ (k : Kept). k.uber.reflow.to) (same ∙ sym other_same)))
      (λ listed. subst (λ (k : Kept). AreNearWidths k other) (sym same)
      (near_first other (All-contains (IsNextOf first) later other further listed)))
      (contains_cases first later other also))
      (λ listed. ⊎_elim
      (λ (other_same : other ≡ first). subst (AreNearWidths one) (sym other_same)
      (near_back (near_first one (All-contains (IsNextOf first) later one further listed))))
      (λ other_listed. near_later one other has also (All-contains (IsNextOf first) later one further listed)
      (All-contains (IsNextOf first) later other further other_listed))
      (contains_cases first later other also))
      (contains_cases first later one has)
