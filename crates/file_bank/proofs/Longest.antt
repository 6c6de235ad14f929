-- The longest of one file more.
use Rattle.std.proofs.Common.{◌≡◌, ◌⊎◌, inl, inr, ℕ, ◌+◌, ◌<◌, ◌≤◌, ◌/◌, max, List, length, Option, Some, None, refl}
use Rattle.std.proofs.Common.{sym, ◌∙◌, ap, subst, arith, slice_index_or}
use Rattle.std.specs.Prelude.{IsSome, unwrap_or}
use Rattle.std.proofs.lemmas.Bool.{cases_lt}
use Rattle.std.proofs.lemmas.List.{get_or_default}
use borrow.Author.Count.{below_more}
use Rattle.file_bank.specs.BlockFile.{Contents}
use Rattle.file_bank.specs.Files.{shown, all_shown, IsLongest, longer}

pub longest_none : {F : Type 0} (contents : F → Contents) (files : List (Option F))
    → IsLongest contents files 0 None
longest_none contents files d below = absurd (omega (arith, below))

module _ {F : Type 0} (contents : F → Contents) (files : List (Option F)) (n : ℕ) where
  -- whole sectors
  abbrev has : ℕ → ℕ
  has d = (all_shown contents files d).length / 512

  passed : (longest : Option ℕ) → slice_index_or files n None ≡ None
      → IsLongest contents files n longest → IsLongest contents files (n + 1) longest
  passed None is before = below_more (λ (d : ℕ). slice_index_or files d None ≡ None) n before is
  passed (Some most) is before =
      let short : has n ≡ 0 = ap (λ (f : Option F). (shown contents f).length / 512) is in (
        below_more (λ (d : ℕ). has d ≤ most) n before.0 (omega (arith, short)),
        (before.1.0, omega (arith, before.1.1), before.1.2, before.1.3),
      )

  some_is : (o : Option F) (file : F) → o ≡ Some file → IsSome o
  some_is None file is = absurd (cc)
  some_is (Some f) file is = refl

  taken : (longest : Option ℕ) (file : F) → slice_index_or files n None ≡ Some file
      → IsLongest contents files n longest
      → IsLongest contents files (n + 1) (Some (max ((contents file).length / 512) (unwrap_or longest 0)))
  taken None file is before =
      let long : has n ≡ (contents file).length / 512 =
      ap (λ (f : Option F). (shown contents f).length / 512) is in
      let short : (d : ℕ) → d < n → has d ≡ 0 =
      λ d below. ap (λ (f : Option F). (shown contents f).length / 512) (before d below) in (
        below_more (λ (d : ℕ). has d ≤ max ((contents file).length / 512) 0) n
            (λ d below. omega (arith, short d below)) (omega (arith, long)),
        (n, omega arith, some_is (slice_index_or files n None) file is, omega (arith, long)),
      )
  taken (Some most) file is before =
      let long : has n ≡ (contents file).length / 512 =
      ap (λ (f : Option F). (shown contents f).length / 512) is in (
        below_more (λ (d : ℕ). has d ≤ max ((contents file).length / 512) most) n
            (λ d below. omega (arith, before.0 d below)) (omega (arith, long)),
        longer_one (cases_lt ((contents file).length / 512) most),
      )
    where
      longer_one : ((contents file).length / 512 < most) ⊎ (most ≤ (contents file).length / 512)
          → (d : ℕ) × (d < n + 1) × IsSome (slice_index_or files d None)
          × (has d ≡ max ((contents file).length / 512) most)
      longer_one (inl shorter) =
          (before.1.0, omega (arith, before.1.1), before.1.2, omega (arith, before.1.3))
      longer_one (inr longer) = (
        n,
        omega arith,
        some_is (slice_index_or files n None) file is,
        omega (arith, ap (λ (f : Option F). (shown contents f).length / 512) is),
      )

pub longest_more : {F : Type 0} (contents : F → Contents) (files : List (Option F)) (n : ℕ)
    (longest new : Option ℕ) (file : Option F) → n < length files → file ≡ slice_index_or files n file
    → new ≡ longer contents longest file → IsLongest contents files n longest
    → IsLongest contents files (n + 1) new
longest_more {F} contents files n longest new file below at is before =
    subst (IsLongest contents files (n + 1)) (sym is) (of_one file at)
  where
    of_one : (file : Option F) → file ≡ slice_index_or files n file
        → IsLongest contents files (n + 1) (longer contents longest file)
    of_one None at = passed contents files n longest (sym at) before
    of_one (Some file) at = taken contents files n longest file
        (get_or_default files n None (Some file) below ∙ sym at) before
