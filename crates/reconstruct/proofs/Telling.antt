-- What whole sectors that were told say of the bytes that they begin with.
use Rattle.std.proofs.Common.{◌≡◌, ℕ, ◌*◌, ◌<◌, List, false, Bool, IsTrue, length, refl, sym, ◌∙◌, ap, subst, arith}
use Rattle.std.specs.Prelude.{take}
use Rattle.std.proofs.lemmas.List.{take_all}
use Rattle.sha2.specs.Sha256.{sha256}
use Rattle.row_layout.specs.Layout.{Layout, rows_of}
use Rattle.reconstruct.specs.Lost.{AreBytes, HasTooFew, IsFirstTooFew}
use Rattle.reconstruct.specs.Solved.{Columns, is_masked_lost, IsPassedOver, IsSolution, BeginsSolution, TellsSectors}
use Rattle.reconstruct.specs.Solved.{TellsBytes}

pub never : IsTrue false → ⊥
never is = absurd cc

-- Rows of which one has too few columns left are passed over, and no others.
pub passed_over : (layout : Layout) (masks : List ℕ) (row : ℕ) → IsFirstTooFew layout masks row
    → IsPassedOver layout (is_masked_lost masks)
passed_over layout masks row few = record { row = row; row_in = few.row_in; many = few.here }

not_passed : (layout : Layout) (masks : List ℕ)
    → ((row : ℕ) → row < rows_of layout → HasTooFew layout masks row → ⊥)
    → IsPassedOver layout (is_masked_lost masks) → ⊥
not_passed layout masks enough passed = enough passed.row passed.row_in passed.many

-- Whole sectors that begin a solution are one, and the only one where each solution is they.
pub tells_sectors : (layout : Layout) (columns : Columns) (masks : List ℕ) (len : ℕ) (whole : List ℕ)
    → len ≡ 512 * layout.sectors → length whole ≡ len
    → ((row : ℕ) → row < rows_of layout → HasTooFew layout masks row → ⊥)
    → BeginsSolution layout columns (is_masked_lost masks) whole
    → ((wanted : List ℕ) → AreBytes wanted → IsSolution layout columns (is_masked_lost masks) len wanted
    → whole ≡ wanted)
    → TellsSectors layout columns (is_masked_lost masks) whole
tells_sectors layout columns masks len whole len_is long enough begins serves = record {
  enough = not_passed layout masks enough;
  solves =
      subst (λ (k : List ℕ). IsSolution layout columns (is_masked_lost masks) (512 * layout.sectors) k) is_whole
      begins.solves;
  alone = λ other all solution.
      sym (serves other all
      (subst (λ (k : ℕ). IsSolution layout columns (is_masked_lost masks) k other) (sym len_is) solution));
}
  where
    is_whole : begins.whole ≡ whole
    is_whole =
        sym (take_all (length whole) begins.whole (omega (arith, begins.solves.wide, long, len_is))) ∙ begins.begins

module _ (layout : Layout) (columns : Columns) (lost : ℕ → ℕ → Bool) (len : ℕ) (sha whole : List ℕ)
    (told : TellsSectors layout columns lost whole) where
  -- Whole sectors tell the bytes that they begin with.
  pub tells : AreBytes whole → sha256 (take len whole) ≡ sha → TellsBytes layout columns lost len sha (take len whole)
  tells all digest = record {
    enough = told.enough;
    whole = whole;
    solves = told.solves;
    are_bytes = all;
    begins = refl;
    digest = digest;
  }

  -- Where bytes are told, the whole sectors begin with them.
  pub told_alone : (bytes : List ℕ) → TellsBytes layout columns lost len sha bytes → bytes ≡ take len whole
  told_alone bytes tells =
      sym tells.begins ∙ ap (λ (k : List ℕ). take len k) (told.alone tells.whole tells.are_bytes tells.solves)

  pub told_digest : (bytes : List ℕ) → TellsBytes layout columns lost len sha bytes → sha256 (take len whole) ≡ sha
  told_digest bytes tells = ap sha256 (sym (told_alone bytes tells)) ∙ tells.digest
