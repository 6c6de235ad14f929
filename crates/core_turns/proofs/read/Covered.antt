-- What is found of a block of which some columns are wrong or lost.
use Rattle.core_turns.proofs.Words.{◌≡◌, ℕ, List, refl, sym, ap, Excepted, Layout, GetRun, Solved, NotYet, Bytes}
use Rattle.core_turns.proofs.Words.{Damaged, CoreState, HoldsGet, IsGetOf, IsSolved, IsSolvedAs, SolvesGet, to_solve_of}
use Rattle.reconstruct.specs.Suspects.{Choice}
use Rattle.reconstruct.specs.Solved.{HasNoFalseChoice}
use Rattle.reconstruct.specs.Covered.{Covers, IsChoiceAsked}
use Rattle.reconstruct.proofs.Covered.{covered_undamaged, decoded_is}
use Rattle.core_turns.specs.Getting.{question_for}

module _ {wrong : Excepted} {content : List ℕ} {state : CoreState} {run next : GetRun} (of : IsGetOf state.core run)
    (holds : HoldsGet wrong content state run) (solves : SolvesGet run next) where
  -- What is asked of the columns that a read got is its block.
  asked : IsChoiceAsked (question_for (to_solve_of run)) content
  asked = record {
    layout = of.pool.within.is;
    sectors = sym (ap (λ (l : Layout). l.sectors) of.layout_is);
    len = holds.len_is;
    are_bytes = holds.are_bytes;
    digest = holds.digest_is;
  }

  -- Law: Where no choice of suspects gives other bytes of the block's digest, what is found is the block.
  pub found_is : (bytes : List ℕ) → HasNoFalseChoice (question_for (to_solve_of run)) content
      → next.solved ≡ Bytes bytes → bytes ≡ content
  found_is bytes none found =
      decoded_is (question_for (to_solve_of run)) content bytes none (rw found at solves.solved).1

  -- Law: And where one covers all that is wrong or lost of the block, it is found.
  pub covered_is_found : (choice : Choice) → Covers (question_for (to_solve_of run)) choice content
      → HasNoFalseChoice (question_for (to_solve_of run)) content → next.solved ≡ Bytes content
  covered_is_found choice covers none = by next.solved solves.solved
    where
      by : (solved : Solved) → IsSolved (to_solve_of run) solved → solved ≡ Bytes content
      by NotYet is = absurd is
      by (Bytes bytes) is = ap Bytes (decoded_is (question_for (to_solve_of run)) content bytes none is.1)
      by Damaged is =
          absurd (covered_undamaged (question_for (to_solve_of run)) choice content asked covers is)

  -- So a scrub that takes up the block finds it.
  pub covered_is_solved : (choice : Choice) → Covers (question_for (to_solve_of run)) choice content
      → HasNoFalseChoice (question_for (to_solve_of run)) content → IsSolvedAs content next.solved
  covered_is_solved choice covers none = rw (covered_is_found choice covers none) refl
