-- A choice that covers all that is wrong or lost of a block tells the block.
use Rattle.std.proofs.Common.{◌≡◌, ℕ, ◌+◌, ◌-◌, ◌*◌, ◌<◌, ◌≤◌, List, [], ◌∷◌, ◌++◌, Bool, true, false, length}
use Rattle.std.proofs.Common.{length-append, refl, sym, ◌∙◌, ap, arith, inl}
use Rattle.std.specs.Prelude.{take, replicate, slice_index, ◌||◌, ◌&&◌, nat_lt}
use Rattle.std.proofs.lemmas.List.{length-replicate, length-take}
use Rattle.std.proofs.Math.Seq.{take-append_seam}
use Rattle.gf_solve.specs.Row.{is_masked, count_lost}
use Rattle.gf_solve.proofs.Counting.{count_alike}
use Rattle.row_layout.specs.Layout.{Layout, IsLayout, rows_of, columns_in}
use Rattle.row_layout.proofs.Parts.{row_few}
use Rattle.reconstruct.specs.declared.pair.Pair.{Pair}
use Rattle.reconstruct.specs.Rows.{Rows, sectors_for}
use Rattle.reconstruct.specs.Lost.{HasTooFew, IsLeftOver}
use Rattle.reconstruct.specs.Suspects.{Choice, IsTriedBefore}
use Rattle.reconstruct.specs.Solved.{Question, question_with, Told, ChoiceGives, IsSolution, IsDecoded, IsDamaged}
use Rattle.reconstruct.specs.Solved.{HasNoFalseChoice, lost_by_choice}
use Rattle.reconstruct.specs.Covered.{IsChoiceAsked, Covers}
use Rattle.reconstruct.proofs.Choices.{parity_in_row}
use Rattle.reconstruct.proofs.SameBytes.{zeros_behind, solution_alike}

module _ (question : Question) (choice : Choice) (content : List ℕ) (asked : IsChoiceAsked question content)
    (covers : Covers question choice content) where
  -- what fills the block's last sector
  abbrev zeros : List ℕ
  zeros = replicate (512 * question.layout.sectors - question.len) 0

  -- It tells the block.
  pub covered_told : Told question choice content
  covered_told = record {
    enough = covers.enough;
    whole = content ++ zeros;
    solves =
        solution_alike question.layout content (content ++ zeros)
        (record { at = λ place. sym (zeros_behind content _ place) }) question.columns (lost_by_choice question choice)
        question.len (512 * question.layout.sectors) long solution;
    are_bytes = λ at.
        rw (zeros_behind content (512 * question.layout.sectors - question.len) at) (asked.are_bytes at);
    begins = ap (λ (k : ℕ). take k (content ++ zeros)) (sym asked.len) ∙ take-append_seam content zeros;
    digest = asked.digest;
  }
    where
      long : length (content ++ zeros) ≡ 512 * question.layout.sectors
      long =
          length-append content zeros
          ∙ omega (
            arith,
            length-replicate {A = ℕ} (512 * question.layout.sectors - question.len) 0,
            asked.len,
            asked.sectors,
          )

      solution : IsSolution question.layout question.columns (lost_by_choice question choice) question.len content
      solution = record {
        wide = asked.len;
        content = λ row column within behind there. covers.right row column within there;
        parity = λ row which row_in serves.
            let room : question.layout.parity ≤ columns_in question.layout row =
            parity_in_row question.layout row asked.layout row_in in
            covers.right row which (record { row_in = row_in; column_in = omega (arith, serves.among, room) })
            serves.there;
      }

  pub covered_gives : ChoiceGives question choice content
  covered_gives = record { choice_is = covers.choice_is; told = covered_told }

  -- Law: Where some choice covers all that is wrong or lost of a block, it is not damaged.
  pub covered_undamaged : IsDamaged question → ⊥
  covered_undamaged damaged = damaged choice content covered_gives

-- Law: Where no choice gives other bytes of the digest, what is decoded is the block.
pub decoded_is : (question : Question) (content bytes : List ℕ) → HasNoFalseChoice question content
    → IsDecoded question bytes → bytes ≡ content
decoded_is question content bytes none decoded = none.none decoded.choice bytes decoded.given

-- Law: Where the choice of no suspect covers a block, what is decoded is the block.
pub first_choice : (question : Question) (content bytes : List ℕ) → IsChoiceAsked question content
    → Covers question [] content → IsDecoded question bytes → bytes ≡ content
first_choice question content bytes asked covers decoded = of_choice decoded.choice decoded.alone decoded.first
  where
    given : ChoiceGives question [] content
    given = covered_gives question [] content asked covers

    of_choice : (choice : Choice) → ((other : List ℕ) → ChoiceGives question choice other → other ≡ bytes)
        → ((other : Choice) (wrong : List ℕ) → IsTriedBefore other choice → ChoiceGives question other wrong → ⊥)
        → bytes ≡ content
    of_choice [] alone first = sym (alone content given)
    of_choice (place ∷ rest) alone first = absurd (first [] content (inl (omega arith)) given)

-- Columns that are left of a block, enough of each row, are covered without a suspect.
pub left_covered : (layout : Layout) (rows : Rows) (masks : List ℕ) (len : ℕ) (sha : List ℕ) (suspects : List Pair)
    (content : List ℕ) → IsLayout layout → IsLeftOver layout content rows masks
    → ((row : ℕ) → row < rows_of layout → HasTooFew layout masks row → ⊥)
    → Covers (question_with layout rows masks len sha suspects) [] content
left_covered layout rows masks len sha suspects content is left enough = record {
  choice_is = record { few = omega arith; ascending = tt };
  enough = λ passed.
      enough passed.row passed.row_in
      (omega (arith, passed.many, counted passed.row (columns_in layout passed.row)));
  right = λ row column within there.
      left.there row column within.row_in (omega (arith, within.column_in, row_few layout row is))
      (not_lost (nat_lt column (columns_in layout row)) (is_masked (slice_index masks row) column) there);
}
  where
    or_nothing : (test : Bool) → (test || false) ≡ test
    or_nothing true = refl
    or_nothing false = refl

    counted : (row some : ℕ)
        → count_lost (lost_by_choice (question_with layout rows masks len sha suspects) [] row) 0 some
        ≡ count_lost (is_masked (slice_index masks row)) 0 some
    counted row some =
        count_alike (lost_by_choice (question_with layout rows masks len sha suspects) [] row)
        (is_masked (slice_index masks row)) 0 0 some
        (λ k low. or_nothing (is_masked (slice_index masks row) (0 + k)))

    not_lost : (test masked : Bool) → (masked || false) ≡ false → (test && masked) ≡ false
    not_lost true true there = there
    not_lost true false there = refl
    not_lost false masked there = refl

-- What is decoded has the block's length.
pub decoded_long : (question : Question) (bytes : List ℕ) → sectors_for question.len ≡ question.layout.sectors
    → IsDecoded question bytes → length bytes ≡ question.len
decoded_long question bytes sectors decoded =
    ap length (sym decoded.given.told.begins)
    ∙ omega (
      arith,
      length-take question.len decoded.given.told.whole,
      decoded.given.told.solves.wide,
      sectors,
    )
