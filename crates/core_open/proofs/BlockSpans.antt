-- The blocks of an index under a right uberblock: how wide they are, and how their spans tell whether
-- the index fits.
use Rattle.std.proofs.Common.{◌≡◌, ⊎_elim, ℕ, suc, ◌+◌, ◌<◌, ◌≤◌, List, [], ◌∷◌, ◌++◌, length, get_or, take, Bool, sym}
use Rattle.std.proofs.Common.{◌∙◌, ap, subst, arith}
use Rattle.std.specs.Prelude.{All, AllPairs, ◌↔◌, IsTrue, map}
use Rattle.std.proofs.Math.ListN.{get_or-map}
use Rattle.std.proofs.lemmas.List.{length-map, map_more}
use Rattle.std.proofs.lemmas.List.Elements.{All-map, All-more, All-push}
use Rattle.std.proofs.lemmas.List.Kept.{AllPairs-cons}
use Rattle.width_map.specs.Births.{width_of_birth}
use Rattle.block_record.specs.declared.entry.IndexEntry.{IndexEntry}
use Rattle.uberblock_ring.specs.Uberblock.{Uber}
use Rattle.uberblock_ring.specs.Valid.{IsRightUber}
use Rattle.core_state.specs.Index.{IsFitting}
use Rattle.core_state.proofs.Births.{births_between}
use Rattle.core_open.specs.declared.fitting.Span.{Span}
use Rattle.core_open.specs.Spans.{AreDisjoint, FitsAlone, IsFilled, span_of}

narrow : (uber : Uber) → IsRightUber uber → uber.reflow.from ≤ 16
narrow uber right = ⊎_elim (λ rests. omega (arith, rests.0, right.widths.1))
    (λ expands. omega (arith, expands.0, right.widths.1)) right.reflow

-- Each block of a right uberblock has a width above the parity, and at most 16.
pub block_width : (uber : Uber) (birth : ℕ) → IsRightUber uber
    → (uber.parity < width_of_birth uber.births birth) × (width_of_birth uber.births birth ≤ 16)
block_width uber birth right =
    let between =
    births_between uber.births uber.parity uber.reflow.from uber.group birth right.births in
    (omega (arith, between.0), omega (arith, between.1, narrow uber right))

-- Pairs of values that a function gives.
module _ {X Y : Type 0} (R : Y → Y → Type 0) (f : X → Y) where
  pairs_mapped : (xs : List X) → AllPairs (λ one other. R (f one) (f other)) xs
      → AllPairs R (map f xs)
  pairs_mapped [] pairs = λ i j d before within. absurd (omega (arith, within))
  pairs_mapped (x ∷ xs) pairs = AllPairs-cons R (f x) (map f xs)
      (All-map (R (f x)) f xs
      (λ k d within. pairs 0 (suc k) d (omega arith) (omega (arith, within))))
      (pairs_mapped xs
      (λ i j d before within.
      pairs (suc i) (suc j) d (omega (arith, before)) (omega (arith, within))))

  pairs_unmapped : (xs : List X) → AllPairs R (map f xs)
      → AllPairs (λ one other. R (f one) (f other)) xs
  pairs_unmapped xs pairs i j d before within =
      let here = pairs i j (f d) before (omega (arith, within, length-map xs f)) in
      subst (λ (one : Y). R one (f (get_or xs j d))) (get_or-map f xs i d)
      (subst (λ (other : Y). R (get_or (map f xs) i (f d)) other) (get_or-map f xs j d) here)

-- An index fits where each block alone does, and the spans are clear.
fits_iff_clear : (uber : Uber) (entries : List IndexEntry) → All (FitsAlone uber) entries
    → AllPairs AreDisjoint (map (span_of uber) entries) ↔ IsFitting uber entries
fits_iff_clear uber entries alone = (
  λ clear. record {
    births = λ k d within. (alone k d within).birth;
    below = λ k d within. (alone k d within).below;
    apart = pairs_unmapped AreDisjoint (span_of uber) entries clear;
  },
  λ fits. pairs_mapped AreDisjoint (span_of uber) entries fits.apart,
)

-- What tells whether the spans are clear tells whether the index fits.
pub fits_by : (uber : Uber) (entries : List IndexEntry) (spans : List Span) (fits : Bool)
    → spans ≡ map (span_of uber) entries → All (FitsAlone uber) entries
    → IsTrue fits ↔ AllPairs AreDisjoint spans
    → IsTrue fits ↔ IsFitting uber entries
fits_by uber entries spans fits are alone test =
    let iff = fits_iff_clear uber entries alone in (
      λ yes. iff.0 (subst (AllPairs AreDisjoint) are (test.0 yes)),
      λ fitting. test.1 (subst (AllPairs AreDisjoint) (sym are) (iff.1 fitting)),
    )

-- The blocks up to an index each fit alone, and these are their spans.
pub record AreSpansTo (uber : Uber) (entries : List IndexEntry) (index : ℕ) (spans : List Span) :
    Type 0 where
  pub items : spans ≡ map (span_of uber) (take index entries)
  pub filled : All IsFilled spans
  pub alone : All (FitsAlone uber) (take index entries)

pub spans_more : (uber : Uber) (entries : List IndexEntry) (index : ℕ) (spans : List Span)
    (span : Span) (d : IndexEntry) → index < length entries → AreSpansTo uber entries index spans
    → FitsAlone uber (get_or entries index d) → span ≡ span_of uber (get_or entries index d)
    → IsFilled span
    → AreSpansTo uber entries (index + 1) (spans ++ span ∷ [])
spans_more uber entries index spans span d within so_far alone is filled = record {
  items = ap (λ (front : List Span). front ++ span ∷ []) so_far.items
      ∙ ap (λ (last : Span). map (span_of uber) (take index entries) ++ last ∷ []) is
      ∙ sym (map_more (span_of uber) entries index d within);
  filled = All-push IsFilled spans span so_far.filled filled;
  alone = All-more (FitsAlone uber) entries index d within so_far.alone alone;
}
