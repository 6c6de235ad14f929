-- The sectors that are kept, beside the moments of their writes.
use Rattle.std.proofs.Common.{◌≡◌, ◌<◌, ◌+◌, ◌-◌, ℕ, zero, suc, List, [], ◌∷◌, ◌++◌, length, take, drop, Some, refl}
use Rattle.std.proofs.Common.{sym, ◌∙◌, ap, subst, arith}
use Rattle.std.proofs.Common.{get_or, ◌≤◌, ◌⊎◌, inl, inr}
use Rattle.std.proofs.lemmas.List.{take_all}
use Rattle.std.proofs.lemmas.Option.{slice_get-get_or, get_or_from_slice_get}
use Rattle.std.specs.Prelude.{slice_get}
use Rattle.file_bank.specs.BlockFile.{Contents}
use Rattle.file_bank.proofs.Rows.{read_within, whole_one_more, whole_drop}
use Rattle.file_bank.specs.Row.{KeptSector, AllWhole, GivesPiece, kept_sector, kept_row, with_row}

pub row_none : (moments : List ℕ) → kept_row moments [] ≡ []
row_none [] = refl
row_none (moment ∷ moments) = refl

pub row_empty : (moments : List ℕ) (sectors : List (List ℕ)) → sectors ≡ [] → kept_row moments sectors ≡ []
row_empty moments sectors none = ap (kept_row moments) none ∙ row_none moments

pub row_long : (moments : List ℕ) (sectors : List (List ℕ)) → length moments ≡ length sectors
    → length (kept_row moments sectors) ≡ length sectors
row_long [] [] paired = refl
row_long [] (bytes ∷ sectors) paired = absurd (omega (arith, paired))
row_long (moment ∷ moments) [] paired = absurd (omega (arith, paired))
row_long (moment ∷ moments) (bytes ∷ sectors) paired =
    omega (arith, row_long moments sectors (omega (arith, paired)))

pub row_push : (moments : List ℕ) (sectors : List (List ℕ)) (moment : ℕ) (bytes : List ℕ)
    → length moments ≡ length sectors
    → kept_row (moments ++ moment ∷ [])
    (sectors ++ bytes ∷ []) ≡ kept_row moments sectors ++ kept_sector moment bytes ∷ []
row_push [] [] moment bytes paired = refl
row_push [] (one ∷ sectors) moment bytes paired = absurd (omega (arith, paired))
row_push (other ∷ moments) [] moment bytes paired = absurd (omega (arith, paired))
row_push (other ∷ moments) (one ∷ sectors) moment bytes paired =
    ap (λ (l : List KeptSector). kept_sector other one ∷ l)
    (row_push moments sectors moment bytes (omega (arith, paired)))

pub row_drop : (count : ℕ) (moments : List ℕ) (sectors : List (List ℕ))
    → kept_row (drop count moments) (drop count sectors) ≡ drop count (kept_row moments sectors)
row_drop zero moments sectors = refl
row_drop (suc count) [] sectors = refl
row_drop (suc count) (moment ∷ moments) [] = row_none (drop count moments)
row_drop (suc count) (moment ∷ moments) (bytes ∷ sectors) = row_drop count moments sectors

-- One sector more is kept, and the first ones are no longer.
module _ (moments later : List ℕ) (sectors more : List (List ℕ)) where
  pub row_pushed : (moment : ℕ) (bytes : List ℕ) → length moments ≡ length sectors
      → later ≡ moments ++ moment ∷ [] → more ≡ sectors ++ bytes ∷ []
      → kept_row later more ≡ kept_row moments sectors ++ kept_sector moment bytes ∷ []
  row_pushed moment bytes paired first next =
      ap (λ (l : List ℕ). kept_row l more) first ∙ ap (kept_row (moments ++ moment ∷ [])) next
      ∙ row_push moments sectors moment bytes paired

  pub row_dropped : (count : ℕ) → later ≡ drop count moments → more ≡ drop count sectors
      → kept_row later more ≡ drop count (kept_row moments sectors)
  row_dropped count first next =
      ap (λ (l : List ℕ). kept_row l more) first ∙ ap (kept_row (drop count moments)) next
      ∙ row_drop count moments sectors

  pub whole_pushed : (moment : ℕ) (bytes : List ℕ) → length moments ≡ length sectors
      → later ≡ moments ++ moment ∷ [] → more ≡ sectors ++ bytes ∷ [] → length bytes ≡ 512
      → AllWhole (kept_row moments sectors) → AllWhole (kept_row later more)
  whole_pushed moment bytes paired first next long whole =
      subst (λ (l : List KeptSector). AllWhole l) (sym (row_pushed moment bytes paired first next))
      (whole_one_more (kept_row moments sectors) (kept_sector moment bytes) whole long)

  pub whole_dropped : (count : ℕ) → later ≡ drop count moments → more ≡ drop count sectors
      → AllWhole (kept_row moments sectors) → AllWhole (kept_row later more)
  whole_dropped count first next whole =
      subst (λ (l : List KeptSector). AllWhole l) (sym (row_dropped count first next))
      (whole_drop count (kept_row moments sectors) whole)

-- One of them, by its place.
pub row_at : (i : ℕ) (moments : List ℕ) (sectors : List (List ℕ)) → length moments ≡ length sectors
    → i < length sectors
    → slice_get (kept_row moments sectors) i ≡ Some (kept_sector (get_or moments i 0) (get_or sectors i []))
row_at i [] [] paired below = absurd (omega (arith, below))
row_at i [] (bytes ∷ sectors) paired below = absurd (omega (arith, paired))
row_at i (moment ∷ moments) [] paired below = absurd (omega (arith, paired))
row_at zero (moment ∷ moments) (bytes ∷ sectors) paired below = refl
row_at (suc i) (moment ∷ moments) (bytes ∷ sectors) paired below =
    row_at i moments sectors (omega (arith, paired)) (omega (arith, below))

pub kept_at : (i : ℕ) (moments : List ℕ) (sectors : List (List ℕ)) (kept : KeptSector)
    → length moments ≡ length sectors → i < length sectors
    → kept ≡ kept_sector (get_or moments i 0) (get_or sectors i [])
    → kept ≡ get_or (kept_row moments sectors) i kept
kept_at i moments sectors kept paired below is =
    is ∙ sym (get_or_from_slice_get (kept_row moments sectors) i
    (kept_sector (get_or moments i 0) (get_or sectors i [])) kept (row_at i moments sectors paired below))

pub row_same : {moments later : List ℕ} {sectors more : List (List ℕ)} → later ≡ moments → more ≡ sectors
    → kept_row later more ≡ kept_row moments sectors
row_same {moments} {later} {sectors} {more} first next =
    ap (λ (l : List ℕ). kept_row l more) first ∙ ap (kept_row moments) next

-- Beside the sectors is beside the row that they make.
pub beside_long : (n x m k : ℕ) → m ≡ k → (n < x) ⊎ (x + k ≤ n) → (n < x) ⊎ (x + m ≤ n)
beside_long n x m k long (inl before) = inl before
beside_long n x m k long (inr behind) = inr (omega (arith, long, behind))

-- What is kept of a sector is what is told of it.
pub kept_piece : (file : Contents) (x n start : ℕ) (moments : List ℕ) (sectors : List (List ℕ)) {piece : List ℕ}
    → length moments ≡ length sectors → x ≤ n → n < x + length sectors → GivesPiece sectors (n - x) start piece
    → (bytes : List ℕ) → (with_row file x (kept_row moments sectors)).reads n ≡ Some bytes
    → take (length piece) piece ≡ take (length piece) (drop start bytes)
kept_piece file x n start moments sectors {piece} paired from to gives bytes reads =
    let below : n - x < length sectors = omega (arith, from, to) in
    let number : n ≡ x + (n - x) = omega (arith, from) in
    let at : bytes ≡ get_or sectors (n - x) [] =
    read_within file x (n - x) (kept_row moments sectors)
    (kept_sector (get_or moments (n - x) 0) (get_or sectors (n - x) [])) bytes
    (row_at (n - x) moments sectors paired below)
    (subst (λ (k : ℕ). (with_row file x (kept_row moments sectors)).reads k ≡ Some bytes) number reads) in
    let there : slice_get sectors (n - x) ≡ Some bytes =
    slice_get-get_or sectors (n - x) [] below ∙ ap Some (sym at) in
    take_all (length piece) piece (omega arith) ∙ gives bytes there
