-- How the rules for births are told step by step.
use Rattle.std.proofs.Common.{◌≡◌, ℕ, suc, ◌+◌, ◌-◌, ◌*◌, ◌^◌, ◌<◌, ◌≤◌, List, [], ◌∷◌, ◌++◌, length, take, drop}
use Rattle.std.proofs.Common.{get_or, set, refl, sym, ◌∙◌, ap, subst, arith, append_assoc}
use Rattle.std.specs.Prelude.{All, flat_map, IsTrue, nat_eq}
use Rattle.std.proofs.lemmas.Bool.{eqb-true, eq-eqb}
use Rattle.std.proofs.lemmas.List.{append-nil, drop_all, drop_more, take_more_set}
use Rattle.std.proofs.lemmas.List.Concat.{flat_map-append}
use Rattle.std.proofs.lemmas.List.Elements.{All-cons, All-head, All-nil, All-push, All-tail}
use Rattle.width_map.specs.declared.birth.Birth.{Birth}
use Rattle.width_map.specs.Births.{first_width, GrowFrom, IsGrowing, last_width, last_width_from, NoneAbove}
use Rattle.block_record.specs.Bytes.{be32, be64}
use Rattle.block_record.proofs.Reading.{joined}
use Rattle.uberblock_ring.specs.Header.{FitBirths}
use Rattle.uberblock_ring.specs.Uberblock.{birth_bytes}
use Rattle.uberblock_ring.specs.Valid.{IsBirthsOf}

-- One birth grows out of another.
abbrev pub Grows : Birth → Birth → Type 0
Grows before next = (before.group < next.group) × (next.width ≡ before.width + 1)

-- Births grow where the first is for all groups and the others grow out of it.
pub growing_starts : (births rest : List Birth) (d : Birth) → 0 < length births → (get_or births 0 d).group ≡ 0 → rest ≡ drop 1 births
    → (GrowFrom (get_or births 0 d) rest → IsGrowing births) × (IsGrowing births → GrowFrom (get_or births 0 d) rest)
growing_starts [] rest d some first is = absurd (omega (arith, some))
growing_starts (one ∷ births) rest d some first is = (
  λ grow. (first, subst (λ (bs : List Birth). GrowFrom one bs) is grow),
  λ growing. subst (λ (bs : List Birth). GrowFrom one bs) (sym is) growing.1,
)

pub growing_first : (births : List Birth) (d : Birth) → 0 < length births → IsGrowing births → (get_or births 0 d).group ≡ 0
growing_first [] d some growing = absurd (omega (arith, some))
growing_first (one ∷ births) d some growing = growing.0

-- The rest grows where the next does and the rest of that.
pub grow_more : (before : Birth) (rest : List Birth) (i : ℕ) (d : Birth) → i < length rest
    → (GrowFrom before (drop i rest) → Grows before (get_or rest i d) × GrowFrom (get_or rest i d) (drop (i + 1) rest))
    × (Grows before (get_or rest i d) → GrowFrom (get_or rest i d) (drop (i + 1) rest) → GrowFrom before (drop i rest))
grow_more before rest i d low =
    let split : drop i rest ≡ get_or rest i d ∷ drop (i + 1) rest = drop_more rest i d low in (
      λ grow. let all : GrowFrom before (get_or rest i d ∷ drop (i + 1) rest) = subst (λ (bs : List Birth). GrowFrom before bs) split grow in
          ((all.0, all.1), all.2),
      λ one more. subst (λ (bs : List Birth). GrowFrom before bs) (sym split) (one.0, one.1, more),
    )

-- Nothing more is asked at the end.
pub grow_none : (before : Birth) (rest : List Birth) (i : ℕ) → length rest ≤ i → GrowFrom before (drop i rest)
grow_none before rest i over = subst (λ (bs : List Birth). GrowFrom before bs) (sym (drop_all i rest over)) tt

-- the last width from one on
last_from : (width : ℕ) (births : List Birth) (d : Birth) → 0 < length births
    → last_width_from width births ≡ (get_or births (length births - 1) d).width
last_from width [] d some = absurd (omega (arith, some))
last_from width (one ∷ []) d some = refl
last_from width (one ∷ two ∷ births) d some =
    let at_end : length (one ∷ two ∷ births) - 1 ≡ suc (length (two ∷ births) - 1) = omega arith in
    last_from one.width (two ∷ births) d (omega arith)
    ∙ ap (λ (k : ℕ). (get_or (one ∷ two ∷ births) k d).width) (sym at_end)

-- The present width is that of the last birth, and the first that of the first.
pub last_is : (births : List Birth) (d : Birth) → 0 < length births → last_width births ≡ (get_or births (length births - 1) d).width
last_is births d some = last_from 0 births d some

pub first_is : (births : List Birth) (d : Birth) → 0 < length births → first_width births ≡ (get_or births 0 d).width
first_is [] d some = absurd (omega (arith, some))
first_is (one ∷ births) d some = refl

-- Each birth is at most of a group where none is above it.
pub none_from_all : (group : ℕ) (births : List Birth) → All (λ birth. birth.group ≤ group) births → NoneAbove group births
none_from_all group [] all = tt
none_from_all group (one ∷ births) all = (
  All-head (λ birth. birth.group ≤ group) one births all,
  none_from_all group births (All-tail (λ birth. birth.group ≤ group) one births all),
)

pub all_from_none : (group : ℕ) (births : List Birth) → NoneAbove group births → All (λ birth. birth.group ≤ group) births
all_from_none group [] none = All-nil (λ birth. birth.group ≤ group)
all_from_none group (one ∷ births) none = All-cons (λ birth. birth.group ≤ group) one births none.0 (all_from_none group births none.1)

-- One more birth that was read.
pub births_more : (bytes : List ℕ) (births : List Birth) (index : ℕ) (next : Birth) → index < length births
    → next.group < 2 ^ 64 → next.width < 2 ^ 32 → FitBirths (take index births)
    → take (12 * index) bytes ≡ flat_map birth_bytes (take index births)
    → take 8 (drop (12 * index) bytes) ≡ be64 next.group → take 4 (drop (12 * index + 8) bytes) ≡ be32 next.width
    → FitBirths (take (index + 1) (set births index next))
    × (take (12 * (index + 1)) bytes ≡ flat_map birth_bytes (take (index + 1) (set births index next)))
births_more bytes births index next low group width fit before group_read width_read =
    let pushed : take (index + 1) (set births index next) ≡ take index births ++ next ∷ [] = take_more_set births index next low in
    let longer : 12 * (index + 1) ≡ 12 * index + 8 + 4 = omega arith in
    let read : take (12 * index + 8 + 4) bytes ≡ flat_map birth_bytes (take index births) ++ be64 next.group ++ be32 next.width =
    joined (12 * index + 8) 4 bytes (joined (12 * index) 8 bytes before group_read) width_read in
    let spelled : flat_map birth_bytes (take index births) ++ be64 next.group ++ be32 next.width
    ≡ flat_map birth_bytes (take index births ++ next ∷ []) =
    append_assoc (flat_map birth_bytes (take index births)) (be64 next.group) (be32 next.width)
    ∙ ap (λ (xs : List ℕ). flat_map birth_bytes (take index births) ++ xs) (sym (append-nil (birth_bytes next)))
    ∙ sym (flat_map-append birth_bytes (take index births) (next ∷ [])) in (
      subst (λ (bs : List Birth). FitBirths bs) (sym pushed)
          (All-push (λ birth. (birth.group < 2 ^ 64) × (birth.width < 2 ^ 32)) (take index births) next fit (group, width)),
      ap (λ (k : ℕ). take k bytes) longer ∙ read ∙ spelled ∙ ap (λ (bs : List Birth). flat_map birth_bytes bs) (sym pushed),
    )

-- The ends are right where the first and the last birth are.
pub ends_right : (births : List Birth) (d : Birth) (parity width : ℕ) → 0 < length births → parity + 1 ≤ (get_or births 0 d).width
    → (IsTrue (nat_eq (get_or births (length births - 1) d).width width) → (parity + 1 ≤ first_width births) × (last_width births ≡ width))
    × ((parity + 1 ≤ first_width births) × (last_width births ≡ width) → IsTrue (nat_eq (get_or births (length births - 1) d).width width))
ends_right births d parity width some room = (
  λ same. (omega (arith, room, first_is births d some), last_is births d some ∙ eqb-true _ width same),
  λ ends. eq-eqb _ width (sym (last_is births d some) ∙ ends.1),
)

-- They are not where the first is too narrow.
pub ends_wrong : (births : List Birth) (d : Birth) (parity width : ℕ) → 0 < length births → (get_or births 0 d).width < parity + 1
    → (parity + 1 ≤ first_width births) × (last_width births ≡ width) → ⊥
ends_wrong births d parity width some narrow ends = omega (arith, narrow, ends.0, first_is births d some)

-- All that is asked of births.
pub births_right : (births : List Birth) (parity width group : ℕ) → length births ≤ 16
    → (parity + 1 ≤ first_width births) × (last_width births ≡ width) → All (λ birth. birth.group ≤ group + 2) births
    → IsGrowing births → IsBirthsOf births parity width group
births_right births parity width group few ends begun growing =
    record { growing = growing; few = few; wide = ends.0; last = ends.1; begun = none_from_all (group + 2) births begun }
