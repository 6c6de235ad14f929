-- How choices are tried: place by place, each with the choices behind it.
use Rattle.std.proofs.Common.{◌≡◌, ℕ, ◌+◌, ◌-◌, ◌<◌, ◌≤◌, List, [], ◌∷◌, length, Option, Some, None, Result, Ok, Err}
use Rattle.std.proofs.Common.{IfOk, IfSome, IfNone, Bool, true, false, refl, sym, ◌∙◌, ap, subst, arith, ⊎_elim}
use Rattle.std.specs.Prelude.{slice_get, slice_index, slice_index_or, ◌||◌}
use Rattle.std.specs.List.{list_any, filter_map, cons_option}
use Rattle.std.proofs.lemmas.Bool.{cases_lt}
use Rattle.std.proofs.lemmas.Option.{slice_get-get_or}
use Rattle.gf_solve.specs.Row.{is_masked, count_lost}
use Rattle.gf_solve.proofs.Counting.{count_alike}
use Rattle.row_layout.specs.Layout.{Layout, IsLayout, rows_of, whole_rows, columns_in, end_of, sector_of}
use Rattle.row_layout.proofs.Parts.{whole_row_in, last_row_in}
use Rattle.reconstruct.specs.declared.pair.Pair.{Pair}
use Rattle.reconstruct.specs.Rows.{Rows}
use Rattle.reconstruct.specs.Suspects.{Choice, IsSuspectChoice, AscendFrom, IsLower, is_suspect, suspects_sector}
use Rattle.reconstruct.specs.Suspects.{choice_reach}
use Rattle.reconstruct.specs.Solved.{columns_with, is_masked_lost, is_lost, ServesRow, TellsBytes, Question}
use Rattle.reconstruct.specs.Solved.{question_with, Told, IsDecoded, IsDamaged}
use Rattle.reconstruct.specs.Tried.{IsPick, IsFirstTold, NoneTold}

-- ---- what is lost, told in two ways

-- A row has its parity columns.
pub parity_in_row : (layout : Layout) (row : ℕ) → IsLayout layout → row < rows_of layout
    → layout.parity ≤ columns_in layout row
parity_in_row layout row is row_in =
    ⊎_elim (λ whole. omega (arith, whole_row_in layout row whole, is.width))
    (λ last. omega (arith, last_row_in layout row last)) (cases_lt row (whole_rows layout))

-- the same columns of each row are lost, of those that aren't missing
pub record AreLostAlike (layout : Layout) (lost other : ℕ → ℕ → Bool) : Type 0 where
  pub at : (row column : ℕ) → row < rows_of layout → column < columns_in layout row
      → lost row column ≡ other row column

pub lost_back : (layout : Layout) (lost other : ℕ → ℕ → Bool) → AreLostAlike layout lost other
    → AreLostAlike layout other lost
lost_back layout lost other alike = record { at = λ row column row_in inside. sym (alike.at row column row_in inside) }

-- Columns tell the same where the same ones are lost.
pub tells_alike : (layout : Layout) (rows : Rows) (masks more : List ℕ) (lost other : ℕ → ℕ → Bool) (len : ℕ)
    (sha bytes : List ℕ) → IsLayout layout → AreLostAlike layout lost other
    → TellsBytes layout (columns_with rows masks) lost len sha bytes
    → TellsBytes layout (columns_with rows more) other len sha bytes
tells_alike layout rows masks more lost other len sha bytes is alike told = record {
  enough = λ passed.
      told.enough (record {
        row = passed.row;
        row_in = passed.row_in;
        many =
            omega (
              arith,
              passed.many,
              counted passed.row 0 (columns_in layout passed.row) passed.row_in (λ k low. omega (arith, low)),
            );
      });
  whole = told.whole;
  begins = told.begins;
  solves = record {
    wide = told.solves.wide;
    content = λ row column within behind there.
        told.solves.content row column within behind (alike.at row column within.row_in within.column_in ∙ there);
    parity = λ row which row_in serves. told.solves.parity row which row_in (serves_alike row which row_in serves);
  };
  are_bytes = told.are_bytes;
  digest = told.digest;
}
  where
    counted : (row first some : ℕ) → row < rows_of layout → ((k : ℕ) → k < some → first + k < columns_in layout row)
        → count_lost (lost row) first some ≡ count_lost (other row) first some
    counted row first some row_in inside =
        count_alike (lost row) (other row) first first some (λ k low. alike.at row (first + k) row_in (inside k low))

    serves_alike : (row which : ℕ) → row < rows_of layout → ServesRow layout other row which
        → ServesRow layout lost row which
    serves_alike row which row_in serves =
        let room : layout.parity ≤ columns_in layout row = parity_in_row layout row is row_in in
        record {
          among = serves.among;
          there = alike.at row which row_in (omega (arith, serves.among, room)) ∙ serves.there;
          lowest =
              omega (
                arith,
                serves.lowest,
                counted row 0 which row_in (λ k low. omega (arith, low, serves.among, room)),
                counted row layout.parity (columns_in layout row - layout.parity) row_in
                    (λ k low. omega (arith, low, room)),
              );
        }

-- Without suspects the masks alone say what is lost.
or_nothing : (test : Bool) → (test || false) ≡ test
or_nothing true = refl
or_nothing false = refl

or_more : (a b rest : Bool) → ((a || b) || rest) ≡ (a || (b || rest))
or_more true b rest = refl
or_more false b rest = refl

-- A suspect more is in the masks, or in the choice.
pub lost_with : (layout : Layout) (rows : Rows) (masks more : List ℕ) (suspects : List Pair) (place : ℕ) (unused : Pair)
    (rest : Choice) → place < length suspects
    → ((row column : ℕ) → row < rows_of layout → column < columns_in layout row
    → is_masked (slice_index more row) column ≡ (is_masked (slice_index masks row) column
    || is_suspect (end_of layout row) (sector_of layout row column) (slice_index_or suspects place unused)))
    → AreLostAlike layout (is_lost layout (columns_with rows more) suspects rest)
    (is_lost layout (columns_with rows masks) suspects (place ∷ rest))
lost_with layout rows masks more suspects place unused rest low masked = record {
  at = λ row column row_in inside.
      let masked_there : Bool = is_masked (slice_index masks row) column in
      let test : Pair → Bool = is_suspect (end_of layout row) (sector_of layout row column) in
      let behind : Bool = suspects_sector suspects rest (end_of layout row) (sector_of layout row column) in
      ap (λ (t : Bool). t || behind) (masked row column row_in inside)
      ∙ or_more masked_there (test (slice_index_or suspects place unused)) behind
      ∙ ap (λ o. masked_there || list_any test (cons_option o (filter_map (slice_get suspects) rest)))
      (sym (slice_get-get_or suspects place unused low));
}

-- ---- the order of choices

-- The choice begins with a place below this one.
abbrev pub StartsBelow : ℕ → Choice → Type 0
StartsBelow at [] = ⊥
StartsBelow at (place ∷ rest) = place < at

module _ (layout : Layout) (rows : Rows) (masks : List ℕ) (len : ℕ) (sha : List ℕ) (suspects : List Pair)
    (reach : ℕ) where
  -- the same question of other masks
  abbrev asked : List ℕ → Question
  asked lost = question_with layout rows lost len sha suspects

  -- the masks alone say what is lost, and so does the choice of no suspect
  masks_alone : AreLostAlike layout (is_masked_lost masks) (is_lost layout (columns_with rows masks) suspects [])
  masks_alone =
      record { at = λ row column row_in inside. sym (or_nothing (is_masked (slice_index masks row) column)) }

  by_masks : (bytes : List ℕ) → IsLayout layout → Told (asked masks) [] bytes
      → TellsBytes layout (columns_with rows masks) (is_masked_lost masks) len sha bytes
  by_masks bytes is told =
      tells_alike layout rows masks masks (is_lost layout (columns_with rows masks) suspects []) (is_masked_lost masks)
      len sha bytes is
      (lost_back layout (is_masked_lost masks) (is_lost layout (columns_with rows masks) suspects []) masks_alone) told

  -- What the masks leave is told by the choice of no suspect.
  pub told_by_none : (bytes : List ℕ) → IsLayout layout
      → TellsBytes layout (columns_with rows masks) (is_masked_lost masks) len sha bytes → Told (asked masks) [] bytes
  told_by_none bytes is told =
      tells_alike layout rows masks masks (is_masked_lost masks) (is_lost layout (columns_with rows masks) suspects [])
      len sha bytes is masks_alone told

  -- Where no suspect is to be chosen, there is one choice.
  pub first_of_none : (from : ℕ) (bytes : List ℕ) → IsLayout layout
      → TellsBytes layout (columns_with rows masks) (is_masked_lost masks) len sha bytes
      → ((other : List ℕ) → TellsBytes layout (columns_with rows masks) (is_masked_lost masks) len sha other
      → other ≡ bytes)
      → IsFirstTold (asked masks) reach from 0 bytes
  first_of_none from bytes is told alone = record {
    choice = [];
    pick = record { many = refl; ascending = tt };
    told = told_by_none bytes is told;
    alone = λ other told_other. alone other (by_masks other is told_other);
    first = λ other wrong pick lower told_other. none_lower other lower;
  }
    where
      none_lower : (other : Choice) → IsLower other [] → ⊥
      none_lower [] lower = lower
      none_lower (place ∷ rest) lower = lower

  pub none_of_none : (from : ℕ) → IsLayout layout
      → ((bytes : List ℕ) → TellsBytes layout (columns_with rows masks) (is_masked_lost masks) len sha bytes → ⊥)
      → NoneTold (asked masks) reach from 0
  none_of_none from is none choice bytes pick told = of_choice choice pick.many told
    where
      of_choice : (choice : Choice) → length choice ≡ 0 → Told (asked masks) choice bytes → ⊥
      of_choice [] many told = none bytes (by_masks bytes is told)
      of_choice (place ∷ rest) many told = absurd (omega (arith, many))

  module _ (from more place : ℕ) (some : 0 < more) (from_in : from ≤ place) (place_in : place < reach)
      (reach_in : reach ≤ length suspects) (fewer : List ℕ) (unused : Pair) (is : IsLayout layout)
      (masked : (row column : ℕ) → row < rows_of layout → column < columns_in layout row
      → is_masked (slice_index fewer row) column ≡ (is_masked (slice_index masks row) column
      || is_suspect (end_of layout row) (sector_of layout row column) (slice_index_or suspects place unused)))
      (before : (choice : Choice) (bytes : List ℕ) → IsPick reach from more choice → StartsBelow place choice
      → Told (asked masks) choice bytes → ⊥) where
    lost_more : (rest : Choice) → AreLostAlike layout (is_lost layout (columns_with rows fewer) suspects rest)
        (is_lost layout (columns_with rows masks) suspects (place ∷ rest))
    lost_more rest =
        let inside : place < length suspects = omega (arith, place_in, reach_in) in
        lost_with layout rows masks fewer suspects place unused rest inside masked

    -- what the choice tells with the place, and without it where its pair is lost already
    told_more : (rest : Choice) (bytes : List ℕ) → Told (asked fewer) rest bytes
        → Told (asked masks) (place ∷ rest) bytes
    told_more rest bytes told =
        tells_alike layout rows fewer masks (is_lost layout (columns_with rows fewer) suspects rest)
        (is_lost layout (columns_with rows masks) suspects (place ∷ rest)) len sha bytes is (lost_more rest) told

    told_less : (rest : Choice) (bytes : List ℕ) → Told (asked masks) (place ∷ rest) bytes
        → Told (asked fewer) rest bytes
    told_less rest bytes told =
        tells_alike layout rows masks fewer (is_lost layout (columns_with rows masks) suspects (place ∷ rest))
        (is_lost layout (columns_with rows fewer) suspects rest) len sha bytes is
        (lost_back layout (is_lost layout (columns_with rows fewer) suspects rest)
        (is_lost layout (columns_with rows masks) suspects (place ∷ rest)) (lost_more rest)) told

    rest_pick : (first : ℕ) (rest : Choice) → first ≡ place → IsPick reach from more (first ∷ rest)
        → IsPick reach (place + 1) (more - 1) rest
    rest_pick first rest same pick = record {
      many = omega (arith, pick.many);
      ascending = subst (λ (k : ℕ). AscendFrom (k + 1) reach rest) same pick.ascending.2;
    }

    -- The first choice behind the place tells, and none before it did.
    pub first_here : (bytes : List ℕ) → IsFirstTold (asked fewer) reach (place + 1) (more - 1) bytes
        → IsFirstTold (asked masks) reach from more bytes
    first_here bytes here = record {
      choice = place ∷ here.choice;
      pick = record {
        many = omega (arith, here.pick.many, some);
        ascending = (from_in, place_in, here.pick.ascending);
      };
      told = told_more here.choice bytes here.told;
      alone = λ other told. here.alone other (told_less here.choice other told);
      first = λ other wrong pick lower told. earlier other wrong pick lower told;
    }
      where
        earlier : (other : Choice) (wrong : List ℕ) → IsPick reach from more other → IsLower other (place ∷ here.choice)
            → Told (asked masks) other wrong → ⊥
        earlier [] wrong pick lower told = lower
        earlier (first ∷ rest) wrong pick lower told =
            ⊎_elim (λ less. before (first ∷ rest) wrong pick less told)
            (λ same. here.first rest wrong (rest_pick first rest same.0 pick) same.1
            (told_less rest wrong (subst (λ (k : ℕ). Told (asked masks) (k ∷ rest) wrong) same.0 told)))
            lower

    -- No choice behind the place tells, so none before the next place does.
    pub none_here : NoneTold (asked fewer) reach (place + 1) (more - 1) → (choice : Choice) (bytes : List ℕ)
        → IsPick reach from more choice → StartsBelow (place + 1) choice → Told (asked masks) choice bytes → ⊥
    none_here none [] bytes pick starts told = starts
    none_here none (first ∷ rest) bytes pick starts told =
        ⊎_elim (λ less. before (first ∷ rest) bytes pick less told)
        (λ at_least. let same : first ≡ place = omega (arith, starts, at_least) in
        none rest bytes (rest_pick first rest same pick)
        (told_less rest bytes (subst (λ (k : ℕ). Told (asked masks) (k ∷ rest) bytes) same told)))
        (cases_lt first place)

  -- Behind the last place none is left.
  pub none_left : (from more last : ℕ) → 0 < more → reach ≤ last
      → ((choice : Choice) (bytes : List ℕ) → IsPick reach from more choice → StartsBelow last choice
      → Told (asked masks) choice bytes → ⊥)
      → NoneTold (asked masks) reach from more
  none_left from more last some past before [] bytes pick told = absurd (omega (arith, some, pick.many))
  none_left from more last some past before (place ∷ rest) bytes pick told =
      before (place ∷ rest) bytes pick (omega (arith, pick.ascending.1, past)) told

-- ---- all sizes

-- how many of the question's suspects a choice of so many is taken from
abbrev pub reach_in : Question → ℕ → ℕ
reach_in question size = choice_reach (length question.suspects) size

-- A choice of a size is a pick of so many.
pick_of : (question : Question) (choice : Choice) (size : ℕ) → length choice ≡ size
    → IsSuspectChoice question.suspects question.layout.parity choice → IsPick (reach_in question size) 0 size choice
pick_of question choice size many is = record {
  many = many;
  ascending = subst (λ (k : ℕ). AscendFrom 0 (reach_in question k) choice) many is.ascending;
}

-- The first choice of the smallest size that tells any is the first of all.
pub decoded_first : (question : Question) (size : ℕ) (bytes : List ℕ) → size ≤ question.layout.parity
    → IsFirstTold question (reach_in question size) 0 size bytes
    → ((smaller : ℕ) → smaller < size → NoneTold question (reach_in question smaller) 0 smaller)
    → IsDecoded question bytes
decoded_first question size bytes few found none = record {
  choice = found.choice;
  given = record {
    choice_is = record {
      few = omega (arith, few, found.pick.many);
      ascending =
          subst (λ (k : ℕ). AscendFrom 0 (reach_in question k) found.choice) (sym found.pick.many) found.pick.ascending;
    };
    told = found.told;
  };
  alone = λ other given. found.alone other given.told;
  first = λ other wrong before given. ⊎_elim
      (λ smaller. none (length other) (omega (arith, smaller, found.pick.many)) other wrong
      (pick_of question other (length other) refl given.choice_is) given.told)
      (λ alike. found.first other wrong (pick_of question other size (alike.0 ∙ found.pick.many) given.choice_is)
      alike.1 given.told)
      before;
}

-- What the masks leave tells, and alone, is decoded whoever is suspected.
pub decoded_by_none : (layout : Layout) (rows : Rows) (masks : List ℕ) (len : ℕ) (sha : List ℕ) (suspects : List Pair)
    (bytes : List ℕ) → IsLayout layout
    → TellsBytes layout (columns_with rows masks) (is_masked_lost masks) len sha bytes
    → ((other : List ℕ) → TellsBytes layout (columns_with rows masks) (is_masked_lost masks) len sha other
    → other ≡ bytes)
    → IsDecoded (question_with layout rows masks len sha suspects) bytes
decoded_by_none layout rows masks len sha suspects bytes is told alone =
    decoded_first (question_with layout rows masks len sha suspects) 0 bytes (omega arith)
    (first_of_none layout rows masks len sha suspects (length suspects) 0 bytes is told alone)
    (λ smaller below. absurd (omega (arith, below)))

-- Where no size tells any, the block is damaged.
pub damaged_all : (question : Question)
    → ((size : ℕ) → size < question.layout.parity + 1 → NoneTold question (reach_in question size) 0 size)
    → IsDamaged question
damaged_all question none choice bytes given =
    none (length choice) (omega (arith, given.choice_is.few)) choice bytes
    (pick_of question choice (length choice) refl given.choice_is) given.told

-- ---- answers

-- What two facts on an answer give, whatever the answer is.
pub ok_both : {A E : Type 0} {P Q R : A → Type 0} (result : Result A E) → ((a : A) → P a → Q a → R a)
    → IfOk result P → IfOk result Q → IfOk result R
ok_both (Ok a) both p q = both a p q
ok_both (Err e) both p q = tt

-- What two facts on a value that is there give.
pub some_both : {A : Type 0} (P Q : A → Type 0) (found : Option A) → IfSome found P → IfSome found Q
    → IfSome found (λ a. P a × Q a)
some_both P Q (Some a) p q = (p, q)
some_both P Q None p q = tt

pub none_also : {A : Type 0} {P Q : Type 0} (found : Option A) → (P → Q) → IfNone found P → IfNone found Q
none_also (Some a) also p = tt
none_also None also p = also p

pub some_at : {A : Type 0} (P : A → Type 0) (found : Option A) (a : A) → found ≡ Some a → IfSome found P → P a
some_at {A} P found a is p = subst (λ (o : Option A). IfSome o P) is p

pub none_at : {A : Type 0} (P : Type 0) (found : Option A) → found ≡ None → IfNone found P → P
none_at {A} P found is p = subst (λ (o : Option A). IfNone o P) is p
