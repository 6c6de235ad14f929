-- A table of entries, as one more is added.
use Rattle.std.proofs.Common.{◌≡◌, ℕ, ◌<◌, ◌≤◌, ◌+◌, ◌-◌, suc, List, [], ◌∷◌, ◌++◌, length, take, drop, set, get_or}
use Rattle.std.proofs.Common.{refl, sym, ◌∙◌, arith, ap, subst, append_assoc, length-append}
use Rattle.std.specs.Prelude.{replicate}
use Rattle.std.proofs.lemmas.List.{length-replicate, length_push, take_more_set, drop-replicate, get_or-take}
use Rattle.std.proofs.Math.Seq.{set-append_seam, take-append_seam}
use Rattle.width_map.specs.declared.birth.Birth.{Birth}
use Rattle.width_map.specs.Births.{last_width_from, last_width, births_after, BirthsFit}
use Rattle.width_map.specs.Table.{unused, padded, IsBirthTable}

-- A table always has 16 places.
length-padded : (births : List Birth) → length births ≤ 16 → length (padded births) ≡ 16
length-padded births room = omega (arith, room, length-append births (replicate (16 - length births) unused), length-replicate (16 - length births) unused)

-- One more entry stands in the first place that isn't used.
padded_more : (births : List Birth) (next : Birth) → length births < 16 → set (padded births) (length births) next ≡ padded (births ++ next ∷ [])
padded_more births next room =
    let left : 16 - length births ≡ suc (15 - length births) = omega (arith, room) in
    let still : 16 - length (births ++ next ∷ []) ≡ 15 - length births = omega (arith, length_push births next) in
    rw left (set-append_seam births unused (replicate (15 - length births) unused) next ∙ (rw still (sym (append_assoc births (next ∷ []) (replicate (15 - length births) unused)))))

-- All that a table has comes from its entries.
table_of_entries : (births : List Birth) (entries : List Birth) → 0 < length births → length births ≤ 16 → entries ≡ padded births
    → IsBirthTable entries (length births)
table_of_entries births entries some room same =
    let front : take (length births) entries ≡ births = ap (λ (e : List Birth). take (length births) e) same ∙ take-append_seam births (replicate (16 - length births) unused) in
    record { some = some; room = room; counted = ap length front; padded = ap padded front ∙ sym same }

-- The entries of a table, and one more.
pub entries_more : (entries : List Birth) (used : ℕ) (next : Birth) → IsBirthTable entries used → used < 16
    → take (used + 1) (set entries used next) ≡ take used entries ++ next ∷ []
entries_more entries used next is room =
    let all : length entries ≡ 16 = ap length (sym is.padded) ∙ length-padded (take used entries) (omega (arith, is.counted, is.room)) in
    take_more_set entries used next (omega (arith, all, room))

-- One more entry makes a table.
pub table_more : (entries : List Birth) (used : ℕ) (next : Birth) → IsBirthTable entries used → used < 16 → IsBirthTable (set entries used next) (used + 1)
table_more entries used next is room =
    let more : length (take used entries ++ next ∷ []) ≡ used + 1 = omega (arith, length_push (take used entries) next, is.counted) in
    let same : set entries used next ≡ padded (take used entries ++ next ∷ []) =
    subst (λ (e : List Birth). set e used next ≡ padded (take used entries ++ next ∷ [])) is.padded
    (subst (λ (n : ℕ). set (padded (take used entries)) n next ≡ padded (take used entries ++ next ∷ [])) is.counted
    (padded_more (take used entries) next (omega (arith, is.counted, room)))) in
    subst (λ (n : ℕ). IsBirthTable (set entries used next) n) more
    (table_of_entries (take used entries ++ next ∷ []) (set entries used next) (omega (arith, more)) (omega (arith, more, room)) same)

-- Entries that are written over the first blank places make a table.
pub table_written : (births : List Birth) → BirthsFit births → IsBirthTable (births ++ drop (length births) (replicate 16 unused)) (length births)
table_written births fits =
    table_of_entries births _ fits.0 fits.1 (ap (λ (rest : List Birth). births ++ rest) (drop-replicate (length births) 16 unused))

-- The last entry has the last width.
last_from : (width : ℕ) (entry : Birth) (births : List Birth) → (get_or (entry ∷ births) (length births) unused).width ≡ last_width_from width (entry ∷ births)
last_from width entry [] = refl
last_from width entry (next ∷ births) = last_from entry.width next births

-- The last entry of a table has the last width.
pub last_in_table : (entries : List Birth) (used : ℕ) → IsBirthTable entries used
    → (get_or entries (used - 1) unused).width ≡ last_width (take used entries)
last_in_table entries used is =
    let read : get_or (take used entries) (used - 1) unused ≡ get_or entries (used - 1) unused = get_or-take used entries (used - 1) unused (omega (arith, is.some)) in
    ap (λ (b : Birth). b.width) (sym read) ∙ of_last (take used entries) used is.counted is.some
  where
    of_last : (births : List Birth) (n : ℕ) → length births ≡ n → 0 < n → (get_or births (n - 1) unused).width ≡ last_width births
    of_last [] n count some = absurd (omega (arith, count, some))
    of_last (entry ∷ births) n count some = let at : n - 1 ≡ length births = omega (arith, count) in
        ap (λ (k : ℕ). (get_or (entry ∷ births) k unused).width) at ∙ last_from 0 entry births

-- what is added to a table when an expansion ended in a group
abbrev pub next_of : List Birth → ℕ → ℕ → Birth
next_of entries used group = record { group = group + 2; width = (get_or entries (used - 1) unused).width + 1 }

-- A table of births has room where they are few.
pub has_place : (entries : List Birth) (used : ℕ) (births : List Birth) → IsBirthTable entries used → take used entries ≡ births
    → length births < 16 → used < 16
has_place entries used births is same room = omega (arith, is.counted, ap length same, room)

-- Its last width fits where the births' does.
pub last_fits : (entries : List Birth) (used : ℕ) (births : List Birth) → IsBirthTable entries used → take used entries ≡ births
    → last_width births < 16 → (get_or entries (used - 1) unused).width < 16
last_fits entries used births is same narrow = omega (arith, last_in_table entries used is, ap last_width same, narrow)

-- The table then has the births after that group.
pub added : (entries : List Birth) (used : ℕ) (births : List Birth) (group : ℕ) → IsBirthTable entries used → take used entries ≡ births
    → length births < 16 → take (used + 1) (set entries used (next_of entries used group)) ≡ births_after births group
added entries used births group is same room =
    let wider : (get_or entries (used - 1) unused).width + 1 ≡ last_width births + 1 = omega (arith, last_in_table entries used is, ap last_width same) in
    entries_more entries used (next_of entries used group) is (has_place entries used births is same room)
    ∙ ap (λ (width : ℕ). take used entries ++ record { group = group + 2; width = width } ∷ []) wider
    ∙ ap (λ (front : List Birth). front ++ record { group = group + 2; width = last_width births + 1 } ∷ []) same
