-- Entries in the order of their ids, in two parts.
use Rattle.std.proofs.Common.{◌≡◌, ℕ, suc, ◌+◌, ◌-◌, ◌<◌, ◌≤◌, true, false, ltb, List, [], ◌∷◌, ◌++◌, length, take}
use Rattle.std.proofs.Common.{drop, get_or, refl, sym, ap, subst, arith, ⊎_elim, length-append}
use Rattle.std.specs.Prelude.{All}
use Rattle.std.specs.List.Sorted.{IsNonDecreasingBy, IsPartitionPoint}
use Rattle.std.proofs.lemmas.Bool.{cases_lt, ltb-false, ltb-true}
use Rattle.std.proofs.lemmas.List.{get_or_append_left, get_or-append-add, get_or-append_right, get_or_default}
use Rattle.std.proofs.lemmas.List.{get_or-drop, get_or-take, length-drop, length-take-le, take-append-drop}
use Rattle.std.proofs.lemmas.List.Elements.{All-append, All-cons, All-nil}
use Rattle.block_record.specs.declared.entry.IndexEntry.{IndexEntry}
use Rattle.block_record.specs.Page.{IsIndex, IsRightEntry}
use Rattle.block_table.specs.Table.{IsPlaceOfId}

-- One entry is before another.
abbrev pub IsBefore : IndexEntry → IndexEntry → Type 0
IsBefore one later = one.id < later.id

all_front : (P : IndexEntry → Type 0) (xs ys : List IndexEntry) → All P (xs ++ ys) → All P xs
all_front P xs ys all k d low =
    subst P (get_or_append_left xs ys d k low) (all k d (omega (arith, low, length-append xs ys)))

all_back : (P : IndexEntry → Type 0) (xs ys : List IndexEntry) → All P (xs ++ ys) → All P ys
all_back P xs ys all k d low =
    subst P (get_or-append-add xs ys k d) (all (length xs + k) d (omega (arith, low, length-append xs ys)))

-- Each part of an index is one,
pub index_front : (xs ys : List IndexEntry) → IsIndex (xs ++ ys) → IsIndex xs
index_front xs ys index = record {
  each = all_front IsRightEntry xs ys index.each;
  ascending = λ i j d before inside.
      let one : get_or (xs ++ ys) i d ≡ get_or xs i d = get_or_append_left xs ys d i (omega (arith, before, inside)) in
      let two : get_or (xs ++ ys) j d ≡ get_or xs j d = get_or_append_left xs ys d j inside in
      let less : (get_or (xs ++ ys) i d).id < (get_or (xs ++ ys) j d).id =
      index.ascending i j d before (omega (arith, inside, length-append xs ys)) in
      omega (arith, less, ap (λ (e : IndexEntry). e.id) one, ap (λ (e : IndexEntry). e.id) two);
}

pub index_back : (xs ys : List IndexEntry) → IsIndex (xs ++ ys) → IsIndex ys
index_back xs ys index = record {
  each = all_back IsRightEntry xs ys index.each;
  ascending = λ i j d before inside.
      let one : get_or (xs ++ ys) (length xs + i) d ≡ get_or ys i d = get_or-append-add xs ys i d in
      let two : get_or (xs ++ ys) (length xs + j) d ≡ get_or ys j d = get_or-append-add xs ys j d in
      let less : (get_or (xs ++ ys) (length xs + i) d).id < (get_or (xs ++ ys) (length xs + j) d).id =
      index.ascending (length xs + i) (length xs + j) d (omega (arith, before)) (omega (arith, inside, length-append xs ys)) in
      omega (arith, less, ap (λ (e : IndexEntry). e.id) one, ap (λ (e : IndexEntry). e.id) two);
}

-- and two of which the first is before the second are one.
pub index_append : (xs ys : List IndexEntry) → IsIndex xs → IsIndex ys → All (λ x. All (λ y. x.id < y.id) ys) xs → IsIndex (xs ++ ys)
index_append xs ys first second apart = record {
  each = All-append IsRightEntry xs ys first.each second.each;
  ascending = λ i j d before inside. ⊎_elim
      (λ (j_low : j < length xs).
      let one : get_or (xs ++ ys) i d ≡ get_or xs i d = get_or_append_left xs ys d i (omega (arith, before, j_low)) in
      let two : get_or (xs ++ ys) j d ≡ get_or xs j d = get_or_append_left xs ys d j j_low in
      let less : (get_or xs i d).id < (get_or xs j d).id = first.ascending i j d before j_low in
      omega (arith, less, ap (λ (e : IndexEntry). e.id) one, ap (λ (e : IndexEntry). e.id) two))
      (λ (j_high : length xs ≤ j).
      let two : get_or (xs ++ ys) j d ≡ get_or ys (j - length xs) d = get_or-append_right xs ys (length xs) j d refl j_high in
      let j_in : j - length xs < length ys = omega (arith, inside, j_high, length-append xs ys) in
      ⊎_elim
      (λ (i_low : i < length xs).
      let one : get_or (xs ++ ys) i d ≡ get_or xs i d = get_or_append_left xs ys d i i_low in
      let less : (get_or xs i d).id < (get_or ys (j - length xs) d).id = apart i d i_low (j - length xs) d j_in in
      omega (arith, less, ap (λ (e : IndexEntry). e.id) one, ap (λ (e : IndexEntry). e.id) two))
      (λ (i_high : length xs ≤ i).
      let one : get_or (xs ++ ys) i d ≡ get_or ys (i - length xs) d = get_or-append_right xs ys (length xs) i d refl i_high in
      let less : (get_or ys (i - length xs) d).id < (get_or ys (j - length xs) d).id =
      second.ascending (i - length xs) (j - length xs) d (omega (arith, before, i_high)) j_in in
      omega (arith, less, ap (λ (e : IndexEntry). e.id) one, ap (λ (e : IndexEntry). e.id) two))
      (cases_lt i (length xs)))
      (cases_lt j (length xs));
}

pub index_one : (entry : IndexEntry) → IsRightEntry entry → IsIndex (entry ∷ [])
index_one entry right = record {
  each = All-cons IsRightEntry entry [] right (All-nil IsRightEntry);
  ascending = λ i j d before inside. absurd (omega (arith, before, inside));
}

-- An entry between those before it and those behind it.
pub index_put : (before behind : List IndexEntry) (entry : IndexEntry) → IsIndex before → IsIndex behind → IsRightEntry entry
    → All (λ e. e.id < entry.id) before → All (λ e. entry.id < e.id) behind → IsIndex (before ++ entry ∷ behind)
index_put before behind entry first second right below above =
    let rest : IsIndex (entry ∷ behind) = index_append (entry ∷ []) behind (index_one entry right) second
    (All-cons (λ x. All (λ y. x.id < y.id) behind) entry [] above (All-nil (λ x. All (λ y. x.id < y.id) behind))) in
    index_append before (entry ∷ behind) first rest (λ k d low.
    All-cons (λ y. (get_or before k d).id < y.id) entry behind (below k d low) (λ j e inside.
    let less : (get_or before k d).id < entry.id = below k d low in
    let more : entry.id < (get_or behind j e).id = above j e inside in
    omega (arith, less, more)))

-- Without one entry the others are in order.
pub index_without : (before behind : List IndexEntry) (entry : IndexEntry) → IsIndex (before ++ entry ∷ behind)
    → All (λ e. e.id < entry.id) before → All (λ e. entry.id < e.id) behind → IsIndex (before ++ behind)
index_without before behind entry index below above =
    index_append before behind (index_front before (entry ∷ behind) index)
    (index_back (entry ∷ []) behind (index_back before (entry ∷ behind) index))
    (λ k d low j e inside.
    let less : (get_or before k d).id < entry.id = below k d low in
    let more : entry.id < (get_or behind j e).id = above j e inside in
    omega (arith, less, more))

-- The first of an index is below all others.
pub head_below : (entry : IndexEntry) (behind : List IndexEntry) → IsIndex (entry ∷ behind) → All (λ e. entry.id < e.id) behind
head_below entry behind index k d low =
    let next : k + 1 ≡ suc k = omega arith in
    let up : entry.id < (get_or (entry ∷ behind) (k + 1) d).id = index.ascending 0 (k + 1) d (omega arith) (omega (arith, low)) in
    let same : get_or (entry ∷ behind) (k + 1) d ≡ get_or behind k d = ap (λ (n : ℕ). get_or (entry ∷ behind) n d) next in
    omega (arith, up, ap (λ (e : IndexEntry). e.id) same)

-- No entry is below an earlier one.
pub index_rises : (entries : List IndexEntry) → IsIndex entries → IsNonDecreasingBy (λ (e : IndexEntry). e.id) entries
index_rises entries index i j d order inside = ⊎_elim
    (λ (before : i < j). let up : (get_or entries i d).id < (get_or entries j d).id = index.ascending i j d before inside in omega (arith, up))
    (λ (from : j ≤ i). let one : i ≡ j = omega (arith, order, from) in
    let same = ap (λ (n : ℕ). (get_or entries n d).id) one in omega (arith, same))
    (cases_lt i j)

-- All entries before a place are below the id, and none from there on is.
pub record ArePartedAt (entries : List IndexEntry) (id place : ℕ) : Type 0 where
  pub inside : place ≤ length entries
  pub below : (k : ℕ) (d : IndexEntry) → k < place → (get_or entries k d).id < id
  pub above : (k : ℕ) (d : IndexEntry) → place ≤ k → k < length entries → id ≤ (get_or entries k d).id

-- So says a search by halves,
pub parted_halved : (entries : List IndexEntry) (id place : ℕ) → place ≤ length entries
    → IsPartitionPoint (λ (e : IndexEntry). ltb e.id id ≡ true) (λ (e : IndexEntry). ltb e.id id ≡ false) entries place
    → ArePartedAt entries id place
parted_halved entries id place inside point = record {
  inside = inside;
  below = λ k d low. ltb-true _ _ (point.0 k d (omega arith) low);
  above = λ k d from within. ltb-false _ _ (point.1 k d from within);
}

-- and so do the two entries beside the place.
pub parted_here : (entries : List IndexEntry) (id place : ℕ) (none : IndexEntry) → IsIndex entries → place ≤ length entries
    → (0 < place → (get_or entries (place - 1) none).id < id) → (place < length entries → id ≤ (get_or entries place none).id)
    → ArePartedAt entries id place
parted_here entries id place none index inside last first = record {
  inside = inside;
  below = λ k d low.
      let up = index_rises entries index k (place - 1) none (omega (arith, low)) (omega (arith, low, inside)) in
      let less = last (omega (arith, low)) in
      let same = ap (λ (e : IndexEntry). e.id) (get_or_default entries k d none (omega (arith, low, inside))) in
      omega (arith, up, less, same);
  above = λ k d from within.
      let up = index_rises entries index place k none from within in
      let least = first (omega (arith, from, within)) in
      let same = ap (λ (e : IndexEntry). e.id) (get_or_default entries k d none within) in
      omega (arith, up, least, same);
}

pub place_found : (entries : List IndexEntry) (id place : ℕ) → ArePartedAt entries id place
    → IsPlaceOfId entries (take place entries) (drop place entries) id
place_found entries id place is = record {
  whole = sym (take-append-drop place entries);
  below = λ k d inside.
      let counted : length (take place entries) ≡ place = length-take-le place entries is.inside in
      let same : get_or (take place entries) k d ≡ get_or entries k d = get_or-take place entries k d (omega (arith, inside, counted)) in
      let less : (get_or entries k d).id < id = is.below k d (omega (arith, inside, counted)) in
      omega (arith, less, ap (λ (e : IndexEntry). e.id) same);
  above = λ k d inside.
      let counted : length (drop place entries) ≡ length entries - place = length-drop place entries in
      let same : get_or (drop place entries) k d ≡ get_or entries (place + k) d = get_or-drop place entries k d in
      let more : id ≤ (get_or entries (place + k) d).id = is.above (place + k) d (omega arith) (omega (arith, inside, counted)) in
      omega (arith, more, ap (λ (e : IndexEntry). e.id) same);
}
