-- What a look-up finds in entries that are in order.
use Rattle.std.proofs.Common.{◌≡◌, ◌≢◌, ℕ, suc, ◌+◌, ◌<◌, ◌≤◌, Bool, true, cond, eqb, List, [], ◌∷◌, ◌++◌, length, take}
use Rattle.std.proofs.Common.{drop, get_or, set, refl, sym, ◌∙◌, ap, subst, arith, ⊎_elim, None, Option, Some}
use Rattle.std.specs.Prelude.{All, insert, is_some, remove}
use Rattle.std.proofs.lemmas.Bool.{cases_lt, eq-eqb, ne_eqb}
use Rattle.std.proofs.lemmas.List.{drop_more, get_or_default, get_or-drop, length-drop, set_split}
use Rattle.std.proofs.lemmas.List.Elements.{All-head, All-tail}
use Rattle.block_record.specs.declared.entry.IndexEntry.{IndexEntry}
use Rattle.block_record.specs.Page.{IsIndex, IsRightEntry}
use Rattle.block_table.specs.Table.{ChangesOnly, entry_of, IsFound, IsInsertionPlace, IsMissing, IsPlaceOfId, IsThere}
use Rattle.block_table.proofs.Orders.{head_below, index_back, index_front, index_put, index_without}

-- Entries of other ids are passed over.
pub entry_past : (entry : IndexEntry) (entries : List IndexEntry) (id : ℕ) → entry.id ≢ id → entry_of (entry ∷ entries) id ≡ entry_of entries id
entry_past entry entries id other =
    ap (λ (b : Bool). cond b (Some entry) (entry_of entries id)) (ne_eqb entry.id id other)

pub entry_here : (entry : IndexEntry) (entries : List IndexEntry) (id : ℕ) → entry.id ≡ id → entry_of (entry ∷ entries) id ≡ Some entry
entry_here entry entries id same =
    ap (λ (b : Bool). cond b (Some entry) (entry_of entries id)) (eq-eqb entry.id id same)

past_front : (before behind : List IndexEntry) (id : ℕ) → All (λ e. e.id < id) before → entry_of (before ++ behind) id ≡ entry_of behind id
past_front [] behind id below = refl
past_front (entry ∷ before) behind id below =
    entry_past entry (before ++ behind) id (λ same. omega (arith, All-head (λ e. e.id < id) entry before below, same))
    ∙ past_front before behind id (All-tail (λ e. e.id < id) entry before below)

none_behind : (behind : List IndexEntry) (id : ℕ) → All (λ e. id < e.id) behind → entry_of behind id ≡ None
none_behind [] id above = refl
none_behind (entry ∷ behind) id above =
    entry_past entry behind id (λ same. omega (arith, All-head (λ e. id < e.id) entry behind above, same))
    ∙ none_behind behind id (All-tail (λ e. id < e.id) entry behind above)

-- Another id is found the same with an entry and without it.
others_same : (before behind : List IndexEntry) (entry : IndexEntry) (other : ℕ) → entry.id ≢ other
    → entry_of (before ++ entry ∷ behind) other ≡ entry_of (before ++ behind) other
others_same [] behind entry other apart = entry_past entry behind other apart
others_same (one ∷ before) behind entry other apart =
    ap (λ (o : Option IndexEntry). cond (eqb one.id other) (Some one) o) (others_same before behind entry other apart)

pub there_is : (entries : List IndexEntry) (place id : ℕ) (d : IndexEntry) → IsIndex entries
    → IsPlaceOfId entries (take place entries) (drop place entries) id → place < length entries → (get_or entries place d).id ≡ id
    → IsThere entries (take place entries) (drop (place + 1) entries) (get_or entries place d) id
there_is entries place id d index is inside same =
    let split : drop place entries ≡ get_or entries place d ∷ drop (place + 1) entries = drop_more entries place d inside in
    let tail : IsIndex (get_or entries place d ∷ drop (place + 1) entries) =
    subst (λ (es : List IndexEntry). IsIndex es) split
    (index_back (take place entries) (drop place entries) (subst (λ (es : List IndexEntry). IsIndex es) is.whole index)) in
    record {
      whole = is.whole ∙ ap (λ (es : List IndexEntry). take place entries ++ es) split;
      same = same;
      below = is.below;
      above = λ k e low. let up : (get_or entries place d).id < (get_or (drop (place + 1) entries) k e).id =
          head_below (get_or entries place d) (drop (place + 1) entries) tail k e low in omega (arith, up, same);
    }

gap_above : (behind : List IndexEntry) (id : ℕ) (d : IndexEntry) → IsIndex behind → All (λ e. id ≤ e.id) behind
    → (0 < length behind → (get_or behind 0 d).id ≢ id) → All (λ e. id < e.id) behind
gap_above [] id d index above apart = λ k e low. absurd (omega (arith, low))
gap_above (entry ∷ behind) id d index above apart = λ k e low.
    let least : id ≤ entry.id = above 0 entry (omega arith) in
    let first : id < entry.id = ⊎_elim (λ (less : id < entry.id). less)
    (λ (not_less : entry.id ≤ id). absurd (apart (omega arith) (omega (arith, least, not_less)))) (cases_lt id entry.id) in
    ⊎_elim
    (λ (here : k < 1). let zero_is : k ≡ 0 = omega (arith, here) in
    let same : get_or (entry ∷ behind) k e ≡ entry = ap (λ (n : ℕ). get_or (entry ∷ behind) n e) zero_is in
    omega (arith, first, ap (λ (x : IndexEntry). x.id) same))
    (λ (later : 1 ≤ k).
    let up : entry.id < (get_or (entry ∷ behind) k e).id = index.ascending 0 k e (omega (arith, later)) low in
    omega (arith, first, up))
    (cases_lt k 1)

pub gap_is : (entries : List IndexEntry) (place id : ℕ) (d : IndexEntry) → IsIndex entries
    → IsPlaceOfId entries (take place entries) (drop place entries) id → (place < length entries → (get_or entries place d).id ≢ id)
    → IsInsertionPlace entries (take place entries) (drop place entries) id
gap_is entries place id d index is apart = record {
  whole = is.whole;
  below = is.below;
  above = gap_above (drop place entries) id d
      (index_back (take place entries) (drop place entries) (subst (λ (es : List IndexEntry). IsIndex es) is.whole index)) is.above
      (λ some same. apart (omega (arith, some, length-drop place entries))
      (ap (λ (e : IndexEntry). e.id) (sym (get_or-drop place entries 0 d ∙ ap (λ (n : ℕ). get_or entries n d) (omega arith))) ∙ same));
}

-- What is found there,
pub found_there : (entries before behind : List IndexEntry) (entry : IndexEntry) (id : ℕ) → IsThere entries before behind entry id
    → entry_of entries id ≡ Some entry
found_there entries before behind entry id is =
    ap (λ (es : List IndexEntry). entry_of es id) is.whole ∙ past_front before (entry ∷ behind) id is.below ∙ entry_here entry behind id is.same

pub found_none : (entries before behind : List IndexEntry) (id : ℕ) → IsInsertionPlace entries before behind id → entry_of entries id ≡ None
found_none entries before behind id is =
    ap (λ (es : List IndexEntry). entry_of es id) is.whole ∙ past_front before behind id is.below ∙ none_behind behind id is.above

-- and what a change leaves: another entry in its place,
pub replaced : (entries before behind new : List IndexEntry) (was entry : IndexEntry) → IsIndex entries → IsRightEntry entry
    → IsThere entries before behind was entry.id → new ≡ before ++ entry ∷ behind
    → IsIndex new × ChangesOnly entries new entry.id (Some entry)
replaced entries before behind new was entry index right is now =
    let whole : IsIndex (before ++ was ∷ behind) = subst (λ (es : List IndexEntry). IsIndex es) is.whole index in
    let put : IsIndex (before ++ entry ∷ behind) = index_put before behind entry (index_front before (was ∷ behind) whole)
    (index_back (was ∷ []) behind (index_back before (was ∷ behind) whole)) right is.below is.above in (
      subst (λ (es : List IndexEntry). IsIndex es) (sym now) put,
      record {
        there = ap (λ (es : List IndexEntry). entry_of es entry.id) now ∙ past_front before (entry ∷ behind) entry.id is.below
            ∙ entry_here entry behind entry.id refl;
        others = λ other apart. ap (λ (es : List IndexEntry). entry_of es other) now
            ∙ others_same before behind entry other (λ same. apart (sym same))
            ∙ sym (others_same before behind was other (λ same. apart (sym same ∙ is.same)))
            ∙ ap (λ (es : List IndexEntry). entry_of es other) (sym is.whole);
      },
    )

-- an entry in the gap,
pub inserted : (entries before behind new : List IndexEntry) (entry : IndexEntry) → IsIndex entries → IsRightEntry entry
    → IsInsertionPlace entries before behind entry.id → new ≡ before ++ entry ∷ behind
    → IsIndex new × ChangesOnly entries new entry.id (Some entry)
inserted entries before behind new entry index right is now =
    let whole : IsIndex (before ++ behind) = subst (λ (es : List IndexEntry). IsIndex es) is.whole index in
    let put : IsIndex (before ++ entry ∷ behind) =
    index_put before behind entry (index_front before behind whole) (index_back before behind whole) right is.below is.above in (
      subst (λ (es : List IndexEntry). IsIndex es) (sym now) put,
      record {
        there = ap (λ (es : List IndexEntry). entry_of es entry.id) now ∙ past_front before (entry ∷ behind) entry.id is.below
            ∙ entry_here entry behind entry.id refl;
        others = λ other apart. ap (λ (es : List IndexEntry). entry_of es other) now
            ∙ others_same before behind entry other (λ same. apart (sym same))
            ∙ ap (λ (es : List IndexEntry). entry_of es other) (sym is.whole);
      },
    )

-- or none.
pub removed : (entries before behind new : List IndexEntry) (was : IndexEntry) (id : ℕ) → IsIndex entries
    → IsThere entries before behind was id → new ≡ before ++ behind → IsIndex new × ChangesOnly entries new id None
removed entries before behind new was id index is now =
    let whole : IsIndex (before ++ was ∷ behind) = subst (λ (es : List IndexEntry). IsIndex es) is.whole index in
    let below : All (λ e. e.id < was.id) before = λ k d low. omega (arith, is.below k d low, is.same) in
    let above : All (λ e. was.id < e.id) behind = λ k d low. omega (arith, is.above k d low, is.same) in (
      subst (λ (es : List IndexEntry). IsIndex es) (sym now) (index_without before behind was whole below above),
      record {
        there = ap (λ (es : List IndexEntry). entry_of es id) now ∙ past_front before behind id is.below ∙ none_behind behind id is.above;
        others = λ other apart. ap (λ (es : List IndexEntry). entry_of es other) now
            ∙ sym (others_same before behind was other (λ same. apart (sym same ∙ is.same)))
            ∙ ap (λ (es : List IndexEntry). entry_of es other) (sym is.whole);
      },
    )

-- Nothing changes where nothing stood.
pub unchanged : (entries : List IndexEntry) (id : ℕ) → entry_of entries id ≡ None → ChangesOnly entries entries id None
unchanged entries id none = record { there = none; others = λ other apart. refl }

-- What a search tells.
pub search_found : (entries : List IndexEntry) (place id : ℕ) (d : IndexEntry) → IsIndex entries
    → IsPlaceOfId entries (take place entries) (drop place entries) id → place < length entries → (get_or entries place d).id ≡ id
    → IsFound entries id place
search_found entries place id d index is inside same = record {
  inside = inside;
  there = λ e. there_is entries place id e index is inside
      (ap (λ (x : IndexEntry). x.id) (get_or_default entries place e d inside) ∙ same);
}

pub search_past : (entries : List IndexEntry) (place id : ℕ) (d : IndexEntry) → IsIndex entries
    → IsPlaceOfId entries (take place entries) (drop place entries) id → place ≤ length entries
    → (place < length entries → (get_or entries place d).id ≢ id) → IsMissing entries id place
search_past entries place id d index is inside apart = record { inside = inside; gap = gap_is entries place id d index is apart }

-- The same by what the code calls on: `shown` is the slice that was searched.
pub found_at : (entries shown : List IndexEntry) (id place : ℕ) (entry : IndexEntry) → shown ≡ entries → IsFound shown id place
    → entry ≡ get_or entries place entry → Some entry ≡ entry_of entries id
found_at entries shown id place entry same is read =
    let found : IsFound entries id place = subst (λ (es : List IndexEntry). IsFound es id place) same is in
    ap (λ (e : IndexEntry). Some e) read ∙ sym (found_there entries (take place entries) (drop (place + 1) entries) (get_or entries place entry) id (found.there entry))

pub missing_at : (entries shown : List IndexEntry) (id place : ℕ) → shown ≡ entries → IsMissing shown id place → None ≡ entry_of entries id
missing_at entries shown id place same is =
    let missing : IsMissing entries id place = subst (λ (es : List IndexEntry). IsMissing es id place) same is in
    sym (found_none entries (take place entries) (drop place entries) id missing.gap)

pub put_found : (entries shown : List IndexEntry) (place : ℕ) (entry : IndexEntry) → shown ≡ entries → IsFound shown entry.id place
    → IsIndex entries → IsRightEntry entry → IsIndex (set entries place entry) × ChangesOnly entries (set entries place entry) entry.id (Some entry)
put_found entries shown place entry same is index right =
    let found : IsFound entries entry.id place = subst (λ (es : List IndexEntry). IsFound es entry.id place) same is in
    let next : suc place ≡ place + 1 = omega arith in
    let split : set entries place entry ≡ take place entries ++ entry ∷ drop (place + 1) entries =
    set_split entries place entry found.inside ∙ ap (λ (n : ℕ). take place entries ++ entry ∷ drop n entries) next in
    replaced entries (take place entries) (drop (place + 1) entries) (set entries place entry) (get_or entries place entry) entry index right
    (found.there entry) split

pub put_missing : (entries shown new : List IndexEntry) (place : ℕ) (entry : IndexEntry) → shown ≡ entries → IsMissing shown entry.id place
    → IsIndex entries → IsRightEntry entry → new ≡ insert entries place entry → IsIndex new × ChangesOnly entries new entry.id (Some entry)
put_missing entries shown new place entry same is index right now =
    let missing : IsMissing entries entry.id place = subst (λ (es : List IndexEntry). IsMissing es entry.id place) same is in
    inserted entries (take place entries) (drop place entries) new entry index right missing.gap now

pub remove_found : (entries shown new : List IndexEntry) (id place : ℕ) (d : IndexEntry) → shown ≡ entries → IsFound shown id place
    → IsIndex entries → new ≡ remove entries place → IsIndex new × ChangesOnly entries new id None
remove_found entries shown new id place d same is index now =
    let found : IsFound entries id place = subst (λ (es : List IndexEntry). IsFound es id place) same is in
    let next : suc place ≡ place + 1 = omega arith in
    removed entries (take place entries) (drop (place + 1) entries) new (get_or entries place d) id index (found.there d)
    (now ∙ ap (λ (n : ℕ). take place entries ++ drop n entries) next)

pub remove_missing : (entries shown : List IndexEntry) (id place : ℕ) → shown ≡ entries → IsMissing shown id place → ChangesOnly entries entries id None
remove_missing entries shown id place same is = unchanged entries id (sym (missing_at entries shown id place same is))

pub found_read : (entries : List IndexEntry) (id place : ℕ) (d : IndexEntry) → IsFound entries id place
    → Some (get_or entries place d) ≡ entry_of entries id
found_read entries id place d found =
    sym (found_there entries (take place entries) (drop (place + 1) entries) (get_or entries place d) id (found.there d))

pub found_held : (entries : List IndexEntry) (id place : ℕ) → IsFound entries id place → true ≡ is_some (entry_of entries id)
found_held [] id place found = absurd (omega (arith, found.inside))
found_held (entry ∷ entries) id place found =
    ap (λ (o : Option IndexEntry). is_some o) (found_read (entry ∷ entries) id place entry found)
