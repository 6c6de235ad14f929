-- A table into which the entries of an index are put, one after the other, has that index.
use Rattle.std.proofs.Common.{◌≡◌, ◌≢◌, ℕ, suc, ◌+◌, ◌<◌, ◌≤◌, List, [], ◌∷◌, ◌++◌, Bool, true, false, length, take}
use Rattle.std.proofs.Common.{drop, get_or, refl, sym, ◌∙◌, ap, subst, arith, ⊎_elim, Some, None, if◌then◌else◌, ◌==◌}
use Rattle.std.specs.Prelude.{All, Contains, Option, is_some, nat_eq}
use Rattle.std.specs.Set.{distinct_count}
use Rattle.std.specs.Option.{option_or}
use Rattle.std.proofs.lemmas.Bool.{cases_eq, eq-eqb}
use Rattle.std.proofs.lemmas.List.{take_more, take-append-drop, length-take-le}
use Rattle.std.proofs.lemmas.List.Elements.{All-contains, Contains-push}
use Rattle.std.proofs.lemmas.List.Folds.{find-append}
use Rattle.block_record.specs.declared.entry.IndexEntry.{IndexEntry}
use Rattle.block_record.specs.Page.{IsIndex}
use Rattle.block_table.specs.Table.{Table, ChangesOnly, IsFull, entry_of, ids_in_use, ids_of, without_one}
use Rattle.block_table.proofs.Counts.{count_of_ids, count_within, held_is}
use Rattle.block_table.proofs.Lookups.{entry_here, entry_past}
use Rattle.block_table.proofs.Orders.{index_front}
use Rattle.core_blocks.specs.Loading.{FindSame}
use Rattle.core_blocks.proofs.Lists.{listed_cases}
use Rattle.core_blocks.proofs.Listed.{among_listed, found_among, index_first, index_rest}

-- The table has the first entries, and no reservation.
pub record IsLoadedTo (entries : List IndexEntry) (index : ℕ) (table : Table) : Type 0 where
  pub same : FindSame table.entries (take index entries)
  pub none : table.reserved ≡ []

first_index : (entries : List IndexEntry) (index : ℕ) → IsIndex entries
    → IsIndex (take index entries)
first_index entries index is = index_front (take index entries) (drop index entries)
    (subst IsIndex (sym (take-append-drop index entries)) is)

-- Of few entries not all have made the table full.
pub has_room : (entries : List IndexEntry) (index id : ℕ) (table : Table) → IsIndex entries
    → length entries ≤ 512 → index < length entries → IsLoadedTo entries index table
    → IsFull table id → ⊥
unfolding ids_in_use
has_room entries index id table is few within loaded full =
    let known : distinct_count nat_eq (ids_of table.entries) ≡ 512 =
    subst (λ (ids : List ℕ). distinct_count nat_eq (ids ++ ids_of table.entries) ≡ 512) loaded.none
    full.all_used in
    let most : distinct_count nat_eq (ids_of table.entries)
    ≤ distinct_count nat_eq (ids_of (take index entries)) =
    count_within (ids_of table.entries) (ids_of (take index entries)) (λ other there.
    sym (held_is (take index entries) other)
    ∙ ap (λ (o : Option IndexEntry). is_some o) (sym (loaded.same other))
    ∙ held_is table.entries other ∙ there) in
    let counted : distinct_count nat_eq (ids_of (take index entries))
    ≡ length (take index entries) =
    count_of_ids (take index entries) (first_index entries index is) in
    omega (
      arith,
      known,
      most,
      counted,
      length-take-le index entries (omega (arith, within)),
      within,
      few,
    )

or_none : (found : Option IndexEntry) → option_or found None ≡ found
or_none None = refl
or_none (Some entry) = refl

-- An entry at the end is found by no other id.
last_past : (entries : List IndexEntry) (entry : IndexEntry) (id : ℕ) → entry.id ≢ id
    → entry_of (entries ++ entry ∷ []) id ≡ entry_of entries id
last_past entries entry id apart =
    find-append (λ (e : IndexEntry). e.id == id) entries (entry ∷ [])
    ∙ ap (λ (o : Option IndexEntry). option_or (entry_of entries id) o)
    (entry_past entry [] id apart)
    ∙ or_none (entry_of entries id)

ended_alone : (id : ℕ) → without_one id (id ∷ []) ≡ []
ended_alone id = alone (id == id) (eq-eqb id id refl)
  where
    alone : (same : Bool) → same ≡ true → (if same then [] else id ∷ []) ≡ []
    alone true is = refl
    alone false is = cc

-- One entry more is put.
pub loaded_more : (entries : List IndexEntry) (index : ℕ) (entry d : IndexEntry)
    (table reserving newer : Table) → IsIndex entries → index < length entries
    → entry ≡ get_or entries index d → IsLoadedTo entries index table
    → reserving.entries ≡ table.entries → reserving.reserved ≡ table.reserved ++ entry.id ∷ []
    → ChangesOnly reserving.entries newer.entries entry.id (Some entry)
    → newer.reserved ≡ without_one entry.id reserving.reserved
    → IsLoadedTo entries (index + 1) newer
loaded_more entries index entry d table reserving newer is within here loaded same made change
    ended =
    let grown : take (index + 1) entries ≡ take index entries ++ entry ∷ [] =
    take_more entries index d within
    ∙ ap (λ (e : IndexEntry). take index entries ++ e ∷ []) (sym here) in
    let last : Contains (take (index + 1) entries) entry =
    subst (λ (l : List IndexEntry). Contains l entry) (sym grown)
    (Contains-push (take index entries) entry) in
    record {
      same = λ id. ⊎_elim
          (λ equal. ap (λ (n : ℕ). entry_of newer.entries n) (sym equal) ∙ change.there
          ∙ sym (among_listed (take (index + 1) entries) entry
          (first_index entries (index + 1) is) last)
          ∙ ap (λ (n : ℕ). entry_of (take (index + 1) entries) n) equal)
          (λ apart. change.others id (λ equal. apart (sym equal))
          ∙ ap (λ (l : List IndexEntry). entry_of l id) same ∙ loaded.same id
          ∙ sym (last_past (take index entries) entry id apart)
          ∙ ap (λ (l : List IndexEntry). entry_of l id) (sym grown))
          (cases_eq entry.id id);
      none = ended ∙ ap (λ (ids : List ℕ). without_one entry.id ids)
          (made ∙ ap (λ (ids : List ℕ). ids ++ entry.id ∷ []) loaded.none)
          ∙ ended_alone entry.id;
    }

-- No entry behind has this id.
none_above : (entries : List IndexEntry) (id : ℕ) → All (λ e. id < e.id) entries
    → entry_of entries id ≡ None
none_above [] id above = refl
none_above (first ∷ entries) id above =
    let here : id < first.id = above 0 first (omega arith) in
    entry_past first entries id (λ same. omega (arith, here, same))
    ∙ none_above entries id (λ k d within. above (suc k) d (omega (arith, within)))

-- The first entry of one index is the first of another in which look-ups find the same.
first_same : (one other : IndexEntry) (ones others : List IndexEntry) → IsIndex (one ∷ ones)
    → IsIndex (other ∷ others) → FindSame (one ∷ ones) (other ∷ others) → one ≡ other
first_same one other ones others index indexed same =
    let there : entry_of (other ∷ others) one.id ≡ Some one =
    sym (same one.id) ∙ entry_here one ones one.id refl in
    let here : entry_of (one ∷ ones) other.id ≡ Some other =
    same other.id ∙ entry_here other others other.id refl in
    ⊎_elim (λ is. sym is)
    (λ behind. ⊎_elim (λ is. is)
    (λ also. absurd (omega (
      arith,
      All-contains (λ e. other.id < e.id) others one (index_first other others indexed) behind,
      All-contains (λ e. one.id < e.id) ones other (index_first one ones index) also,
    )))
    (listed_cases one other ones (found_among (one ∷ ones) other.id other here)))
    (listed_cases other one others (found_among (other ∷ others) one.id one there))

-- Look-ups tell one index from another.
pub same_index : (entries others : List IndexEntry) → IsIndex entries → IsIndex others
    → FindSame entries others → entries ≡ others
same_index [] [] index indexed same = refl
same_index [] (other ∷ others) index indexed same =
    let never : None ≡ Some other = same other.id ∙ entry_here other others other.id refl in
    absurd (cc)
same_index (one ∷ ones) [] index indexed same =
    let never : Some one ≡ None = sym (entry_here one ones one.id refl) ∙ same one.id in absurd (cc)
same_index (one ∷ ones) (other ∷ others) index indexed same =
    let first = first_same one other ones others index indexed same in
    let rest : FindSame ones others = λ id. ⊎_elim
    (λ equal. none_above ones id (subst (λ (n : ℕ). All (λ e. n < e.id) ones) equal
    (index_first one ones index))
    ∙ sym (none_above others id (subst (λ (n : ℕ). All (λ e. n < e.id) others)
    (ap (λ (e : IndexEntry). e.id) (sym first) ∙ equal) (index_first other others indexed))))
    (λ apart. sym (entry_past one ones id apart) ∙ same id
    ∙ entry_past other others id (λ is. apart (ap (λ (e : IndexEntry). e.id) first ∙ is)))
    (cases_eq one.id id) in
    let tails : ones ≡ others = same_index ones others (index_rest one ones index)
    (index_rest other others indexed) rest in
    ap (λ (e : IndexEntry). e ∷ ones) first ∙ ap (λ (l : List IndexEntry). other ∷ l) tails
