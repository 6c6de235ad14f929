-- How many ids are reserved or held, and that puts, ends of reservations and removals make them no more.
use Rattle.std.proofs.Common.{◌≡◌, ◌≢◌, ◌⊎◌, ℕ, ◌+◌, ◌<◌, ◌≤◌, Bool, true, false, cond, List, [], ◌∷◌, ◌++◌, length}
use Rattle.std.proofs.Common.{drop, get_or, refl, sym, ◌∙◌, ap, arith, ⊎_elim, inl, inr, None, Option, Some}
use Rattle.std.specs.Prelude.{All, is_some, nat_eq, ◌||◌}
use Rattle.std.specs.Cmp.{nat_eq_equiv}
use Rattle.std.specs.List.{AllByRecursion, IsDistinct}
use Rattle.std.specs.Set.{distinct_count, is_member, unique_keys}
use Rattle.std.proofs.lemmas.Bool.{cases_eq, eq-eqb, false≢true, ne_eqb}
use Rattle.std.proofs.lemmas.List.{drop_all, drop_more, length-map}
use Rattle.std.proofs.lemmas.List.Elements.{All-head, All-tail}
use Rattle.std.proofs.lemmas.List.Folds.{list_any-append}
use Rattle.std.proofs.lemmas.Map.Keys.{IsDistinct-cons}
use Rattle.std.proofs.lemmas.Map.Made.{distinct_count-from_IsDistinct, length-le_from_is_member}
use Rattle.block_record.specs.declared.entry.IndexEntry.{IndexEntry}
use Rattle.block_record.specs.Page.{IsIndex}
use Rattle.block_table.specs.Table.{ChangesOnly, entry_of, ids_of, without_one}
use Rattle.block_table.proofs.Orders.{head_below, index_back}

-- The ids of an index are apart.
none_same : (id : ℕ) (entries : List IndexEntry) → All (λ e. id < e.id) entries → AllByRecursion (λ other. nat_eq id other ≡ false) (ids_of entries)
none_same id [] above = tt
none_same id (entry ∷ entries) above = (
  ne_eqb id entry.id (λ same. omega (arith, same, All-head (λ e. id < e.id) entry entries above)),
  none_same id entries (All-tail (λ e. id < e.id) entry entries above),
)

ids_distinct : (entries : List IndexEntry) → IsIndex entries → IsDistinct nat_eq (ids_of entries)
unfolding IsDistinct
ids_distinct [] index = tt
ids_distinct (entry ∷ entries) index =
    (none_same entry.id entries (head_below entry entries index), ids_distinct entries (index_back (entry ∷ []) entries index))

pub count_of_ids : (entries : List IndexEntry) → IsIndex entries → distinct_count nat_eq (ids_of entries) ≡ length entries
count_of_ids entries index =
    distinct_count-from_IsDistinct nat_eq_equiv (ids_of entries) (ids_distinct entries index) ∙ length-map entries (λ e. e.id)

-- An id is held where a look-up finds it.
pub held_is : (entries : List IndexEntry) (id : ℕ) → is_some (entry_of entries id) ≡ is_member nat_eq (ids_of entries) id
held_is [] id = refl
held_is (entry ∷ entries) id =
    one (nat_eq entry.id id) (is_some (entry_of entries id)) (entry_of entries id) refl
    ∙ ap (λ (b : Bool). b || is_some (entry_of entries id)) (nat_eq_equiv.symm entry.id id)
    ∙ ap (λ (b : Bool). nat_eq id entry.id || b) (held_is entries id)
  where
    one : (b rest : Bool) (found : Option IndexEntry) → is_some found ≡ rest → is_some (cond b (Some entry) found) ≡ (b || rest)
    one true rest found is = refl
    one false rest found is = is

pub known_is : (reserved : List ℕ) (entries : List IndexEntry) (id : ℕ)
    → is_member nat_eq (reserved ++ ids_of entries) id ≡ (is_member nat_eq reserved id || is_some (entry_of entries id))
known_is reserved entries id =
    list_any-append (nat_eq id) reserved (ids_of entries)
    ∙ ap (λ (b : Bool). is_member nat_eq reserved id || b) (sym (held_is entries id))

-- The keys of a list, each once, are those of the list,
unique_member : (ids : List ℕ) (id : ℕ) → is_member nat_eq (unique_keys nat_eq ids) id ≡ is_member nat_eq ids id
unique_member [] id = refl
unique_member (one ∷ ids) id = by_case (is_member nat_eq ids one) refl (unique_member ids id)
  where
    by_case : (b : Bool) → is_member nat_eq ids one ≡ b → is_member nat_eq (unique_keys nat_eq ids) id ≡ is_member nat_eq ids id
        → is_member nat_eq (cond b (unique_keys nat_eq ids) (one ∷ unique_keys nat_eq ids)) id ≡ (nat_eq id one || is_member nat_eq ids id)
    by_case false is rest = ap (λ (r : Bool). nat_eq id one || r) rest
    by_case true is rest = rest ∙ ⊎_elim
        (λ (same : id ≡ one).
        let yes_id : is_member nat_eq ids id ≡ true = ap (λ (n : ℕ). is_member nat_eq ids n) same ∙ is in
        yes_id ∙ sym (ap (λ (b : Bool). b || is_member nat_eq ids id) (eq-eqb id one same)))
        (λ (apart : id ≢ one). sym (ap (λ (b : Bool). b || is_member nat_eq ids id) (ne_eqb id one apart)))
        (cases_eq id one)

or_false : (a b : Bool) → (a || b) ≡ false → (a ≡ false) × (b ≡ false)
or_false true b off = absurd (false≢true (sym off))
or_false false b off = (refl, off)

none_equal : (id : ℕ) (ids : List ℕ) → is_member nat_eq ids id ≡ false → AllByRecursion (λ other. nat_eq id other ≡ false) ids
none_equal id [] none = tt
none_equal id (one ∷ ids) none =
    let both = or_false (nat_eq id one) (is_member nat_eq ids id) none in
    (both.0, none_equal id ids both.1)

-- and are apart.
unique_distinct : (ids : List ℕ) → IsDistinct nat_eq (unique_keys nat_eq ids)
unfolding IsDistinct
unique_distinct [] = tt
unique_distinct (one ∷ ids) = by_case (is_member nat_eq ids one) refl (unique_distinct ids)
  where
    by_case : (b : Bool) → is_member nat_eq ids one ≡ b → IsDistinct nat_eq (unique_keys nat_eq ids)
        → IsDistinct nat_eq (cond b (unique_keys nat_eq ids) (one ∷ unique_keys nat_eq ids))
    by_case true is rest = rest
    by_case false is rest = IsDistinct-cons nat_eq one (unique_keys nat_eq ids)
        (none_equal one (unique_keys nat_eq ids) (unique_member ids one ∙ is)) rest

-- Of ids that are among others there are no more.
pub count_within : (ids others : List ℕ) → ((id : ℕ) → is_member nat_eq ids id ≡ true → is_member nat_eq others id ≡ true)
    → distinct_count nat_eq ids ≤ distinct_count nat_eq others
count_within ids others within =
    length-le_from_is_member nat_eq_equiv (unique_keys nat_eq ids) (unique_keys nat_eq others) (unique_distinct ids)
    (λ id there. unique_member others id ∙ within id (sym (unique_member ids id) ∙ there))

-- One id more makes one more, or none where it is there.
pub count_more : (id : ℕ) (ids : List ℕ) → (known : Bool) → is_member nat_eq ids id ≡ known
    → distinct_count nat_eq (id ∷ ids) ≡ cond known 0 1 + distinct_count nat_eq ids
count_more id ids true is =
    ap (λ (b : Bool). length (cond b (unique_keys nat_eq ids) (id ∷ unique_keys nat_eq ids))) is ∙ omega arith
count_more id ids false is =
    ap (λ (b : Bool). length (cond b (unique_keys nat_eq ids) (id ∷ unique_keys nat_eq ids))) is ∙ omega arith

or_split : (a b : Bool) → (a || b) ≡ true → (a ≡ true) ⊎ (b ≡ true)
or_split true b on = inl refl
or_split false b on = inr on

or_left : (a b : Bool) → a ≡ true → (a || b) ≡ true
or_left a b on = ap (λ (x : Bool). x || b) on

or_right : (a b : Bool) → b ≡ true → (a || b) ≡ true
or_right true b on = refl
or_right false b on = on

-- What is known is reserved or held.
pub known_split : (reserved : List ℕ) (entries : List IndexEntry) (id : ℕ) → is_member nat_eq (reserved ++ ids_of entries) id ≡ true
    → (is_member nat_eq reserved id ≡ true) ⊎ (is_some (entry_of entries id) ≡ true)
known_split reserved entries id there =
    or_split (is_member nat_eq reserved id) (is_some (entry_of entries id)) (sym (known_is reserved entries id) ∙ there)

pub known_reserved : (reserved : List ℕ) (entries : List IndexEntry) (id : ℕ) → is_member nat_eq reserved id ≡ true
    → is_member nat_eq (reserved ++ ids_of entries) id ≡ true
known_reserved reserved entries id there =
    known_is reserved entries id ∙ or_left (is_member nat_eq reserved id) (is_some (entry_of entries id)) there

pub known_held : (reserved : List ℕ) (entries : List IndexEntry) (id : ℕ) → is_some (entry_of entries id) ≡ true
    → is_member nat_eq (reserved ++ ids_of entries) id ≡ true
known_held reserved entries id there =
    known_is reserved entries id ∙ or_right (is_member nat_eq reserved id) (is_some (entry_of entries id)) there

-- A reservation less leaves no others.
pub without_within : (id other : ℕ) (reserved : List ℕ) → is_member nat_eq (without_one id reserved) other ≡ true → is_member nat_eq reserved other ≡ true
without_within id other [] there = there
without_within id other (one ∷ reserved) there =
    by_case (nat_eq id one) there (λ rest. without_within id other reserved rest)
  where
    by_case : (b : Bool) → is_member nat_eq (cond b reserved (one ∷ without_one id reserved)) other ≡ true
        → (is_member nat_eq (without_one id reserved) other ≡ true → is_member nat_eq reserved other ≡ true)
        → (nat_eq other one || is_member nat_eq reserved other) ≡ true
    by_case true is within = or_right (nat_eq other one) (is_member nat_eq reserved other) is
    by_case false is within = ⊎_elim
        (λ (first : nat_eq other one ≡ true). or_left (nat_eq other one) (is_member nat_eq reserved other) first)
        (λ (rest : is_member nat_eq (without_one id reserved) other ≡ true). or_right (nat_eq other one) (is_member nat_eq reserved other) (within rest))
        (or_split (nat_eq other one) (is_member nat_eq (without_one id reserved) other) is)

-- So neither does the end of a reservation make more ids,
pub release_few : (entries : List IndexEntry) (reserved : List ℕ) (id : ℕ)
    → distinct_count nat_eq (without_one id reserved ++ ids_of entries) ≤ distinct_count nat_eq (reserved ++ ids_of entries)
release_few entries reserved id = count_within (without_one id reserved ++ ids_of entries) (reserved ++ ids_of entries) (λ other there. ⊎_elim
    (λ (booked : is_member nat_eq (without_one id reserved) other ≡ true).
    known_reserved reserved entries other (without_within id other reserved booked))
    (λ (held : is_some (entry_of entries other) ≡ true). known_held reserved entries other held)
    (known_split (without_one id reserved) entries other there))

-- nor a put of an id that is reserved,
pub put_few : (entries new : List IndexEntry) (reserved : List ℕ) (entry : IndexEntry) → is_member nat_eq reserved entry.id ≡ true
    → ChangesOnly entries new entry.id (Some entry)
    → distinct_count nat_eq (without_one entry.id reserved ++ ids_of new) ≤ distinct_count nat_eq (reserved ++ ids_of entries)
put_few entries new reserved entry booked_id change = count_within (without_one entry.id reserved ++ ids_of new) (reserved ++ ids_of entries) (λ other there. ⊎_elim
    (λ (booked : is_member nat_eq (without_one entry.id reserved) other ≡ true).
    known_reserved reserved entries other (without_within entry.id other reserved booked))
    (λ (held : is_some (entry_of new other) ≡ true). ⊎_elim
    (λ (same : other ≡ entry.id). known_reserved reserved entries other (ap (λ (n : ℕ). is_member nat_eq reserved n) same ∙ booked_id))
    (λ (apart : other ≢ entry.id). known_held reserved entries other
    (ap (λ (o : Option IndexEntry). is_some o) (sym (change.others other apart)) ∙ held))
    (cases_eq other entry.id))
    (known_split (without_one entry.id reserved) new other there))

-- nor a removal.
pub remove_few : (entries new : List IndexEntry) (reserved : List ℕ) (id : ℕ) → ChangesOnly entries new id None
    → distinct_count nat_eq (reserved ++ ids_of new) ≤ distinct_count nat_eq (reserved ++ ids_of entries)
remove_few entries new reserved id change = count_within (reserved ++ ids_of new) (reserved ++ ids_of entries) (λ other there. ⊎_elim
    (λ (booked : is_member nat_eq reserved other ≡ true). known_reserved reserved entries other booked)
    (λ (held : is_some (entry_of new other) ≡ true). ⊎_elim
    (λ (same : other ≡ id). absurd (false≢true
    (ap (λ (o : Option IndexEntry). is_some o) (sym change.there) ∙ ap (λ (n : ℕ). is_some (entry_of new n)) (sym same) ∙ held)))
    (λ (apart : other ≢ id). known_held reserved entries other
    (ap (λ (o : Option IndexEntry). is_some o) (sym (change.others other apart)) ∙ held))
    (cases_eq other id))
    (known_split reserved new other there))

-- One more reservation makes one id more, or none where the id is known.
move_last : (reserved ids : List ℕ) (id other : ℕ) → is_member nat_eq ((reserved ++ id ∷ []) ++ ids) other ≡ true
    → is_member nat_eq (id ∷ (reserved ++ ids)) other ≡ true
move_last [] ids id other there = there
move_last (one ∷ reserved) ids id other there = ⊎_elim
    (λ (first : nat_eq other one ≡ true). or_right (nat_eq other id) (nat_eq other one || is_member nat_eq (reserved ++ ids) other)
    (or_left (nat_eq other one) (is_member nat_eq (reserved ++ ids) other) first))
    (λ (rest : is_member nat_eq ((reserved ++ id ∷ []) ++ ids) other ≡ true).
    ⊎_elim
    (λ (is : nat_eq other id ≡ true). or_left (nat_eq other id) (nat_eq other one || is_member nat_eq (reserved ++ ids) other) is)
    (λ (behind : is_member nat_eq (reserved ++ ids) other ≡ true).
    or_right (nat_eq other id) (nat_eq other one || is_member nat_eq (reserved ++ ids) other)
    (or_right (nat_eq other one) (is_member nat_eq (reserved ++ ids) other) behind))
    (or_split (nat_eq other id) (is_member nat_eq (reserved ++ ids) other) (move_last reserved ids id other rest)))
    (or_split (nat_eq other one) (is_member nat_eq ((reserved ++ id ∷ []) ++ ids) other) there)

pub reserve_few : (entries : List IndexEntry) (reserved : List ℕ) (id : ℕ) (known : Bool) → is_member nat_eq (reserved ++ ids_of entries) id ≡ known
    → distinct_count nat_eq ((reserved ++ id ∷ []) ++ ids_of entries) ≤ cond known 0 1 + distinct_count nat_eq (reserved ++ ids_of entries)
reserve_few entries reserved id known is =
    let within : distinct_count nat_eq ((reserved ++ id ∷ []) ++ ids_of entries) ≤ distinct_count nat_eq (id ∷ (reserved ++ ids_of entries)) =
    count_within ((reserved ++ id ∷ []) ++ ids_of entries) (id ∷ (reserved ++ ids_of entries)) (λ other there. move_last reserved (ids_of entries) id other there) in
    omega (arith, within, count_more id (reserved ++ ids_of entries) known is)

-- As many entries as are held there are ids at least.
pub entries_few : (entries : List IndexEntry) (reserved : List ℕ) → IsIndex entries → length entries ≤ distinct_count nat_eq (reserved ++ ids_of entries)
entries_few entries reserved index =
    let within : distinct_count nat_eq (ids_of entries) ≤ distinct_count nat_eq (reserved ++ ids_of entries) =
    count_within (ids_of entries) (reserved ++ ids_of entries) (λ id there. known_held reserved entries id (held_is entries id ∙ there)) in
    omega (arith, within, count_of_ids entries index)

-- A count that goes over the reservations.
pub counted_more : (entries : List IndexEntry) (reserved : List ℕ) (index d : ℕ) (known : Bool) → index < length reserved
    → is_member nat_eq (drop (index + 1) reserved ++ ids_of entries) (get_or reserved index d) ≡ known
    → distinct_count nat_eq (drop index reserved ++ ids_of entries)
    ≡ cond known 0 1 + distinct_count nat_eq (drop (index + 1) reserved ++ ids_of entries)
counted_more entries reserved index d known inside is =
    ap (λ (rs : List ℕ). distinct_count nat_eq (rs ++ ids_of entries)) (drop_more reserved index d inside)
    ∙ count_more (get_or reserved index d) (drop (index + 1) reserved ++ ids_of entries) known is

pub counted_all : (entries : List IndexEntry) (reserved : List ℕ) (index : ℕ) → IsIndex entries → length reserved ≤ index
    → distinct_count nat_eq (drop index reserved ++ ids_of entries) ≡ length entries
counted_all entries reserved index is over =
    ap (λ (rs : List ℕ). distinct_count nat_eq (rs ++ ids_of entries)) (drop_all index reserved over) ∙ count_of_ids entries is

-- A reservation before others is passed over, and that of the id ends.
pub without_more : (id : ℕ) (reserved : List ℕ) (index d : ℕ) → index < length reserved → nat_eq id (get_or reserved index d) ≡ false
    → (without_one id (drop index reserved) ≡ get_or reserved index d ∷ without_one id (drop (index + 1) reserved))
    × (is_member nat_eq (drop index reserved) id ≡ is_member nat_eq (drop (index + 1) reserved) id)
without_more id reserved index d inside other =
    let split : drop index reserved ≡ get_or reserved index d ∷ drop (index + 1) reserved = drop_more reserved index d inside in (
      ap (λ (rs : List ℕ). without_one id rs) split
          ∙ ap (λ (b : Bool). cond b (drop (index + 1) reserved) (get_or reserved index d ∷ without_one id (drop (index + 1) reserved))) other,
      ap (λ (rs : List ℕ). is_member nat_eq rs id) split ∙ ap (λ (b : Bool). b || is_member nat_eq (drop (index + 1) reserved) id) other,
    )

pub without_here : (id : ℕ) (reserved : List ℕ) (index d : ℕ) → index < length reserved → nat_eq id (get_or reserved index d) ≡ true
    → without_one id (drop index reserved) ≡ drop (index + 1) reserved
without_here id reserved index d inside same =
    ap (λ (rs : List ℕ). without_one id rs) (drop_more reserved index d inside)
    ∙ ap (λ (b : Bool). cond b (drop (index + 1) reserved) (get_or reserved index d ∷ without_one id (drop (index + 1) reserved))) same

-- The last one of a list is in it.
pub last_member : (reserved : List ℕ) (id : ℕ) → is_member nat_eq (reserved ++ id ∷ []) id ≡ true
last_member reserved id =
    list_any-append (nat_eq id) reserved (id ∷ [])
    ∙ or_right (is_member nat_eq reserved id) (is_member nat_eq (id ∷ []) id)
    (ap (λ (b : Bool). b || false) (eq-eqb id id refl))
