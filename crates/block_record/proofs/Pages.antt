-- What a page begins with, and where other bytes go wrong.
use Rattle.std.proofs.Common.{◌≡◌, ℕ, ◌+◌, ◌-◌, ◌*◌, ◌<◌, ◌≤◌, List, [], ◌∷◌, ◌++◌, length, take, drop, get_or}
use Rattle.std.proofs.Common.{replicate, refl, sym, ◌∙◌, ap, subst, arith, inl, inr, ⊎_elim, length-append}
use Rattle.std.specs.Prelude.{All, flat_map, IsTrue, nat_lt, slice_get, slice_index, Some, ◌≢◌}
use Rattle.std.proofs.lemmas.Bool.{cases_lt, lt-ltb, ltb-true}
use Rattle.std.proofs.lemmas.Option.{get_or_from_slice_get, slice_get_within}
use Rattle.std.proofs.lemmas.List.{append-nil, drop_at, drop-take, ext_get_or, get_or_append_left, get_or_push}
use Rattle.std.proofs.lemmas.List.{get_or-append_right, get_or-drop, get_or-replicate, get_or-take, length_push}
use Rattle.std.proofs.lemmas.List.{length-drop, length-replicate, length-take-le, take_at, take_more, take-append-drop}
use Rattle.std.proofs.lemmas.List.{take-take}
use Rattle.std.proofs.lemmas.List.Concat.{flat_map-append}
use Rattle.std.proofs.lemmas.List.Elements.{All-head, All-push, All-tail, All-take}
use Rattle.std.proofs.lemmas.List.Quantifiers.{all_pairs_push}
use Rattle.block_record.specs.declared.entry.IndexEntry.{IndexEntry}
use Rattle.block_record.specs.declared.read.IndexRefused.{IndexRefused}
use Rattle.block_record.specs.declared.read.IndexRefused.TheVariants.{BadIndex, NoMemory}
use Rattle.block_record.specs.Refused.{IsBadAt, IsWrongAt}
use Rattle.block_record.specs.Page.{entry_bytes, index_page, IsIndex, IsPageOf, IsRightEntry, page_sectors}
use Rattle.block_record.specs.Index.{AreZeros, BeginsWith, IsBadIndex, IsNext, IsWrongEntry, IsWrongPadding}
use Rattle.block_record.proofs.Entries.{entry_tells, length-entry_bytes}
use Rattle.block_record.proofs.Reading.{joined}
use Rattle.block_record.proofs.Sectors.{length-entries, take-entries}
use Rattle.block_record.proofs.Spelling.{split_front}

-- One entry is below a later one.
abbrev IsBelow : IndexEntry → IndexEntry → Type 0
IsBelow one later = one.id < later.id

-- No entries are an index, and every page begins with them.
pub begins_none : (bytes : List ℕ) → BeginsWith bytes []
begins_none bytes = record {
  index = record { each = λ k d low. absurd (omega (arith, low)); ascending = λ i j d before low. absurd (omega (arith, low)) };
  front = refl;
}

flat_map-push : (entries : List IndexEntry) (next : IndexEntry)
    → flat_map entry_bytes (entries ++ next ∷ []) ≡ flat_map entry_bytes entries ++ entry_bytes next
flat_map-push entries next =
    flat_map-append entry_bytes entries (next ∷ [])
    ∙ ap (λ (xs : List ℕ). flat_map entry_bytes entries ++ xs) (append-nil (entry_bytes next))

-- the bytes of the next entry
abbrev pub next_bytes : List ℕ → List IndexEntry → List ℕ
next_bytes bytes entries = take 64 (drop (64 * length entries) bytes)

-- A page that begins with entries, and has a right one behind them, begins with that one too.
pub begins_more : (bytes : List ℕ) (entries : List IndexEntry) (next : IndexEntry) → BeginsWith bytes entries
    → IsNext entries (next_bytes bytes entries) next → BeginsWith bytes (entries ++ next ∷ [])
begins_more bytes entries next begins is =
    let n = length entries in
    let longer : 64 * n + 64 ≡ 64 * length (entries ++ next ∷ []) = omega (arith, length_push entries next) in
    record {
      index = record {
        each = All-push IsRightEntry entries next begins.index.each is.entry.right;
        ascending = all_pairs_push IsBelow entries next begins.index.ascending is.behind;
      };
      front = ap (λ (k : ℕ). take k bytes) (sym longer) ∙ joined (64 * n) 64 bytes begins.front is.entry.spelled
          ∙ sym (flat_map-push entries next);
    }

-- Where a page begins with entries and one more, that one stands behind them.
pub begins_last : (bytes : List ℕ) (entries : List IndexEntry) (next : IndexEntry) → BeginsWith bytes (entries ++ next ∷ [])
    → IsNext entries (next_bytes bytes entries) next
begins_last bytes entries next begins =
    let n = length entries in
    let counted : length (entries ++ next ∷ []) ≡ n + 1 = length_push entries next in
    let longer : 64 * length (entries ++ next ∷ []) ≡ 64 * n + 64 = omega (arith, counted) in
    let last : (d : IndexEntry) → get_or (entries ++ next ∷ []) n d ≡ next = λ d. get_or_push entries next d n refl in
    let right : IsRightEntry next = subst IsRightEntry (last next) (begins.index.each n next (omega (arith, counted))) in
    let before : All IsRightEntry entries = λ k d low.
    subst IsRightEntry (get_or_append_left entries (next ∷ []) d k low) (begins.index.each k d (omega (arith, low, counted))) in
    let front : take (64 * n + 64) bytes ≡ flat_map entry_bytes entries ++ entry_bytes next =
    ap (λ (k : ℕ). take k bytes) (sym longer) ∙ begins.front ∙ flat_map-push entries next in
    record {
      entry = record {
        right = right;
        spelled = sym (drop-take (64 * n) 64 bytes) ∙ ap (λ (xs : List ℕ). drop (64 * n) xs) front
            ∙ drop_at (flat_map entry_bytes entries) (entry_bytes next) (64 * n) (length-entries entries before);
      };
      behind = λ k d low.
          let below : (get_or (entries ++ next ∷ []) k d).id < (get_or (entries ++ next ∷ []) n d).id =
          begins.index.ascending k n d low (omega (arith, counted)) in
          let one : get_or (entries ++ next ∷ []) k d ≡ get_or entries k d = get_or_append_left entries (next ∷ []) d k low in
          omega (arith, below, ap (λ (e : IndexEntry). e.id) one, ap (λ (e : IndexEntry). e.id) (last d));
    }

-- A page that begins with entries begins with the first of them.
pub begins_take : (bytes : List ℕ) (entries : List IndexEntry) (n : ℕ) → BeginsWith bytes entries → n ≤ length entries
    → BeginsWith bytes (take n entries)
begins_take bytes entries n begins low =
    let counted : length (take n entries) ≡ n = length-take-le n entries low in
    record {
      index = record {
        each = All-take IsRightEntry n entries begins.index.each;
        ascending = λ i j d before inside.
            let one : get_or (take n entries) i d ≡ get_or entries i d = get_or-take n entries i d (omega (arith, before, inside, counted)) in
            let two : get_or (take n entries) j d ≡ get_or entries j d = get_or-take n entries j d (omega (arith, inside, counted)) in
            let below : (get_or entries i d).id < (get_or entries j d).id = begins.index.ascending i j d before (omega (arith, inside, counted, low)) in
            omega (arith, below, ap (λ (e : IndexEntry). e.id) one, ap (λ (e : IndexEntry). e.id) two);
      };
      front = ap (λ (k : ℕ). take (64 * k) bytes) counted
          ∙ sym (take-take (64 * n) (64 * length entries) bytes (omega (arith, low)))
          ∙ ap (λ (xs : List ℕ). take (64 * n) xs) begins.front
          ∙ take-entries entries n begins.index.each low;
    }

-- Bytes tell the entries.
entries_tell : (one other : List IndexEntry) → All IsRightEntry one → All IsRightEntry other → length one ≡ length other
    → flat_map entry_bytes one ≡ flat_map entry_bytes other → one ≡ other
entries_tell [] [] right good counted same = refl
entries_tell [] (other ∷ others) right good counted same = absurd (omega (arith, counted))
entries_tell (one ∷ ones) [] right good counted same = absurd (omega (arith, counted))
entries_tell (one ∷ ones) (other ∷ others) right good counted same =
    let r = All-head IsRightEntry one ones right in
    let g = All-head IsRightEntry other others good in
    let both = split_front (entry_bytes one) (entry_bytes other) (flat_map entry_bytes ones) (flat_map entry_bytes others) same
    (length-entry_bytes one r.digest.wide ∙ sym (length-entry_bytes other g.digest.wide)) in
    let rest : ones ≡ others = entries_tell ones others (All-tail IsRightEntry one ones right) (All-tail IsRightEntry other others good)
    (omega (arith, counted)) both.1 in
    let first : one ≡ other = entry_tells one other r g both.0 in
    ap (λ (e : IndexEntry). e ∷ ones) first ∙ ap (λ (es : List IndexEntry). other ∷ es) rest

-- A page begins with one list of so many entries at most.
pub begins_same : (bytes : List ℕ) (one other : List IndexEntry) → BeginsWith bytes one → BeginsWith bytes other → length one ≡ length other → one ≡ other
begins_same bytes one other begins starts counted =
    entries_tell one other begins.index.each starts.index.each counted
    (sym begins.front ∙ ap (λ (k : ℕ). take (64 * k) bytes) counted ∙ starts.front)

-- A whole page begins with its entries.
pub page_begins : (bytes : List ℕ) (count : ℕ) (entries : List IndexEntry) → IsPageOf bytes count entries → BeginsWith bytes entries
unfolding index_page
page_begins bytes count entries is = record {
  index = is.index;
  front = ap (λ (xs : List ℕ). take (64 * length entries) xs) is.page
      ∙ take_at (flat_map entry_bytes entries) (replicate (512 * page_sectors (length entries) - 64 * length entries) 0) (64 * length entries)
      (length-entries entries is.index.each);
}

-- Where an entry is wrong, no more entries are there.
pub no_longer : (bytes : List ℕ) (count at_byte : ℕ) (wrong : IsWrongEntry bytes count at_byte) (others : List IndexEntry)
    → BeginsWith bytes others → length wrong.entries < length others → ⊥
no_longer bytes count at_byte wrong others begins longer = short others begins longer
  where
    short : (all : List IndexEntry) → BeginsWith bytes all → length wrong.entries < length all → ⊥
    short [] starts more = absurd (omega (arith, more))
    short (first ∷ rest) starts more =
        let all = first ∷ rest in
        let same : take (length wrong.entries) all ≡ wrong.entries = begins_same bytes (take (length wrong.entries) all) wrong.entries
        (begins_take bytes all (length wrong.entries) starts (omega (arith, more))) wrong.before
        (length-take-le (length wrong.entries) all (omega (arith, more))) in
        let next = get_or all (length wrong.entries) first in
        let one_more : take (length wrong.entries + 1) all ≡ wrong.entries ++ next ∷ [] =
        take_more all (length wrong.entries) first more ∙ ap (λ (es : List IndexEntry). es ++ next ∷ []) same in
        wrong.wrong next (subst (λ (es : List IndexEntry). BeginsWith bytes es) one_more
        (begins_take bytes all (length wrong.entries + 1) starts (omega (arith, more))))

-- The bytes behind the entries of a page are zeros.
page_zeros : (bytes : List ℕ) (count : ℕ) (entries : List IndexEntry) → IsPageOf bytes count entries → AreZeros bytes (64 * count) (length bytes)
unfolding index_page
page_zeros bytes count entries is k behind inside =
    let n = length entries in
    let pad = 512 * page_sectors n - 64 * n in
    let wide : length (flat_map entry_bytes entries) ≡ 64 * n = length-entries entries is.index.each in
    let all : length bytes ≡ 64 * n + pad = ap length is.page ∙ length-append (flat_map entry_bytes entries) (replicate pad 0)
    ∙ omega (arith, wide, length-replicate {A = ℕ} pad 0) in
    ap (λ (xs : List ℕ). get_or xs k 0) is.page
    ∙ get_or-append_right (flat_map entry_bytes entries) (replicate pad 0) (64 * n) k 0 wide (omega (arith, behind, is.counted))
    ∙ get_or-replicate pad (k - 64 * n) 0 0 (omega (arith, inside, all, behind, is.counted))

-- Bytes that go wrong somewhere are no page.
pub bad_is_no_page : (bytes : List ℕ) (count at_byte : ℕ) → IsBadIndex bytes count at_byte → (entries : List IndexEntry) → IsPageOf bytes count entries → ⊥
bad_is_no_page bytes count at_byte bad entries is = ⊎_elim
    (λ wrong. no_longer bytes count at_byte wrong entries (page_begins bytes count entries is) (omega (arith, wrong.more, is.counted)))
    (λ wrong. wrong.wrong (page_zeros bytes count entries is at_byte wrong.after.0 wrong.after.1))
    bad

-- A page has one list of entries.
pub page_same : (bytes : List ℕ) (count : ℕ) (one other : List IndexEntry) → IsPageOf bytes count one → IsPageOf bytes count other → one ≡ other
page_same bytes count one other is same =
    begins_same bytes one other (page_begins bytes count one is) (page_begins bytes count other same) (is.counted ∙ sym same.counted)

-- Bytes go wrong at one place.
pub bad_once : (bytes : List ℕ) (count one other : ℕ) → IsBadIndex bytes count one → IsBadIndex bytes count other → one ≡ other
bad_once bytes count one other bad wrong = ⊎_elim
    (λ (first : IsWrongEntry bytes count one). ⊎_elim
    (λ (second : IsWrongEntry bytes count other).
    let up : length first.entries ≤ length second.entries = ⊎_elim
    (λ (less : length second.entries < length first.entries). absurd (no_longer bytes count other second first.entries first.before less))
    (λ (le : length first.entries ≤ length second.entries). le)
    (cases_lt (length second.entries) (length first.entries)) in
    let down : length second.entries ≤ length first.entries = ⊎_elim
    (λ (less : length first.entries < length second.entries). absurd (no_longer bytes count one first second.entries second.before less))
    (λ (le : length second.entries ≤ length first.entries). le)
    (cases_lt (length first.entries) (length second.entries)) in
    omega (arith, up, down, first.at_entry, second.at_entry))
    (λ (second : IsWrongPadding bytes count other).
    absurd (no_longer bytes count one first second.entries second.before (omega (arith, first.more, second.counted))))
    wrong)
    (λ (first : IsWrongPadding bytes count one). ⊎_elim
    (λ (second : IsWrongEntry bytes count other).
    absurd (no_longer bytes count other second first.entries first.before (omega (arith, second.more, first.counted))))
    (λ (second : IsWrongPadding bytes count other).
    let up : one ≤ other = ⊎_elim
    (λ (less : other < one). absurd (second.wrong (first.first other second.after.0 less)))
    (λ (le : one ≤ other). le)
    (cases_lt other one) in
    let down : other ≤ one = ⊎_elim
    (λ (less : one < other). absurd (first.wrong (second.first one first.after.0 less)))
    (λ (le : other ≤ one). le)
    (cases_lt one other) in
    omega (arith, up, down))
    wrong)
    bad

-- Entries, and zeros to the end of whole sectors, are a page.
pub page_is : (bytes : List ℕ) (count : ℕ) (entries : List IndexEntry) → BeginsWith bytes entries → length entries ≡ count
    → AreZeros bytes (64 * count) (length bytes) → length bytes ≡ 512 * page_sectors count → IsPageOf bytes count entries
unfolding index_page
page_is bytes count entries begins counted zeros wide =
    let n = length entries in
    let pad = 512 * page_sectors n - 64 * n in
    let same_wide : length bytes ≡ 512 * page_sectors n = wide ∙ ap (λ (k : ℕ). 512 * page_sectors k) (sym counted) in
    let left : length (drop (64 * n) bytes) ≡ pad = length-drop (64 * n) bytes ∙ ap (λ (k : ℕ). k - 64 * n) same_wide in
    let pads : drop (64 * n) bytes ≡ replicate {A = ℕ} pad 0 = ext_get_or 0 (drop (64 * n) bytes) (replicate pad 0)
    (left ∙ sym (length-replicate pad 0))
    (λ i low. get_or-drop (64 * n) bytes i 0
    ∙ zeros (64 * n + i) (omega (arith, counted)) (omega (arith, low, left, same_wide))
    ∙ sym (get_or-replicate pad i 0 0 (omega (arith, low, left)))) in
    record {
      index = begins.index;
      counted = counted;
      page = sym (take-append-drop (64 * n) bytes) ∙ ap (λ (xs : List ℕ). xs ++ drop (64 * n) bytes) begins.front
          ∙ ap (λ (xs : List ℕ). flat_map entry_bytes entries ++ xs) pads;
    }

-- Entries that stand below the last stand below what is above it.
pub behind_last : (entries : List IndexEntry) (last : IndexEntry) (id : ℕ) → IsIndex entries → Some last ≡ slice_get entries (length entries - 1)
    → (IsTrue (nat_lt last.id id) → All (λ one. one.id < id) entries) × (All (λ one. one.id < id) entries → IsTrue (nat_lt last.id id))
behind_last entries last id index is =
    let n = length entries in
    let inside : n - 1 < n = slice_get_within entries (n - 1) last (sym is) in
    let at_end : (d : IndexEntry) → get_or entries (n - 1) d ≡ last = λ d. get_or_from_slice_get entries (n - 1) last d (sym is) in (
      λ above k d low.
          let top : last.id < id = ltb-true last.id id above in
          ⊎_elim
          (λ (before : k < n - 1).
          let below : (get_or entries k d).id < (get_or entries (n - 1) d).id = index.ascending k (n - 1) d before inside in
          omega (arith, below, top, ap (λ (e : IndexEntry). e.id) (at_end d)))
          (λ (not_before : n - 1 ≤ k).
          let same : k ≡ n - 1 = omega (arith, low, not_before) in
          let one : get_or entries k d ≡ last = ap (λ (i : ℕ). get_or entries i d) same ∙ at_end d in
          omega (arith, top, ap (λ (e : IndexEntry). e.id) one))
          (cases_lt k (n - 1)),
      λ all.
          let top : (get_or entries (n - 1) last).id < id = all (n - 1) last inside in
          lt-ltb last.id id (omega (arith, top, ap (λ (e : IndexEntry). e.id) (at_end last))),
    )

-- What is refused where an entry is wrong is no page,
pub refused_is_no_page : (bytes : List ℕ) (count : ℕ) (why : IndexRefused) (entries : List IndexEntry) → IsWrongAt bytes count why
    → IsPageOf bytes count entries → why ≡ NoMemory
refused_is_no_page bytes count (BadIndex found) entries wrong is = absurd (bad_is_no_page bytes count found (inl wrong) entries is)
refused_is_no_page bytes count NoMemory entries wrong is = refl

-- and goes wrong there alone.
pub refused_there : (bytes : List ℕ) (count : ℕ) (why : IndexRefused) (at_byte : ℕ) → IsWrongAt bytes count why
    → IsBadIndex bytes count at_byte → IsBadAt at_byte why
refused_there bytes count (BadIndex found) at_byte wrong bad = bad_once bytes count found at_byte (inl wrong) bad
refused_there bytes count NoMemory at_byte wrong bad = tt

-- the 64 bytes of one place, as a slice has them
abbrev pub sliced : List ℕ → ℕ → List ℕ
sliced bytes index = take (64 * index + 64 - 64 * index) (drop (64 * index) bytes)

sliced_is : (bytes : List ℕ) (index : ℕ) (entries : List IndexEntry) → length entries ≡ index → sliced bytes index ≡ next_bytes bytes entries
sliced_is bytes index entries counted =
    let n : 64 * index + 64 - 64 * index ≡ 64 = omega arith in
    ap (λ (k : ℕ). take k (drop (64 * index) bytes)) n ∙ ap (λ (k : ℕ). take 64 (drop (64 * k) bytes)) (sym counted)

-- A page whose next 64 bytes are no entry behind the others goes wrong there.
pub wrong_here : (bytes : List ℕ) (count index : ℕ) (entries shown : List IndexEntry) → BeginsWith bytes entries → length entries ≡ index
    → index < count → shown ≡ entries → ((next : IndexEntry) → IsNext shown (sliced bytes index) next → ⊥) → IsWrongEntry bytes count (64 * index)
wrong_here bytes count index entries shown begins counted more same none = record {
  entries = entries;
  before = begins;
  at_entry = ap (λ (k : ℕ). 64 * k) (sym counted);
  more = omega (arith, more, counted);
  wrong = λ next longer. none next (subst (λ (es : List IndexEntry). IsNext es (sliced bytes index) next) (sym same)
      (subst (λ (xs : List ℕ). IsNext entries xs next) (sym (sliced_is bytes index entries counted)) (begins_last bytes entries next longer)));
}

-- Where they are one, it joins the others.
pub begins_there : (bytes : List ℕ) (index : ℕ) (entries shown : List IndexEntry) (next : IndexEntry) → BeginsWith bytes entries
    → length entries ≡ index → shown ≡ entries → IsNext shown (sliced bytes index) next → BeginsWith bytes (entries ++ next ∷ [])
begins_there bytes index entries shown next begins counted same is =
    begins_more bytes entries next begins
    (subst (λ (xs : List ℕ). IsNext entries xs next) (sliced_is bytes index entries counted)
    (subst (λ (es : List IndexEntry). IsNext es (sliced bytes index) next) same is))

-- A page that goes wrong behind its entries.
pub padding_here : (bytes : List ℕ) (count at_byte : ℕ) (entries : List IndexEntry) → BeginsWith bytes entries → length entries ≡ count
    → (64 * count ≤ at_byte) × (at_byte < length bytes) → slice_index bytes at_byte ≢ 0 → AreZeros bytes (64 * count) at_byte
    → IsBadIndex bytes count at_byte
padding_here bytes count at_byte entries begins counted after wrong first =
    inr (record { entries = entries; before = begins; counted = counted; after = after; wrong = wrong; first = first })
