-- Each call leaves a table: entries in order, and few enough ids.
use Rattle.std.proofs.Common.{◌≡◌, ◌≢◌, ℕ, ◌+◌, ◌<◌, ◌≤◌, Bool, true, false, List, [], ◌∷◌, ◌++◌, length, refl, sym}
use Rattle.std.proofs.Common.{◌∙◌, subst, arith, None, Some, length-append}
use Rattle.std.specs.Prelude.{IsTrue, nat_eq}
use Rattle.std.specs.Set.{distinct_count, is_member}
use Rattle.std.proofs.lemmas.Bool.{eqb-true, eq-eqb}
use Rattle.std.proofs.lemmas.List.{length-map}
use Rattle.std.proofs.lemmas.Map.Made.{distinct_count-le}
use Rattle.block_record.specs.declared.entry.IndexEntry.{IndexEntry}
use Rattle.block_record.specs.Page.{IsIndex}
use Rattle.block_table.specs.Table.{ChangesOnly, ids_in_use, ids_of, IsFull, IsTable, without_one}
use Rattle.block_table.proofs.Counts.{entries_few, put_few, release_few, remove_few, reserve_few}

-- An empty table is one.
pub empty_table : (entries : List IndexEntry) (reserved : List ℕ) → entries ≡ [] → reserved ≡ [] → IsTable (record { entries = entries; reserved = reserved })
unfolding ids_in_use
empty_table entries reserved none nothing =
    subst (λ (es : List IndexEntry). IsTable (record { entries = es; reserved = reserved })) (sym none)
    (subst (λ (rs : List ℕ). IsTable (record { entries = []; reserved = rs })) (sym nothing) (record {
      index = record {
        each = λ k d low. absurd (omega (arith, low));
        ascending = λ i j d before inside. absurd (omega (arith, inside));
      };
      few = omega arith;
    }))

-- A table has few entries,
pub few_entries : (entries : List IndexEntry) (reserved : List ℕ) → IsTable (record { entries = entries; reserved = reserved }) → length entries ≤ 512
unfolding ids_in_use
few_entries entries reserved is = omega (arith, is.few, entries_few entries reserved is.index)

-- and stays one where fewer ids are in use.
still_table : (entries new : List IndexEntry) (reserved left : List ℕ) → IsTable (record { entries = entries; reserved = reserved }) → IsIndex new
    → distinct_count nat_eq (left ++ ids_of new) ≤ distinct_count nat_eq (reserved ++ ids_of entries) → IsTable (record { entries = new; reserved = left })
unfolding ids_in_use
still_table entries new reserved left is index fewer = record { index = index; few = omega (arith, is.few, fewer) }

pub put_table : (entries new : List IndexEntry) (reserved left : List ℕ) (entry : IndexEntry) → IsTable (record { entries = entries; reserved = reserved })
    → is_member nat_eq reserved entry.id ≡ true → IsIndex new → ChangesOnly entries new entry.id (Some entry) → left ≡ without_one entry.id reserved
    → IsTable (record { entries = new; reserved = left })
put_table entries new reserved left entry is booked index change ends =
    subst (λ (rs : List ℕ). IsTable (record { entries = new; reserved = rs })) (sym ends)
    (still_table entries new reserved (without_one entry.id reserved) is index (put_few entries new reserved entry booked change))

pub release_table : (entries : List IndexEntry) (reserved left : List ℕ) (id : ℕ) → IsTable (record { entries = entries; reserved = reserved })
    → left ≡ without_one id reserved → IsTable (record { entries = entries; reserved = left })
release_table entries reserved left id is ends =
    subst (λ (rs : List ℕ). IsTable (record { entries = entries; reserved = rs })) (sym ends)
    (still_table entries entries reserved (without_one id reserved) is is.index (release_few entries reserved id))

pub remove_table : (entries new : List IndexEntry) (reserved : List ℕ) (id : ℕ) → IsTable (record { entries = entries; reserved = reserved })
    → IsIndex new → ChangesOnly entries new id None → IsTable (record { entries = new; reserved = reserved })
remove_table entries new reserved id is index change =
    still_table entries new reserved reserved is index (remove_few entries new reserved id change)

-- A reservation where there is room.
pub reserve_table : (entries new : List IndexEntry) (reserved more : List ℕ) (id : ℕ) → IsTable (record { entries = entries; reserved = reserved })
    → (IsFull (record { entries = entries; reserved = reserved }) id → ⊥) → new ≡ entries → more ≡ reserved ++ id ∷ []
    → IsTable (record { entries = new; reserved = more })
unfolding ids_in_use
reserve_table entries new reserved more id is room same pushed =
    subst (λ (es : List IndexEntry). IsTable (record { entries = es; reserved = more })) (sym same)
    (subst (λ (rs : List ℕ). IsTable (record { entries = entries; reserved = rs })) (sym pushed)
    (record { index = is.index; few = few (is_member nat_eq (reserved ++ ids_of entries) id) refl }))
  where
    few : (known : Bool) → is_member nat_eq (reserved ++ ids_of entries) id ≡ known
        → distinct_count nat_eq ((reserved ++ id ∷ []) ++ ids_of entries) ≤ 512
    few true is_known = omega (arith, is.few, reserve_few entries reserved id true is_known)
    few false is_known =
        let not_all : distinct_count nat_eq (reserved ++ ids_of entries) ≢ 512 = λ all. room (record { others = is_known; all_used = all }) in
        omega (arith, is.few, not_all, reserve_few entries reserved id false is_known)

-- Where all of them together are fewer there is room.
pub few_not_full : (entries : List IndexEntry) (reserved : List ℕ) (id : ℕ) → length entries + length reserved < 512
    → IsFull (record { entries = entries; reserved = reserved }) id → ⊥
unfolding ids_in_use
few_not_full entries reserved id few full =
    let most = distinct_count-le nat_eq (reserved ++ ids_of entries) in
    let all = length-append reserved (ids_of entries) in
    let same = length-map entries (λ e. e.id) in
    let used = full.all_used in
    omega (arith, few, most, all, same, used)

-- What is asked before a reservation.
pub full_is : (entries : List IndexEntry) (reserved : List ℕ) (id used : ℕ) → used ≡ distinct_count nat_eq (reserved ++ ids_of entries)
    → is_member nat_eq (reserved ++ ids_of entries) id ≡ false
    → (IsTrue (nat_eq used 512) → IsFull (record { entries = entries; reserved = reserved }) id)
    × (IsFull (record { entries = entries; reserved = reserved }) id → IsTrue (nat_eq used 512))
unfolding ids_in_use
full_is entries reserved id used is new = (
  λ all. record { others = new; all_used = sym is ∙ eqb-true used 512 all },
  λ full. eq-eqb used 512 (is ∙ full.all_used),
)
