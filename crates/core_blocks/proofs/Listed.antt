-- Which entries a table has, and how a change of it changes that.
use Rattle.std.proofs.Common.{◌≡◌, ◌≢◌, ◌⊎◌, ℕ, suc, ◌<◌, List, [], ◌∷◌, sym, ◌∙◌, ap, subst, arith, inl, inr, ⊎_elim}
use Rattle.std.proofs.Common.{Some, None}
use Rattle.std.specs.Prelude.{All, Contains}
use Rattle.std.proofs.lemmas.Bool.{cases_eq}
use Rattle.std.proofs.lemmas.List.Elements.{All-contains}
use Rattle.block_record.specs.declared.entry.IndexEntry.{IndexEntry}
use Rattle.block_record.specs.Page.{IsIndex}
use Rattle.block_table.specs.Table.{ChangesOnly, entry_of}
use Rattle.block_table.proofs.Lookups.{entry_here, entry_past}
use Rattle.core_blocks.specs.Blocks.{IsListed}
use Rattle.core_blocks.proofs.Lists.{first_listed, rest_listed, listed_cases, none_listed}

-- What a look-up finds has the id, and is in the list.
pub found_id : (entries : List IndexEntry) (id : ℕ) (entry : IndexEntry)
    → entry_of entries id ≡ Some entry → entry.id ≡ id
found_id [] id entry found = cc
found_id (first ∷ entries) id entry found = ⊎_elim
    (λ same. let here = entry_here first entries id same in
    let is : first ≡ entry = cc in ap (λ (e : IndexEntry). e.id) (sym is) ∙ same)
    (λ apart. found_id entries id entry (sym (entry_past first entries id apart) ∙ found))
    (cases_eq first.id id)

pub found_listed : (entries : List IndexEntry) (id : ℕ) (entry : IndexEntry)
    → entry_of entries id ≡ Some entry → IsListed entries entry
found_listed entries id entry found =
    ap (λ (n : ℕ). entry_of entries n) (found_id entries id entry found) ∙ found

pub found_among : (entries : List IndexEntry) (id : ℕ) (entry : IndexEntry)
    → entry_of entries id ≡ Some entry → Contains entries entry
found_among [] id entry found = cc
found_among (first ∷ entries) id entry found = ⊎_elim
    (λ same. let here = entry_here first entries id same in
    let is : first ≡ entry = cc in
    subst (λ (e : IndexEntry). Contains (first ∷ entries) e) is (first_listed first entries))
    (λ apart. rest_listed first entry entries
    (found_among entries id entry (sym (entry_past first entries id apart) ∙ found)))
    (cases_eq first.id id)

pub index_rest : (first : IndexEntry) (entries : List IndexEntry) → IsIndex (first ∷ entries)
    → IsIndex entries
index_rest first entries index = record {
  each = λ k d within. index.each (suc k) d (omega (arith, within));
  ascending = λ i j d before within.
      index.ascending (suc i) (suc j) d (omega (arith, before)) (omega (arith, within));
}

pub index_first : (first : IndexEntry) (entries : List IndexEntry) → IsIndex (first ∷ entries)
    → All (λ e. first.id < e.id) entries
index_first first entries index k d within =
    index.ascending 0 (suc k) d (omega arith) (omega (arith, within))

-- An index lists each of its entries at its id.
pub among_listed : (entries : List IndexEntry) (entry : IndexEntry) → IsIndex entries
    → Contains entries entry → IsListed entries entry
among_listed [] entry index listed = absurd (none_listed entry listed)
among_listed (first ∷ entries) entry index listed = ⊎_elim
    (λ same. entry_here first entries entry.id (ap (λ (e : IndexEntry). e.id) same)
    ∙ ap (λ (e : IndexEntry). Some e) same)
    (λ rest. let behind : first.id < entry.id = All-contains (λ e. first.id < e.id) entries entry
    (index_first first entries index) rest in
    let apart : first.id ≢ entry.id = λ same. omega (arith, behind, same) in
    entry_past first entries entry.id apart
    ∙ among_listed entries entry (index_rest first entries index) rest)
    (listed_cases first entry entries listed)

-- After a put there is its entry, and each other that there was.
pub put_cases : (old new : List IndexEntry) (entry other : IndexEntry)
    → ChangesOnly old new entry.id (Some entry) → IsListed new other
    → (other ≡ entry) ⊎ (IsListed old other × (other.id ≢ entry.id))
put_cases old new entry other change listed = ⊎_elim
    (λ same. let there : entry_of new other.id ≡ Some entry =
    ap (λ (n : ℕ). entry_of new n) same ∙ change.there in
    inl (cc))
    (λ apart. inr (sym (change.others other.id apart) ∙ listed, apart))
    (cases_eq other.id entry.id)

-- After a removal there are the others.
pub left_cases : (old new : List IndexEntry) (id : ℕ) (other : IndexEntry)
    → ChangesOnly old new id None → IsListed new other
    → IsListed old other × (other.id ≢ id)
left_cases old new id other change listed = ⊎_elim
    (λ same. let there : entry_of new other.id ≡ None =
    ap (λ (n : ℕ). entry_of new n) same ∙ change.there in
    let never : Some other ≡ None = sym listed ∙ there in absurd (cc))
    (λ apart. (sym (change.others other.id apart) ∙ listed, apart))
    (cases_eq other.id id)
