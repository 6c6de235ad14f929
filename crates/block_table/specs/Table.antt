-- A table of blocks by their ids.
use Rattle.std.specs.Prelude.{◌≡◌, ◌≢◌, ℕ, ◌+◌, ◌<◌, ◌≤◌, false, ◌==◌, nat_eq, if◌then◌else◌, List, [], ◌∷◌, ◌++◌, map}
use Rattle.std.specs.Prelude.{find, All, Option, Vec, vec_len, length, take, drop, slice_index_or}
use Rattle.std.specs.Vec.{vec_capacity}
use Rattle.std.specs.declared.alloc.Global.{Global}
use Rattle.std.specs.Set.{distinct_count, is_member}
use Rattle.block_record.specs.declared.entry.IndexEntry.{IndexEntry}
use Rattle.block_record.specs.Page.{IsIndex}

-- the entries that are held, and the ids that puts under way have reserved, each as often
pub record Table : Type 0 where
  pub entries : List IndexEntry
  pub reserved : List ℕ

abbrev pub ids_of : List IndexEntry → List ℕ
ids_of entries = map (λ entry. entry.id) entries

-- the entry with an id
abbrev pub entry_of : List IndexEntry → ℕ → Option IndexEntry
entry_of entries id = find (λ entry. entry.id == id) entries

-- the ids that are reserved or held
abbrev pub known_ids : Table → List ℕ
known_ids table = table.reserved ++ ids_of table.entries

-- how many ids are reserved or held, each counted once
unfoldable pub ids_in_use : Table → ℕ
ids_in_use table = distinct_count nat_eq (known_ids table)

-- one reservation less
abbrev pub without_one : ℕ → List ℕ → List ℕ
without_one id [] = []
without_one id (other ∷ reserved) =
    if id == other then reserved else other ∷ without_one id reserved

-- There is no room for an id: 512 others are reserved or held.
pub record IsFull (table : Table) (id : ℕ) : Type 0 where
  pub others : is_member nat_eq (known_ids table) id ≡ false
  pub all_used : ids_in_use table ≡ 512

-- At this id stands what is said, and at each other id what stood there.
pub record ChangesOnly (old new : List IndexEntry) (id : ℕ) (stands : Option IndexEntry) :
    Type 0 where
  pub there : entry_of new id ≡ stands
  pub others : (other : ℕ) → other ≢ id → entry_of new other ≡ entry_of old other

-- The entries are in the order of their ids, and few enough ids are reserved or held.
pub record IsTable (table : Table) : Type 0 where
  pub index : IsIndex table.entries
  pub few : ids_in_use table ≤ 512

-- No entry before a place has the id or a greater one, and none from there on a smaller one.
pub record IsPlaceOfId (entries before behind : List IndexEntry) (id : ℕ) : Type 0 where
  pub whole : entries ≡ before ++ behind
  pub below : All (λ entry. entry.id < id) before
  pub above : All (λ entry. id ≤ entry.id) behind

-- An entry with the id, and what stands before and behind it.
pub record IsThere (entries before behind : List IndexEntry) (entry : IndexEntry) (id : ℕ) : Type 0
  where
    pub whole : entries ≡ before ++ entry ∷ behind
    pub same : entry.id ≡ id
    pub below : All (λ e. e.id < id) before
    pub above : All (λ e. id < e.id) behind

-- The place of an id that no entry has.
pub record IsInsertionPlace (entries before behind : List IndexEntry) (id : ℕ) : Type 0 where
  pub whole : entries ≡ before ++ behind
  pub below : All (λ e. e.id < id) before
  pub above : All (λ e. id < e.id) behind

-- The entry at a place has the id.
pub record IsFound (entries : List IndexEntry) (id place : ℕ) : Type 0 where
  pub inside : place < length entries
  pub there : (d : IndexEntry)
      → IsThere entries (take place entries) (drop (place + 1) entries)
      (slice_index_or entries place d) id

-- An entry with the id would go to this place.
pub record IsMissing (entries : List IndexEntry) (id place : ℕ) : Type 0 where
  pub inside : place ≤ length entries
  pub gap : IsInsertionPlace entries (take place entries) (drop place entries) id

-- There is room for the entry of each put under way.
pub record HasRoomForPuts (entries : Vec IndexEntry Global) (reserved : Vec ℕ Global) : Type 0 where
  pub room : vec_len entries + vec_len reserved ≤ vec_capacity entries
