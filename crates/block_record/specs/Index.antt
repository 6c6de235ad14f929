-- Where a page that is no index page goes wrong.
use Rattle.std.specs.Prelude.{◌≡◌, ◌≢◌, ◌⊎◌, ℕ, ◌*◌, ◌^◌, ◌<◌, ◌≤◌, List, [], ◌∷◌, ◌++◌, length, take, flat_map}
use Rattle.std.specs.Prelude.{slice_index, All}
use Rattle.block_record.specs.declared.entry.IndexEntry.{IndexEntry}
use Rattle.block_record.specs.Bytes.{be32, be64, IsDigest}
use Rattle.block_record.specs.Page.{IsIndex, IsRightEntry, entry_bytes}

-- the first 60 bytes of an entry
unfoldable pub entry_fields : IndexEntry → List ℕ
entry_fields entry =
    be64 entry.id ++ be64 entry.start ++ be32 entry.len ++ be64 entry.birth ++ entry.digest

-- These 64 bytes are a right entry.
pub record SpellsEntry (bytes : List ℕ) (entry : IndexEntry) : Type 0 where
  pub right : IsRightEntry entry
  pub spelled : bytes ≡ entry_bytes entry

-- The numbers fit in their fields, and the digest is one.
pub record FitsFields (entry : IndexEntry) : Type 0 where
  pub id : entry.id < 2 ^ 64
  pub start : entry.start < 2 ^ 64
  pub len : entry.len < 2 ^ 32
  pub birth : entry.birth < 2 ^ 64
  pub digest : IsDigest entry.digest

-- The length is that of a block, and the birth a group.
abbrev pub HasRightLengthAndBirth : IndexEntry → Type 0
HasRightLengthAndBirth entry = (1 ≤ entry.len) × (entry.len ≤ 65536) × (1 ≤ entry.birth)

-- They are an entry that may stand behind these.
pub record IsNext (entries : List IndexEntry) (bytes : List ℕ) (next : IndexEntry) : Type 0 where
  pub entry : SpellsEntry bytes next
  pub behind : All (λ one. one.id < next.id) entries

-- The bytes from one place to before another are zeros.
abbrev pub AreZeros : List ℕ → ℕ → ℕ → Type 0
AreZeros bytes first end = (k : ℕ) → first ≤ k → k < end → slice_index bytes k ≡ 0

-- The page begins with these entries.
pub record BeginsWith (bytes : List ℕ) (entries : List IndexEntry) : Type 0 where
  pub index : IsIndex entries
  pub front : take (64 * length entries) bytes ≡ flat_map entry_bytes entries

-- Entries are right up to this byte, where the next one is wrong.
pub record IsWrongEntry (bytes : List ℕ) (count at_byte : ℕ) : Type 0 where
  pub entries : List IndexEntry
  pub before : BeginsWith bytes entries
  pub at_entry : at_byte ≡ 64 * length entries
  pub more : length entries < count
  pub wrong : (next : IndexEntry) → BeginsWith bytes (entries ++ next ∷ []) → ⊥

-- All entries are right, and this is the first byte after them that isn't zero.
pub record IsWrongPadding (bytes : List ℕ) (count at_byte : ℕ) : Type 0 where
  pub entries : List IndexEntry
  pub before : BeginsWith bytes entries
  pub counted : length entries ≡ count
  pub after : (64 * count ≤ at_byte) × (at_byte < length bytes)
  pub wrong : slice_index bytes at_byte ≢ 0
  pub first : AreZeros bytes (64 * count) at_byte

-- The page is in the grammar up to this byte and no further.
abbrev pub IsBadIndex : List ℕ → ℕ → ℕ → Type 0
IsBadIndex bytes count at_byte =
    IsWrongEntry bytes count at_byte ⊎ IsWrongPadding bytes count at_byte
