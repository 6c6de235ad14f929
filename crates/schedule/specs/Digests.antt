-- Where the length and the digest of what a read hands out are known from: the index of the opening, or a put that the
-- journal tells as stored.
use Rattle.std.specs.Prelude.{◌≡◌, ◌⊎◌, ℕ, ◌<◌, List, length, Some, ⊤}
use Rattle.sha2.specs.Sha256.{sha256}
use Rattle.block_record.specs.declared.entry.IndexEntry.{IndexEntry}
use Rattle.block_table.specs.Table.{entry_of}
use Rattle.core_state.specs.declared.answer.Answer.{Answer}
use Rattle.core_state.specs.declared.answer.Answer.TheVariants as answer
use Rattle.core_state.specs.declared.answer.Kind.TheVariants as kind
use Rattle.core_state.specs.declared.item.Entry.{Entry}
use Rattle.core_state.specs.declared.item.Item.{Item}
use Rattle.core_state.specs.Legal.{CallAt}
use Rattle.client_script.specs.Script.{Script, handed_by}

-- An index has this length and this digest for the block of an id.
pub record IsIndexedAs (entries : List IndexEntry) (id len : ℕ) (digest : List ℕ) : Type 0 where
  pub entry : IndexEntry
  pub there : entry_of entries id ≡ Some entry
  pub len_is : entry.len ≡ len
  pub digest_is : entry.digest ≡ digest

-- The entry tells a put of this id as stored, whose bytes, as the script hands them over, have this length and digest.
pub record IsPutOfDigest (script : Script) (put : Entry) (id len : ℕ) (digest : List ℕ) : Type 0 where
  pub kind_is : put.kind ≡ kind.Put
  pub id_is : put.id ≡ Some id
  pub stored : put.answer ≡ answer.Stored
  pub len_is : length (handed_by script put.caller put.call) ≡ len
  pub digest_is : sha256 (handed_by script put.caller put.call) ≡ digest

-- So does one of the first items of a journal.
pub record IsStoredAs (script : Script) (items : List Item) (index id len : ℕ) (digest : List ℕ) : Type 0 where
  pub place : ℕ
  pub put : Entry
  pub there : CallAt items place put
  pub earlier : place < index
  pub is : IsPutOfDigest script put id len digest

-- The index of the opening has this length and digest for the id, or a put listed before this index had.
abbrev pub IsKnownAs : Script → List IndexEntry → List Item → ℕ → ℕ → ℕ → List ℕ → Type 0
IsKnownAs script entries items index id len digest =
    IsIndexedAs entries id len digest ⊎ IsStoredAs script items index id len digest

-- The bytes that a get hands out have a length and a SHA-256 that are known for their id; what a sum tells is known.
abbrev pub IsReadAsKnown : Script → List IndexEntry → List Item → ℕ → Entry → Answer → Type 0
IsReadAsKnown script entries items index entry (answer.Read bytes) =
    (id : ℕ) × (entry.id ≡ Some id) × IsKnownAs script entries items index id (length bytes) (sha256 bytes)
IsReadAsKnown script entries items index entry (answer.Digest len digest) =
    (id : ℕ) × (entry.id ≡ Some id) × IsKnownAs script entries items index id len digest
IsReadAsKnown script entries items index entry other = ⊤

-- So it is with each read that a journal answers, whatever the devices hold.
pub record ReadsAreKnown (script : Script) (entries : List IndexEntry) (items : List Item) : Type 0 where
  pub each : (index : ℕ) (entry : Entry) → CallAt items index entry
      → IsReadAsKnown script entries items index entry entry.answer
