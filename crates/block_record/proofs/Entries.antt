-- The bytes of one entry: how many, and that they tell the entry.
use Rattle.std.proofs.Common.{◌≡◌, ℕ, ◌^◌, ◌<◌, List, ◌++◌, length, drop, take, refl, sym, ◌∙◌, ap, subst, arith}
use Rattle.std.proofs.Common.{length-append}
use Rattle.std.proofs.lemmas.List.{drop_at, take_all, take_at}
use Rattle.block_record.specs.declared.entry.IndexEntry.{IndexEntry}
use Rattle.block_record.specs.Bytes.{be32, be64}
use Rattle.block_record.specs.Page.{entry_bytes, IsRightEntry}
use Rattle.block_record.specs.Index.{entry_fields, FitsFields, HasRightLengthAndBirth, SpellsEntry}
use Rattle.block_record.proofs.Reading.{joined}
use Rattle.block_record.proofs.Spelling.{be32_number, be64_number, last32, last64, length-be32, split_last}

-- A right entry fits, and one that fits is right where its numbers are.
pub right_fits : (entry : IndexEntry) → IsRightEntry entry → FitsFields entry
right_fits entry right = record {
  id = right.id;
  start = right.start;
  len = omega (arith, right.len);
  birth = right.birth.1;
  digest = right.digest;
}

pub right_entry : (entry : IndexEntry) → FitsFields entry → HasRightLengthAndBirth entry → IsRightEntry entry
right_entry entry fit numbers = record {
  id = fit.id;
  start = fit.start;
  len = (numbers.0, numbers.1);
  birth = (numbers.2, fit.birth);
  digest = fit.digest;
}

pub right_numbers : (entry : IndexEntry) → IsRightEntry entry → HasRightLengthAndBirth entry
right_numbers entry right = (right.len.0, right.len.1, right.birth.0)

-- An entry is its fields and four zeros.
pub entry_parts : (entry : IndexEntry) → entry_bytes entry ≡ entry_fields entry ++ be32 0
unfolding entry_bytes entry_fields
entry_parts entry = refl

pub length-entry_fields : (entry : IndexEntry) → length entry.digest ≡ 32 → length (entry_fields entry) ≡ 60
unfolding entry_fields be32 be64
length-entry_fields entry wide = omega (
  arith,
  wide,
  length-append (be64 entry.id ++ be64 entry.start ++ be32 entry.len ++ be64 entry.birth) entry.digest,
)

pub length-entry_bytes : (entry : IndexEntry) → length entry.digest ≡ 32 → length (entry_bytes entry) ≡ 64
length-entry_bytes entry wide = omega (
  arith,
  length-entry_fields entry wide,
  ap length (entry_parts entry),
  length-append (entry_fields entry) (be32 0),
  length-be32 0,
)

same_entry : (one other : IndexEntry) → one.id ≡ other.id → one.start ≡ other.start → one.len ≡ other.len
    → one.birth ≡ other.birth → one.digest ≡ other.digest → one ≡ other
same_entry one other id start len birth digest =
    λ i. record { id = id i; start = start i; len = len i; birth = birth i; digest = digest i }

-- The fields tell the entry.
pub fields_tell : (one other : IndexEntry) → FitsFields one → FitsFields other → entry_fields one ≡ entry_fields other → one ≡ other
unfolding entry_fields
fields_tell one other fit good same =
    let e0 = split_last _ _ _ _ same (fit.digest.wide ∙ sym good.digest.wide) in
    let e1 = last64 _ _ _ _ e0.0 in
    let e2 = last32 _ _ _ _ e1.0 in
    let e3 = last64 _ _ _ _ e2.0 in
    same_entry one other (be64_number _ _ fit.id good.id e3.0) (be64_number _ _ fit.start good.start e3.1)
    (be32_number _ _ fit.len good.len e2.1) (be64_number _ _ fit.birth good.birth e1.1) e0.1

-- The first 60 bytes of an entry are its fields.
pub fields_of_entry : (bytes : List ℕ) (entry : IndexEntry) → SpellsEntry bytes entry → take 60 bytes ≡ entry_fields entry
fields_of_entry bytes entry is =
    ap (λ (xs : List ℕ). take 60 xs) (is.spelled ∙ entry_parts entry)
    ∙ take_at (entry_fields entry) (be32 0) 60 (length-entry_fields entry is.right.digest.wide)

-- The last four bytes of an entry are zeros.
pub rest_of_entry : (bytes : List ℕ) (entry : IndexEntry) → SpellsEntry bytes entry → take 4 (drop 60 bytes) ≡ be32 0
rest_of_entry bytes entry is =
    ap (λ (xs : List ℕ). take 4 (drop 60 xs)) (is.spelled ∙ entry_parts entry)
    ∙ ap (λ (xs : List ℕ). take 4 xs) (drop_at (entry_fields entry) (be32 0) 60 (length-entry_fields entry is.right.digest.wide))
    ∙ take_all 4 (be32 0) (omega (arith, length-be32 0))

-- The fields that were read of an entry are its own,
pub read_fields : (bytes : List ℕ) (read entry : IndexEntry) → take 60 bytes ≡ entry_fields read → FitsFields read
    → SpellsEntry bytes entry → read ≡ entry
read_fields bytes read entry front fit is = fields_tell read entry fit (right_fits entry is.right) (sym front ∙ fields_of_entry bytes entry is)

-- so its numbers are right, and the bytes behind them zeros.
pub read_numbers : (bytes : List ℕ) (read entry : IndexEntry) → take 60 bytes ≡ entry_fields read → FitsFields read
    → SpellsEntry bytes entry → HasRightLengthAndBirth read
read_numbers bytes read entry front fit is =
    subst (λ (e : IndexEntry). HasRightLengthAndBirth e) (sym (read_fields bytes read entry front fit is)) (right_numbers entry is.right)

pub read_rest : (bytes : List ℕ) (entry : IndexEntry) (rest : ℕ) → take 4 (drop 60 bytes) ≡ be32 rest → rest < 2 ^ 32
    → SpellsEntry bytes entry → rest ≡ 0
read_rest bytes entry rest back small is = be32_number rest 0 small (omega arith) (sym back ∙ rest_of_entry bytes entry is)

-- Sixty-four bytes whose fields are right and whose last four bytes are zeros are an entry.
pub entry_is_read : (bytes : List ℕ) (read : IndexEntry) → length bytes ≡ 64 → take 60 bytes ≡ entry_fields read → FitsFields read
    → take 4 (drop 60 bytes) ≡ be32 0 → HasRightLengthAndBirth read → SpellsEntry bytes read
entry_is_read bytes read wide front fit back numbers = record {
  right = right_entry read fit numbers;
  spelled = sym (take_all 64 bytes (omega (arith, wide))) ∙ joined 60 4 bytes front back ∙ sym (entry_parts read);
}

-- The bytes of an entry tell it.
pub entry_tells : (one other : IndexEntry) → IsRightEntry one → IsRightEntry other → entry_bytes one ≡ entry_bytes other → one ≡ other
entry_tells one other right good same =
    fields_tell one other (right_fits one right) (right_fits other good)
    (last32 _ _ _ _ (sym (entry_parts one) ∙ same ∙ entry_parts other)).0
