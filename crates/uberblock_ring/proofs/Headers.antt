-- What the fields of an uberblock's bytes tell.
use Rattle.std.proofs.Common.{◌≡◌, ℕ, ◌-◌, ◌*◌, ◌^◌, ◌<◌, ◌≤◌, List, [], ◌∷◌, ◌++◌, length, take, drop, replicate, sym}
use Rattle.std.proofs.Common.{◌∙◌, ap, arith, append_assoc}
use Rattle.std.specs.Prelude.{flat_map}
use Rattle.std.proofs.lemmas.List.{drop_at, take_at, take-take}
use Rattle.std.proofs.lemmas.List.Elements.{All-head, All-tail}
use Rattle.sha2.specs.Sha256.{sha256}
use Rattle.width_map.specs.declared.birth.Birth.{Birth}
use Rattle.width_map.specs.Births.{IsGrowing}
use Rattle.reflow_mark.specs.declared.reflow.Reflow.{Reflow}
use Rattle.reflow_mark.specs.Reflow.{IsWordOf}
use Rattle.block_record.specs.Bytes.{be32}
use Rattle.block_record.proofs.Spelling.{be32_number, be64_number, last32, last64, split_last}
use Rattle.uberblock_ring.specs.declared.header.Header.{Header}
use Rattle.uberblock_ring.specs.Header.{FitBirths, FitsHeader, header_after, header_of, uber_with}
use Rattle.uberblock_ring.specs.Uberblock.{birth_bytes, encoded, fields_bytes, head_bytes, magic, Uber, version}
use Rattle.uberblock_ring.specs.Valid.{IsRightUber}
use Rattle.uberblock_ring.proofs.OneSpelling.{births_fit, births_tell, FitFields, from_fits, length-births}
use Rattle.uberblock_ring.proofs.OneSpelling.{length-fields, mark_fits, out_fits, word_fits}

same_header : (one other : Header) → one.pool ≡ other.pool → one.group ≡ other.group → one.parity ≡ other.parity → one.from ≡ other.from
    → one.to ≡ other.to → one.area ≡ other.area → one.rows ≡ other.rows → one.word ≡ other.word → one.out ≡ other.out
    → one.count ≡ other.count → one.births ≡ other.births → one.digest ≡ other.digest → one ≡ other
same_header one other pool group parity from to area rows word out count births digest = λ i. record {
  pool = pool i;
  group = group i;
  parity = parity i;
  from = from i;
  to = to i;
  area = area i;
  rows = rows i;
  word = word i;
  out = out i;
  count = count i;
  births = births i;
  digest = digest i;
}

-- Bytes tell the fields that they end with.
header_tells : (front behind : List ℕ) (one other : Header) → FitsHeader one → FitsHeader other
    → header_after front one ≡ header_after behind other → one ≡ other
header_tells front behind one other fit good same =
    let e0 = split_last _ _ _ _ same (fit.digest.wide ∙ sym good.digest.wide) in
    let e1 = last32 _ _ _ _ e0.0 in
    let e2 = last32 _ _ _ _ e1.0 in
    let e3 = last64 _ _ _ _ e2.0 in
    let e4 = last64 _ _ _ _ e3.0 in
    let e5 = last64 _ _ _ _ e4.0 in
    let e6 = last32 _ _ _ _ e5.0 in
    let e7 = last32 _ _ _ _ e6.0 in
    let e8 = last32 _ _ _ _ e7.0 in
    let e9 = last32 _ _ _ _ e8.0 in
    let e10 = last64 _ _ _ _ e9.0 in
    let e11 = last64 _ _ _ _ e10.0 in
    same_header one other (be64_number _ _ fit.pool good.pool e11.1) (be64_number _ _ fit.group good.group e10.1)
    (be32_number _ _ fit.parity good.parity e9.1) (be32_number _ _ fit.from good.from e8.1) (be32_number _ _ fit.to good.to e7.1)
    (be32_number _ _ fit.area good.area e6.1) (be64_number _ _ fit.rows good.rows e5.1) (be64_number _ _ fit.word good.word e4.1)
    (be64_number _ _ fit.out good.out e3.1) (be32_number _ _ fit.count good.count e2.1) (be32_number _ _ fit.births good.births e1.1) e0.1

-- The fields of a right uberblock fit.
header_fits : (uber : Uber) → IsRightUber uber → FitsHeader (header_of uber)
header_fits uber right = record {
  pool = right.pool;
  group = omega (arith, right.group);
  parity = omega (arith, right.parity);
  from = from_fits uber right;
  to = omega (arith, right.widths);
  area = omega (arith, right.area);
  rows = omega (arith, right.rows);
  word = word_fits uber.reflow (mark_fits uber.reflow right.reflow right.widths.1 right.rows.1);
  out = out_fits uber.out uber.reflow.to right.widths.1 right.out.0;
  count = omega (arith, right.count);
  births = omega (arith, right.births.few);
  digest = right.digest;
}

-- An uberblock's bytes are its fields, its births and others.
encoded_parts : (uber : Uber) (device : ℕ) → encoded uber device ≡ fields_bytes uber device
    ++ (flat_map birth_bytes uber.births ++ (replicate (368 - 12 * length uber.births) 0 ++ sha256 (head_bytes uber device)))
unfolding encoded head_bytes
encoded_parts uber device =
    append_assoc (fields_bytes uber device ++ flat_map birth_bytes uber.births) (replicate (368 - 12 * length uber.births) 0) (sha256 (head_bytes uber device))
    ∙ append_assoc (fields_bytes uber device) (flat_map birth_bytes uber.births)
    (replicate (368 - 12 * length uber.births) 0 ++ sha256 (head_bytes uber device))

-- what follows the fields
behind : Uber → ℕ → List ℕ
behind uber device = flat_map birth_bytes uber.births ++ (replicate (368 - 12 * length uber.births) 0 ++ sha256 (head_bytes uber device))

front_fields : (uber : Uber) (device : ℕ) (bytes : List ℕ) → IsRightUber uber → bytes ≡ encoded uber device → take 112 bytes ≡ fields_bytes uber device
unfolding behind
front_fields uber device bytes right is =
    ap (λ (xs : List ℕ). take 112 xs) (is ∙ encoded_parts uber device)
    ∙ take_at (fields_bytes uber device) (behind uber device) 112 (length-fields uber device right.digest)

-- The fields that were read of an uberblock are its own.
pub header_told : (uber : Uber) (device : ℕ) (bytes : List ℕ) (header : Header) → IsRightUber uber → bytes ≡ encoded uber device
    → take 112 bytes ≡ header_after (take 16 bytes) header → FitsHeader header → header ≡ header_of uber
header_told uber device bytes header right is read fit =
    header_tells (take 16 bytes) (magic ++ be32 version ++ be32 device) header (header_of uber) fit (header_fits uber right)
    (sym read ∙ front_fields uber device bytes right is)

-- So are the births.
pub fit_fields_of : (births : List Birth) → FitBirths births → FitFields births
fit_fields_of [] fit = tt
fit_fields_of (birth ∷ births) fit =
    let one = All-head (λ b. (b.group < 2 ^ 64) × (b.width < 2 ^ 32)) birth births fit in
    (one.0, one.1, fit_fields_of births (All-tail (λ b. (b.group < 2 ^ 64) × (b.width < 2 ^ 32)) birth births fit))

pub births_told : (uber : Uber) (device : ℕ) (bytes : List ℕ) (read : List Birth) → IsRightUber uber → bytes ≡ encoded uber device
    → length read ≡ length uber.births → FitBirths read
    → take (12 * length uber.births) (take 192 (drop 112 bytes)) ≡ flat_map birth_bytes read → read ≡ uber.births
unfolding behind
births_told uber device bytes read right is counted fit spelled =
    let n = length uber.births in
    let back : drop 112 bytes ≡ behind uber device =
    ap (λ (xs : List ℕ). drop 112 xs) (is ∙ encoded_parts uber device)
    ∙ drop_at (fields_bytes uber device) (behind uber device) 112 (length-fields uber device right.digest) in
    let own : take (12 * n) (take 192 (drop 112 bytes)) ≡ flat_map birth_bytes uber.births =
    take-take (12 * n) 192 (drop 112 bytes) (omega (arith, right.births.few))
    ∙ ap (λ (xs : List ℕ). take (12 * n) xs) back
    ∙ take_at (flat_map birth_bytes uber.births) (replicate (368 - 12 * n) 0 ++ sha256 (head_bytes uber device)) (12 * n) (length-births uber.births) in
    births_tell read uber.births (fit_fields_of read fit) (births_fit uber right) counted (sym spelled ∙ own)

-- The word of the reflow is its own.
pub word_told : (uber : Uber) (header : Header) → IsRightUber uber → header ≡ header_of uber
    → IsWordOf uber.reflow header.from header.to header.rows header.word
word_told uber header right is = record {
  widths = (ap (λ (h : Header). h.from) (sym is), ap (λ (h : Header). h.to) (sym is));
  height = ap (λ (h : Header). h.rows) (sym is);
  right = right.reflow;
  packed = ap (λ (h : Header). h.word) (sym is);
}

pub rows_told : (uber : Uber) (header : Header) → IsRightUber uber → header ≡ header_of uber → header.rows ≤ 65536
rows_told uber header right is = omega (arith, right.rows, ap (λ (h : Header). h.rows) is)

pub count_told : (uber : Uber) (header : Header) → IsRightUber uber → header ≡ header_of uber → header.births ≡ length uber.births
count_told uber header right is = ap (λ (h : Header). h.births) is

growing_some : (births : List Birth) → IsGrowing births → 0 < length births
growing_some [] growing = absurd growing
growing_some (birth ∷ births) growing = omega arith

pub births_count : (uber : Uber) (header : Header) → IsRightUber uber → header ≡ header_of uber → (0 < header.births) × (header.births ≤ 16)
births_count uber header right is =
    let count : header.births ≡ length uber.births = count_told uber header right is in
    let some : 0 < length uber.births = growing_some uber.births right.births.growing in
    (omega (arith, count, some), omega (arith, count, right.births.few))

-- From its fields, its reflow and its births an uberblock is put together.
pub uber_told : (uber : Uber) (header : Header) (reflow : Reflow) (births : List Birth) → header ≡ header_of uber → reflow ≡ uber.reflow
    → births ≡ uber.births → uber_with header reflow births ≡ uber
uber_told uber header reflow births is same own = λ i. record {
  pool = (is i).pool;
  group = (is i).group;
  parity = (is i).parity;
  reflow = same i;
  area = (is i).area;
  out = (is i).out;
  count = (is i).count;
  digest = (is i).digest;
  births = own i;
}
