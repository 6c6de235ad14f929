-- The bytes of several entries, and the sectors of a page.
use Rattle.std.proofs.Common.{◌≡◌, ℕ, ◌+◌, ◌-◌, ◌*◌, ◌<◌, ◌≤◌, List, [], ◌∷◌, ◌++◌, length, take, drop, replicate, refl}
use Rattle.std.proofs.Common.{sym, ◌∙◌, ap, arith, ⊎_elim, length-append, min}
use Rattle.std.specs.Prelude.{All, flat_map}
use Rattle.std.proofs.lemmas.Bool.{cases_lt}
use Rattle.std.proofs.lemmas.List.{append-nil, drop_at, drop-append-le, length-drop, length-replicate, length-take-le}
use Rattle.std.proofs.lemmas.List.{take_all, take_at, take_min, take-append-drop, take-append-le}
use Rattle.std.proofs.lemmas.List.Concat.{flat_map-append}
use Rattle.std.proofs.lemmas.List.Elements.{All-drop, All-head, All-tail, All-take}
use Rattle.block_record.specs.declared.entry.IndexEntry.{IndexEntry}
use Rattle.block_record.specs.Page.{entry_bytes, index_page, IsRightEntry, page_sectors}
use Rattle.block_record.proofs.Entries.{length-entry_bytes}
use Rattle.block_record.proofs.Reading.{front_more}

-- Each entry takes 64 bytes.
pub length-entries : (entries : List IndexEntry) → All IsRightEntry entries → length (flat_map entry_bytes entries) ≡ 64 * length entries
length-entries [] each = refl
length-entries (entry ∷ entries) each = omega (
  arith,
  length-entries entries (All-tail IsRightEntry entry entries each),
  length-append (entry_bytes entry) (flat_map entry_bytes entries),
  length-entry_bytes entry (All-head IsRightEntry entry entries each).digest.wide,
)

-- The bytes of entries are those of the first and of the others.
parts : (entries : List IndexEntry) (n : ℕ) → flat_map entry_bytes entries
    ≡ flat_map entry_bytes (take n entries) ++ flat_map entry_bytes (drop n entries)
parts entries n = ap (λ (es : List IndexEntry). flat_map entry_bytes es) (sym (take-append-drop n entries))
    ∙ flat_map-append entry_bytes (take n entries) (drop n entries)

length-first : (entries : List IndexEntry) (n : ℕ) → All IsRightEntry entries → n ≤ length entries
    → length (flat_map entry_bytes (take n entries)) ≡ 64 * n
length-first entries n each low =
    length-entries (take n entries) (All-take IsRightEntry n entries each) ∙ ap (λ (k : ℕ). 64 * k) (length-take-le n entries low)

-- The first bytes are those of the first entries,
pub take-entries : (entries : List IndexEntry) (n : ℕ) → All IsRightEntry entries → n ≤ length entries
    → take (64 * n) (flat_map entry_bytes entries) ≡ flat_map entry_bytes (take n entries)
take-entries entries n each low =
    ap (λ (xs : List ℕ). take (64 * n) xs) (parts entries n)
    ∙ take_at (flat_map entry_bytes (take n entries)) (flat_map entry_bytes (drop n entries)) (64 * n) (length-first entries n each low)

-- and those behind them are of the others.
pub drop-entries : (entries : List IndexEntry) (n : ℕ) → All IsRightEntry entries → n ≤ length entries
    → drop (64 * n) (flat_map entry_bytes entries) ≡ flat_map entry_bytes (drop n entries)
drop-entries entries n each low =
    ap (λ (xs : List ℕ). drop (64 * n) xs) (parts entries n)
    ∙ drop_at (flat_map entry_bytes (take n entries)) (flat_map entry_bytes (drop n entries)) (64 * n) (length-first entries n each low)

-- A page has whole sectors.
pub length-index_page : (entries : List IndexEntry) → All IsRightEntry entries → length (index_page entries) ≡ 512 * page_sectors (length entries)
unfolding index_page
length-index_page entries each =
    let n = length entries in
    omega (
      arith,
      length-entries entries each,
      length-append (flat_map entry_bytes entries) (replicate (512 * page_sectors n - 64 * n) 0),
      length-replicate {A = ℕ} (512 * page_sectors n - 64 * n) 0,
    )

-- eight entries from one on
abbrev pub eight : List IndexEntry → ℕ → List IndexEntry
eight entries part = take 8 (drop (8 * part) entries)

-- Where eight entries or more are left, the sector has eight of them.
full_sector : (rest : List IndexEntry) (zeros : List ℕ) → All IsRightEntry rest → 8 ≤ length rest
    → take 512 (flat_map entry_bytes rest ++ zeros)
    ≡ flat_map entry_bytes (take 8 rest) ++ replicate (512 - 64 * length (take 8 rest)) 0
full_sector rest zeros each many =
    let counted : length (take 8 rest) ≡ 8 = length-take-le 8 rest many in
    let none : 512 - 64 * length (take 8 rest) ≡ 0 = omega (arith, counted) in
    take-append-le 512 (flat_map entry_bytes rest) zeros (omega (arith, many, length-entries rest each))
    ∙ take-entries rest 8 each many
    ∙ sym (append-nil (flat_map entry_bytes (take 8 rest)))
    ∙ ap (λ (n : ℕ). flat_map entry_bytes (take 8 rest) ++ replicate {A = ℕ} n 0) (sym none)

-- Where fewer are left, it has all of them and zeros.
last_sector : (rest : List IndexEntry) → All IsRightEntry rest → length rest < 8
    → take 512 (flat_map entry_bytes rest ++ replicate (512 - 64 * length rest) 0)
    ≡ flat_map entry_bytes (take 8 rest) ++ replicate (512 - 64 * length (take 8 rest)) 0
last_sector rest each few =
    let all : take 8 rest ≡ rest = take_all 8 rest (omega (arith, few)) in
    let bytes = flat_map entry_bytes rest ++ replicate {A = ℕ} (512 - 64 * length rest) 0 in
    take_all 512 bytes (omega (
      arith,
      few,
      length-entries rest each,
      length-append (flat_map entry_bytes rest) (replicate (512 - 64 * length rest) 0),
      length-replicate {A = ℕ} (512 - 64 * length rest) 0,
    ))
    ∙ ap (λ (es : List IndexEntry). flat_map entry_bytes es ++ replicate {A = ℕ} (512 - 64 * length es) 0) (sym all)

-- A sector of a page is its entries, then zeros.
pub sector_of_page : (entries : List IndexEntry) (part : ℕ) → All IsRightEntry entries → part < page_sectors (length entries)
    → take 512 (drop (512 * part) (index_page entries))
    ≡ flat_map entry_bytes (eight entries part) ++ replicate (512 - 64 * length (eight entries part)) 0
unfolding index_page
sector_of_page entries part each in_page =
    let n = length entries in
    let rest = drop (8 * part) entries in
    let rest_right : All IsRightEntry rest = All-drop IsRightEntry (8 * part) entries each in
    let rest_len : length rest ≡ n - 8 * part = length-drop (8 * part) entries in
    let begun : 8 * part ≤ n = omega (arith, in_page) in
    let zeros = replicate {A = ℕ} (512 * page_sectors n - 64 * n) 0 in
    let behind : drop (512 * part) (flat_map entry_bytes entries ++ zeros) ≡ flat_map entry_bytes rest ++ zeros =
    drop-append-le (512 * part) (flat_map entry_bytes entries) zeros (omega (arith, begun, length-entries entries each))
    ∙ ap (λ (k : ℕ). drop k (flat_map entry_bytes entries) ++ zeros) (omega arith)
    ∙ ap (λ (xs : List ℕ). xs ++ zeros) (drop-entries entries (8 * part) each begun) in
    ap (λ (xs : List ℕ). take 512 xs) behind
    ∙ ⊎_elim
    (λ (few : length rest < 8).
    let left : 512 * page_sectors n - 64 * n ≡ 512 - 64 * length rest = omega (arith, few, rest_len, in_page, begun) in
    ap (λ (k : ℕ). take 512 (flat_map entry_bytes rest ++ replicate {A = ℕ} k 0)) left ∙ last_sector rest rest_right few)
    (λ (many : 8 ≤ length rest). full_sector rest zeros rest_right many)
    (cases_lt (length rest) 8)

-- The entries of a sector, as a slice has them.
pub eight_sliced : (entries : List IndexEntry) (first end part : ℕ) → first ≡ 8 * part → end ≡ min (length entries) (first + 8)
    → first ≤ length entries → take (end - first) (drop first entries) ≡ eight entries part
eight_sliced entries first end part is until begun =
    let left : length (drop first entries) ≡ length entries - first = length-drop first entries in
    let n : end - first ≡ min 8 (length (drop first entries)) = omega (arith, until, begun, left) in
    ap (λ (k : ℕ). take k (drop first entries)) n ∙ take_min 8 (drop first entries)
    ∙ ap (λ (k : ℕ). take 8 (drop k entries)) is

-- A sector that is written from its entries is that of the page.
pub sector_written : (entries piece : List IndexEntry) (part : ℕ) (sector written : List ℕ) → All IsRightEntry entries
    → part < page_sectors (length entries) → piece ≡ eight entries part → sector ≡ [] ++ flat_map entry_bytes piece
    → written ≡ sector ++ replicate (512 - length sector) 0 → written ≡ take 512 (drop (512 * part) (index_page entries))
sector_written entries piece part sector written each in_page is put finished =
    let right : All IsRightEntry (eight entries part) = All-take IsRightEntry 8 (drop (8 * part) entries) (All-drop IsRightEntry (8 * part) entries each) in
    let sector_is : sector ≡ flat_map entry_bytes (eight entries part) = put ∙ ap (λ (es : List IndexEntry). flat_map entry_bytes es) is in
    let wide : length sector ≡ 64 * length (eight entries part) = ap length sector_is ∙ length-entries (eight entries part) right in
    finished ∙ ap (λ (xs : List ℕ). xs ++ replicate {A = ℕ} (512 - length sector) 0) sector_is
    ∙ ap (λ (k : ℕ). flat_map entry_bytes (eight entries part) ++ replicate {A = ℕ} (512 - k) 0) wide
    ∙ sym (sector_of_page entries part each in_page)

-- A page that is written sector by sector.
pub page_more : (page was now sector : List ℕ) (part : ℕ) → was ≡ take (512 * part) page → sector ≡ take 512 (drop (512 * part) page)
    → now ≡ was ++ sector → now ≡ take (512 * (part + 1)) page
page_more page was now sector part before next put =
    let k : 512 * part + 512 ≡ 512 * (part + 1) = omega arith in
    put ∙ ap (λ (xs : List ℕ). xs ++ sector) before ∙ ap (λ (xs : List ℕ). take (512 * part) page ++ xs) next
    ∙ sym (front_more (512 * part) 512 page) ∙ ap (λ (n : ℕ). take n page) k
