-- Bytes that are read from content columns are those that the columns were made of.
use Rattle.std.proofs.Common.{◌≡◌, ℕ, ◌+◌, ◌-◌, ◌*◌, ◌/◌, ◌%◌, ◌<◌, ◌≤◌, List, ◌++◌, length, sym, ◌∙◌, ap, arith}
use Rattle.std.proofs.Common.{⊎_elim}
use Rattle.std.specs.Prelude.{take, drop, replicate, min, slice_index}
use Rattle.std.proofs.lemmas.Bool.{cases_lt}
use Rattle.std.proofs.lemmas.Grind.{same_number_lists}
use Rattle.std.proofs.lemmas.List.{get_or_append_left, get_or-append-add, get_or-take, get_or-drop, length-take}
use Rattle.std.proofs.lemmas.List.{length-append, length-drop}
use Rattle.row_layout.specs.declared.column.Part.TheVariants.{Content}
use Rattle.row_layout.specs.Layout.{Layout, IsLayout, IsColumn, part_of}
use Rattle.row_layout.specs.Standing.{IsOnlyPlace}
use Rattle.row_layout.proofs.Laws.{stands_once}
use Rattle.row_layout.proofs.Parts.{row_few, content_behind}
use Rattle.reconstruct.specs.Columns.{content_sector, part_bytes, column_bytes}
use Rattle.reconstruct.specs.Rows.{Rows, column_at, HoldsContent, IsContent, IsEncoded, sectors_for}

-- The next sector's column is appended.
pub one_more : (layout : Layout) (rows : Rows) (old new column : List ℕ) (number row place count : ℕ) → IsLayout layout
    → length old ≡ 512 * number → count ≤ 512 → count ≤ length column → column ≡ column_at rows row place → new ≡ old ++ take count column
    → IsOnlyPlace layout number row place → IsContent layout rows old → IsContent layout rows new
one_more layout rows old new column number row place count is long few there column_is new_is at_place so_far = record { byte = byte }
  where
    taken : length (take count column) ≡ count
    taken = omega (arith, length-take count column, there)

    wide : length new ≡ length old + count
    wide = ap length new_is ∙ length-append old (take count column) ∙ omega (arith, taken)

    byte : (row' place' number' at : ℕ) → IsColumn layout row' place' → part_of layout row' place' ≡ Content number' → at < 512
        → 512 * number' + at < length new → slice_index new (512 * number' + at) ≡ slice_index (column_at rows row' place') at
    byte row' place' number' at within part low below =
        ap (λ (k : List ℕ). slice_index k (512 * number' + at)) new_is
        ∙ ⊎_elim (λ before. get_or_append_left old (take count column) 0 (512 * number' + at) before ∙ so_far.byte row' place' number' at within part low before)
        (λ behind. let same : number' ≡ number = omega (arith, behind, long, low, below, wide, few) in
        let inside : at < count = omega (arith, same, long, below, wide) in
        let shift : 512 * number' + at ≡ length old + at = omega (arith, same, long) in
        let both = at_place.only row' place' within.row_in (omega (arith, within.column_in, row_few layout row' is)) (part ∙ ap Content same) in
        ap (λ (k : ℕ). slice_index (old ++ take count column) k) shift ∙ get_or-append-add old (take count column) at 0
        ∙ get_or-take count column at 0 inside ∙ ap (λ (k : List ℕ). slice_index k at) column_is
        ∙ ap (λ (k : ℕ). slice_index (column_at rows k place) at) (sym both.0) ∙ ap (λ (k : ℕ). slice_index (column_at rows row' k) at) (sym both.1))
        (cases_lt (512 * number' + at) (length old))

-- So the bytes grow by one sector, or end.
pub one_longer : (old new column : List ℕ) (len number count : ℕ) → length old ≡ min len (512 * number) → 512 * number < len
    → count ≡ min (len - length old) 512 → length column ≡ 512 → new ≡ old ++ take count column → length new ≡ min len (512 * (number + 1))
one_longer old new column len number count long more is wide new_is =
    ap length new_is ∙ length-append old (take count column) ∙ omega (arith, length-take count column, long, more, is, wide)

-- A byte of a sector is the block's byte there.
pub byte_of_sector : (bytes : List ℕ) (number at : ℕ) → at < 512 → 512 * number + at < length bytes
    → slice_index (content_sector bytes number) at ≡ slice_index bytes (512 * number + at)
unfolding content_sector
byte_of_sector bytes number at low below =
    let inside : at < length (drop (512 * number) bytes) = omega (arith, length-drop (512 * number) bytes, below) in
    get_or-take 512 (drop (512 * number) bytes ++ replicate 512 0) at 0 low ∙ get_or_append_left (drop (512 * number) bytes) (replicate 512 0) 0 at inside
    ∙ get_or-drop (512 * number) bytes at 0

-- A content column holds its sector.
pub column_is_sector : (layout : Layout) (bytes : List ℕ) (row column number : ℕ) → part_of layout row column ≡ Content number
    → column_bytes layout bytes row column ≡ content_sector bytes number
unfolding column_bytes
column_is_sector layout bytes row column number part = ap (part_bytes layout bytes row) part

-- Bytes that stand in the content columns, where these hold some block's content, are that block's.
pub read_back : (layout : Layout) (rows : Rows) (bytes wanted : List ℕ) → IsLayout layout → sectors_for (length bytes) ≡ layout.sectors
    → IsContent layout rows bytes → length wanted ≡ length bytes → HoldsContent layout wanted rows → bytes ≡ wanted
read_back layout rows bytes wanted is sectors told long holds =
    same_number_lists bytes wanted (sym long) (λ at low. byte at low)
  where
    byte : (at : ℕ) → at < length bytes → slice_index bytes at ≡ slice_index wanted at
    byte at low =
        let number_in : at / 512 < layout.sectors = omega (arith, low, sectors) in
        let once = stands_once layout (at / 512) is number_in in
        let split : 512 * (at / 512) + at % 512 ≡ at = omega arith in
        let rest : at % 512 < 512 = omega arith in
        let inside : 512 * (at / 512) + at % 512 < length bytes = omega (arith, split, low) in
        let also : 512 * (at / 512) + at % 512 < length wanted = omega (arith, inside, long) in
        ap (slice_index bytes) (sym split) ∙ told.byte once.row once.column (at / 512) (at % 512) once.place.within once.place.here rest inside
        ∙ ap (λ (k : List ℕ). slice_index k (at % 512)) (holds.content once.row once.column once.place.within (content_behind layout once.row once.column (at / 512) once.place.here)
        ∙ column_is_sector layout wanted once.row once.column (at / 512) once.place.here)
        ∙ byte_of_sector wanted (at / 512) (at % 512) rest also ∙ ap (slice_index wanted) split

-- Encoded rows hold the content.
pub encoded_holds : (layout : Layout) (bytes : List ℕ) (rows : Rows) → IsLayout layout → IsEncoded layout bytes rows → HoldsContent layout bytes rows
encoded_holds layout bytes rows is encoded = record {
  content = λ row column within behind. encoded.holds row column within.row_in (omega (arith, within.column_in, row_few layout row is));
}
