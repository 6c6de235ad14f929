-- The text of a word at its place.
use Rattle.std.proofs.Common.{◌≡◌, ⊎_elim, ℕ, ◌+◌, ◌<◌, ◌≤◌, List, length, get_or, refl, ap, ◌∙◌, subst, sym, arith}
use Rattle.std.proofs.lemmas.Bool.{cases_lt}
use Rattle.std.proofs.lemmas.List.{length-map}
use Rattle.std.proofs.lemmas.Fmt.{decimal_injective}
use Rattle.std.specs.Prelude.{◌++◌, codes, drop, ◌^◌, IfNone, None, decimal, Option, Some, slice_get, map, String}
use Rattle.std.specs.Prelude.{string_bytes, option_map}
use Rattle.std.proofs.lemmas.Option.{slice_get-map, slice_get-get_or, slice_get_within}
use Rattle.std.specs.declared.alloc.Global.{Global}
use Rattle.raidzx_top.specs.Images.{AreImages, EachImage, IsImageWord, IsMemoryOf}

pub text_at : (words : List (String Global)) (i : ℕ) (word : String Global) → i < length words → word ≡ get_or words i word → slice_get (map string_bytes words) i ≡ Some (string_bytes word)
text_at words i word within is = slice_get-map string_bytes words i ∙ ap (λ o. option_map string_bytes o) (slice_get-get_or words i word within ∙ ap Some (sym is))

pub none_because : {T P Q : Type 0} (o : Option T) → IfNone o P → (P → Q) → IfNone o Q
none_because None p then = then p
none_because (Some x) p then = tt

-- two numbers that one word spells
pub same_number : (word : Option (List ℕ)) (bytes : List ℕ) (m n : ℕ) → m < 2 ^ 64 → n < 2 ^ 64 → word ≡ Some (decimal m) → word ≡ Some bytes → bytes ≡ decimal n → n ≡ m
same_number word bytes m n m_fits n_fits spelled is text = let e : decimal n ≡ decimal m = cc in decimal_injective n m n_fits m_fits e

-- Two numbers of sectors that one word of a device in memory spells.
pub same_sectors : (word digits : List ℕ) (m n : ℕ) → m < 2 ^ 64 → n < 2 ^ 64
    → word ≡ codes "mem:" ++ digits → digits ≡ decimal m → word ≡ codes "mem:" ++ decimal n
    → n ≡ m
same_sectors word digits m n m_fits n_fits spelled is other =
    let all : codes "mem:" ++ decimal m ≡ codes "mem:" ++ decimal n =
    ap (λ (l : List ℕ). codes "mem:" ++ l) (sym is) ∙ sym spelled ∙ other in
    let tails : decimal m ≡ decimal n = ap (λ (l : List ℕ). drop 4 l) all in
    sym (decimal_injective m n m_fits n_fits tails)

-- What each word has from the second on to this one, and this one has, each has with this one.
pub each_more : (P : List ℕ → Type 0) (words : List (String Global)) (index : ℕ)
    (word : String Global) → index < length words → word ≡ get_or words index word
    → ((k : ℕ) (text : List ℕ) → 1 ≤ k → k < index → slice_get (map string_bytes words) k ≡ Some text
    → P text)
    → P (string_bytes word)
    → (k : ℕ) (text : List ℕ) → 1 ≤ k → k < index + 1
    → slice_get (map string_bytes words) k ≡ Some text
    → P text
each_more P words index word within is before here k text some below at = ⊎_elim
    (λ less. before k text some less at)
    (λ more.
    let same : k ≡ index = omega (arith, more, below) in
    let there = subst (λ j. slice_get (map string_bytes words) j ≡ Some text) same at in
    let known = text_at words index word within is in
    let it : string_bytes word ≡ text = cc in
    subst P it here)
    (cases_lt k index)

-- the text of a word within the list
pub word_at : (words : List (String Global)) (index : ℕ) (text : List ℕ)
    → slice_get (map string_bytes words) index ≡ Some text
    → index < length words
word_at words index text at =
    let within = slice_get_within (map string_bytes words) index text at in
    omega (arith, within, length-map words (string_bytes {Z = Global}))

-- A word names a device in memory of one size.
pub one_size : (word : List ℕ) (m n : ℕ) → IsMemoryOf word m → IsMemoryOf word n → m ≡ n
one_size word m n one other = sym (same_sectors word (decimal m) m n (omega (arith, one.few)) (omega (arith, other.few))
    one.spelled refl other.spelled)

-- The first two dashes stand in one place.
pub one_count : (words : List (List ℕ)) (memory : Option ℕ) (count other : ℕ)
    → AreImages words memory other → 1 ≤ count
    → slice_get words (count + 1) ≡ Some (codes "--")
    → EachImage words count (λ word. word ≡ codes "--" → ⊥)
    → other ≡ count
one_count words memory count other are some dashes first = ⊎_elim
    (λ less. absurd (first (other + 1) (codes "--") (omega arith) (omega (arith, less)) are.dashes refl))
    (λ more. ⊎_elim
    (λ above. absurd (are.first (count + 1) (codes "--") (omega arith) (omega (arith, above)) dashes refl))
    (λ not_above. omega (arith, more, not_above)) (cases_lt count other))
    (cases_lt other count)

-- No images, where some word is no file and no device in memory has the size of the first.
pub no_images : (words : List (List ℕ)) (count : ℕ) → 1 ≤ count
    → slice_get words (count + 1) ≡ Some (codes "--")
    → EachImage words count (λ word. word ≡ codes "--" → ⊥)
    → (EachImage words count (IsImageWord None) → ⊥)
    → ((sectors : ℕ) → EachImage words count (IsImageWord (Some sectors)) → ⊥)
    → (memory : Option ℕ) (other : ℕ) → AreImages words memory other
    → ⊥
no_images words count some dashes first no_files no_memory None other are =
    no_files (subst (λ k. EachImage words k (IsImageWord None))
    (one_count words None count other are some dashes first) are.each)
no_images words count some dashes first no_files no_memory (Some sectors) other are =
    no_memory sectors (subst (λ k. EachImage words k (IsImageWord (Some sectors)))
    (one_count words (Some sectors) count other are some dashes first) are.each)
