-- The words that name the devices: files, or devices in memory.
use Rattle.std.specs.Prelude.{◌≡◌, ◌≢◌, ℕ, ◌+◌, ◌≤◌, List, ◌++◌, take, Option, Some, None, slice_get, codes, decimal}

-- so many sectors each has at most: the head of a device and the most data rows
abbrev pub most_sectors : ℕ
most_sectors = 65728

-- A word that begins so names a device in memory.
abbrev pub IsMemoryWord : List ℕ → Type 0
IsMemoryWord word = take 4 word ≡ codes "mem:"

-- The word is a device in memory with so many sectors.
pub record IsMemoryOf (word : List ℕ) (sectors : ℕ) : Type 0 where
  pub spelled : word ≡ codes "mem:" ++ decimal sectors
  pub some : 1 ≤ sectors
  pub few : sectors ≤ most_sectors

-- The word names a file, or a device in memory with so many sectors.
abbrev pub IsImageWord : Option ℕ → List ℕ → Type 0
IsImageWord None word = IsMemoryWord word → ⊥
IsImageWord (Some sectors) word = IsMemoryOf word sectors

-- Each of the words from the second on, so many of them, has this.
abbrev pub EachImage : List (List ℕ) → ℕ → (List ℕ → Type 0) → Type 0
EachImage words count P = (index : ℕ) (word : List ℕ) → 1 ≤ index → index ≤ count
    → slice_get words index ≡ Some word
    → P word

-- The images are the words from the second on, so many of them, and then come two dashes: all files, or
-- all devices in memory with the same number of sectors.
pub record AreImages (words : List (List ℕ)) (memory : Option ℕ) (count : ℕ) : Type 0 where
  pub some : 1 ≤ count
  pub dashes : slice_get words (count + 1) ≡ Some (codes "--")
  pub first : EachImage words count (λ word. word ≢ codes "--")
  pub each : EachImage words count (IsImageWord memory)
