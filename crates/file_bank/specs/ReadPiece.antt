-- The sectors that were read in one call, as contracts see them.
use Rattle.std.specs.Prelude.{◌≡◌, ℕ, ◌-◌, ◌<◌, ◌≤◌, List, Option, Some, slice_get}
use Rattle.file_bank.specs.BlockFile.{Contents}
use Rattle.file_bank.specs.declared.read_piece.ReadPiece.{ReadPiece}

-- A sector is there.
abbrev pub HoldsSector : ReadPiece → ℕ → Type 0
HoldsSector piece x = (piece.from ≤ x) × (x < piece.end)

-- No sector is there.
abbrev pub HoldsNone : ReadPiece → Type 0
HoldsNone piece = (x : ℕ) → HoldsSector piece x → ⊥

-- the bytes of one that is there
abbrev pub sector_in : ReadPiece → ℕ → Option (List ℕ)
sector_in piece x = slice_get piece.sectors.items (x - piece.first)

-- Each sector that is there is as it stands in a file, where that is told.
abbrev pub IsOf : Contents → ReadPiece → Type 0
IsOf file piece = (x : ℕ) → HoldsSector piece x → (bytes : List ℕ) → file.reads x ≡ Some bytes
    → sector_in piece x ≡ Some bytes
