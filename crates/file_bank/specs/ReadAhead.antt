-- A file that is read ahead, as contracts see it.
use Rattle.std.specs.Prelude.{ℕ, Option, Some, None, ⊤}
use Rattle.file_bank.specs.BlockFile.{Contents}
use Rattle.file_bank.specs.ReadPiece.{HoldsNone}
use Rattle.file_bank.specs.declared.gathered.Gathered.{Gathered}
use Rattle.file_bank.specs.declared.read_ahead.ReadAhead.{ReadAhead}

-- what the file below holds
abbrev pub ahead_contents : {F : Type 0} {b : _} → (F → Contents) → ReadAhead F b → Contents
ahead_contents contents ahead = contents ahead.file

-- how often a call on the file below has failed
abbrev pub ahead_faults : {F : Type 0} {b : _} → (F → ℕ) → ReadAhead F b → ℕ
ahead_faults faults ahead = faults ahead.file

-- what the file below held when a sync was begun
abbrev pub ahead_begun : {F : Type 0} {b : _} → (F → Option Contents) → ReadAhead F b → Option Contents
ahead_begun begun_with ahead = begun_with ahead.file

-- Nothing that was read before is there.
abbrev pub RemembersNone : {F : Type 0} {b : _} → ReadAhead F b → Type 0
RemembersNone ahead = HoldsNone ahead.piece

-- Nothing that was read of a file is remembered, or it could not be opened.
abbrev pub HasForgotten : {F : Type 0} {g b : _} → Option (Gathered (ReadAhead F g) b) → Type 0
HasForgotten (Some held) = RemembersNone held.file
HasForgotten None = ⊤
