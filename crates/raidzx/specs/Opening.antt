-- Why an image can't be used.
use Rattle.std.specs.Prelude.{◌≡◌, ◌⊎◌, Some, pos}
use Rattle.std.specs.IoError.{error_kind, raw_os_error}
use Rattle.std.specs.declared.io.Error.{Error}
use Rattle.std.specs.declared.io.ErrorKind.TheVariants.{PermissionDenied, OutOfMemory, ReadOnlyFilesystem, ResourceBusy}
use Rattle.raidzx.specs.declared.opening.Unopened.{Unopened}
use Rattle.raidzx.specs.declared.opening.Unopened.TheVariants.{Held, Refused, Failed}

-- An error that tells of this program or its system and not of a disk: no permission, no memory, a file system that may
-- be read alone, a disk that the system has for itself, no descriptor left.
abbrev pub IsOfProgram : Error → Type 0
IsOfProgram error = (error_kind error ≡ PermissionDenied) ⊎ ((error_kind error ≡ OutOfMemory)
    ⊎ ((error_kind error ≡ ReadOnlyFilesystem) ⊎ ((error_kind error ≡ ResourceBusy)
    ⊎ ((raw_os_error error ≡ Some (pos 23)) ⊎ (raw_os_error error ≡ Some (pos 24))))))

-- No image counts as a failed disk for an error that tells of this program.
abbrev pub IsJust : Unopened → Type 0
IsJust Held = Unit {0}
IsJust (Refused error) = Unit {0}
IsJust (Failed error) = IsOfProgram error → ⊥
