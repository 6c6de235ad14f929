-- Images as files of a bank.
use Rattle.std.specs.Prelude.{ℕ, ◌*◌, Option, Some, None, if◌then◌else◌}
use Rattle.file_bank.specs.BlockFile.{Contents, untold}
use Rattle.file_bank.specs.Gathered.{told_of}
use Rattle.file_bank.specs.ReadAhead.{ahead_contents}
use Rattle.file_bank.specs.declared.gathered.Gathered.{Gathered}
use Rattle.file_bank.specs.declared.read_ahead.ReadAhead.{ReadAhead}
use Rattle.raidzx.specs.declared.files.Image.{Image}
use Rattle.raidzx.specs.declared.files.ImageFile.{ImageFile}

-- how many whole sectors of it may be used
abbrev pub image_sectors : Image → ℕ
image_sectors image = image.sectors

-- what it holds: its length alone is told
abbrev pub image_contents : {R : Type 0} → ImageFile R → Contents
image_contents file = untold (512 * image_sectors file.image)

-- how often a call on it has failed
abbrev pub image_faults : {R : Type 0} → ImageFile R → ℕ
image_faults file = file.faults

-- what it held when a sync was begun that has not ended
abbrev pub image_begun : {R : Type 0} → ImageFile R → Option Contents
image_begun file = if file.is_begun then Some (image_contents file) else None

-- what the file of a device holds: an image with what is kept of its writes over it
abbrev pub device_contents : {R : Type 0} {g b : _} → Gathered (ReadAhead (ImageFile R) g) b → Contents
device_contents held = told_of (ahead_contents image_contents) held
