-- What a stop leaves on devices in memory, where it is told how it tears each sector.
use Rattle.std.specs.Prelude.{ℕ, List, [], Option, None, Bool, ◌&&◌, ◌==◌, find, reverse, option_map, slice_get}
use Rattle.std.specs.Prelude.{unwrap_or}
use Rattle.std.specs.List.{last_or}
use Rattle.bank_trait.specs.Disk.{Image}
use Rattle.bank_mem.specs.Record.{Shelf, content}
use Rattle.bank_mem.specs.declared.crash.Torn.{Torn}
use Rattle.bank_mem.specs.declared.crash.Tear.{Tear}

-- the same device and sector
abbrev pub same_place : ℕ × ℕ → ℕ × ℕ → Bool
same_place a b = (a.0 == b.0) && (a.1 == b.1)

-- how a sector is listed: as the last entry that names it says
abbrev pub listed_as : List Torn → ℕ → ℕ → Option Tear
listed_as torn d x =
    option_map (λ t. t.how) (find (λ t. same_place (t.device, t.sector) (d, x)) (reverse torn))

-- what a sector held at its device's last sync: the oldest of what it could hold
abbrev pub held_at_sync : List (List ℕ) → Option (List ℕ)
held_at_sync could = last_or None could

-- what a sector was handed last, or held at the sync where it was handed nothing since: the newest
abbrev pub handed_last : List (List ℕ) → Option (List ℕ)
handed_last could = slice_get could 0

-- what these sectors are as an image
abbrev pub image_of : Shelf → Image
image_of shelf d x = unwrap_or (content shelf d x) []
