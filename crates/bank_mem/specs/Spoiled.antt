-- What a spoiled sector does to a bank in memory.
use Rattle.std.specs.Prelude.{◌≡◌, ℕ, List, [], ◌∷◌, Some}
use Rattle.bank_trait.specs.Disk.{Disk, Later}
use Rattle.bank_mem.specs.Record.{put, could_only}

-- Sector x of device d now holds these bytes for certain, and no other sector is changed, as it is read
-- or as a crash leaves it.
pub record Spoiled (old new : Disk) (d x : ℕ) (bytes : List ℕ) : Type 0 where
  pub later : Later old new
  pub reads : (e y : ℕ) → new.reads e y ≡ put old.reads d x (Some bytes) e y
  pub leaves : (e y : ℕ)
      → new.leaves new.clock e y ≡ put (old.leaves old.clock) d x (Some bytes) e y
  pub could : (e y : ℕ)
      → new.could new.clock e y ≡ could_only (old.could old.clock) d x (bytes ∷ []) e y
