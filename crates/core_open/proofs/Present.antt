-- What is read of a bank, as an image.
use Rattle.std.proofs.Common.{◌≡◌, ℕ, List, [], Option, Some, None, refl, sym, ◌∙◌, ap}
use Rattle.std.specs.Prelude.{IsSome, unwrap_or}
use Rattle.bank_trait.specs.Disk.{Disk, Lawful}
use Rattle.bank_trait.specs.Regions.{Tells}
use Rattle.core_state.specs.Keeps.{Kept, Setting}
use Rattle.core_state.specs.Collision.{MightStand}
use Rattle.core_state.proofs.Calls.{true_false}
use Rattle.core_state.proofs.Knowing.{present, present_might}
use Rattle.core_open.specs.Holds.{HoldsImage}
use Rattle.core_open.specs.Opens.{MayOpen}

-- What is read of a place that is told.
pub told_bytes : (o : Option (List ℕ)) → IsSome o → (bytes : List ℕ) × (o ≡ Some bytes)
told_bytes None told = absurd (true_false (sym told))
told_bytes (Some bytes) told = (bytes, refl)

-- A bank that tells what it holds holds what is read.
pub present_held : (disk : Disk) → Tells disk → HoldsImage disk (present disk)
present_held disk tells = record {
  each = λ d x low below.
      let bytes = told_bytes (disk.reads d x) (tells d x low below) in
      bytes.1 ∙ ap (λ (b : List ℕ). Some b) (sym (ap (λ o. unwrap_or o []) bytes.1));
}

-- What is read of a bank of which a pool may be opened might stand after a crash.
pub may_stand : (setting : Setting) (first : Kept) (later : List Kept) (disk : Disk)
    → MayOpen setting first later disk → Lawful disk
    → MightStand setting.shape disk disk.clock (present disk)
may_stand setting first later disk may lawful = present_might setting.shape disk lawful
    (may.no_other.ubers (present disk) (present_held disk may.tells))
