-- The order of a commit's calls.
use Rattle.std.specs.Prelude.{ℕ, ◌<◌, List, [], ◌∷◌}
use Rattle.commit_job.specs.declared.call.CommitCall.{CommitCall}
use Rattle.commit_job.specs.declared.call.CommitCall.TheVariants.{IndexWrite, BaseSync, UberWrite, UberSync}
use Rattle.core_state.specs.Committing.{Among}

-- What comes after a call of a plan over so many devices, of a page of so many sectors: a sync of what
-- it wrote; and behind the sync of a device, or an uberblock, nothing that ought to come before.
abbrev pub Due : ℕ → ℕ → CommitCall → List CommitCall → Type 0
Due devices parts (IndexWrite device part) rest =
    (device < devices) × (part < parts) × Among rest (BaseSync device)
Due devices parts (BaseSync device) rest =
    (device < devices) × ((part : ℕ) → Among rest (IndexWrite device part) → ⊥)
Due devices parts (UberWrite device) rest =
    (device < devices) × Among rest (UberSync device)
    × ((other part : ℕ) → Among rest (IndexWrite other part) → ⊥)
    × ((other : ℕ) → Among rest (BaseSync other) → ⊥)
Due devices parts (UberSync device) rest =
    (device < devices) × (Among rest (UberWrite device) → ⊥)
    × ((other part : ℕ) → Among rest (IndexWrite other part) → ⊥)
    × ((other : ℕ) → Among rest (BaseSync other) → ⊥)

-- Each call of a plan is followed by what is due.
abbrev pub Ordered : ℕ → ℕ → List CommitCall → Type 0
Ordered devices parts [] = Unit {0}
Ordered devices parts (call ∷ rest) = Due devices parts call rest × Ordered devices parts rest
