-- What a sink has been given of a text.
use Rattle.std.specs.Prelude.{◌≡◌, ◌⊎◌, ℕ, ◌≤◌, List, ◌++◌, take, Option, Some, Bool, true, false}
use Rattle.bank_trait.specs.Causes.{FaultCounted}

-- The text was added, where the sink tells its bytes.
pub record IsAdded (before now : Option (List ℕ)) (text : List ℕ) : Type 0 where
  pub whole : (held : List ℕ) → before ≡ Some held → now ≡ Some (held ++ text)

-- A front of the text was added, where the sink tells its bytes.
pub record IsPartAdded (before now : Option (List ℕ)) (text : List ℕ) : Type 0 where
  pub front : (held : List ℕ) → before ≡ Some held
      → (len : ℕ) × (now ≡ Some (held ++ take len text))

-- what a writer has still to hand over, and whether its sink has failed
pub record Writing : Type 0 where
  pub waiting : List ℕ
  pub failed : Bool

-- A writer was given a text: what waits is the rest of what was added, and after a failure a front of
-- the text was added.
pub record WriterHasText (start now : Option (List ℕ)) (writer : Writing) (text : List ℕ) : Type 0 where
  pub part : IsPartAdded start now text
  pub whole : writer.failed ≡ false → (held : List ℕ) → start ≡ Some held
      → (sent : List ℕ) × (now ≡ Some (held ++ sent)) × (sent ++ writer.waiting ≡ text)

-- A writer gains a text, after whatever it was given before.
pub record GainsText (before now : Option (List ℕ)) (old new : Writing) (text : List ℕ) : Type 0 where
  pub more : (start : Option (List ℕ)) (given : List ℕ) → WriterHasText start before old given
      → WriterHasText start now new (given ++ text)

-- A writer fails only where the count of faults rose, which never falls.
pub record FailsOnlyWithFault (before now : ℕ) (old new : Writing) : Type 0 where
  pub later : before ≤ now
  pub failed : new.failed ≡ true → (old.failed ≡ true) ⊎ FaultCounted before now
