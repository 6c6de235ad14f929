-- Lists into which an item is put.
use Rattle.schedule.proofs.Words.{List, [], ◌∷◌, refl, Gains}

-- An item comes first.
pub gains_first : {T : Type 0} (item : T) (items : List T) → Gains items (item ∷ items) item
gains_first item items = record { before = []; after = items; was = refl; is = refl }
