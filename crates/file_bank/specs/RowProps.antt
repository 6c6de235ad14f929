-- What a gathered file keeps of its row has one proof at most, so it may be a ghost field.
use Rattle.std.specs.Prelude.{ℕ, ◌∷◌, [], List}
use Rattle.std.proofs.Props.{props}
use Rattle.file_bank.specs.Row.{KeptSector, HasRisingMoments, AllKeptBy, AllWhole}

pub rising_prop : (last : ℕ) (row : List KeptSector) → IsProp (HasRisingMoments last row)
rising_prop last [] = Prim.hlevel props
rising_prop last (kept ∷ row) = let rest : IsProp
    (HasRisingMoments kept.moment row) = rising_prop kept.moment row in Prim.hlevel (rest, props)

pub kept_by_prop : (last : ℕ) (row : List KeptSector) → IsProp (AllKeptBy last row)
kept_by_prop last [] = Prim.hlevel props
kept_by_prop last (kept ∷ row) = let rest : IsProp (AllKeptBy last row) = kept_by_prop last row in Prim.hlevel
    (rest, props)

pub whole_prop : (row : List KeptSector) → IsProp (AllWhole row)
whole_prop [] = Prim.hlevel props
whole_prop (kept ∷ row) = let rest : IsProp (AllWhole row) = whole_prop row in Prim.hlevel (rest, props)
