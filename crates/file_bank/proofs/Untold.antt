-- A row that is handed over to a file of which nothing is told.
use Rattle.std.proofs.Common.{◌≡◌, ℕ, ◌+◌, List, [], ◌∷◌, Option, None, Bool, Result, Ok, Err, refl, sym}
use Rattle.std.proofs.Common.{◌∙◌, ap, subst, arith}
use Rattle.std.specs.Prelude.{true, false, ◌==◌, if◌then◌else◌, nat_lt, IfErr}
use Rattle.file_bank.specs.BlockFile.{untold}
use Rattle.file_bank.specs.Row.{KeptSector, HandedOver, TellsSame, with_row, with_sector}
use Rattle.file_bank.proofs.MemRows.{row_same, row_starts}
use Rattle.file_bank.proofs.Rows.{same_refl, same_trans}

none_here : (here : Bool) → ◌≡◌ {A = Option (List ℕ)} None (if here then None else None)
none_here true = refl
none_here false = refl

empty_here : (here : Bool) → ◌≡◌ {A = List (List ℕ)} [] (if here then [] else [])
empty_here true = refl
empty_here false = refl

untold_sector : (bytes x : ℕ) (kept : KeptSector) → TellsSame (with_sector (untold bytes) x kept) (untold bytes)
untold_sector bytes x kept = record {
  length = refl;
  reads = λ y. none_here (y == x);
  leaves = λ t y. none_here (y == x)
      ∙ ap (λ (o : Option (List ℕ)). if y == x then o else None) (none_here (nat_lt t kept.moment));
  could = λ t y. empty_here (y == x)
      ∙ ap (λ (l : List (List ℕ)). if y == x then l else []) (empty_here (nat_lt t kept.moment));
}

untold_row : (bytes x : ℕ) (row : List KeptSector) → TellsSame (with_row (untold bytes) x row) (untold bytes)
untold_row bytes x [] = same_refl (untold bytes)
untold_row bytes x (kept ∷ row) =
    same_trans (row_same (with_sector (untold bytes) x kept) (untold bytes) (x + 1) row (untold_sector bytes x kept))
    (untold_row bytes (x + 1) row)

-- Such a file is as it was, if a call that fails is told to have handed over none.
pub untold_handed : (bytes x : ℕ) (row : List KeptSector) (result : Result (Unit {0}) ℕ)
    → IfErr result (λ count. count ≡ 0) → HandedOver (untold bytes) (untold bytes) x row result
untold_handed bytes x row (Ok done) none = record {
  last = λ moment le by. le;
  done = untold_row bytes x row;
  stopped = tt;
}
untold_handed bytes x row (Err count) none = subst (λ (n : ℕ). HandedOver (untold bytes) (untold bytes) x row (Err n))
    (sym none) (record {
      last = λ moment le by. le;
      done = tt;
      stopped = (omega arith, row_starts (untold bytes) x row);
    })
