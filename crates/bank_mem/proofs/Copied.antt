-- A copy of some rows is as wide as they are.
use Rattle.std.proofs.Common.{◌≡◌, ⊎_elim, ℕ, zero, suc, ◌<◌, ◌≤◌, List, [], ◌∷◌, length, Option, Some, None, Vec, refl}
use Rattle.std.proofs.Common.{sym, ◌∙◌, ap, subst, arith, slice_get, option_and_then}
use Rattle.std.specs.Prelude.{IsSome}
use Rattle.std.specs.declared.alloc.Global.{Global}
use Rattle.std.proofs.lemmas.Bool.{cases_lt}
use Rattle.std.proofs.lemmas.Option.{slice_get_past, slice_get_within}
use Rattle.bank_mem.specs.Record.{Shelf, content}
use Rattle.bank_mem.specs.Sound.{AllWide}

-- Lists that have the same element at each place are the same.
same_list : {A : Type 0} (xs ys : List A) → ((k : ℕ) → slice_get xs k ≡ slice_get ys k) → xs ≡ ys
same_list [] [] same = refl
same_list [] (y ∷ ys) same = let none = same 0 in cc
same_list (x ∷ xs) [] same = let none = same 0 in cc
same_list (x ∷ xs) (y ∷ ys) same =
    let first = same 0 in
    let rest : xs ≡ ys = same_list xs ys (λ k. same (suc k)) in
    cc

-- A place below the length has an element.
some_below : {A : Type 0} (xs : List A) (k : ℕ) → k < length xs
    → (x : A) × (slice_get xs k ≡ Some x)
some_below [] k below = absurd (omega arith)
some_below (x ∷ xs) zero below = (x, refl)
some_below (x ∷ xs) (suc k) below = some_below xs k (omega arith)

-- what a row holds in a sector, where there is a row
abbrev at_sector : ℕ → Option (Vec (List ℕ) Global) → Option (List ℕ)
at_sector x row = option_and_then (λ v. slice_get v.items x) row

-- what a shelf holds on a device whose row is known
content_of : (shelf : Shelf) (d : ℕ) (v : Vec (List ℕ) Global) → slice_get shelf d ≡ Some v
    → (x : ℕ) → content shelf d x ≡ slice_get v.items x
content_of shelf d v is x = ap (at_sector x) is

-- All rows are copied: as many, each of them with what it holds.
pub copied_held : (copy shelf : Shelf) → length copy ≡ length shelf
    → ((d x : ℕ) → d < length shelf → content copy d x ≡ content shelf d x)
    → (d x : ℕ) → content copy d x ≡ content shelf d x
copied_held copy shelf as_many held d x = ⊎_elim
    (λ below. held d x below)
    (λ past. none copy d x (omega (arith, as_many)) ∙ sym (none shelf d x past))
    (cases_lt d (length shelf))
  where
    none : (rows : Shelf) (d x : ℕ) → length rows ≤ d → content rows d x ≡ None
    none rows d x past = ap (at_sector x) (slice_get_past rows d past)

-- and each as long
pub copied_wide : (copy shelf : Shelf) → length copy ≡ length shelf
    → ((d x : ℕ) → d < length shelf → content copy d x ≡ content shelf d x)
    → (n : ℕ) → AllWide shelf n → AllWide copy n
copied_wide copy shelf as_many held n wide d v is =
    let row = some_below shelf d (omega (arith, as_many, slice_get_within copy d v is)) in
    let same : v.items ≡ row.0.items = same_list v.items row.0.items
    (λ x. sym (content_of copy d v is x) ∙ copied_held copy shelf as_many held d x
    ∙ content_of shelf d row.0 row.1 x) in
    ap length same ∙ wide d row.0 row.1

-- A shelf tells what it holds in each of its sectors.
pub told_in : (shelf : Shelf) (devices sectors : ℕ) → length shelf ≡ devices
    → AllWide shelf sectors
    → (d x : ℕ) → d < devices → x < sectors → IsSome (content shelf d x)
told_in shelf devices sectors many wide d x d_in x_in =
    let row = some_below shelf d (omega (arith, many)) in
    let there = some_below row.0.items x (omega (arith, wide d row.0 row.1)) in
    let is : content shelf d x ≡ Some there.0 = content_of shelf d row.0 row.1 x ∙ there.1 in
    subst IsSome (sym is) refl
