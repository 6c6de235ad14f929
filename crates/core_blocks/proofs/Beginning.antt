-- What a put finds when it begins.
use Rattle.std.proofs.Common.{◌≡◌, ℕ, Bool, true, false, List, [], ◌∷◌, ◌++◌, ◌==◌, refl, sym, ◌∙◌, ap, subst, Ok, Err}
use Rattle.std.proofs.Common.{if◌then◌else◌}
use Rattle.std.specs.Prelude.{◌↔◌, IsErrOf, Result}
use Rattle.std.specs.List.Sorted.{IsPermutation}
use Rattle.std.proofs.lemmas.Bool.{eqb-true, eq-eqb}
use Rattle.std.proofs.lemmas.List.Sorted.{IsPermutation-refl, IsPermutation-sym, IsPermutation-to_front}
use Rattle.std.proofs.lemmas.List.Sorted.{IsPermutation-cons}
use Rattle.range_locks.specs.declared.hold.Hold.{Hold}
use Rattle.space_alloc.specs.declared.refused.TakeRefused.{TakeRefused}
use Rattle.space_alloc.specs.declared.refused.TakeRefused.TheVariants as space
use Rattle.space_alloc.specs.Space.{IsTakeCause}
use Rattle.block_table.specs.declared.table.ReserveRefused.{ReserveRefused}
use Rattle.block_table.specs.declared.table.ReserveRefused.TheVariants as reserve
use Rattle.block_table.specs.Table.{IsFull, Table, without_one}
use Rattle.core_blocks.specs.declared.refused.PutRefused.TheVariants.{Full}
use Rattle.core_blocks.specs.Refused.{from_table, from_space}
use Rattle.core_blocks.specs.Blocks.{Blocks}
use Rattle.core_blocks.specs.Puts.{IsPutCause}

-- A reservation that is made and ended again leaves the ids, in another order where the id was
-- reserved before.
pub made_and_ended : (id : ℕ) (reserved : List ℕ)
    → IsPermutation reserved (without_one id (reserved ++ id ∷ []))
made_and_ended id [] = alone (id == id) (eq-eqb id id refl)
  where
    alone : (same : Bool) → same ≡ true
        → IsPermutation {X = ℕ} [] (if same then [] else id ∷ [])
    alone true is = IsPermutation-refl []
    alone false is = cc
made_and_ended id (other ∷ reserved) =
    ended (id == other) (λ same. eqb-true id other same) (made_and_ended id reserved)
  where
    ended : (same : Bool) → (same ≡ true → id ≡ other)
        → IsPermutation reserved (without_one id (reserved ++ id ∷ []))
        → IsPermutation (other ∷ reserved)
        (if same then reserved ++ id ∷ [] else other ∷ without_one id (reserved ++ id ∷ []))
    ended true is rest = subst (λ (n : ℕ). IsPermutation (n ∷ reserved) (reserved ++ id ∷ []))
        (is refl) (IsPermutation-sym (reserved ++ id ∷ []) (id ∷ reserved)
        (IsPermutation-to_front reserved id))
    ended false is rest =
        IsPermutation-cons other reserved (without_one id (reserved ++ id ∷ [])) rest

-- What the table refuses is refused as full where the table is full,
pub table_full : (blocks : Blocks) (id : ℕ) (why : ReserveRefused)
    (result : Result (Unit {0}) ReserveRefused) → result ≡ Err why
    → IsErrOf result reserve.Full ↔ IsFull blocks.table id
    → (from_table why ≡ Full) ↔ IsFull blocks.table id
table_full blocks id reserve.Full result is full = (λ same. full.0 is, λ all. refl)
table_full blocks id reserve.NoMemory result is full = (
  λ same. cc,
  λ all. let also : result ≡ Err reserve.Full = full.1 all in cc,
)

-- and what the space refuses never is.
pub space_full : (why : TakeRefused) → from_space why ≡ Full → ⊥
space_full (space.NoSpace sectors) same = cc
space_full (space.Busy by) same = cc
space_full space.NoMemory same = cc

pub space_cause : (blocks : Blocks) (holds : List Hold) (id len : ℕ) (why : TakeRefused)
    → IsTakeCause blocks.space holds len why
    → IsPutCause blocks holds id len (from_space why)
space_cause blocks holds id len (space.NoSpace sectors) cause = cause
space_cause blocks holds id len (space.Busy by) cause = cause
space_cause blocks holds id len space.NoMemory cause = tt

-- An id is reserved only where there is room.
pub has_room : (table seen : Table) (id : ℕ) (result : Result (Unit {0}) ReserveRefused)
    → table ≡ seen → result ≡ Ok tt → IsErrOf result reserve.Full ↔ IsFull table id
    → IsFull seen id → ⊥
has_room table seen id result same is full all =
    let also : result ≡ Err reserve.Full =
    full.1 (subst (λ (t : Table). IsFull t id) (sym same) all) in
    cc

-- What holds where an error is this one holds where a result is this error.
pub err_iff : {T E : Type 0} (result : Result T E) (found wanted : E) (P : Type 0)
    → result ≡ Err found → (found ≡ wanted) ↔ P → IsErrOf result wanted ↔ P
err_iff {T} {E} result found wanted P is iff =
    let wrapped : E → Result T E = λ error. Err error in (
      λ same. let both : wrapped found ≡ wrapped wanted = sym is ∙ same in iff.0 (cc),
      λ holds. is ∙ ap wrapped (iff.1 holds),
    )
