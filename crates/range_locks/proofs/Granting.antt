-- What it comes to that a hold is granted, or refused.
use Rattle.std.proofs.Common.{◌≡◌, ℕ, ◌<◌, List, ◌∷◌, ◌++◌, get_or, take, drop, arith, refl, sym, subst, Option, Some}
use Rattle.std.proofs.Common.{None, Result, Ok, Err}
use Rattle.std.specs.Prelude.{All, AllPairs, Contains, IfOk, IfErr, OnOk, OnErr}
use Rattle.std.proofs.lemmas.List.Elements.{All-contains, All-get_or, Contains-append_right}
use Rattle.range_locks.specs.declared.hold.Hold.{Hold}
use Rattle.range_locks.specs.declared.hold.HoldKind.{HoldKind}
use Rattle.range_locks.specs.declared.hold.HoldKind.TheVariants.{Shared, Exclusive}
use Rattle.range_locks.specs.declared.bound.Bound.TheVariants.{Before, EndedBy}
use Rattle.range_locks.specs.declared.refused.LockRefused.{LockRefused}
use Rattle.range_locks.specs.declared.refused.LockRefused.TheVariants.{NoMemory}
use Rattle.range_locks.specs.Gaining.{Gains}
use Rattle.range_locks.specs.Holds.{EndsHold, HasSectors, IsBusyBy, IsClear, IsFirst, IsFirstSharedFrom, IsLockCause}
use Rattle.range_locks.specs.Order.{AreInOrder, EndsBefore, IsInOrder, IsPlace}
use Rattle.range_locks.proofs.Lists.{all_listed}
use Rattle.range_locks.proofs.Searching.{busy_by_first}
use Rattle.range_locks.proofs.InOrder.{exclusive_ended, exclusive_put, first_alone, first_shared_either}
use Rattle.range_locks.proofs.InOrder.{gains_exclusive, gains_shared, is_among_exclusive, not_shared, shared_put}

-- The list that a search was handed is in its order.
pub exclusive_nonempty : (shared exclusive seen : List Hold) → AreInOrder shared exclusive → seen ≡ exclusive → All HasSectors seen
exclusive_nonempty shared exclusive seen are same = subst (All HasSectors) (sym same)
    (all_listed HasSectors exclusive (λ hold listed. All-contains HasSectors (shared ++ exclusive) hold are.are.nonempty
    (Contains-append_right shared exclusive hold listed)))

-- The first in the way is the one that a refusal names.
pub refused_by : (holds : List Hold) (lo hi : ℕ) (kind : HoldKind) (first : Option Hold) (hold : Hold) → IsFirst holds lo hi kind first
    → first ≡ Some hold → IsBusyBy holds lo hi kind hold.actor
refused_by holds lo hi kind first hold is some = busy_by_first holds lo hi kind hold (subst (IsFirst holds lo hi kind) some is)

pub clear_of_none : (holds : List Hold) (lo hi : ℕ) (kind : HoldKind) (first : Option Hold) → IsFirst holds lo hi kind first
    → first ≡ None → IsClear holds lo hi kind
clear_of_none holds lo hi kind first is none = subst (IsFirst holds lo hi kind) none is

-- Where none was in the way, the hold is granted or memory is exhausted.
pub granted_clear : (holds : List Hold) (lo hi : ℕ) (kind : HoldKind) (result : Result Hold LockRefused) → IsClear holds lo hi kind
    → IfOk result (λ hold. IsClear holds lo hi kind)
granted_clear holds lo hi kind (Ok hold) clear = clear
granted_clear holds lo hi kind (Err why) clear = tt

pub refused_clear : (holds : List Hold) (lo hi : ℕ) (kind : HoldKind) (result : Result Hold LockRefused) → IsClear holds lo hi kind
    → IfErr result (λ why. why ≡ NoMemory) → IfErr result (IsLockCause holds lo hi kind)
refused_clear holds lo hi kind (Ok hold) clear cause = tt
refused_clear holds lo hi kind (Err why) clear cause = subst (IsLockCause holds lo hi kind) (sym cause) clear

module _ (shared exclusive holds : List Hold) (view : shared ++ exclusive ≡ holds) (are : AreInOrder shared exclusive) where
  -- What is first among the exclusive holds is first in the way of a shared one.
  pub first_for_shared : (seen : List Hold) (lo hi : ℕ) (first : Option Hold) → seen ≡ exclusive → IsFirst seen lo hi Exclusive first
      → IsFirst holds lo hi Shared first
  first_for_shared seen lo hi first same is = subst (λ (l : List Hold). IsFirst l lo hi Shared first) view
      (first_alone shared exclusive lo hi first are.are_shared are.are_exclusive
      (subst (λ (l : List Hold). IsFirst l lo hi Exclusive first) same is))

  clear_view : (lo hi : ℕ) (kind : HoldKind) → IsClear holds lo hi kind → IsClear (shared ++ exclusive) lo hi kind
  clear_view lo hi kind = subst (λ (l : List Hold). IsClear l lo hi kind) (sym view)

  pub shared_granted : (seen new : List Hold) (hold : Hold) (at : ℕ) (result : Result Hold LockRefused) → hold.kind ≡ Shared
      → hold.lo < hold.hi → IsClear holds hold.lo hold.hi hold.kind → seen ≡ shared → IsPlace seen (Before hold) at
      → OnOk result (new ≡ take at shared ++ hold ∷ drop at shared) → OnErr result (new ≡ shared) → AreInOrder new exclusive
  shared_granted seen new hold at (Ok held) kind some clear same place is stays = subst (λ (l : List Hold). AreInOrder l exclusive) (sym is)
      (shared_put shared exclusive hold at are kind some (clear_view hold.lo hold.hi hold.kind clear)
      (subst (λ (l : List Hold). IsPlace l (Before hold) at) same place))
  shared_granted seen new hold at (Err why) kind some clear same place is stays =
      subst (λ (l : List Hold). AreInOrder l exclusive) (sym stays) are

  pub shared_gains : (new : List Hold) (hold : Hold) (at : ℕ) (result : Result Hold LockRefused) → IfOk result (λ held. held ≡ hold)
      → OnOk result (new ≡ take at shared ++ hold ∷ drop at shared) → IfOk result (Gains holds (new ++ exclusive))
  shared_gains new hold at (Ok held) same is = subst (Gains holds (new ++ exclusive)) (sym same)
      (subst (λ (l : List Hold). Gains l (new ++ exclusive) hold) view
      (subst (λ (l : List Hold). Gains (shared ++ exclusive) (l ++ exclusive) hold) (sym is) (gains_shared shared exclusive hold at)))
  shared_gains new hold at (Err why) same is = tt

  pub exclusive_granted : (seen new : List Hold) (hold : Hold) (at : ℕ) (result : Result Hold LockRefused) → hold.kind ≡ Exclusive
      → hold.lo < hold.hi → IsClear holds hold.lo hold.hi hold.kind → seen ≡ exclusive → IsPlace seen (EndedBy hold.lo) at
      → OnOk result (new ≡ take at exclusive ++ hold ∷ drop at exclusive) → OnErr result (new ≡ exclusive) → AreInOrder shared new
  exclusive_granted seen new hold at (Ok held) kind some clear same place is stays = subst (AreInOrder shared) (sym is)
      (exclusive_put shared exclusive hold at are kind some (clear_view hold.lo hold.hi hold.kind clear)
      (subst (λ (l : List Hold). IsPlace l (EndedBy hold.lo) at) same place))
  exclusive_granted seen new hold at (Err why) kind some clear same place is stays = subst (AreInOrder shared) (sym stays) are

  pub exclusive_gains : (new : List Hold) (hold : Hold) (at : ℕ) (result : Result Hold LockRefused) → IfOk result (λ held. held ≡ hold)
      → OnOk result (new ≡ take at exclusive ++ hold ∷ drop at exclusive) → IfOk result (Gains holds (shared ++ new))
  exclusive_gains new hold at (Ok held) same is = subst (Gains holds (shared ++ new)) (sym same)
      (subst (λ (l : List Hold). Gains l (shared ++ new) hold) view
      (subst (λ (l : List Hold). Gains (shared ++ exclusive) (shared ++ l) hold) (sym is) (gains_exclusive shared exclusive hold at)))
  exclusive_gains new hold at (Err why) same is = tt

  -- What is first in both lists is first in the way.
  pub first_in_both : (seen other : List Hold) (lo hi : ℕ) (kind : HoldKind) (one two first : Option Hold) → seen ≡ shared
      → other ≡ exclusive → IsFirst seen lo hi kind one → IsFirst other lo hi kind two
      → ((holds others : List Hold) (lo hi : ℕ) (kind : HoldKind) → IsFirst holds lo hi kind one → IsFirst others lo hi kind two
      → IsFirst (holds ++ others) lo hi kind first)
      → IsFirst holds lo hi kind first
  first_in_both seen other lo hi kind one two first same also is is_other both = subst (λ (l : List Hold). IsFirst l lo hi kind first) view
      (both shared exclusive lo hi kind (subst (λ (l : List Hold). IsFirst l lo hi kind one) same is)
      (subst (λ (l : List Hold). IsFirst l lo hi kind two) also is_other))

  -- The shared holds tell where a shared hold begins.
  pub first_shared_of : (seen : List Hold) (from : ℕ) (first : Option ℕ) → seen ≡ shared → IsFirstSharedFrom seen from first
      → IsFirstSharedFrom holds from first
  first_shared_of seen from first same is = subst (λ (l : List Hold). IsFirstSharedFrom l from first) view
      (first_shared_either shared exclusive from first are.are_exclusive (subst (λ (l : List Hold). IsFirstSharedFrom l from first) same is))

  -- ---- a hold ends

  pub listed_exclusive : (hold : Hold) → hold.kind ≡ Exclusive → Contains holds hold → Contains exclusive hold
  listed_exclusive hold kind listed =
      is_among_exclusive shared exclusive hold are kind (subst (λ (l : List Hold). Contains l hold) (sym view) listed)

  -- Holds that don't overlap one another are in order.
  pub order_of_exclusive : AllPairs IsInOrder exclusive
  order_of_exclusive i j default before within =
      let apart : EndsBefore (get_or exclusive i default) (get_or exclusive j default) = are.exclusive_order i j default before within in
      let has : HasSectors (get_or exclusive i default) = All-get_or HasSectors exclusive i default (omega (arith, before, within))
      (exclusive_nonempty shared exclusive exclusive are refl) in
      (λ back. grind (arith, apart, has, back))

  pub exclusive_ends : (new : List Hold) (hold : Hold) → hold.kind ≡ Exclusive → EndsHold exclusive new hold
      → EndsHold holds (shared ++ new) hold
  exclusive_ends new hold kind ends = subst (λ (l : List Hold). EndsHold l (shared ++ new) hold) view
      (exclusive_ended shared exclusive new hold (not_shared shared hold are.are_shared kind) ends)
