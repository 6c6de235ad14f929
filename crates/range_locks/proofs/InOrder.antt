-- The two lists of holds stay in order, as a hold is granted or ends.
use Rattle.std.proofs.Common.{◌≡◌, ℕ, ◌+◌, ◌<◌, ◌≤◌, List, ◌∷◌, ◌++◌, length, get_or, take, drop, refl, sym, ◌∙◌, ap}
use Rattle.std.proofs.Common.{subst, arith, inl, inr, ⊎_elim, append_assoc, length-take, length-drop}
use Rattle.std.specs.Prelude.{All, AllPairs, Contains, Option, Some, None}
use Rattle.std.proofs.lemmas.Bool.{cases_lt}
use Rattle.std.proofs.lemmas.List.{get_or-take, get_or-drop, take-append-drop}
use Rattle.std.proofs.lemmas.List.Elements.{All-append, All-cons, All-contains, All-drop, All-take}
use Rattle.std.proofs.lemmas.List.Elements.{Contains-append_cases, Contains-append_left, Contains-append_right}
use Rattle.std.proofs.lemmas.List.Elements.{Contains-get_or}
use Rattle.range_locks.specs.declared.hold.Hold.{Hold}
use Rattle.range_locks.specs.declared.hold.HoldKind.TheVariants.{Shared, Exclusive}
use Rattle.range_locks.specs.declared.bound.Bound.TheVariants.{Before, EndedBy}
use Rattle.range_locks.specs.Gaining.{Gains}
use Rattle.range_locks.specs.Holds.{BeginsShared, ConflictsWith, EndsHold, IsClear, IsFirst, IsFirstSharedFrom}
use Rattle.range_locks.specs.Order.{AreInOrder, ComesBefore, EndsBefore, IsInOrder, IsPlace}
use Rattle.range_locks.proofs.Exclusive.{holds_gain, holds_lose}
use Rattle.range_locks.proofs.Pairs.{all_leave, all_pairs_insert, all_pairs_leave}

-- ---- a hold is put in

-- Put into one of the two lists, a hold is put into both together.
pub gains_shared : (shared exclusive : List Hold) (hold : Hold) (at : ℕ)
    → Gains (shared ++ exclusive) ((take at shared ++ hold ∷ drop at shared) ++ exclusive) hold
gains_shared shared exclusive hold at = record {
  before = take at shared;
  after = drop at shared ++ exclusive;
  was = ap (λ (l : List Hold). l ++ exclusive) (sym (take-append-drop at shared)) ∙ append_assoc (take at shared) (drop at shared) exclusive;
  is = append_assoc (take at shared) (hold ∷ drop at shared) exclusive;
}

pub gains_exclusive : (shared exclusive : List Hold) (hold : Hold) (at : ℕ)
    → Gains (shared ++ exclusive) (shared ++ (take at exclusive ++ hold ∷ drop at exclusive)) hold
gains_exclusive shared exclusive hold at = record {
  before = shared ++ take at exclusive;
  after = drop at exclusive;
  was = ap (λ (l : List Hold). shared ++ l) (sym (take-append-drop at exclusive)) ∙ sym (append_assoc shared (take at exclusive) (drop at exclusive));
  is = sym (append_assoc shared (take at exclusive) (hold ∷ drop at exclusive));
}

all_put : (P : Hold → Type 0) (holds : List Hold) (hold : Hold) (at : ℕ) → All P holds → P hold → All P (take at holds ++ hold ∷ drop at holds)
all_put P holds hold at all here =
    All-append P (take at holds) (hold ∷ drop at holds) (All-take P at holds all) (All-cons P hold (drop at holds) here (All-drop P at holds all))

never_both : (one other : Hold) → ComesBefore one other → IsInOrder one other
never_both one other before after = grind (arith, before, after)

-- A shared hold is put in at its place.
pub shared_put : (shared exclusive : List Hold) (hold : Hold) (at : ℕ) → AreInOrder shared exclusive → hold.kind ≡ Shared
    → hold.lo < hold.hi → IsClear (shared ++ exclusive) hold.lo hold.hi hold.kind → IsPlace shared (Before hold) at
    → AreInOrder (take at shared ++ hold ∷ drop at shared) exclusive
shared_put shared exclusive hold at are kind some clear place = record {
  are = holds_gain (shared ++ exclusive) ((take at shared ++ hold ∷ drop at shared) ++ exclusive) hold are.are clear some
      (gains_shared shared exclusive hold at);
  are_shared = all_put (λ h. h.kind ≡ Shared) shared hold at are.are_shared kind;
  are_exclusive = are.are_exclusive;
  shared_order = all_pairs_insert IsInOrder shared at hold are.shared_order
      (λ k default within. subst (λ (h : Hold). IsInOrder h hold) (sym (get_or-take at shared k default (search (arith, length-take))))
      (never_both (get_or shared k default) hold (place.before k default (search (arith, length-take)))))
      (λ k default within. subst (λ (h : Hold). IsInOrder hold h) (sym (get_or-drop at shared k default))
      (place.behind (at + k) default (omega arith) (search (arith, length-drop))));
  exclusive_order = are.exclusive_order;
}

-- An exclusive hold is put in between those that end before it and those that begin after it.
pub exclusive_put : (shared exclusive : List Hold) (hold : Hold) (at : ℕ) → AreInOrder shared exclusive → hold.kind ≡ Exclusive
    → hold.lo < hold.hi → IsClear (shared ++ exclusive) hold.lo hold.hi hold.kind → IsPlace exclusive (EndedBy hold.lo) at
    → AreInOrder shared (take at exclusive ++ hold ∷ drop at exclusive)
exclusive_put shared exclusive hold at are kind some clear place = record {
  are = holds_gain (shared ++ exclusive) (shared ++ (take at exclusive ++ hold ∷ drop at exclusive)) hold are.are clear some
      (gains_exclusive shared exclusive hold at);
  are_shared = are.are_shared;
  are_exclusive = all_put (λ h. h.kind ≡ Exclusive) exclusive hold at are.are_exclusive kind;
  shared_order = are.shared_order;
  exclusive_order = all_pairs_insert EndsBefore exclusive at hold are.exclusive_order
      (λ k default within. subst (λ (h : Hold). EndsBefore h hold) (sym (get_or-take at exclusive k default (search (arith, length-take))))
      (place.before k default (search (arith, length-take))))
      (λ k default within. subst (λ (h : Hold). EndsBefore hold h) (sym (get_or-drop at exclusive k default))
      (behind (at + k) default (omega arith) (search (arith, length-drop))));
}
  where
    behind : (k : ℕ) (default : Hold) → at ≤ k → k < length exclusive → EndsBefore hold (get_or exclusive k default)
    behind k default from within = ⊎_elim
        (λ begins. absurd (clear (get_or exclusive k default)
        (Contains-append_right shared exclusive (get_or exclusive k default) (Contains-get_or exclusive k default within))
        (record {
          overlaps = record {
            begins = begins;
            ends = ⊎_elim (λ less. less) (λ ended. absurd (place.behind k default from within ended))
                (cases_lt hold.lo (get_or exclusive k default).hi);
          };
          exclusive = inr kind;
        })))
        (λ ends. ends) (cases_lt (get_or exclusive k default).lo hold.hi)

-- ---- who is in the way

-- Only exclusive holds are in the way of a shared one.
never_shared : (hold : Hold) (lo hi : ℕ) → hold.kind ≡ Shared → ConflictsWith hold lo hi Shared → ⊥
never_shared hold lo hi kind blocks = ⊎_elim (λ exclusive. apart (sym kind ∙ exclusive)) (λ exclusive. apart exclusive) blocks.exclusive
  where
    apart : Shared ≡ Exclusive → ⊥
    apart same = cc

pub first_alone : (shared exclusive : List Hold) (lo hi : ℕ) (first : Option Hold) → All (λ hold. hold.kind ≡ Shared) shared
    → All (λ hold. hold.kind ≡ Exclusive) exclusive → IsFirst exclusive lo hi Exclusive first
    → IsFirst (shared ++ exclusive) lo hi Shared first
first_alone shared exclusive lo hi None are_shared are_exclusive clear = λ other listed blocks. ⊎_elim
    (λ left. never_shared other lo hi (All-contains (λ hold. hold.kind ≡ Shared) shared other are_shared left) blocks)
    (λ right. clear other right (record { overlaps = blocks.overlaps; exclusive = inr refl }))
    (Contains-append_cases shared exclusive other listed)
first_alone shared exclusive lo hi (Some first) are_shared are_exclusive is = record {
  listed = Contains-append_right shared exclusive first is.listed;
  blocks = record {
    overlaps = is.blocks.overlaps;
    exclusive = inl (All-contains (λ hold. hold.kind ≡ Exclusive) exclusive first are_exclusive is.listed);
  };
  lowest = λ other listed blocks. ⊎_elim
      (λ left. absurd (never_shared other lo hi (All-contains (λ hold. hold.kind ≡ Shared) shared other are_shared left) blocks))
      (λ right. is.lowest other right (record { overlaps = blocks.overlaps; exclusive = inr refl }))
      (Contains-append_cases shared exclusive other listed);
}

-- ---- a hold ends

pub shared_ended : (shared exclusive new : List Hold) (hold : Hold) → EndsHold shared new hold
    → EndsHold (shared ++ exclusive) (new ++ exclusive) hold
shared_ended shared exclusive new hold ends = record {
  before = ends.before;
  after = ends.after ++ exclusive;
  was = ap (λ (l : List Hold). l ++ exclusive) ends.was ∙ append_assoc ends.before (hold ∷ ends.after) exclusive;
  first = ends.first;
  is = ap (λ (l : List Hold). l ++ exclusive) ends.is ∙ append_assoc ends.before ends.after exclusive;
}

pub exclusive_ended : (shared exclusive new : List Hold) (hold : Hold) → (Contains shared hold → ⊥) → EndsHold exclusive new hold
    → EndsHold (shared ++ exclusive) (shared ++ new) hold
exclusive_ended shared exclusive new hold none ends = record {
  before = shared ++ ends.before;
  after = ends.after;
  was = ap (λ (l : List Hold). shared ++ l) ends.was ∙ sym (append_assoc shared ends.before (hold ∷ ends.after));
  first = λ listed. ⊎_elim none ends.first (Contains-append_cases shared ends.before hold listed);
  is = ap (λ (l : List Hold). shared ++ l) ends.is ∙ sym (append_assoc shared ends.before ends.after);
}

ended_gains : (old new : List Hold) (hold : Hold) → EndsHold old new hold → Gains new old hold
ended_gains old new hold ends = record { before = ends.before; after = ends.after; was = ends.is; is = ends.was }

all_ended : (P : Hold → Type 0) (old new : List Hold) (hold : Hold) → EndsHold old new hold → All P old → All P new
all_ended P old new hold ends all = subst (All P) (sym ends.is) (all_leave P ends.before ends.after hold (subst (All P) ends.was all))

pairs_ended : (R : Hold → Hold → Type 0) (old new : List Hold) (hold : Hold) → EndsHold old new hold → AllPairs R old → AllPairs R new
pairs_ended R old new hold ends pairs =
    subst (AllPairs R) (sym ends.is) (all_pairs_leave R ends.before ends.after hold (subst (AllPairs R) ends.was pairs))

pub shared_taken_out : (shared exclusive new : List Hold) (hold : Hold) → AreInOrder shared exclusive → EndsHold shared new hold
    → AreInOrder new exclusive
shared_taken_out shared exclusive new hold are ends = record {
  are = holds_lose (shared ++ exclusive) (new ++ exclusive) hold are.are
      (ended_gains (shared ++ exclusive) (new ++ exclusive) hold (shared_ended shared exclusive new hold ends));
  are_shared = all_ended (λ h. h.kind ≡ Shared) shared new hold ends are.are_shared;
  are_exclusive = are.are_exclusive;
  shared_order = pairs_ended IsInOrder shared new hold ends are.shared_order;
  exclusive_order = are.exclusive_order;
}

pub exclusive_taken_out : (shared exclusive new : List Hold) (hold : Hold) → AreInOrder shared exclusive → (Contains shared hold → ⊥)
    → EndsHold exclusive new hold → AreInOrder shared new
exclusive_taken_out shared exclusive new hold are none ends = record {
  are = holds_lose (shared ++ exclusive) (shared ++ new) hold are.are
      (ended_gains (shared ++ exclusive) (shared ++ new) hold (exclusive_ended shared exclusive new hold none ends));
  are_shared = are.are_shared;
  are_exclusive = all_ended (λ h. h.kind ≡ Exclusive) exclusive new hold ends are.are_exclusive;
  shared_order = are.shared_order;
  exclusive_order = pairs_ended EndsBefore exclusive new hold ends are.exclusive_order;
}

-- A hold is listed among those of its kind, and not among the others.
pub not_shared : (shared : List Hold) (hold : Hold) → All (λ h. h.kind ≡ Shared) shared → hold.kind ≡ Exclusive → Contains shared hold → ⊥
not_shared shared hold are kind listed = apart (sym (All-contains (λ h. h.kind ≡ Shared) shared hold are listed) ∙ kind)
  where
    apart : Shared ≡ Exclusive → ⊥
    apart same = cc

not_exclusive : (exclusive : List Hold) (hold : Hold) → All (λ h. h.kind ≡ Exclusive) exclusive → hold.kind ≡ Shared → Contains exclusive hold → ⊥
not_exclusive exclusive hold are kind listed = apart (sym kind ∙ All-contains (λ h. h.kind ≡ Exclusive) exclusive hold are listed)
  where
    apart : Shared ≡ Exclusive → ⊥
    apart same = cc

pub is_among_exclusive : (shared exclusive : List Hold) (hold : Hold) → AreInOrder shared exclusive → hold.kind ≡ Exclusive
    → Contains (shared ++ exclusive) hold → Contains exclusive hold
is_among_exclusive shared exclusive hold are kind listed = ⊎_elim
    (λ left. absurd (not_shared shared hold are.are_shared kind left)) (λ right. right) (Contains-append_cases shared exclusive hold listed)

-- ---- what the shared holds tell

begins_either : (shared exclusive : List Hold) (sector : ℕ) → All (λ h. h.kind ≡ Exclusive) exclusive
    → BeginsShared (shared ++ exclusive) sector → BeginsShared shared sector
begins_either shared exclusive sector are is = ⊎_elim
    (λ left. record { hold = is.hold; listed = left; shared = is.shared; begins = is.begins })
    (λ right. absurd (not_exclusive exclusive is.hold are is.shared right))
    (Contains-append_cases shared exclusive is.hold is.listed)

pub first_shared_either : (shared exclusive : List Hold) (from : ℕ) (first : Option ℕ) → All (λ h. h.kind ≡ Exclusive) exclusive
    → IsFirstSharedFrom shared from first → IsFirstSharedFrom (shared ++ exclusive) from first
first_shared_either shared exclusive from None are none = λ sector above begins. none sector above (begins_either shared exclusive sector are begins)
first_shared_either shared exclusive from (Some first) are is = (
  is.0,
  record { hold = is.1.hold; listed = Contains-append_left shared exclusive is.1.hold is.1.listed; shared = is.1.shared; begins = is.1.begins },
  λ sector above begins. is.2 sector above (begins_either shared exclusive sector are begins),
)
