-- The ranges of the puts under way: it does not matter which comes first.
use Rattle.core_turns.proofs.Words.{◌≡◌, ℕ, ◌+◌, List, [], ◌∷◌, ◌++◌, ◌∙◌, arith, inl, inr, ⊎_elim, append-nil}
use Rattle.core_turns.proofs.Words.{Contains, ◌==◌, sum_by, filter_map-append, sum_by-append, Gains, PutRange, Blocks}
use Rattle.core_turns.proofs.Words.{AreUnderWay, put_run, AreClear, gains_item, gains_old, pairs_gain, pairs_lose}
use Rattle.core_turns.proofs.Words.{pairs_beside, clear_turned, PutRun, HoldingCall, Putting, ranges_of}
use Rattle.core_turns.proofs.free.TakenBack.{each_gained}
use Rattle.std.proofs.Common.{cond}

-- A list that gains an item has its weight more.
sum_gained : {T : Type 0} (weight : T → ℕ) {left one : List T} {x : T} → Gains left one x
    → sum_by weight one ≡ sum_by weight left + sum_by weight (x ∷ [])
sum_gained weight {x = x} there = rw (
  there.is,
  there.was,
  sum_by-append weight there.before (x ∷ there.after),
  sum_by-append weight there.before there.after,
) (omega (arith, sum_by-append weight (x ∷ []) there.after))

module _ {T : Type 0} (left one other : List T) (x : T) (there : Gains left one x) (here : Gains left other x) where
  -- Two lists that gained the same item contain the same,
  pub gains_moved : (y : T) → Contains one y → Contains other y
  gains_moved = each_gained there (gains_item left other x here) (λ y old. gains_old left other x y here old)

  -- and their sums are the same.
  gains_sum : (weight : T → ℕ) → sum_by weight one ≡ sum_by weight other
  gains_sum weight = omega (arith, sum_gained weight there, sum_gained weight here)

-- Two puts have no sector in common,
abbrev AreApart : PutRange → PutRange → Type 0
AreApart one other = AreClear (put_run one) (put_run other)

-- in either order.
apart_turned : (one other : PutRange) → AreApart one other → AreApart other one
apart_turned one other clear = search clear_turned

-- A range may stand anywhere among those of the puts under way.
pub under_moved : {blocks : Blocks} {left ranges moved : List PutRange} {range : PutRange} → Gains left ranges range
    → Gains left moved range → AreUnderWay blocks ranges → AreUnderWay blocks moved
under_moved {left = left} {ranges} {moved} {range} there here under = record {
  each = λ one listed. under.each one (search gains_moved);
  apart = pairs_gain AreApart apart_turned left moved range here
      (λ one listed. pairs_beside AreApart apart_turned ranges left range one there under.apart listed)
      (pairs_lose AreApart apart_turned ranges left range there under.apart);
  every = λ run listed. ⊎_elim (λ block. inl block)
      (λ put. inr (put.0, search gains_moved, put.2)) (under.every run listed);
  reserved = λ id. under.reserved id
      ∙ gains_sum left ranges moved range there here (λ (one : PutRange). cond (id == one.id) 1 0);
}

-- A list with an item at its end.
pub at_end : {T : Type 0} (left : List T) (x : T) → Gains left (left ++ x ∷ []) x
at_end left x = search (append-nil, arith)

-- A list of calls that gains a put gains its range.
pub ranges_gain : {left calls : List HoldingCall} {run : PutRun} → Gains left calls (Putting run)
    → Gains (ranges_of left) (ranges_of calls) run.range
ranges_gain gains = search (filter_map-append, arith)

-- Two calls that are the same are of the same put.
pub same_put : {one other : PutRun} → Putting one ≡ Putting other → one ≡ other
same_put same = cc
