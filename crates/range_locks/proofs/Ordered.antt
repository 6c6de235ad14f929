-- Holds in their order.
use Rattle.std.proofs.Common.{◌≡◌, ◌⊎◌, ℕ, ◌<◌, ◌≤◌, List, length, get_or, take, refl, ◌∙◌, ap, subst, arith, inl, inr}
use Rattle.std.proofs.Common.{⊎_elim, length-take}
use Rattle.std.specs.Prelude.{All, AllPairs, Contains}
use Rattle.std.proofs.lemmas.Bool.{cases_lt}
use Rattle.std.proofs.lemmas.List.{get_or_default, get_or-take}
use Rattle.std.proofs.lemmas.List.Elements.{All-get_or, Contains-get_or}
use Rattle.range_locks.specs.declared.hold.Hold.{Hold}
use Rattle.range_locks.specs.declared.hold.HoldKind.TheVariants.{Exclusive}
use Rattle.range_locks.specs.declared.bound.Bound.TheVariants.{EndedBy}
use Rattle.range_locks.specs.Holds.{ConflictsWith, HasSectors, IsClear, IsFirstIn, Precedes}
use Rattle.range_locks.proofs.Searching.{precedes_itself}
use Rattle.range_locks.specs.Order.{EndsBefore, IsInOrder, IsPlace}

-- Of holds that don't overlap one another, only those from the place on can overlap a range that begins there.
behind_place : (holds : List Hold) (lo hi at k : ℕ) (other : Hold) → IsPlace holds (EndedBy lo) at → get_or holds k other ≡ other
    → lo < other.hi → at ≤ k
behind_place holds lo hi at k other place is ends = ⊎_elim
    (λ passed. let ended : (get_or holds k other).hi ≤ lo = place.before k other passed in
    absurd (omega (arith, ended, ends, ap (λ (hold : Hold). hold.hi) is)))
    (λ from. from) (cases_lt k at)

-- The first of them begins no later than any other.
lowest_at : (holds : List Hold) (at k : ℕ) (here other : Hold) → All HasSectors holds → AllPairs EndsBefore holds → at ≤ k
    → k < length holds → get_or holds k other ≡ other → (get_or holds at here ≡ other) ⊎ ((get_or holds at here).lo < other.lo)
lowest_at holds at k here other some order from within is = ⊎_elim
    (λ later. let apart : EndsBefore (get_or holds at other) (get_or holds k other) = order at k other later within in
    let has : HasSectors (get_or holds at here) = All-get_or HasSectors holds at here inside some in
    let low : (get_or holds at here).hi ≤ other.lo =
    subst (λ (hold : Hold). (get_or holds at here).hi ≤ hold.lo) is
    (subst (λ (hold : Hold). hold.hi ≤ (get_or holds k other).lo) (get_or_default holds at other here inside) apart) in
    inr (omega (arith, low, has)))
    (λ rest. let same : at ≡ k = omega (arith, rest, from) in
    inl (get_or_default holds at here other inside ∙ ap (λ (n : ℕ). get_or holds n other) same ∙ is))
    (cases_lt at k)
  where
    inside : at < length holds
    inside = omega (arith, from, within)

pub apart_first : (holds : List Hold) (lo hi at : ℕ) (here : Hold) → All HasSectors holds → AllPairs EndsBefore holds
    → IsPlace holds (EndedBy lo) at → at < length holds → (get_or holds at here).lo < hi
    → IsFirstIn holds lo hi Exclusive (get_or holds at here)
apart_first holds lo hi at here some order place within begins = record {
  listed = Contains-get_or holds at here within;
  blocks = record {
    overlaps = record { begins = begins; ends = ends };
    exclusive = inr refl;
  };
  lowest = λ other (k, low, is) blocks. ⊎_elim
      (λ same. subst (Precedes (get_or holds at here)) same (precedes_itself (get_or holds at here)))
      (λ lower. inl lower)
      (lowest_at holds at k here other some order (behind_place holds lo hi at k other place is blocks.overlaps.ends) low is);
}
  where
    ends : lo < (get_or holds at here).hi
    ends = ⊎_elim (λ less. less) (λ passed. absurd (place.behind at here (omega arith) within passed))
        (cases_lt lo (get_or holds at here).hi)

pub apart_none : (holds : List Hold) (lo hi at : ℕ) (here : Hold) → All HasSectors holds → AllPairs EndsBefore holds
    → IsPlace holds (EndedBy lo) at → at < length holds → hi ≤ (get_or holds at here).lo → IsClear holds lo hi Exclusive
apart_none holds lo hi at here some order place within begins = λ other (k, low, is) blocks. ⊎_elim
    (λ same. absurd (omega (arith, begins, blocks.overlaps.begins, ap (λ (hold : Hold). hold.lo) same)))
    (λ lower. absurd (omega (arith, begins, blocks.overlaps.begins, lower)))
    (lowest_at holds at k here other some order (behind_place holds lo hi at k other place is blocks.overlaps.ends) low is)

-- Of holds in their order, the first that is found overlaps first.
pub order_precedes : (one later : Hold) → IsInOrder one later → Precedes one later
order_precedes one later order = grind (arith, order)

pub overlap_here : (holds : List Hold) (lo hi at : ℕ) (here : Hold) → AllPairs IsInOrder holds → at < length holds
    → IsClear (take at holds) lo hi Exclusive → ConflictsWith (get_or holds at here) lo hi Exclusive
    → IsFirstIn holds lo hi Exclusive (get_or holds at here)
overlap_here holds lo hi at here order within clear blocks = record {
  listed = Contains-get_or holds at here within;
  blocks = blocks;
  lowest = λ other (k, low, is) stops. ⊎_elim
      (λ earlier. absurd (clear other (Contains-take holds at k other earlier low is) stops))
      (λ from. ⊎_elim
      (λ later. order_precedes (get_or holds at here) other
      (subst (λ (hold : Hold). IsInOrder (get_or holds at here) hold) is
      (subst (λ (hold : Hold). IsInOrder hold (get_or holds k other)) (get_or_default holds at other here within)
      (order at k other later low))))
      (λ rest. subst (Precedes (get_or holds at here))
      (get_or_default holds at here other within ∙ ap (λ (n : ℕ). get_or holds n other) (omega (arith, rest, from)) ∙ is)
      (precedes_itself (get_or holds at here)))
      (cases_lt at k))
      (cases_lt k at);
}
  where
    Contains-take : (holds : List Hold) (at k : ℕ) (other : Hold) → k < at → k < length holds → get_or holds k other ≡ other
        → Contains (take at holds) other
    Contains-take holds at k other earlier low is =
        (k, search (arith, length-take), get_or-take at holds k other earlier ∙ is)
