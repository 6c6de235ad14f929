-- The lists of holds, as one is put in or taken out.
use Rattle.std.proofs.Common.{◌≡◌, ℕ, ◌+◌, ◌<◌, ◌≤◌, List, ◌∷◌, ◌++◌, length, suc, get_or, take, drop, sym, ◌∙◌, ap}
use Rattle.std.proofs.Common.{subst, arith, ⊎_elim, add-one, length-take}
use Rattle.std.specs.Prelude.{All, AllPairs, Contains, remove}
use Rattle.std.proofs.lemmas.Bool.{cases_lt}
use Rattle.std.proofs.lemmas.List.{get_or-take, drop_more, take-append-drop}
use Rattle.std.proofs.lemmas.List.Elements.{All-get_or}
use Rattle.range_locks.specs.declared.hold.Hold.{Hold}
use Rattle.range_locks.specs.declared.bound.Bound.TheVariants.{Before}
use Rattle.range_locks.specs.Holds.{EndsHold}
use Rattle.range_locks.specs.Order.{ComesBefore, IsInOrder, IsPlace}

-- A hold doesn't come before itself.
never_itself : (hold : Hold) → ComesBefore hold hold → ⊥
never_itself hold before = grind (arith, before)

-- Holds of one kind that stand alike are the same.
alike : (one other : Hold) → one.kind ≡ other.kind → (ComesBefore one other → ⊥) → (ComesBefore other one → ⊥) → one ≡ other
alike one other kind not after =
    let lo : one.lo ≡ other.lo = grind (arith, not, after) in
    let actor : one.actor ≡ other.actor = grind (arith, not, after, lo) in
    let hi : one.hi ≡ other.hi = grind (arith, not, after, lo, actor) in
    (λ i. record { lo = lo i; hi = hi i; actor = actor i; kind = kind i })

-- Where a hold is listed, its place is where it stands.
stands_at_place : (holds : List Hold) (hold : Hold) (at : ℕ) → All (λ other. other.kind ≡ hold.kind) holds
    → AllPairs IsInOrder holds → Contains holds hold → IsPlace holds (Before hold) at
    → (at < length holds) × (get_or holds at hold ≡ hold)
stands_at_place holds hold at kinds order (k, low, is) place = (
  within,
  ⊎_elim
      (λ later. alike (get_or holds at hold) hold (All-get_or (λ other. other.kind ≡ hold.kind) holds at hold within kinds)
      (place.behind at hold (omega arith) within)
      (subst (λ (h : Hold). ComesBefore h (get_or holds at hold) → ⊥) is (order at k hold later low)))
      (λ rest. ap (λ (n : ℕ). get_or holds n hold) (omega (arith, rest, from)) ∙ is)
      (cases_lt at k),
)
  where
    from : at ≤ k
    from = ⊎_elim
        (λ passed. absurd (never_itself hold (subst (λ (h : Hold). ComesBefore h hold) is (place.before k hold passed))))
        (λ above. above) (cases_lt k at)

    within : at < length holds
    within = omega (arith, from, low)

-- A hold that stands at its place ends: those before and after it stay.
pub ends_at_place : (holds new : List Hold) (hold : Hold) (at : ℕ) → All (λ other. other.kind ≡ hold.kind) holds
    → AllPairs IsInOrder holds → Contains holds hold → IsPlace holds (Before hold) at → new ≡ remove holds at → EndsHold holds new hold
ends_at_place holds new hold at kinds order listed place removed =
    let stands = stands_at_place holds hold at kinds order listed place in
    let rest : drop at holds ≡ hold ∷ drop (suc at) holds =
    subst (λ (n : ℕ). drop at holds ≡ hold ∷ drop n holds) (add-one at)
    (drop_more holds at hold stands.0 ∙ ap (λ (h : Hold). h ∷ drop (at + 1) holds) stands.1) in
    record {
      before = take at holds;
      after = drop (suc at) holds;
      was = sym (take-append-drop at holds) ∙ ap (λ (l : List Hold). take at holds ++ l) rest;
      first = λ (k, low, is). never_itself hold (subst (λ (h : Hold). ComesBefore h hold)
          (sym (get_or-take at holds k hold (search (arith, length-take))) ∙ is)
          (place.before k hold (search (arith, length-take))));
      is = removed;
    }
