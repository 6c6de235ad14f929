-- Holds stay exclusive as one is added or ends.
use Rattle.std.proofs.Common.{◌≡◌, ℕ, ◌<◌, List, get_or, subst, arith, inl, inr, ⊎_elim}
use Rattle.std.specs.Prelude.{Some, AllPairs, slice_get}
use Rattle.std.proofs.lemmas.Bool.{cases_lt}
use Rattle.std.proofs.lemmas.Option.{slice_get-get_or, get_or_from_slice_get, slice_get_within}
use Rattle.std.proofs.lemmas.List.Elements.{All-contains}
use Rattle.range_locks.specs.declared.hold.Hold.{Hold}
use Rattle.range_locks.specs.Gaining.{Gains}
use Rattle.range_locks.specs.Holds.{ConflictsWith, AreExclusive, HasSectors, AreHolds, IsClear}
use Rattle.range_locks.proofs.Lists.{all_listed, gains_cases, gains_old, pairs_gain, pairs_lose}

-- One hold isn't in the way of another.
abbrev Spares : Hold → Hold → Type 0
Spares one other = ConflictsWith one other.lo other.hi other.kind → ⊥

-- Of two holds each is in the way of the other, or none is.
blocks_back : (one other : Hold) → ConflictsWith one other.lo other.hi other.kind → ConflictsWith other one.lo one.hi one.kind
blocks_back one other is = record {
  overlaps = record { begins = is.overlaps.ends; ends = is.overlaps.begins };
  exclusive = ⊎_elim (λ first. inr first) (λ second. inl second) is.exclusive;
}

spares_back : (one other : Hold) → Spares one other → Spares other one
spares_back one other spares blocks = spares (blocks_back other one blocks)

pairs_from : (holds : List Hold) → AreExclusive holds → AllPairs Spares holds
pairs_from holds is i j default before within =
    is.apart i j _ _ (λ same. omega (arith, same, before))
    (slice_get-get_or holds i default (omega (arith, before, within))) (slice_get-get_or holds j default within)

pair_at : (holds : List Hold) (i j : ℕ) (one other : Hold) → AllPairs Spares holds → i < j → slice_get holds i ≡ Some one
    → slice_get holds j ≡ Some other → Spares one other
pair_at holds i j one other pairs before at_one at_other =
    subst (λ (h : Hold). Spares h other) (get_or_from_slice_get holds i one one at_one)
    (subst (λ (h : Hold). Spares (get_or holds i one) h) (get_or_from_slice_get holds j other one at_other)
    (pairs i j one before (slice_get_within holds j other at_other)))

exclusive_from : (holds : List Hold) → AllPairs Spares holds → AreExclusive holds
exclusive_from holds pairs = record {
  apart = λ i j one other apart at_one at_other.
      ⊎_elim (λ before. pair_at holds i j one other pairs before at_one at_other)
      (λ rest. ⊎_elim (λ after. spares_back other one (pair_at holds j i other one pairs after at_other at_one))
      (λ same. absurd (apart (omega (arith, rest, same)))) (cases_lt j i)) (cases_lt i j);
}

-- A hold that no other is in the way of may be put in.
pub holds_gain : (old new : List Hold) (hold : Hold) → AreHolds old → IsClear old hold.lo hold.hi hold.kind → hold.lo < hold.hi
    → Gains old new hold → AreHolds new
holds_gain old new hold are clear some gains = record {
  exclusive = exclusive_from new (pairs_gain Spares spares_back old new hold gains
      (λ other listed. spares_back other hold (clear other listed)) (pairs_from old are.exclusive));
  nonempty = all_listed HasSectors new (λ other listed. ⊎_elim
      (λ same. subst HasSectors same some)
      (λ was. All-contains HasSectors old other are.nonempty was) (gains_cases old new hold other gains listed));
}

-- Those that are left when one ends are still apart.
pub holds_lose : (old new : List Hold) (hold : Hold) → AreHolds old → Gains new old hold → AreHolds new
holds_lose old new hold are gains = record {
  exclusive = exclusive_from new (pairs_lose Spares spares_back old new hold gains (pairs_from old are.exclusive));
  nonempty = all_listed HasSectors new (λ other listed. All-contains HasSectors old other are.nonempty
      (gains_old new old hold other gains listed));
}
