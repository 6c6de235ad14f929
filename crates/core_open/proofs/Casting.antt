-- How the votes are cast, device by device.
use Rattle.std.proofs.Common.{◌≡◌, ◌⊎◌, inl, inr, ⊎_elim, ℕ, ◌+◌, ◌<◌, ◌≤◌, false, List, [], ◌∷◌, ◌++◌, length, sym}
use Rattle.std.proofs.Common.{◌∙◌, ap, subst, arith, get_or}
use Rattle.std.specs.Prelude.{All, AllPairs, Contains, ◌≢◌}
use Rattle.std.proofs.lemmas.Bool.{cases_eq, cases_lt}
use Rattle.std.proofs.lemmas.List.{get_or_default}
use Rattle.std.proofs.lemmas.List.Elements.{All-contains, All-nil, All-push, Contains-append_left, Contains-push}
use Rattle.std.proofs.lemmas.List.Quantifiers.{all_pairs_push}
use Rattle.uberblock_ring.specs.Devices.{has_device}
use Rattle.uberblock_ring.specs.Uberblock.{Uber}
use Rattle.uberblock_ring.specs.Valid.{IsRightUber}
use Rattle.core_open.specs.declared.ring_uber.RingUber.{RingUber}
use Rattle.core_open.specs.declared.votes.Vote.{Vote}
use Rattle.core_open.specs.RingUbers.{AreByGroup, AreRight}
use Rattle.core_open.specs.Votes.{AreVotes, IsVote}
use Rattle.core_open.proofs.ReadTo.{ring_uber_on}
use Rattle.core_open.proofs.Voters.{vote_by}

-- The first uberblock of a device has its greatest group.
pub first_vote : (ubers : List RingUber) (place device pool : ℕ) (ring_uber : RingUber) → AreByGroup ubers
    → place < length ubers → ring_uber ≡ get_or ubers place ring_uber → ring_uber.device ≡ device → pool ≡ ring_uber.uber.pool
    → ((k : ℕ) → k < place → (d : RingUber) → (get_or ubers k d).device ≢ device)
    → IsVote ubers (vote_by pool device)
first_vote ubers place device pool ring_uber order below is on of_pool before = record {
  uber = ring_uber.uber;
  listed = (
    place,
    below,
    get_or_default ubers place (ring_uber_on device ring_uber.uber) ring_uber below ∙ sym is
        ∙ (λ i. ring_uber_on (on i) ring_uber.uber),
  );
  greatest = λ other listed. by other listed.0 listed.1 listed.2 (cases_lt listed.0 place) (cases_eq place listed.0);
  pool_is = sym of_pool;
}
  where
    by : (other : Uber) (k : ℕ) → k < length ubers → get_or ubers k (ring_uber_on device other) ≡ ring_uber_on device other
        → (k < place) ⊎ (place ≤ k) → (place ≡ k) ⊎ (place ≡ k → ⊥)
        → other.group ≤ ring_uber.uber.group
    by other k low there (inl early) same =
        absurd (before k early (ring_uber_on device other) (ap (λ (c : RingUber). c.device) there))
    by other k low there (inr late) (inl same) =
        let one : ring_uber ≡ ring_uber_on device other = is ∙ ap (λ n. get_or ubers n ring_uber) same
        ∙ get_or_default ubers k ring_uber (ring_uber_on device other) low ∙ there in
        omega (arith, ap (λ (c : RingUber). c.uber.group) one)
    by other k low there (inr late) (inr apart) =
        let here : get_or ubers k ring_uber ≡ ring_uber_on device other =
        get_or_default ubers k ring_uber (ring_uber_on device other) low ∙ there in
        subst (λ (c : RingUber). c.uber.group ≤ ring_uber.uber.group) here
        (subst (λ (c : RingUber). (get_or ubers k ring_uber).uber.group ≤ c.uber.group) (sym is)
        (⊎_elim (λ less. omega (arith, less)) (λ level. omega (arith, level.0))
        (order place k ring_uber (omega (arith, late, apart)) low)))

-- The votes of the devices below this one.
pub record AreCast (ubers : List RingUber) (silent device : ℕ) (votes : List Vote) : Type 0 where
  pub each : All (λ vote. (has_device silent vote.device ≡ false) × IsVote ubers vote) votes
  pub every : (ring_uber : RingUber) → ring_uber.device < device → has_device silent ring_uber.device ≡ false → Contains ubers ring_uber
      → (pool : ℕ) × Contains votes (vote_by pool ring_uber.device)
  pub order : AllPairs (λ one other. one.device < other.device) votes
  pub below : All (λ vote. vote.device < device) votes

-- No device was asked yet.
pub cast_none : (ubers : List RingUber) (silent : ℕ) → AreCast ubers silent 0 []
cast_none ubers silent = record {
  each = All-nil _;
  every = λ ring_uber low. absurd (omega (arith, low));
  order = λ i j d low high. absurd (omega (arith, high));
  below = All-nil _;
}

module _ (ubers : List RingUber) (silent device : ℕ) (votes : List Vote) (so_far : AreCast ubers silent device votes) where
  wider : All (λ (vote : Vote). vote.device < device + 1) votes
  wider k d low = omega (arith, so_far.below k d low)

  -- A device without a vote,
  pub cast_past : ((ring_uber : RingUber) → Contains ubers ring_uber → has_device silent ring_uber.device ≡ false
      → ring_uber.device ≡ device
      → ⊥)
      → AreCast ubers silent (device + 1) votes
  cast_past none = record {
    each = so_far.each;
    every = λ ring_uber low works listed. ⊎_elim
        (λ (less : ring_uber.device < device). so_far.every ring_uber less works listed)
        (λ (above : device ≤ ring_uber.device). absurd (none ring_uber listed works (omega (arith, low, above))))
        (cases_lt ring_uber.device device);
    order = so_far.order;
    below = wider;
  }

  -- and one with this vote.
  pub cast_more : has_device silent device ≡ false → (vote : Vote) → vote.device ≡ device → IsVote ubers vote
      → AreCast ubers silent (device + 1) (votes ++ vote ∷ [])
  cast_more works vote here is = record {
    each = All-push (λ (v : Vote). (has_device silent v.device ≡ false) × IsVote ubers v) votes vote so_far.each
        (subst (λ d. has_device silent d ≡ false) (sym here) works, is);
    every = λ ring_uber low quiet listed. ⊎_elim
        (λ (less : ring_uber.device < device). let voted = so_far.every ring_uber less quiet listed in
        (voted.0, Contains-append_left votes (vote ∷ []) (vote_by voted.0 ring_uber.device) voted.1))
        (λ (above : device ≤ ring_uber.device).
        let same : ring_uber.device ≡ device = omega (arith, low, above) in
        let on : vote ≡ vote_by vote.pool ring_uber.device = λ i. vote_by vote.pool ((here ∙ sym same) i) in
        (vote.pool, subst (λ (v : Vote). Contains (votes ++ vote ∷ []) v) on (Contains-push votes vote)))
        (cases_lt ring_uber.device device);
    order = all_pairs_push (λ (one other : Vote). one.device < other.device) votes vote so_far.order
        (λ k d low. omega (arith, here, so_far.below k d low));
    below = All-push (λ (v : Vote). v.device < device + 1) votes vote wider (omega (arith, here));
  }

  -- All were asked.
  pub cast_all : AreRight device ubers → AreVotes ubers silent votes
  cast_all right = record {
    each = so_far.each;
    every = λ ring_uber works listed. so_far.every ring_uber
        (All-contains (λ (c : RingUber). (c.device < device) × IsRightUber c.uber) ubers ring_uber right listed).0 works listed;
    order = so_far.order;
  }
