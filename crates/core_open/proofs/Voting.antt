-- The winner of the votes is the pool that an opening chooses.
use Rattle.std.proofs.Common.{◌≡◌, ◌≢◌, inl, inr, ⊎_elim, ℕ, ◌+◌, ◌<◌, ◌≤◌, false, List, [], ◌∷◌, length, sym, ◌∙◌, ap}
use Rattle.std.proofs.Common.{subst, arith, get_or}
use Rattle.std.specs.Prelude.{All, Contains, nat_eq, IfNone, IfSome, None, Option, Some}
use Rattle.std.specs.List.{IsDistinct}
use Rattle.std.proofs.lemmas.Bool.{cases_eq, cases_lt}
use Rattle.std.proofs.lemmas.List.{get_or_default}
use Rattle.std.proofs.lemmas.List.Elements.{All-contains, All-head, All-weaker}
use Rattle.bank_trait.specs.Disk.{Image}
use Rattle.uberblock_ring.specs.Devices.{has_device}
use Rattle.uberblock_ring.specs.Uberblock.{Uber, slot_of}
use Rattle.core_state.specs.Shown.{Shape, Shows, read_devices}
use Rattle.core_state.specs.Choosing.{IsChosenPool, Names, Outvotes}
use Rattle.core_open.specs.declared.ring_uber.RingUber.{RingUber}
use Rattle.core_open.specs.declared.votes.Vote.{Vote}
use Rattle.core_open.specs.RingUbers.{AreShown}
use Rattle.core_open.specs.Votes.{AreVotes, IsPoolChoice, IsVote, IsWinner, votes_for}
use Rattle.core_open.proofs.ReadTo.{shown_once}
use Rattle.core_open.proofs.Voters.{each_voter, length-voters, some_votes, vote_by, voters, voters_distinct}
use Rattle.core_open.proofs.Voters.{voters_most, voter_listed}

-- the vote at a place
abbrev vote_at : List Vote → ℕ → Vote
vote_at votes place = get_or votes place (vote_by 0 0)

module _ (shape : Shape) (silent : ℕ) (image : Image) (ubers : List RingUber)
    (shown : AreShown shape silent image (read_devices shape) ubers)
    (votes : List Vote) (cast : AreVotes ubers silent votes) where
  listed_shows : (device : ℕ) (uber : Uber) → Contains ubers (record { device = device; uber = uber })
      → Shows shape image device uber
  listed_shows device uber listed = All-contains (λ (ring_uber : RingUber). Shows shape image ring_uber.device ring_uber.uber) ubers
      (record { device = device; uber = uber }) shown.each listed

  -- A vote names its pool,
  vote_names : (pool device : ℕ) → Contains votes (vote_by pool device) → Names shape silent image pool device
  vote_names pool device listed =
      let both = All-contains (λ (vote : Vote). (has_device silent vote.device ≡ false) × IsVote ubers vote) votes
      (vote_by pool device) cast.each listed in record {
        reads = both.0;
        uber = both.1.uber;
        shows = listed_shows device both.1.uber both.1.listed;
        greatest = λ other shows. both.1.greatest other (shown.every device other shows.device_in both.0 shows);
        pool_is = both.1.pool_is;
      }

  -- and each device that names a pool votes for it.
  names_vote : (pool device : ℕ) → Names shape silent image pool device → Contains votes (vote_by pool device)
  names_vote pool device names =
      let there = shown.every device names.uber names.shows.device_in names.reads names.shows in
      let voted = cast.every (record { device = device; uber = names.uber }) names.reads there in
      let vote : IsVote ubers (vote_by voted.0 device) =
      (All-contains (λ (vote : Vote). (has_device silent vote.device ≡ false) × IsVote ubers vote) votes
      (vote_by voted.0 device) cast.each voted.1).1 in
      let shows = listed_shows device vote.uber vote.listed in
      let level : vote.uber.group ≡ names.uber.group =
      omega (arith, names.greatest vote.uber shows, vote.greatest names.uber there) in
      let same : vote.uber ≡ names.uber =
      shown_once shape image device vote.uber names.uber shows names.shows (ap slot_of level) in
      let pools : voted.0 ≡ pool = sym vote.pool_is ∙ ap (λ (u : Uber). u.pool) same ∙ names.pool_is in
      subst (λ p. Contains votes (vote_by p device)) pools voted.1

  all_vote : (pool : ℕ) (devices : List ℕ) → All (Names shape silent image pool) devices
      → All (λ device. Contains votes (vote_by pool device)) devices
  all_vote pool devices each = All-weaker (Names shape silent image pool)
      (λ device. Contains votes (vote_by pool device)) (λ device names. names_vote pool device names) devices each

  -- The winner is the chosen pool.
  pub winner_chosen : (pool : ℕ) → IsWinner votes pool → IsChosenPool shape silent image pool
  winner_chosen pool winner = record {
    voters = voters pool votes;
    distinct = voters_distinct pool votes cast.order;
    each = each_voter (Names shape silent image pool) pool votes (λ device listed. vote_names pool device listed);
    wins = beats;
  }
    where
      for_pool : (vote_at votes winner.place).pool ≡ pool
      for_pool = winner.pool_is (vote_by 0 0)

      counted : length (voters pool votes) ≡ votes_for pool votes
      counted = length-voters pool votes

      led : 1 ≤ votes_for pool votes
      led = subst (λ p. 1 ≤ votes_for p votes) for_pool (some_votes votes winner.place (vote_by 0 0) winner.there)

      leader_listed : Contains votes (vote_by pool (vote_at votes winner.place).device)
      leader_listed = (
        winner.place,
        winner.there,
        get_or_default votes winner.place (vote_by pool (vote_at votes winner.place).device) (vote_by 0 0) winner.there
            ∙ (λ i. record { device = (vote_at votes winner.place).device; pool = for_pool i }),
      )

      -- As many others vote for another pool only behind the leader.
      behind : (other : ℕ) → other ≢ pool → votes_for other votes ≡ votes_for pool votes → (device : ℕ)
          → Contains votes (vote_by other device)
          → (vote_at votes winner.place).device < device
      behind other differs level device (place, low, is) =
          let here : (get_or votes place (vote_by other device)).pool ≡ other = ap (λ (v : Vote). v.pool) is in ⊎_elim
          (λ (early : place < winner.place). absurd (omega (
            arith,
            level,
            subst (λ p. votes_for p votes < votes_for pool votes) here (winner.first place (vote_by other device) early),
          )))
          (λ (late : winner.place ≤ place). ⊎_elim
          (λ (same : place ≡ winner.place). absurd (differs (sym here
          ∙ ap (λ k. (get_or votes k (vote_by other device)).pool) same ∙ winner.pool_is (vote_by other device))))
          (λ apart. subst (λ (v : Vote). (vote_at votes winner.place).device < v.device) is
          (subst (λ (v : Vote). v.device < (get_or votes place (vote_by other device)).device)
          (get_or_default votes winner.place (vote_by other device) (vote_by 0 0) winner.there)
          (cast.order winner.place place (vote_by other device) (omega (arith, late, apart)) low)))
          (cases_eq place winner.place))
          (cases_lt place winner.place)

      beats : (other : ℕ) (others : List ℕ) → other ≢ pool → IsDistinct nat_eq others
          → All (Names shape silent image other) others
          → Outvotes (voters pool votes) others
      beats other [] differs distinct each = inl (omega (arith, led, counted))
      beats other (device ∷ others) differs distinct each =
          let all = all_vote other (device ∷ others) each in
          let most : length (device ∷ others) ≤ votes_for other votes =
          voters_most other votes (device ∷ others) distinct all in
          let least : votes_for other votes ≤ votes_for pool votes = All-contains
          (λ (vote : Vote). votes_for vote.pool votes ≤ votes_for pool votes) votes (vote_by other device) winner.most
          (All-head (λ d. Contains votes (vote_by other d)) device others all) in ⊎_elim
          (λ (fewer : length (device ∷ others) < votes_for pool votes). inl (omega (arith, fewer, counted)))
          (λ (many : votes_for pool votes ≤ length (device ∷ others)). inr (
            omega (arith, many, most, least, counted),
            (
              (vote_at votes winner.place).device,
              voter_listed pool votes (vote_at votes winner.place).device leader_listed,
              All-weaker (λ d. Contains votes (vote_by other d)) (λ d. (vote_at votes winner.place).device < d)
                  (λ d listed. behind other differs (omega (arith, many, most, least)) d listed)
                  (device ∷ others) all,
            ),
          ))
          (cases_lt (length (device ∷ others)) (votes_for pool votes))

  -- Where there are no votes no device shows an uberblock.
  pub no_votes : votes ≡ [] → (device : ℕ) (uber : Uber) → has_device silent device ≡ false
      → Shows shape image device uber
      → ⊥
  no_votes none device uber works shows =
      let voted = cast.every (record { device = device; uber = uber }) works
      (shown.every device uber shows.device_in works shows) in
      omega (arith, voted.1.1, ap length none)

distinct_none : IsDistinct nat_eq []
unfolding IsDistinct
distinct_none = tt

-- Where no device shows an uberblock no pool is chosen,
pub none_chosen : (shape : Shape) (silent : ℕ) (image : Image)
    → ((device : ℕ) (uber : Uber) → has_device silent device ≡ false → Shows shape image device uber → ⊥)
    → (pool : ℕ) → IsChosenPool shape silent image pool
    → ⊥
none_chosen shape silent image none pool chosen = by chosen.voters chosen.each
    (chosen.wins (pool + 1) [] (λ same. absurd (omega (arith, same))) distinct_none (λ k d low. absurd (omega (arith, low))))
  where
    by : (voters : List ℕ) → All (Names shape silent image pool) voters → Outvotes voters [] → ⊥
    by [] each (inl less) = omega (arith, less)
    by [] each (inr (level, (device, listed, all))) = omega (arith, listed.1)
    by (device ∷ rest) each wins =
        let names = All-head (Names shape silent image pool) device rest each in
        none device names.uber names.reads names.shows

-- and else one alone.
pub chosen_once : (shape : Shape) (silent : ℕ) (image : Image) (one other : ℕ) → IsChosenPool shape silent image one
    → IsChosenPool shape silent image other
    → one ≡ other
chosen_once shape silent image one other first next = ⊎_elim
    (λ same. same)
    (λ apart. absurd (both first.voters next.voters
    (first.wins other next.voters (λ same. apart (sym same)) next.distinct next.each)
    (next.wins one first.voters apart first.distinct first.each)))
    (cases_eq one other)
  where
    both : (voters others : List ℕ) → Outvotes voters others → Outvotes others voters → ⊥
    both voters others (inl less) (inl more) = omega (arith, less, more)
    both voters others (inl less) (inr (level, rest)) = omega (arith, less, level)
    both voters others (inr (level, rest)) (inl more) = omega (arith, level, more)
    both voters others (inr (level, (low, low_in, below))) (inr (equal, (high, high_in, under))) =
        let less : low < high = All-contains (λ d. low < d) others high below high_in in
        let more : high < low = All-contains (λ d. high < d) voters low under low_in in omega (arith, less, more)

-- What the votes say is what is chosen.
pub pool_choice : (shape : Shape) (silent : ℕ) (image : Image) (ubers : List RingUber)
    → AreShown shape silent image (read_devices shape) ubers
    → (votes : List Vote) → AreVotes ubers silent votes
    → (winner : Option ℕ) → IfSome winner (IsWinner votes) → IfNone winner (votes ≡ [])
    → IsPoolChoice shape silent image winner
pool_choice shape silent image ubers shown votes cast None wins none =
    no_votes shape silent image ubers shown votes cast none
pool_choice shape silent image ubers shown votes cast (Some pool) wins none =
    winner_chosen shape silent image ubers shown votes cast pool wins
