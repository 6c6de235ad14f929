-- How the leading pool is found, vote by vote.
use Rattle.std.proofs.Common.{◌≡◌, ℕ, ◌+◌, ◌<◌, ◌≤◌, List, length, Option, None, Some, refl, sym, subst, arith, get_or}
use Rattle.std.proofs.Common.{below_more}
use Rattle.core_open.specs.declared.votes.Vote.{Vote}
use Rattle.core_open.specs.Votes.{IsWinner, votes_for}
use Rattle.core_open.proofs.Voters.{some_votes}

-- Of the first votes, the pool is the first with the most.
pub record IsLeader (votes : List Vote) (seen pool most : ℕ) : Type 0 where
  pub place : ℕ
  pub there : place < seen
  pub pool_is : (d : Vote) → (get_or votes place d).pool ≡ pool
  pub counted : most ≡ votes_for pool votes
  pub most_of : (k : ℕ) → k < seen → (d : Vote) → votes_for (get_or votes k d).pool votes ≤ most
  pub first : (k : ℕ) (d : Vote) → k < place → votes_for (get_or votes k d).pool votes < most

-- So it is after some votes, or none was seen.
abbrev pub IsLeading : List Vote → ℕ → Option ℕ → ℕ → Type 0
IsLeading votes seen None most = (seen ≡ 0) × (most ≡ 0)
IsLeading votes seen (Some pool) most = IsLeader votes seen pool most

-- No pool seen so far has more.
most_so_far : (votes : List Vote) (seen : ℕ) (winner : Option ℕ) (most : ℕ) → IsLeading votes seen winner most
    → (k : ℕ) → k < seen → (d : Vote) → votes_for (get_or votes k d).pool votes ≤ most
most_so_far votes seen None most none k low d = absurd (omega (arith, low, none.0))
most_so_far votes seen (Some pool) most leader k low d = leader.most_of k low d

module _ (votes : List Vote) (seen : ℕ) (winner : Option ℕ) (most : ℕ) (so_far : IsLeading votes seen winner most)
    (below : seen < length votes) (pool : ℕ) (is : (d : Vote) → (get_or votes seen d).pool ≡ pool) where
  -- A pool with more votes takes the lead,
  pub leader_new : most < votes_for pool votes → IsLeading votes (seen + 1) (Some pool) (votes_for pool votes)
  leader_new more = record {
    place = seen;
    there = omega arith;
    pool_is = is;
    counted = refl;
    most_of = below_more (λ k. (d : Vote) → votes_for (get_or votes k d).pool votes ≤ votes_for pool votes) seen
        (λ k low d. omega (arith, more, most_so_far votes seen winner most so_far k low d))
        (λ d. subst (λ p. votes_for p votes ≤ votes_for pool votes) (sym (is d)) (omega arith));
    first = λ k d low. omega (arith, more, most_so_far votes seen winner most so_far k low d);
  }

  -- and one with no more does not.
  pub leader_kept : votes_for pool votes ≤ most → IsLeading votes (seen + 1) winner most
  leader_kept fewer = by winner so_far
    where
      by : (w : Option ℕ) → IsLeading votes seen w most → IsLeading votes (seen + 1) w most
      by None none = absurd (omega (
        arith,
        none.1,
        fewer,
        subst (λ p. 1 ≤ votes_for p votes) (is (record { device = 0; pool = 0 }))
            (some_votes votes seen (record { device = 0; pool = 0 }) below),
      ))
      by (Some leading) leader = record {
        place = leader.place;
        there = omega (arith, leader.there);
        pool_is = leader.pool_is;
        counted = leader.counted;
        most_of = below_more (λ k. (d : Vote) → votes_for (get_or votes k d).pool votes ≤ most) seen leader.most_of
            (λ d. subst (λ p. votes_for p votes ≤ most) (sym (is d)) fewer);
        first = leader.first;
      }

-- All votes were seen.
pub leader_wins : (votes : List Vote) (seen pool most : ℕ) → seen ≤ length votes → length votes ≤ seen
    → IsLeader votes seen pool most
    → IsWinner votes pool
leader_wins votes seen pool most inside whole leader = record {
  place = leader.place;
  there = omega (arith, leader.there, inside);
  pool_is = leader.pool_is;
  most = λ k d low. omega (arith, leader.counted, leader.most_of k (omega (arith, low, whole)) d);
  first = λ k d low. omega (arith, leader.counted, leader.first k d low);
}
