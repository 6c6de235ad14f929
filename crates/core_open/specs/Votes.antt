-- How the devices vote for a pool.
use Rattle.std.specs.Prelude.{◌≡◌, ℕ, ◌<◌, ◌≤◌, ◌==◌, List, Option, Some, None, length, All, AllPairs, Contains}
use Rattle.std.specs.Prelude.{count_by, slice_index_or, false}
use Rattle.bank_trait.specs.Disk.{Image}
use Rattle.uberblock_ring.specs.Devices.{has_device}
use Rattle.uberblock_ring.specs.Uberblock.{Uber}
use Rattle.core_state.specs.Shown.{Shape, Shows}
use Rattle.core_state.specs.Choosing.{IsChosenPool}
use Rattle.core_open.specs.declared.ring_uber.RingUber.{RingUber}
use Rattle.core_open.specs.declared.votes.Vote.{Vote}

-- A device votes for the pool of its uberblock with the greatest group.
pub record IsVote (ubers : List RingUber) (vote : Vote) : Type 0 where
  pub uber : Uber
  pub listed : Contains ubers (record { device = vote.device; uber = uber })
  pub greatest : (other : Uber) → Contains ubers (record { device = vote.device; uber = other })
      → other.group ≤ uber.group
  pub pool_is : uber.pool ≡ vote.pool

-- Each device with an uberblock that isn't silent votes, and no other; by device.
pub record AreVotes (ubers : List RingUber) (silent : ℕ) (votes : List Vote) : Type 0 where
  pub each : All (λ vote. (has_device silent vote.device ≡ false) × IsVote ubers vote) votes
  pub every : (ring_uber : RingUber) → has_device silent ring_uber.device ≡ false → Contains ubers ring_uber
      → (pool : ℕ) × Contains votes (record { device = ring_uber.device; pool = pool })
  pub order : AllPairs (λ one other. one.device < other.device) votes

-- how many votes a pool has
abbrev pub votes_for : ℕ → List Vote → ℕ
votes_for pool votes = count_by (λ vote. vote.pool == pool) votes

-- The pool has the most votes, and one of them stands before those of each other that has as many.
pub record IsWinner (votes : List Vote) (pool : ℕ) : Type 0 where
  pub place : ℕ
  pub there : place < length votes
  pub pool_is : (d : Vote) → (slice_index_or votes place d).pool ≡ pool
  pub most : All (λ vote. votes_for vote.pool votes ≤ votes_for pool votes) votes
  pub first : (k : ℕ) (d : Vote) → k < place
      → votes_for (slice_index_or votes k d).pool votes < votes_for pool votes

-- The pool is the chosen one; there is none where no device that isn't silent shows an uberblock.
abbrev pub IsPoolChoice : Shape → ℕ → Image → Option ℕ → Type 0
IsPoolChoice shape silent image (Some pool) = IsChosenPool shape silent image pool
IsPoolChoice shape silent image None = (device : ℕ) (uber : Uber)
    → has_device silent device ≡ false → Shows shape image device uber
    → ⊥
