-- The devices that vote for a pool, as a list.
use Rattle.std.proofs.Common.{◌≡◌, ◌⊎◌, inl, inr, ⊎_elim, ℕ, zero, suc, ◌<◌, ◌≤◌, Bool, true, false, List, [], ◌∷◌}
use Rattle.std.proofs.Common.{length, refl, sym, ◌∙◌, ap, subst, arith, get_or}
use Rattle.std.specs.Prelude.{All, AllPairs, Contains, nat_eq, ◌==◌, if◌then◌else◌}
use Rattle.std.specs.List.{IsDistinct, list_any, Any, filter}
use Rattle.std.proofs.lemmas.Bool.{eq-eqb, eqb-true, ne_eqb}
use Rattle.std.proofs.lemmas.Cmp.{nat_eq_equiv}
use Rattle.std.proofs.lemmas.List.{get_or_default}
use Rattle.std.proofs.lemmas.List.Elements.{All-cons, All-nil, All-contains, recursion_from_All}
use Rattle.std.proofs.lemmas.List.Folds.{Any-from_list_any, list_any-from_Any}
use Rattle.std.proofs.lemmas.List.Sums.{length-filter}
use Rattle.std.proofs.lemmas.Map.Keys.{IsDistinct-cons}
use Rattle.std.proofs.lemmas.Map.Made.{length-le_from_is_member}
use Rattle.core_open.specs.declared.votes.Vote.{Vote}
use Rattle.core_open.specs.Votes.{votes_for}

-- a device's vote for a pool
abbrev pub vote_by : ℕ → ℕ → Vote
vote_by pool device = record { device = device; pool = pool }

-- the devices that vote for a pool
abbrev pub voters : ℕ → List Vote → List ℕ
voters pool [] = []
voters pool (vote ∷ votes) = if vote.pool == pool then vote.device ∷ voters pool votes else voters pool votes

-- They are as many as the pool has votes.
pub length-voters : (pool : ℕ) (votes : List Vote) → length (voters pool votes) ≡ votes_for pool votes
length-voters pool votes = filtered votes ∙ length-filter (λ (vote : Vote). vote.pool == pool) votes
  where
    by : (vote : Vote) (rest : List Vote) (b : Bool)
        → length (voters pool rest) ≡ length (filter (λ (v : Vote). v.pool == pool) rest)
        → length (if b then vote.device ∷ voters pool rest else voters pool rest)
        ≡ length (if b then vote ∷ filter (λ (v : Vote). v.pool == pool) rest else filter (λ (v : Vote). v.pool == pool) rest)
    by vote rest true same = ap suc same
    by vote rest false same = same

    filtered : (list : List Vote) → length (voters pool list) ≡ length (filter (λ (v : Vote). v.pool == pool) list)
    filtered [] = refl
    filtered (vote ∷ list) = by vote list (vote.pool == pool) (filtered list)

contains_tail : {X : Type 0} → (first : X) (rest : List X) (x : X) → Contains rest x → Contains (first ∷ rest) x
contains_tail first rest x (k, low, is) = (suc k, omega (arith, low), is)

contains_cases : {X : Type 0} → (first : X) (rest : List X) (x : X) → Contains (first ∷ rest) x
    → (first ≡ x) ⊎ Contains rest x
contains_cases first rest x (zero, low, is) = inl is
contains_cases first rest x (suc k, low, is) = inr (k, omega (arith, low), is)

-- Each that votes for the pool is one of them,
pub voter_listed : (pool : ℕ) (votes : List Vote) (device : ℕ) → Contains votes (vote_by pool device)
    → Contains (voters pool votes) device
voter_listed pool [] device (k, low, is) = absurd (omega (arith, low))
voter_listed pool (vote ∷ votes) device listed = ⊎_elim
    (λ (is : vote ≡ vote_by pool device).
    let here : (vote.pool == pool) ≡ true = eq-eqb vote.pool pool (ap (λ (v : Vote). v.pool) is) in
    subst (λ (b : Bool). Contains (if b then vote.device ∷ voters pool votes else voters pool votes) device) (sym here)
    (0, omega arith, ap (λ (v : Vote). v.device) is))
    (λ (later : Contains votes (vote_by pool device)). by (vote.pool == pool) (voter_listed pool votes device later))
    (contains_cases vote votes (vote_by pool device) listed)
  where
    by : (b : Bool) → Contains (voters pool votes) device
        → Contains (if b then vote.device ∷ voters pool votes else voters pool votes) device
    by true later = contains_tail vote.device (voters pool votes) device later
    by false later = later

-- and what holds of those that vote for it holds of each of them.
pub each_voter : (P : ℕ → Type 0) (pool : ℕ) (votes : List Vote)
    → ((device : ℕ) → Contains votes (vote_by pool device) → P device)
    → All P (voters pool votes)
each_voter P pool [] each = All-nil P
each_voter P pool (vote ∷ votes) each = by (vote.pool == pool) refl
    (each_voter P pool votes (λ device listed. each device (contains_tail vote votes (vote_by pool device) listed)))
  where
    by : (b : Bool) → (vote.pool == pool) ≡ b → All P (voters pool votes)
        → All P (if b then vote.device ∷ voters pool votes else voters pool votes)
    by true is rest = All-cons P vote.device (voters pool votes)
        (each vote.device (0, omega arith, λ i. record { device = vote.device; pool = eqb-true vote.pool pool is i })) rest
    by false is rest = rest

-- They stand by device.
abbrev pub InOrder : List Vote → Type 0
InOrder votes = AllPairs (λ one other. one.device < other.device) votes

order_tail : (vote : Vote) (votes : List Vote) → InOrder (vote ∷ votes) → InOrder votes
order_tail vote votes order i j d apart low = order (suc i) (suc j) d (omega (arith, apart)) (omega (arith, low))

order_head : (vote : Vote) (votes : List Vote) (other : Vote) → InOrder (vote ∷ votes) → Contains votes other
    → vote.device < other.device
order_head vote votes other order (k, low, is) =
    subst (λ (v : Vote). vote.device < v.device) is (order 0 (suc k) other (omega arith) (omega (arith, low)))

-- None of them stands twice.
pub voters_distinct : (pool : ℕ) (votes : List Vote) → InOrder votes → IsDistinct nat_eq (voters pool votes)
unfolding IsDistinct
voters_distinct pool [] order = tt
voters_distinct pool (vote ∷ votes) order =
    by (vote.pool == pool) (voters_distinct pool votes (order_tail vote votes order))
  where
    apart : All (λ other. nat_eq vote.device other ≡ false) (voters pool votes)
    apart = each_voter (λ other. nat_eq vote.device other ≡ false) pool votes (λ device listed.
        let less : vote.device < device = order_head vote votes (vote_by pool device) order listed in
        ne_eqb vote.device device (λ same. absurd (omega (arith, less, same))))

    by : (b : Bool) → IsDistinct nat_eq (voters pool votes)
        → IsDistinct nat_eq (if b then vote.device ∷ voters pool votes else voters pool votes)
    by true rest = IsDistinct-cons nat_eq vote.device (voters pool votes)
        (recursion_from_All (λ other. nat_eq vote.device other ≡ false) (voters pool votes) apart) rest
    by false rest = rest

-- Devices that all vote for the pool, none of them twice, are no more than its votes.
pub voters_most : (pool : ℕ) (votes : List Vote) (devices : List ℕ) → IsDistinct nat_eq devices
    → All (λ device. Contains votes (vote_by pool device)) devices
    → length devices ≤ votes_for pool votes
voters_most pool votes devices distinct each = omega (
  arith,
  length-voters pool votes,
  length-le_from_is_member nat_eq_equiv devices (voters pool votes) distinct member,
)
  where
    same_test : (one other : ℕ) → one ≡ other → nat_eq one other ≡ true
    same_test one other same = eq-eqb one other same

    member : (device : ℕ) → list_any (nat_eq device) devices ≡ true → list_any (nat_eq device) (voters pool votes) ≡ true
    member device is =
        let found : Any (λ (x : ℕ). nat_eq device x ≡ true) devices = Any-from_list_any (nat_eq device) devices is in
        let same : device ≡ found.1 = eqb-true device found.1 found.4 in
        let listed : Contains (voters pool votes) found.1 = voter_listed pool votes found.1
        (All-contains (λ d. Contains votes (vote_by pool d)) devices found.1 each (found.0, found.2, found.3)) in
        list_any-from_Any (nat_eq device) (voters pool votes)
        (listed.0, found.1, listed.1, listed.2, same_test device found.1 same)

-- A pool that a vote is for has a vote.
pub some_votes : (votes : List Vote) (place : ℕ) (d : Vote) → place < length votes
    → 1 ≤ votes_for (get_or votes place d).pool votes
some_votes votes place d low =
    let listed : Contains (voters (get_or votes place d).pool votes) (get_or votes place d).device =
    voter_listed (get_or votes place d).pool votes (get_or votes place d).device
    (place, low, get_or_default votes place (get_or votes place d) d low) in
    omega (arith, listed.1, length-voters (get_or votes place d).pool votes)
