-- Rounds of turns: each client with a call under way has a turn, until all are idle.
use Rattle.schedule.proofs.Words.{◌≡◌, ℕ, ◌+◌, ◌<◌, ◌≤◌, List, [], ◌∷◌, length, Option, Some, None, zero, suc, refl}
use Rattle.schedule.proofs.Words.{arith, slice_get, true, cases_eq, true≢false, Client, UnderWay, most_turns}
use Rattle.schedule.proofs.Words.{is_any_busy, is_busy_at, AreIdle, HasComeRound}
use Rattle.std.specs.Prelude.{false}

-- Where any client has a call under way, one of them has,
pub any_busy : (clients : List Client) → is_any_busy clients ≡ true
    → (index : ℕ) × (index < length clients) × (is_busy_at clients index ≡ true)
any_busy [] is = cc
any_busy (first ∷ clients) is = by first.under_way refl (λ idle. any_busy clients (cc))
  where
    by : (under : Option UnderWay) → first.under_way ≡ under
        → (first.under_way ≡ None → (index : ℕ) × (index < length clients) × (is_busy_at clients index ≡ true))
        → (index : ℕ) × (index < length (first ∷ clients)) × (is_busy_at (first ∷ clients) index ≡ true)
    by None idle later = let found = later idle in (suc found.0, omega (arith, found.1), found.2)
    by (Some under) going later = search arith

-- and where none has, all are idle.
pub none_busy_idle : (clients : List Client) → is_any_busy clients ≡ false → AreIdle clients
none_busy_idle clients is = record { each = by clients is }
  where
    by : (clients : List Client) → is_any_busy clients ≡ false → (index : ℕ) (client : Client)
        → slice_get clients index ≡ Some client → client.under_way ≡ None
    by [] is index client there = cc
    by (first ∷ clients) is zero client there = grind arith
    by (first ∷ clients) is (suc index) client there = by clients (grind arith) index client there

-- A busy client has a call under way.
pub busy_under : (clients : List Client) (actor : ℕ) {client : Client} → slice_get clients actor ≡ Some client
    → is_busy_at clients actor ≡ true → (under : UnderWay) × (client.under_way ≡ Some under)
busy_under clients actor {client} there busy = grind arith

-- Before a round no client had its turn.
pub round_none : (clients : List Client) (taken : ℕ) → HasComeRound 0 clients taken clients taken
round_none clients taken = search arith

-- The next client has a turn of its call under way,
pub round_turn : {actor : ℕ} {old now next : List Client} {before taken counted : ℕ}
    → HasComeRound actor old before now taken → ((other : ℕ) → (other ≡ actor → ⊥)
    → slice_get next other ≡ slice_get now other)
    → taken < most_turns → counted ≡ taken + 1 → HasComeRound (actor + 1) old before next counted
round_turn round others below one = search arith

-- or has none under way.
pub round_idle : {actor : ℕ} {old now : List Client} {before taken : ℕ} → HasComeRound actor old before now taken
    → is_busy_at now actor ≡ false → HasComeRound (actor + 1) old before now taken
round_idle {actor} {old} {now} {before} {taken} round idle = search (true≢false, cases_eq, arith)

-- After a round in which some were busy more turns were taken.
pub round_further : {count : ℕ} {old new : List Client} {before taken : ℕ} → HasComeRound count old before new taken
    → length old ≤ count → is_any_busy old ≡ true → (before < taken) × (taken ≤ most_turns)
round_further {old = old} round all busy = search (any_busy, arith)
