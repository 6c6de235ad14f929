-- The holds of a core, of which those held alone below the front are at most one, that of its commit, and those from it
-- on at most one, that of its job.
use Rattle.core_turns.proofs.Words.{◌≡◌, inl, inr, ⊎_elim, ℕ, ◌+◌, ◌<◌, ◌≤◌, Bool, List, [], ◌∷◌, ◌++◌, ◌∙◌, ap, arith}
use Rattle.core_turns.proofs.Words.{Contains, cond, count_by, nat_tests, sum_by-append, sum_by-cons, Hold, Exclusive}
use Rattle.core_turns.proofs.Words.{Shared, EndsHold, HasSectors, Overlaps, IsClear, exclusive_count, is_exclusive}
use Rattle.core_turns.proofs.Words.{contains_cases, contains_none, gains_cases, gains_item, gains_old, HasNoShared}
use Rattle.core_turns.proofs.Words.{alone_below, is_alone_below, DropsHold, IsHeldAlone, TakesHold}
use Rattle.range_locks.specs.Gaining.{Gains}

-- ---- how many pass a test

-- what a hold adds to their number
abbrev pub one_if : (Hold → Bool) → Hold → ℕ
one_if test hold = cond (test hold) 1 0

count_more : (test : Hold → Bool) (hold : Hold) (holds : List Hold)
    → count_by test (hold ∷ holds) ≡ one_if test hold + count_by test holds
count_more test hold holds = sum_by-cons (one_if test) hold holds

count_both : (test : Hold → Bool) (one two : List Hold)
    → count_by test (one ++ two) ≡ count_by test one + count_by test two
count_both test one two = sum_by-append (one_if test) one two

-- One hold more,
pub count_gained : (test : Hold → Bool) (old new : List Hold) (hold : Hold) → Gains old new hold
    → count_by test new ≡ count_by test old + one_if test hold
count_gained test old new hold gains = search (count_both, count_more, arith)

-- or one less.
gains_ended : (old new : List Hold) (hold : Hold) → EndsHold old new hold → Gains new old hold
gains_ended old new hold ends = search

pub count_ended : (test : Hold → Bool) (old new : List Hold) (hold : Hold) → EndsHold old new hold
    → count_by test old ≡ count_by test new + one_if test hold
count_ended test old new hold ends = search (count_gained, gains_ended)

-- Where each hold adds no more to one number than to another, the first is no higher.
count_fewer : (one other : Hold → Bool) (holds : List Hold) → ((hold : Hold) → one_if one hold ≤ one_if other hold)
    → count_by one holds ≤ count_by other holds
count_fewer one other [] fewer = omega arith
count_fewer one other (hold ∷ holds) fewer = omega (arith, count_more, fewer hold, count_fewer one other holds fewer)

-- ---- how many are held alone

-- The test that only a hold passes that is held alone.
abbrev alone : Hold → Bool
alone hold = is_exclusive hold.kind

-- As many are held alone as before, below whatever front.
pub record SameAlone (old new : List Hold) : Type 0 where
  pub all : exclusive_count new ≡ exclusive_count old
  pub below : (front : ℕ) → alone_below front new ≡ alone_below front old

-- So it is where a shared hold comes,
pub shared_gained : (old new : List Hold) (hold : Hold) → hold.kind ≡ Shared → Gains old new hold → SameAlone old new
shared_gained old new hold shared gains = record {
  all = grind (arith, count_gained alone old new hold gains);
  below = λ front. grind (arith, nat_tests, count_gained (is_alone_below front) old new hold gains);
}

-- or ends.
pub shared_ended : (old new : List Hold) (hold : Hold) → hold.kind ≡ Shared → EndsHold old new hold → SameAlone old new
shared_ended old new hold shared ends =
    let was = shared_gained new old hold shared (gains_ended old new hold ends) in search (was.below, arith)

-- Where none is counted each hold that is alone begins at the front or above it.
pub none_below : (front : ℕ) (holds : List Hold) → alone_below front holds ≡ 0 → (hold : Hold) → Contains holds hold
    → hold.kind ≡ Exclusive → front ≤ hold.lo
none_below front [] none hold listed exclusive = absurd (contains_none hold listed)
none_below front (first ∷ holds) none hold listed exclusive =
    let more = count_more (is_alone_below front) first holds in
    ⊎_elim (λ (same : hold ≡ first). begins first (omega arith) (cc) same)
    (λ there. none_below front holds (omega arith) hold there exclusive) (contains_cases first holds hold listed)
  where
    begins : (first : Hold) → one_if (is_alone_below front) first ≡ 0 → first.kind ≡ Exclusive → hold ≡ first
        → front ≤ hold.lo
    begins first none alone same = grind (arith, nat_tests)

-- Fewer begin below a lower front, and never more than are alone.
pub below_lower : (low front : ℕ) (holds : List Hold) → low ≤ front → alone_below low holds ≤ alone_below front holds
below_lower low front holds within = count_fewer (is_alone_below low) (is_alone_below front) holds
    (λ hold. grind (arith, nat_tests))

pub below_all : (front : ℕ) (holds : List Hold) → alone_below front holds ≤ exclusive_count holds
below_all front holds = count_fewer (is_alone_below front) alone holds (λ hold. grind (arith, nat_tests))

-- ---- the hold of a commit

-- Nobody shares a range still where a hold comes that is not shared, or clear of it.
none_shared : (old new : List Hold) (item hold : Hold) → Gains old new item
    → (item.kind ≡ Shared → HasSectors hold → Overlaps item hold.lo hold.hi → ⊥) → HasNoShared old (hold.lo, hold.hi)
    → HasNoShared new (hold.lo, hold.hi)
none_shared old new item hold gains apart clear other listed shared some overlaps = ⊎_elim
    (λ (same : item ≡ other). apart (ap (λ (h : Hold). h.kind) same ∙ shared) some (rw (← same) at overlaps))
    (λ was. clear other was shared some overlaps) (gains_cases old new item other gains listed)

-- A hold that is not the one that ended stays.
pub ends_stays : (old new : List Hold) (gone hold : Hold) → EndsHold old new gone → (gone ≡ hold → ⊥)
    → Contains old hold → Contains new hold
ends_stays old new gone hold ends apart listed = ⊎_elim (λ same. absurd (apart same)) (λ there. there)
    (gains_cases new old gone hold (gains_ended old new gone ends) listed)

module _ (front : ℕ) (old new : List Hold) (hold : Hold) (exclusive : hold.kind ≡ Exclusive) where
  -- A range below the front that nobody shares, where nobody holds sectors below it alone, is held so by a commit, if
  -- it has a sector.
  pub alone_begins : (HasSectors hold → hold.lo < front) → alone_below front old ≡ 0
      → HasNoShared old (hold.lo, hold.hi) → TakesHold old new hold → IsHeldAlone front new hold
  alone_begins low none clear (inl taken) =
      let more = count_gained (is_alone_below front) old new hold taken.1 in
      record {
        low = low;
        held = inl (taken.0, gains_item old new hold taken.1, grind (arith, nat_tests));
        clear = none_shared old new hold hold taken.1 (λ shared some overlaps. cc) clear;
      }
  alone_begins low none clear (inr empty) = search arith

  -- As many are alone from the front on when it is taken.
  pub taken_count : (jobs : ℕ) → (HasSectors hold → hold.lo < front) → TakesHold old new hold
      → exclusive_count old ≡ alone_below front old + jobs → exclusive_count new ≡ alone_below front new + jobs
  taken_count jobs low (inl taken) counted =
      let all = count_gained alone old new hold taken.1 in
      let below = count_gained (is_alone_below front) old new hold taken.1 in
      grind (arith, nat_tests)
  taken_count jobs low (inr empty) counted = search arith

  -- Once it has ended nobody holds sectors below the front alone,
  pub alone_ends : IsHeldAlone front old hold → DropsHold old new hold → alone_below front new ≡ 0
  alone_ends holds (inl dropped) =
      let less = count_ended (is_alone_below front) old new hold dropped.1 in search arith
  alone_ends holds (inr empty) = search arith

  -- and as many hold sectors from it on.
  pub others_end : (jobs : ℕ) → IsHeldAlone front old hold → DropsHold old new hold
      → exclusive_count old ≡ alone_below front old + jobs → exclusive_count new ≡ jobs
  others_end jobs holds (inl dropped) counted =
      let less = count_ended alone old new hold dropped.1 in search arith
  others_end jobs holds (inr empty) counted =
      let same = ap exclusive_count empty.1 in search (same, arith)

-- All others are there when it has ended,
pub others_stay : (old new : List Hold) (hold other : Hold) → DropsHold old new hold → (hold ≡ other → ⊥)
    → Contains old other → Contains new other
others_stay old new hold other (inl dropped) apart listed = search ends_stays
others_stay old new hold other (inr none) apart listed = search arith

-- and all when it is taken.
pub taken_has : (old new : List Hold) (hold other : Hold) → TakesHold old new hold → Contains old other
    → Contains new other
taken_has old new hold other (inl taken) = search gains_old
taken_has old new hold other (inr none) = search arith

-- It is held still where the front goes no lower, as many are alone below it, its hold stays, and nobody shares it.
alone_stays : {front next : ℕ} {old new : List Hold} {hold : Hold} → front ≤ next
    → alone_below next new ≡ alone_below front old → (HasSectors hold → Contains old hold → Contains new hold)
    → HasNoShared new (hold.lo, hold.hi) → IsHeldAlone front old hold → IsHeldAlone next new hold
alone_stays on same stays clear holds = record {
  low = search arith;
  held = ⊎_elim (λ held. inl (held.0, stays held.0 held.1, same ∙ held.2))
      (λ none. inr (none.0, same ∙ none.1)) holds.held;
  clear = clear;
}

-- A hold from the front on that comes or ends leaves it,
pub alone_beside : (front : ℕ) (old new : List Hold) (item hold : Hold) → hold.kind ≡ Exclusive → item.kind ≡ Exclusive
    → front ≤ item.lo → Gains old new item → IsHeldAlone front old hold → IsHeldAlone front new hold
alone_beside front old new item hold exclusive alone high gains holds =
    let more = count_gained (is_alone_below front) old new item gains in
    alone_stays (omega arith) (grind (arith, nat_tests)) (λ some. gains_old old new item hold gains)
    (none_shared old new item hold gains (λ shared some overlaps. cc) holds.clear) holds

-- and so does a front that goes on past the only such hold as it ends.
pub alone_passes : (front next : ℕ) (old new : List Hold) (gone hold : Hold) → hold.kind ≡ Exclusive
    → gone.kind ≡ Exclusive → front ≤ gone.lo → front ≤ next → alone_below next new ≡ alone_below front old
    → EndsHold old new gone → IsHeldAlone front old hold → IsHeldAlone next new hold
alone_passes front next old new gone hold exclusive alone high on same ends holds = alone_stays on same
    (λ some. ends_stays old new gone hold ends (λ is. grind arith))
    (λ other listed. holds.clear other (search (gains_old, gains_ended))) holds

-- ---- the hold of a job

-- One that begins at the front is one less when it ends.
pub job_ended : (front : ℕ) (old new : List Hold) (hold : Hold) → hold.kind ≡ Exclusive → front ≤ hold.lo
    → EndsHold old new hold
    → (exclusive_count old ≡ exclusive_count new + 1) × (alone_below front old ≡ alone_below front new)
job_ended front old new hold exclusive high ends =
    let all = count_ended alone old new hold ends in
    let below = count_ended (is_alone_below front) old new hold ends in grind (arith, nat_tests)

-- Where it was the only one from the front on, as many are alone below one behind it.
pub front_passes : (front next : ℕ) (new : List Hold) → front ≤ next → exclusive_count new ≡ alone_below front new
    → alone_below next new ≡ alone_below front new
front_passes front next new on all = omega (arith, all, below_lower front next new on, below_all next new)

-- ---- what a turn leaves of it

-- What is held alone below the front is held so still.
abbrev pub KeepsAlone : ℕ → List Hold → List Hold → Type 0
KeepsAlone front old new = (hold : Hold) → hold.kind ≡ Exclusive → IsHeldAlone front old hold
    → IsHeldAlone front new hold

pub keeps_same : (front : ℕ) (old new : List Hold) → new ≡ old → KeepsAlone front old new
keeps_same front old new same hold exclusive holds = search same

-- So it is where a shared hold comes that is clear of it,
pub keeps_gained : (front : ℕ) (old new : List Hold) (item : Hold) → item.kind ≡ Shared
    → IsClear old item.lo item.hi Shared → Gains old new item → KeepsAlone front old new
keeps_gained front old new item shared clear gains hold exclusive holds = alone_stays (omega arith)
    ((shared_gained old new item shared gains).below front) (λ some. gains_old old new item hold gains)
    (none_shared old new item hold gains (λ kind some overlaps. search arith) holds.clear) holds

-- and where one ends.
pub keeps_ended : (front : ℕ) (old new : List Hold) (gone : Hold) → gone.kind ≡ Shared → EndsHold old new gone
    → KeepsAlone front old new
keeps_ended front old new gone shared ends hold exclusive holds = alone_stays (omega arith)
    ((shared_ended old new gone shared ends).below front) (λ some. ends_stays old new gone hold ends (λ same. cc))
    (λ other listed. holds.clear other (search (gains_old, gains_ended))) holds
