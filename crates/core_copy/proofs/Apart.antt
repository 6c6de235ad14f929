-- What a commit holds, and what others hold beside it, is apart.
use Rattle.std.proofs.Common.{◌≡◌, inl, inr, ⊎_elim, ℕ, ◌<◌, ◌≤◌, List}
use Rattle.std.specs.Prelude.{Contains}
use Rattle.std.proofs.lemmas.Bool.{cases_lt}
use Rattle.reflow_mark.specs.declared.reflow.Reflow.{Reflow}
use Rattle.range_locks.specs.declared.hold.Hold.{Hold}
use Rattle.range_locks.specs.declared.hold.HoldKind.TheVariants.{Shared, Exclusive}
use Rattle.range_locks.specs.Holds.{IsClear}
use Rattle.mark_choice.specs.Clear.{HasNoShared}
use Rattle.mark_choice.specs.CommitChoice.{IsCommitChoice, range_of_commit}
use Rattle.mark_choice.proofs.Clear.{choice_clear}
use Rattle.core_copy.specs.Behind.{IsOutside}

-- What is held beside a range that nobody shares is outside of it.
pub held_outside : (holds : List Hold) (lo hi : ℕ) (hold : Hold) → HasNoShared holds (lo, hi) → Contains holds hold
    → hold.kind ≡ Shared → IsOutside lo hi hold.lo hold.hi
held_outside holds lo hi hold clear listed shared = ⊎_elim
    (λ (some : lo < hi). ⊎_elim
    (λ (begins : hold.lo < hi). ⊎_elim
    (λ (ends : lo < hold.hi). absurd (clear hold listed shared some (record { begins = begins; ends = ends })))
    (λ (before : hold.hi ≤ lo). inr (inl before))
    (cases_lt lo hold.hi))
    (λ (behind : hi ≤ hold.lo). inr (inr behind))
    (cases_lt hold.lo hi))
    (λ (empty : hi ≤ lo). inl empty)
    (cases_lt lo hi)

-- Law: What was held shared when a reflow was chosen is outside the sectors that its commit holds.
pub held_before : (reflow : Reflow) (done : ℕ) (holds : List Hold) (chosen : Reflow) (hold : Hold)
    → IsCommitChoice reflow done holds chosen → Contains holds hold → hold.kind ≡ Shared
    → IsOutside (range_of_commit reflow chosen).0 (range_of_commit reflow chosen).1 hold.lo hold.hi
held_before reflow done holds chosen hold choice =
    held_outside holds (range_of_commit reflow chosen).0 (range_of_commit reflow chosen).1 hold
    (choice_clear reflow done holds chosen choice)

-- Law: What is taken beside an exclusive hold is outside of it.
pub held_beside : (holds : List Hold) (own : Hold) (lo hi : ℕ) → Contains holds own → own.kind ≡ Exclusive
    → IsClear holds lo hi Shared → IsOutside own.lo own.hi lo hi
held_beside holds own lo hi listed alone clear = ⊎_elim
    (λ (begins : own.lo < hi). ⊎_elim
    (λ (ends : lo < own.hi). absurd (clear own listed (record {
      overlaps = record { begins = begins; ends = ends };
      exclusive = inl alone;
    })))
    (λ (behind : own.hi ≤ lo). inr (inr behind))
    (cases_lt lo own.hi))
    (λ (before : hi ≤ own.lo). inr (inl before))
    (cases_lt own.lo hi)
