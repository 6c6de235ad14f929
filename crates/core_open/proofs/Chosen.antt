-- What an opening chooses, from the pool and its newest candidates.
use Rattle.std.proofs.Common.{◌≡◌, ⊎_elim, ℕ, ◌<◌, List, [], length, None, Some, sym, ap, subst, arith}
use Rattle.std.specs.Prelude.{Contains, slice_get}
use Rattle.bank_trait.specs.Disk.{Image}
use Rattle.block_record.specs.declared.entry.IndexEntry.{IndexEntry}
use Rattle.core_state.specs.Shown.{Shape, IsCandidate}
use Rattle.core_state.specs.Choosing.{IsChosenPool}
use Rattle.core_open.specs.declared.ring_uber.RingUber.{RingUber}
use Rattle.core_open.specs.Candidates.{AreChosen, AreNewest}
use Rattle.core_open.specs.Votes.{IsPoolChoice}
use Rattle.core_open.proofs.Voting.{chosen_once, none_chosen}

module _ (shape : Shape) (silent : ℕ) (image : Image) where
  no_spread : (ubers : List RingUber) (ring_uber : RingUber) → ubers ≡ [] → Contains ubers ring_uber → ⊥
  no_spread ubers ring_uber none listed = omega (arith, listed.1, ap length none)

  -- The pool's newest candidates are what is chosen, or it has none.
  pub chosen_some : (pool : ℕ) (ubers : List RingUber) (entries : List IndexEntry)
      → IsPoolChoice shape silent image (Some pool) → AreNewest shape silent image pool ubers entries
      → AreChosen shape silent image ubers entries
  chosen_some pool ubers entries chosen newest = record {
    none = λ empty. record {
      none = λ other device uber listed also works candidate.
          let same : other ≡ pool = chosen_once shape silent image other pool also chosen in ⊎_elim
          (λ (there : Contains ubers (record { device = device; uber = uber })). no_spread ubers _ empty there)
          (λ (above : (ring_uber : RingUber) × Contains ubers ring_uber × (uber.group < ring_uber.uber.group)). no_spread ubers above.0 empty above.1)
          (newest.every device uber listed works
          (subst (λ p. IsCandidate shape silent p image device uber listed) same candidate));
    };
    some = λ first is.
        let same : pool ≡ first.uber.pool = sym (newest.first first is).pool_is in (
          subst (λ p. IsChosenPool shape silent image p) same chosen,
          subst (λ p. AreNewest shape silent image p ubers entries) same newest,
        );
  }

  -- No pool is chosen, so nothing is.
  pub chosen_none : (ubers : List RingUber) (entries : List IndexEntry) → ubers ≡ []
      → IsPoolChoice shape silent image None
      → AreChosen shape silent image ubers entries
  chosen_none ubers entries empty none = record {
    none = λ same. record {
      none = λ pool device uber listed chosen works candidate. none_chosen shape silent image none pool chosen;
    };
    some = λ first is.
        let nothing : slice_get [] 0 ≡ Some first = subst (λ (list : List RingUber). slice_get list 0 ≡ Some first) empty is in
        absurd (cc);
  }
