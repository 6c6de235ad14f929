-- How an uberblock is considered: what is said of the first one, and what alike uberblocks share.
use Rattle.std.proofs.Common.{◌≡◌, ◌≢◌, List, [], ◌∷◌, ◌++◌, Some, refl, sym, subst, ℕ}
use Rattle.std.specs.Prelude.{slice_get}
use Rattle.bank_trait.specs.Disk.{Image}
use Rattle.block_record.specs.declared.entry.IndexEntry.{IndexEntry}
use Rattle.uberblock_ring.specs.Uberblock.{Uber}
use Rattle.uberblock_ring.specs.Valid.{AreAlike}
use Rattle.core_state.specs.Shown.{Shape, page_on}
use Rattle.core_open.specs.declared.ring_uber.RingUber.{RingUber}
use Rattle.core_open.specs.Candidates.{HasIndex}

-- The first uberblock stays the first,
pub first_kept : (P : RingUber → Type 0) (ubers : List RingUber) (ring_uber there : RingUber)
    → slice_get ubers 0 ≡ Some there → ((first : RingUber) → slice_get ubers 0 ≡ Some first → P first)
    → (first : RingUber) → slice_get (ubers ++ ring_uber ∷ []) 0 ≡ Some first
    → P first
first_kept P [] ring_uber there some each first is = absurd (cc)
first_kept P (one ∷ ubers) ring_uber there some each first is = each first is

-- or there was none.
pub first_more : {E : Type 0} (P : RingUber → E → Type 0) (ubers : List RingUber) (ring_uber : RingUber)
    (before fresh after : E)
    → ((first : RingUber) → slice_get ubers 0 ≡ Some first → P first before)
    → (ubers ≡ [] → after ≡ fresh) → (ubers ≢ [] → after ≡ before) → P ring_uber fresh
    → (first : RingUber) → slice_get (ubers ++ ring_uber ∷ []) 0 ≡ Some first
    → P first after
first_more P [] ring_uber before fresh after each new same has first is =
    let here : ring_uber ≡ first = cc in
    subst (λ (c : RingUber). P c after) here (subst (P ring_uber) (sym (new refl)) has)
first_more P (one ∷ ubers) ring_uber before fresh after each new same has first is =
    subst (P first) (sym (same (λ none. absurd (cc)))) (each first is)

-- The index of an uberblock does not hang on its out set.
index_without : (shape : Shape) (silent : ℕ) (image : Image) (uber : Uber) (entries : List IndexEntry)
    → HasIndex shape silent image uber entries
    → HasIndex shape silent image (record uber { out = 0 }) entries
unfolding page_on
index_without shape silent image uber entries has = record {
  room = has.room;
  giver = has.giver;
  giver_reads = has.giver_reads;
  gives = record { device_in = has.gives.device_in; digest = has.gives.digest; page = has.gives.page };
  fitting = record { births = has.fitting.births; below = has.fitting.below; apart = has.fitting.apart };
}

without_index : (shape : Shape) (silent : ℕ) (image : Image) (uber : Uber) (entries : List IndexEntry)
    → HasIndex shape silent image (record uber { out = 0 }) entries
    → HasIndex shape silent image uber entries
unfolding page_on
without_index shape silent image uber entries has = record {
  room = has.room;
  giver = has.giver;
  giver_reads = has.giver_reads;
  gives = record { device_in = has.gives.device_in; digest = has.gives.digest; page = has.gives.page };
  fitting = record { births = has.fitting.births; below = has.fitting.below; apart = has.fitting.apart };
}

-- So alike uberblocks have the same index.
pub alike_index : (shape : Shape) (silent : ℕ) (image : Image) (one other : Uber) (entries : List IndexEntry)
    → AreAlike one other → HasIndex shape silent image one entries
    → HasIndex shape silent image other entries
alike_index shape silent image one other entries alike has = without_index shape silent image other entries
    (subst (λ (u : Uber). HasIndex shape silent image u entries) alike (index_without shape silent image one entries has))
