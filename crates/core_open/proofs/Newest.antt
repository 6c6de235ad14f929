-- How the candidates of the greatest group that has any are found, uberblock by uberblock.
use Rattle.std.proofs.Common.{◌≡◌, ◌≢◌, ◌⊎◌, inl, inr, ⊎_elim, ℕ, zero, suc, ◌+◌, ◌<◌, ◌≤◌, false, List, [], ◌∷◌, ◌++◌}
use Rattle.std.proofs.Common.{length, Some, refl, sym, ◌∙◌, ap, subst, arith, get_or}
use Rattle.std.specs.Prelude.{All, Contains, slice_get}
use Rattle.std.proofs.lemmas.Bool.{cases_eq, cases_lt}
use Rattle.std.proofs.lemmas.List.{get_or_default}
use Rattle.std.proofs.lemmas.List.Elements.{All-contains, All-nil, All-push, All-weaker, Contains-append_left}
use Rattle.std.proofs.lemmas.List.Elements.{Contains-push}
use Rattle.std.proofs.lemmas.List.Quantifiers.{all_pairs_push}
use Rattle.bank_trait.specs.Disk.{Image}
use Rattle.block_record.specs.declared.entry.IndexEntry.{IndexEntry}
use Rattle.uberblock_ring.specs.Devices.{has_device}
use Rattle.uberblock_ring.specs.Uberblock.{Uber}
use Rattle.core_state.specs.Shown.{Shape, Shows, IsCandidate, read_devices}
use Rattle.core_open.specs.declared.ring_uber.RingUber.{RingUber}
use Rattle.core_open.specs.RingUbers.{AreByGroup, AreOfOneGroup, AreShown}
use Rattle.core_open.specs.Candidates.{AreNewest, FirstHas, HasIndex, IsConsidered}
use Rattle.core_open.proofs.ReadTo.{ring_uber_on}

-- The uberblock is one of the first ones.
abbrev pub StandsBefore : List RingUber → ℕ → RingUber → Type 0
StandsBefore all seen ring_uber = (k : ℕ) × (k < seen) × (k < length all) × (get_or all k ring_uber ≡ ring_uber)

-- They are some of the first uberblocks, of one group, by device.
pub record AreFrom (all : List RingUber) (seen : ℕ) (ubers : List RingUber) : Type 0 where
  pub listed : All (StandsBefore all seen) ubers
  pub order : AreOfOneGroup ubers

-- none yet,
pub from_none : (all : List RingUber) → AreFrom all 0 []
from_none all = record { listed = All-nil _; order = λ i j d low high. absurd (omega (arith, high)) }

stands_on : (all : List RingUber) (seen : ℕ) (ubers : List RingUber) → All (StandsBefore all seen) ubers
    → All (StandsBefore all (seen + 1)) ubers
stands_on all seen ubers listed = All-weaker (StandsBefore all seen) (StandsBefore all (seen + 1))
    (λ ring_uber there. (there.0, omega (arith, there.1), there.2, there.3)) ubers listed

-- an uberblock more that is not one of them,
pub from_past : (all : List RingUber) (seen : ℕ) (ubers : List RingUber) → AreFrom all seen ubers
    → AreFrom all (seen + 1) ubers
from_past all seen ubers so_far =
    record { listed = stands_on all seen ubers so_far.listed; order = so_far.order }

-- All are of the first one's group.
pub of_one_group : (ubers : List RingUber) (first : RingUber) → slice_get ubers 0 ≡ Some first
    → AreOfOneGroup ubers
    → All (λ ring_uber. (first.uber.group ≡ ring_uber.uber.group) × (first.device ≤ ring_uber.device)) ubers
of_one_group [] first is order k d low = absurd (omega (arith, low))
of_one_group (one ∷ ubers) first is order zero d low =
    let here : one ≡ first = cc in
    subst (λ (c : RingUber). (c.uber.group ≡ one.uber.group) × (c.device ≤ one.device)) here (refl, omega arith)
of_one_group (one ∷ ubers) first is order (suc k) d low =
    let here : one ≡ first = cc in
    subst (λ (c : RingUber). (c.uber.group ≡ (get_or ubers k d).uber.group) × (c.device ≤ (get_or ubers k d).device)) here
    (order 0 (suc k) d (omega arith) low)

first_or_none : (ubers : List RingUber) → (ubers ≡ []) ⊎ ((first : RingUber) × (slice_get ubers 0 ≡ Some first))
first_or_none [] = inl refl
first_or_none (one ∷ ubers) = inr (one, refl)

-- The first uberblock is of another group.
abbrev pub IsOfAnother : List RingUber → RingUber → Type 0
IsOfAnother ubers ring_uber =
    (first : RingUber) × (slice_get ubers 0 ≡ Some first) × (first.uber.group ≢ ring_uber.uber.group)

module _ (all : List RingUber) (order : AreByGroup all) (seen : ℕ) (ring_uber : RingUber)
    (below : seen < length all) (is : ring_uber ≡ get_or all seen ring_uber) where
  stands_here : StandsBefore all (seen + 1) ring_uber
  stands_here = (seen, omega arith, below, sym is)

  -- and one more of the same group.
  pub from_more : (ubers : List RingUber) → (IsOfAnother ubers ring_uber → ⊥) → AreFrom all seen ubers
      → AreFrom all (seen + 1) (ubers ++ ring_uber ∷ [])
  from_more ubers same so_far = record {
    listed = All-push (StandsBefore all (seen + 1)) ubers ring_uber (stands_on all seen ubers so_far.listed) stands_here;
    order = all_pairs_push (λ (one other : RingUber). (one.uber.group ≡ other.uber.group) × (one.device ≤ other.device))
        ubers ring_uber so_far.order each;
  }
    where
      each : (k : ℕ) (d : RingUber) → k < length ubers
          → ((get_or ubers k d).uber.group ≡ ring_uber.uber.group) × ((get_or ubers k d).device ≤ ring_uber.device)
      each k d low = ⊎_elim
          (λ (none : ubers ≡ []). absurd (omega (arith, low, ap length none)))
          (λ (some : (first : RingUber) × (slice_get ubers 0 ≡ Some first)).
          let level = (of_one_group ubers some.0 some.1 so_far.order k d low).0 in
          let there = so_far.listed k d low in
          let place = order there.0 seen ring_uber (omega (arith, there.1)) below in
          let here : get_or all there.0 ring_uber ≡ get_or ubers k d =
          get_or_default all there.0 ring_uber (get_or ubers k d) there.2 ∙ there.3 in
          let goes = subst (λ (c : RingUber). (c.uber.group < (get_or ubers k d).uber.group)
          ⊎ (((get_or ubers k d).uber.group ≡ c.uber.group) × ((get_or ubers k d).device ≤ c.device))) (sym is)
          (subst (λ (c : RingUber). ((get_or all seen ring_uber).uber.group < c.uber.group)
          ⊎ ((c.uber.group ≡ (get_or all seen ring_uber).uber.group) × (c.device ≤ (get_or all seen ring_uber).device))) here place) in
          ⊎_elim
          (λ (less : ring_uber.uber.group < (get_or ubers k d).uber.group).
          absurd (same (some.0, some.1, λ (equal : some.0.uber.group ≡ ring_uber.uber.group). absurd (omega (arith, less, level, equal)))))
          (λ (next : ((get_or ubers k d).uber.group ≡ ring_uber.uber.group) × ((get_or ubers k d).device ≤ ring_uber.device)). next)
          goes)
          (first_or_none ubers)

  -- Where the first candidate is of another group, that group is greater than all that follow.
  pub group_ends : (ubers : List RingUber) (first : RingUber) → AreFrom all seen ubers
      → slice_get ubers 0 ≡ Some first → first.uber.group ≢ ring_uber.uber.group
      → (k : ℕ) (d : RingUber) → seen ≤ k → k < length all → (get_or all k d).uber.group < first.uber.group
  group_ends [] first so_far some apart k d late low = absurd (cc)
  group_ends (one ∷ ubers) first so_far some apart k d late low =
      let there = so_far.listed 0 one (omega arith) in
      let here : one ≡ first = cc in
      let less : ring_uber.uber.group < first.uber.group =
      subst (λ (c : RingUber). ring_uber.uber.group < c.uber.group) here (before there) in ⊎_elim
      (λ (same : k ≡ seen).
      let at : get_or all k d ≡ ring_uber = ap (λ n. get_or all n d) same ∙ get_or_default all seen d ring_uber below ∙ sym is in
      subst (λ (c : RingUber). c.uber.group < first.uber.group) (sym at) less)
      (λ different.
      let after = order seen k d (omega (arith, late, different)) low in
      let at : get_or all seen d ≡ ring_uber = get_or_default all seen d ring_uber below ∙ sym is in
      let level : (get_or all k d).uber.group ≤ ring_uber.uber.group =
      subst (λ (c : RingUber). (get_or all k d).uber.group ≤ c.uber.group) at
      (⊎_elim (λ (more : (get_or all k d).uber.group < (get_or all seen d).uber.group). omega (arith, more))
      (λ (equal : ((get_or all seen d).uber.group ≡ (get_or all k d).uber.group) × ((get_or all seen d).device ≤ (get_or all k d).device)). omega (arith, equal.0)) after) in
      omega (arith, level, less))
      (cases_eq k seen)
    where
      before : StandsBefore all seen one → ring_uber.uber.group < one.uber.group
      before (place, early, in_list, at) =
          let goes = subst (λ (c : RingUber). (c.uber.group < one.uber.group)
          ⊎ ((one.uber.group ≡ c.uber.group) × (one.device ≤ c.device))) (sym is)
          (subst (λ (c : RingUber). ((get_or all seen ring_uber).uber.group < c.uber.group)
          ⊎ ((c.uber.group ≡ (get_or all seen ring_uber).uber.group) × (c.device ≤ (get_or all seen ring_uber).device)))
          (get_or_default all place ring_uber one in_list ∙ at) (order place seen ring_uber early below)) in ⊎_elim
          (λ (less : ring_uber.uber.group < one.uber.group). less)
          (λ (equal : (one.uber.group ≡ ring_uber.uber.group) × (one.device ≤ ring_uber.device)).
          absurd (apart (ap (λ (c : RingUber). c.uber.group) (sym here) ∙ equal.0)))
          goes
        where
          here : one ≡ first
          here = cc

module _ (shape : Shape) (silent : ℕ) (image : Image) (pool : ℕ) (all : List RingUber) where
  -- An uberblock of the pool, on a device that isn't silent.
  abbrev pub IsOpen : RingUber → Type 0
  IsOpen ring_uber = (ring_uber.uber.pool ≡ pool) × (has_device silent ring_uber.device ≡ false)

  -- They are the candidates among the first uberblocks, and the entries are the first one's.
  pub record AreNewestOf (seen : ℕ) (ubers : List RingUber) (entries : List IndexEntry) : Type 0 where
    pub sound : All (λ ring_uber. IsOpen ring_uber
        × ((listed : List IndexEntry) × HasIndex shape silent image ring_uber.uber listed)) ubers
    pub every : (ring_uber : RingUber) → StandsBefore all seen ring_uber → IsOpen ring_uber → (listed : List IndexEntry)
        → HasIndex shape silent image ring_uber.uber listed
        → Contains ubers ring_uber
    pub first : FirstHas shape silent image ubers entries

  -- No uberblock was looked at yet.
  pub newest_none : AreNewestOf 0 [] []
  newest_none = record {
    sound = All-nil _;
    every = λ ring_uber there. absurd (omega (arith, there.1));
    first = λ first is. absurd (cc);
  }

  module _ (seen : ℕ) (ring_uber : RingUber) (below : seen < length all) (is : ring_uber ≡ get_or all seen ring_uber) where
    -- An uberblock of the first ones, or this one.
    last_or_before : (P : RingUber → Type 0) → ((other : RingUber) → StandsBefore all seen other → P other) → P ring_uber
        → (other : RingUber) → StandsBefore all (seen + 1) other
        → P other
    last_or_before P before here other (k, low, in_list, there) = ⊎_elim
        (λ (same : k ≡ seen).
        let one : ring_uber ≡ other = is ∙ get_or_default all seen ring_uber other below ∙ ap (λ n. get_or all n other) (sym same) ∙ there in
        subst P one here)
        (λ apart. before other (k, omega (arith, low, apart), in_list, there))
        (cases_eq k seen)

    -- One that is not open is passed over,
    pub newest_past : (ubers : List RingUber) (entries : List IndexEntry) → (IsOpen ring_uber → ⊥)
        → AreNewestOf seen ubers entries
        → AreNewestOf (seen + 1) ubers entries
    newest_past ubers entries closed so_far = record {
      sound = so_far.sound;
      every = last_or_before (λ other. IsOpen other → (listed : List IndexEntry)
          → HasIndex shape silent image other.uber listed → Contains ubers other)
          so_far.every (λ open_here. absurd (closed open_here));
      first = so_far.first;
    }

    -- and one that is open was considered.
    pub newest_more : (before after : List RingUber) (entries later : List IndexEntry) → IsOpen ring_uber
        → AreNewestOf seen before entries → IsConsidered shape silent image ring_uber before after
        → FirstHas shape silent image after later
        → AreNewestOf (seen + 1) after later
    newest_more before after entries later open_here so_far (inl (added, has)) first =
        subst (λ (ubers : List RingUber). FirstHas shape silent image ubers later → AreNewestOf (seen + 1) ubers later) (sym added)
        (λ begins. record {
          sound = All-push (λ (c : RingUber). IsOpen c × ((listed : List IndexEntry) × HasIndex shape silent image c.uber listed))
              before ring_uber so_far.sound (open_here, has);
          every = last_or_before (λ other. IsOpen other → (listed : List IndexEntry)
              → HasIndex shape silent image other.uber listed → Contains (before ++ ring_uber ∷ []) other)
              (λ other there opens listed has. Contains-append_left before (ring_uber ∷ []) other (so_far.every other there opens listed has))
              (λ opens listed has. Contains-push before ring_uber);
          first = begins;
        }) first
    newest_more before after entries later open_here so_far (inr (same, none)) first =
        subst (λ (ubers : List RingUber). FirstHas shape silent image ubers later → AreNewestOf (seen + 1) ubers later) (sym same)
        (λ begins. record {
          sound = so_far.sound;
          every = last_or_before (λ other. IsOpen other → (listed : List IndexEntry)
              → HasIndex shape silent image other.uber listed → Contains before other)
              so_far.every (λ opens listed has. absurd (none listed has));
          first = begins;
        }) first

  module _ (shown : AreShown shape silent image (read_devices shape) all) where
    candidate_of : (ring_uber : RingUber) (entries : List IndexEntry) → Contains all ring_uber → ring_uber.uber.pool ≡ pool
        → HasIndex shape silent image ring_uber.uber entries
        → IsCandidate shape silent pool image ring_uber.device ring_uber.uber entries
    candidate_of ring_uber entries listed of_pool has = record {
      shows = All-contains (λ (c : RingUber). Shows shape image c.device c.uber) all ring_uber shown.each listed;
      pool_is = of_pool;
      room = has.room;
      giver = has.giver;
      giver_reads = has.giver_reads;
      gives = has.gives;
      fitting = has.fitting;
    }

    index_of : (device : ℕ) (uber : Uber) (entries : List IndexEntry)
        → IsCandidate shape silent pool image device uber entries
        → HasIndex shape silent image uber entries
    index_of device uber entries candidate = record {
      room = candidate.room;
      giver = candidate.giver;
      giver_reads = candidate.giver_reads;
      gives = candidate.gives;
      fitting = candidate.fitting;
    }

    stands_in : (seen : ℕ) (ring_uber : RingUber) → StandsBefore all seen ring_uber → Contains all ring_uber
    stands_in seen ring_uber there = (there.0, there.2, there.3)

    -- Those found are all, where the groups that follow are lower than the first one's.
    pub newest_whole : (seen : ℕ) (ubers : List RingUber) (entries : List IndexEntry) → AreFrom all seen ubers
        → AreNewestOf seen ubers entries
        → ((k : ℕ) (d : RingUber) → seen ≤ k → k < length all
        → (first : RingUber) × (slice_get ubers 0 ≡ Some first) × ((get_or all k d).uber.group < first.uber.group))
        → AreNewest shape silent image pool ubers entries
    newest_whole seen ubers entries from found rest = record {
      each = λ k d low.
          let sound = found.sound k d low in (
            sound.0.1,
            (sound.1.0, candidate_of (get_or ubers k d) sound.1.0 (stands_in seen (get_or ubers k d) (from.listed k d low)) sound.0.0 sound.1.1),
          );
      every = λ device uber listed works candidate.
          by device uber listed works candidate (shown.every device uber candidate.shows.device_in works candidate.shows);
      order = from.order;
      first = λ ring_uber is. let sound = at_first ubers ring_uber is in
          candidate_of ring_uber entries (stands_in seen ring_uber (sound.0 from.listed)) (sound.1 found.sound) (found.first ring_uber is);
    }
      where
        by : (device : ℕ) (uber : Uber) (listed : List IndexEntry) → has_device silent device ≡ false
            → IsCandidate shape silent pool image device uber listed → Contains all (ring_uber_on device uber)
            → Contains ubers (ring_uber_on device uber)
            ⊎ ((ring_uber : RingUber) × Contains ubers ring_uber × (uber.group < ring_uber.uber.group))
        by device uber listed works candidate (k, low, there) = ⊎_elim
            (λ (early : k < seen). inl (found.every (ring_uber_on device uber) (k, early, low, there) (candidate.pool_is, works) listed
            (index_of device uber listed candidate)))
            (λ (late : seen ≤ k). let more = rest k (ring_uber_on device uber) late low in
            inr (
              more.0,
              contains_first ubers more.0 more.1,
              subst (λ (c : RingUber). c.uber.group < more.0.uber.group) there more.2,
            ))
            (cases_lt k seen)
          where
            contains_first : (list : List RingUber) (first : RingUber) → slice_get list 0 ≡ Some first → Contains list first
            contains_first [] first is = absurd (cc)
            contains_first (one ∷ list) first is = let here : one ≡ first = cc in (0, omega arith, here)

        at_first : (list : List RingUber) (ring_uber : RingUber) → slice_get list 0 ≡ Some ring_uber
            → (All (StandsBefore all seen) list → StandsBefore all seen ring_uber)
            × (All (λ (c : RingUber). IsOpen c × ((listed : List IndexEntry) × HasIndex shape silent image c.uber listed)) list
            → ring_uber.uber.pool ≡ pool)
        at_first [] ring_uber is = absurd (cc)
        at_first (one ∷ list) ring_uber is =
            let here : one ≡ ring_uber = cc in (
              λ each. subst (StandsBefore all seen) here (each 0 one (omega arith)),
              λ each. subst (λ (c : RingUber). c.uber.pool ≡ pool) here (each 0 one (omega arith)).0.0,
            )
