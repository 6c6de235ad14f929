-- The calls that are left of a script and the runs of sectors that were taken, as they come.
use Rattle.schedule.proofs.Words.{◌≡◌, ◌≢◌, ⊎_elim, ℕ, ◌+◌, ◌≤◌, List, [], ◌∷◌, ◌++◌, length, Some, refl, arith, eq-eqb}
use Rattle.schedule.proofs.Words.{ne_eqb, length-append, drop, drop-cons, flat_map, map, slice_get, sum, cases_eq}
use Rattle.schedule.proofs.Words.{flat_map-append, append-nil, map-append, sum_by-append, slice_get_within}
use Rattle.schedule.proofs.Words.{get_or_from_slice_get, Run, Space, Gains, HasNoFreeRun, IndexEntry, Uber, sectors_in}
use Rattle.schedule.proofs.Words.{IsTight, full_tight, ScriptCall, fill_bytes, Placed, Script, calls_of, Core}
use Rattle.schedule.proofs.Words.{length_put, largest_size, Client, Changes, AreAtMost, AreLeft, AreRunsOf, calls_among}
use Rattle.schedule.proofs.Words.{sizes_left, sizes_of, sizes_put}
use Rattle.std.proofs.Common.{add-one}
use Rattle.schedule.proofs.turn.Theirs.{some_is}

-- ---- the calls that are left

-- A call before some others is its client's first,
among_its : (first : Placed) (calls : List Placed) (actor : ℕ) → first.actor ≡ actor
    → calls_among (first ∷ calls) actor ≡ first.call ∷ calls_among calls actor
among_its first calls actor same = search eq-eqb

-- and no other's.
among_not : (first : Placed) (calls : List Placed) (actor : ℕ) → first.actor ≢ actor
    → calls_among (first ∷ calls) actor ≡ calls_among calls actor
among_not first calls actor apart = search ne_eqb

-- A call is taken out of some calls, the first of its client.
pub record TakesFirst (calls next : List Placed) (actor : ℕ) (call : ScriptCall) (rest : List ScriptCall) : Type 0 where
  pub placed : Placed
  pub call_is : placed.call ≡ call
  pub gains : Gains next calls placed
  pub its : calls_among next actor ≡ rest
  pub others : (other : ℕ) → other ≢ actor → calls_among next other ≡ calls_among calls other

-- The first call of a client can be.
pub take_first : (calls : List Placed) (actor : ℕ) (call : ScriptCall) (rest : List ScriptCall)
    → calls_among calls actor ≡ call ∷ rest → (next : List Placed) × TakesFirst calls next actor call rest
take_first [] actor call rest is = cc
take_first (first ∷ calls) actor call rest is =
    ⊎_elim here (further (take_first calls actor call rest)) (cases_eq first.actor actor)
  where
    here : first.actor ≡ actor → (next : List Placed) × TakesFirst (first ∷ calls) next actor call rest
    here same = (calls, search (among_its, among_not, arith))

    further : (calls_among calls actor ≡ call ∷ rest → (next : List Placed) × TakesFirst calls next actor call rest)
        → first.actor ≢ actor → (next : List Placed) × TakesFirst (first ∷ calls) next actor call rest
    further take apart =
        let taken = take (search (among_not, arith)) in
        let takes = taken.1 in
        let gains : Gains (first ∷ taken.0) (first ∷ calls) takes.placed =
        record { before = first ∷ takes.gains.before; after = takes.gains.after; was = cc; is = cc } in
        (first ∷ taken.0, search (among_its, among_not, arith))

module _ {script : Script} {clients news : List Client} {actor : ℕ} {old new : Client}
    (changes : Changes clients news actor new) (was : slice_get clients actor ≡ Some old) {left : List Placed}
    (are : AreLeft script clients left) where
  -- So these are left where they are the client's own still, and the others' as they were:
  left_by : {next : List Placed} → calls_among next actor ≡ drop new.begun (calls_of script actor)
      → ((other : ℕ) → other ≢ actor → calls_among next other ≡ calls_among left other) → AreLeft script news next
  left_by its others = search (some_is, cases_eq, arith)

  -- the same, where the client begins no call,
  pub left_same : new.begun ≡ old.begun → AreLeft script news left
  left_same begun = search (left_by, arith)

  -- and where it begins its next one, those but that.
  pub left_next : (call : ScriptCall) → slice_get (calls_of script actor) old.begun ≡ Some call
      → new.begun ≡ old.begun + 1
      → (next : List Placed) × (placed : Placed) × (placed.call ≡ call) × Gains next left placed
      × AreLeft script news next
  left_next call is begun = grind (arith, take_first, split, left_by)
    where
      split : drop old.begun (calls_of script actor) ≡ call ∷ drop new.begun (calls_of script actor)
      split = rw (
        begun,
        add-one,
        drop-cons (calls_of script actor) old.begun call (search (slice_get_within, arith)),
        get_or_from_slice_get (calls_of script actor) old.begun call call is,
      )

-- ---- sizes

module _ (uber : Uber) where
  -- One call less is its size less.
  gained_sizes : (next left : List Placed) (placed : Placed) → Gains next left placed
      → (length (sizes_left uber left) ≡ length (sizes_left uber next) + length (sizes_put uber placed))
      × (sum (sizes_left uber left) ≡ sum (sizes_left uber next) + sum (sizes_put uber placed))
  gained_sizes next left placed gains = grind (arith, flat_map-append, length-append, sum_by-append)

  -- Runs of no more than the call's size may come in its place.
  pub most_next : {runs : List Run} (more : List Run) (next : List Placed) {left : List Placed}
      (placed : Placed) {sizes : List ℕ} → Gains next left placed → length more ≤ length (sizes_put uber placed)
      → sectors_in more ≤ sum (sizes_put uber placed) → AreAtMost runs (sizes_left uber left) sizes
      → AreAtMost (more ++ runs) (sizes_left uber next) sizes
  most_next more next {left} placed gains few small most =
      let less = gained_sizes next left placed gains in search (length-append, sum_by-append, arith)

  -- What all calls put are those that are left at first.
  sizes_mapped : (calls : List Placed)
      → map (largest_size uber) (flat_map (λ placed. length_put placed.call.kind (fill_bytes placed.call.fill)) calls)
      ≡ sizes_left uber calls
  sizes_mapped [] = refl
  sizes_mapped (placed ∷ calls) = rw (map-append, sizes_mapped calls)

  pub sizes_split : (entries : List IndexEntry) (calls : List Placed) → sizes_of uber entries calls
      ≡ map (largest_size uber) (map (λ (entry : IndexEntry). entry.len) entries) ++ sizes_left uber calls
  sizes_split entries calls = search (map-append, sizes_mapped)

-- ---- no run of free sectors

-- a space in which these runs are taken
abbrev space_with : ℕ → List Run → Space
space_with capacity runs = record { capacity = capacity; taken = runs; held = [] }

-- Where no run is free, none is beside the runs that were taken since the opening,
full_beside : {runs : List Run} {core : Core} (size : ℕ) → AreRunsOf runs core
    → HasNoFreeRun core.pool.blocks.space core.holds size
    → HasNoFreeRun (space_with core.pool.blocks.space.capacity runs) [] size
full_beside size are full start free = full start (λ sector inside. let its = free sector inside in record {
  below = its.below;
  untaken = search arith;
  not_held = λ held. search (its.untaken, are.held);
  not_shared = λ shared. let within = are.holds shared.0 shared.1 shared.2 in search arith;
})

-- and so they could leave none,
pub full_by_runs : {runs : List Run} (core : Core) {left sizes : List ℕ} (size : ℕ) → AreRunsOf runs core
    → AreAtMost runs left sizes → HasNoFreeRun core.pool.blocks.space core.holds size
    → IsTight core.pool.blocks.space.capacity sizes size
full_by_runs {runs = runs} core {sizes = sizes} size are most full =
    full_tight (space_with core.pool.blocks.space.capacity runs) sizes size (search (append-nil, arith))
    (full_beside size are full)

-- nor where the pool had fewer sectors.
pub tight_below : {small large : ℕ} {sizes : List ℕ} {size : ℕ} → small ≤ large → IsTight large sizes size
    → IsTight small sizes size
tight_below less is = search arith
