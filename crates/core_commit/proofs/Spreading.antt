-- The order in which a group is brought to devices: page and uberblock of a device are followed by its sync.
use Rattle.std.proofs.Common.{◌≡◌, ◌⊎◌, ⊎_elim, inl, inr, ℕ, zero, suc, ◌<◌, List, [], ◌∷◌, ◌++◌, Bool, true, false}
use Rattle.std.proofs.Common.{refl, sym, ◌∙◌, ap, subst, arith}
use Rattle.std.specs.Prelude.{map, flat_map, filter, if◌then◌else◌}
use Rattle.std.proofs.lemmas.Bool.{cases_lt}
use Rattle.block_record.specs.Page.{page_sectors}
use Rattle.uberblock_ring.specs.Devices.{has_device}
use Rattle.commit_job.specs.declared.call.CommitCall.{CommitCall}
use Rattle.commit_job.specs.declared.call.CommitCall.TheVariants.{IndexWrite, BaseSync, UberWrite, UberSync}
use Rattle.commit_job.specs.Stages.{numbers_below, index_writes, spread_of}
use Rattle.core_state.specs.Committing.{Among}
use Rattle.core_state.proofs.Calls.{true_false}
use Rattle.core_commit.proofs.Order.{Every, every_append, every_among, every_each, among_front, among_back, among_each}

module _ (devices parts lack_page lack_uber : ℕ) where
  -- What comes after a write: the sync of its device, and behind that sync nothing of the device.
  abbrev pub SpreadDue : CommitCall → List CommitCall → Type 0
  SpreadDue (IndexWrite device part) rest = (device < devices) × (part < parts)
      × (has_device lack_page device ≡ true) × Among rest (UberSync device)
  SpreadDue (BaseSync device) rest = ⊥
  SpreadDue (UberWrite device) rest = (device < devices) × (has_device lack_uber device ≡ true)
      × Among rest (UberSync device)
  SpreadDue (UberSync device) rest = (device < devices) × (Among rest (UberWrite device) → ⊥)
      × ((part : ℕ) → Among rest (IndexWrite device part) → ⊥)

  abbrev pub SpreadOrdered : List CommitCall → Type 0
  SpreadOrdered [] = Unit {0}
  SpreadOrdered (call ∷ rest) = SpreadDue call rest × SpreadOrdered rest

  -- a write
  abbrev IsOfSpread : CommitCall → Type 0
  IsOfSpread (IndexWrite device part) = (device < devices) × (part < parts) × (has_device lack_page device ≡ true)
  IsOfSpread (BaseSync device) = ⊥
  IsOfSpread (UberWrite device) = (device < devices) × (has_device lack_uber device ≡ true)
  IsOfSpread (UberSync device) = ⊥

  abbrev syncs : List CommitCall
  syncs = map (λ device. UberSync device) (numbers_below devices)

  -- a sync of a device
  abbrev IsSync : CommitCall → Type 0
  IsSync (UberSync device) = device < devices
  IsSync other = ⊥

  each_sync : Every IsSync syncs
  each_sync = every_each (λ device. UberSync device) IsSync devices (λ device below. below)

  syncs_ordered : (calls : List CommitCall) → Every IsSync calls → SpreadOrdered calls
  syncs_ordered [] every = tt
  syncs_ordered (IndexWrite device part ∷ calls) every = absurd every.0
  syncs_ordered (BaseSync device ∷ calls) every = absurd every.0
  syncs_ordered (UberWrite device ∷ calls) every = absurd every.0
  syncs_ordered (UberSync device ∷ calls) every = (
    (
      every.0,
      (λ among. every_among IsSync calls (UberWrite device) every.1 among),
      (λ part among. every_among IsSync calls (IndexWrite device part) every.1 among),
    ),
    syncs_ordered calls every.1,
  )

  sync_behind : (front : List CommitCall) (device : ℕ) → device < devices → Among (front ++ syncs) (UberSync device)
  sync_behind front device below =
      among_back front syncs (UberSync device) (among_each (λ d. UberSync d) devices device below)

  spread_before : (calls : List CommitCall) → Every IsOfSpread calls → SpreadOrdered (calls ++ syncs)
  spread_before [] every = syncs_ordered syncs each_sync
  spread_before (IndexWrite device part ∷ calls) every = (
    (every.0.0, every.0.1, every.0.2, sync_behind calls device every.0.0),
    spread_before calls every.1,
  )
  spread_before (BaseSync device ∷ calls) every = absurd every.0
  spread_before (UberWrite device ∷ calls) every = (
    (every.0.0, every.0.1, sync_behind calls device every.0.0),
    spread_before calls every.1,
  )
  spread_before (UberSync device ∷ calls) every = absurd every.0

-- Each number of a list has this.
abbrev EveryNumber : (ℕ → Type 0) → List ℕ → Type 0
EveryNumber Q [] = Unit {0}
EveryNumber Q (number ∷ numbers) = Q number × EveryNumber Q numbers

numbers_append : (Q : ℕ → Type 0) (front back : List ℕ) → EveryNumber Q front → EveryNumber Q back
    → EveryNumber Q (front ++ back)
numbers_append Q [] back fronts backs = backs
numbers_append Q (number ∷ front) back fronts backs =
    (fronts.0, numbers_append Q front back fronts.1 backs)

numbers_every : (Q : ℕ → Type 0) (count : ℕ) → ((number : ℕ) → number < count → Q number)
    → EveryNumber Q (numbers_below count)
numbers_every Q zero each = tt
numbers_every Q (suc count) each = numbers_append Q (numbers_below count) (count ∷ [])
    (numbers_every Q count (λ number below. each number (omega (arith, below))))
    (each count (omega arith), tt)

-- The numbers that a set has have that too.
numbers_filter : (Q : ℕ → Type 0) (set : ℕ) (numbers : List ℕ) → EveryNumber Q numbers
    → EveryNumber (λ number. Q number × (has_device set number ≡ true)) (filter (has_device set) numbers)
numbers_filter Q set [] every = tt
numbers_filter Q set (number ∷ numbers) every =
    by (has_device set number) refl (numbers_filter Q set numbers every.1)
  where
    by : (b : Bool) → has_device set number ≡ b → EveryNumber (λ other. Q other × (has_device set other ≡ true)) (filter (has_device set) numbers)
        → EveryNumber (λ other. Q other × (has_device set other ≡ true)) (filter (has_device set) (number ∷ numbers))
    by true has more = subst (λ (b : Bool). EveryNumber (λ other. Q other × (has_device set other ≡ true)) (if b then number ∷ filter (has_device set) numbers
        else filter (has_device set) numbers)) (sym has) ((every.0, has), more)
    by false lacks more = subst (λ (b : Bool). EveryNumber (λ other. Q other × (has_device set other ≡ true)) (if b then number ∷ filter (has_device set) numbers
        else filter (has_device set) numbers)) (sym lacks) more

calls_each : (Q : ℕ → Type 0) (P : CommitCall → Type 0) (call_of : ℕ → CommitCall) (numbers : List ℕ)
    → ((number : ℕ) → Q number → P (call_of number)) → EveryNumber Q numbers
    → Every P (map call_of numbers)
calls_each Q P call_of [] each every = tt
calls_each Q P call_of (number ∷ numbers) each every =
    (each number every.0, calls_each Q P call_of numbers each every.1)

pages_each : (Q : ℕ → Type 0) (P : CommitCall → Type 0) (count : ℕ) (numbers : List ℕ)
    → ((number part : ℕ) → Q number → part < page_sectors count → P (IndexWrite number part))
    → EveryNumber Q numbers
    → Every P (flat_map (index_writes count) numbers)
pages_each Q P count [] each every = tt
pages_each Q P count (number ∷ numbers) each every = every_append P (index_writes count number)
    (flat_map (index_writes count) numbers)
    (every_each (λ part. IndexWrite number part) P (page_sectors count) (λ part low. each number part every.0 low))
    (pages_each Q P count numbers each every.1)

-- one of the numbers
abbrev IsNumberOf : List ℕ → ℕ → Type 0
IsNumberOf [] number = ⊥
IsNumberOf (first ∷ numbers) number = (number ≡ first) ⊎ IsNumberOf numbers number

number_append : (front back : List ℕ) (number : ℕ) → IsNumberOf front number ⊎ IsNumberOf back number
    → IsNumberOf (front ++ back) number
number_append [] back number either = ⊎_elim (λ none. absurd none) (λ is. is) either
number_append (first ∷ front) back number either = ⊎_elim
    (λ is. ⊎_elim (λ same. inl same) (λ later. inr (number_append front back number (inl later))) is)
    (λ is. inr (number_append front back number (inr is))) either

number_below : (count number : ℕ) → number < count → IsNumberOf (numbers_below count) number
number_below zero number below = absurd (omega (arith, below))
number_below (suc count) number below = number_append (numbers_below count) (count ∷ []) number
    (⊎_elim (λ less. inl (number_below count number less)) (λ above. inr (inl (omega (arith, above, below))))
    (cases_lt number count))

-- Being among the calls on a device.
among_numbers : (numbers : List ℕ) (call_of : ℕ → CommitCall) (number : ℕ) (set : ℕ)
    → has_device set number ≡ true → IsNumberOf numbers number
    → Among (map call_of (filter (has_device set) numbers)) (call_of number)
among_numbers [] call_of number set has is = absurd is
among_numbers (first ∷ numbers) call_of number set has is =
    by (has_device set first) refl (λ later. among_numbers numbers call_of number set has later) is
  where
    by : (b : Bool) → has_device set first ≡ b
        → (IsNumberOf numbers number → Among (map call_of (filter (has_device set) numbers)) (call_of number))
        → IsNumberOf (first ∷ numbers) number
        → Among (map call_of (filter (has_device set) (first ∷ numbers))) (call_of number)
    by true here more there = subst (λ (b : Bool). Among (map call_of (if b then first ∷ filter (has_device set) numbers
        else filter (has_device set) numbers)) (call_of number)) (sym here)
        (⊎_elim (λ same. inl (ap call_of same)) (λ later. inr (more later)) there)
    by false gone more there = subst (λ (b : Bool). Among (map call_of (if b then first ∷ filter (has_device set) numbers
        else filter (has_device set) numbers)) (call_of number)) (sym gone)
        (⊎_elim (λ same. absurd (apart same)) more there)
      where
        apart : number ≡ first → ⊥
        apart same = true_false (sym has ∙ (ap (has_device set) same ∙ gone))

among_pages : (numbers : List ℕ) (count number part : ℕ) (set : ℕ)
    → has_device set number ≡ true → part < page_sectors count → IsNumberOf numbers number
    → Among (flat_map (index_writes count) (filter (has_device set) numbers)) (IndexWrite number part)
among_pages [] count number part set has low is = absurd is
among_pages (first ∷ numbers) count number part set has low is =
    by (has_device set first) refl (λ later. among_pages numbers count number part set has low later) is
  where
    by : (b : Bool) → has_device set first ≡ b
        → (IsNumberOf numbers number
        → Among (flat_map (index_writes count) (filter (has_device set) numbers)) (IndexWrite number part))
        → IsNumberOf (first ∷ numbers) number
        → Among (flat_map (index_writes count) (filter (has_device set) (first ∷ numbers))) (IndexWrite number part)
    by true here more there = subst (λ (b : Bool). Among (flat_map (index_writes count)
        (if b then first ∷ filter (has_device set) numbers else filter (has_device set) numbers))
        (IndexWrite number part)) (sym here)
        (⊎_elim
        (λ same. among_front (index_writes count first) _ (IndexWrite number part)
        (subst (λ (d : ℕ). Among (index_writes count d) (IndexWrite number part)) same
        (among_each (λ p. IndexWrite number p) (page_sectors count) part low)))
        (λ later. among_back (index_writes count first) _ (IndexWrite number part) (more later)) there)
    by false gone more there = subst (λ (b : Bool). Among (flat_map (index_writes count)
        (if b then first ∷ filter (has_device set) numbers else filter (has_device set) numbers))
        (IndexWrite number part)) (sym gone)
        (⊎_elim (λ same. absurd (apart same)) more there)
      where
        apart : number ≡ first → ⊥
        apart same = true_false (sym has ∙ (ap (has_device set) same ∙ gone))

module _ (devices count lack_page lack_uber : ℕ) where
  abbrev pages : List CommitCall
  pages = flat_map (index_writes count) (filter (has_device lack_page) (numbers_below devices))

  abbrev ubers : List CommitCall
  ubers = map (λ device. UberWrite device) (filter (has_device lack_uber) (numbers_below devices))

  -- These calls are in order.
  pub spread_ordered : SpreadOrdered devices (page_sectors count) lack_page lack_uber
      (spread_of devices count lack_page lack_uber)
  spread_ordered = spread_before devices (page_sectors count) lack_page lack_uber (pages ++ ubers)
      (every_append (IsOfSpread devices (page_sectors count) lack_page lack_uber) pages ubers
      (pages_each (λ d. (d < devices) × (has_device lack_page d ≡ true))
      (IsOfSpread devices (page_sectors count) lack_page lack_uber) count
      (filter (has_device lack_page) (numbers_below devices))
      (λ d part has low. (has.0, low, has.1))
      (numbers_filter (λ d. d < devices) lack_page (numbers_below devices)
      (numbers_every (λ d. d < devices) devices (λ d below. below))))
      (calls_each (λ d. (d < devices) × (has_device lack_uber d ≡ true))
      (IsOfSpread devices (page_sectors count) lack_page lack_uber) (λ d. UberWrite d)
      (filter (has_device lack_uber) (numbers_below devices))
      (λ d has. has)
      (numbers_filter (λ d. d < devices) lack_uber (numbers_below devices)
      (numbers_every (λ d. d < devices) devices (λ d below. below)))))

  pub spread_lay : (device part : ℕ) → device < devices → has_device lack_page device ≡ true
      → part < page_sectors count
      → Among (spread_of devices count lack_page lack_uber) (IndexWrite device part)
  spread_lay device part below lacks low = among_front (pages ++ ubers) (syncs devices (page_sectors count) lack_page lack_uber) (IndexWrite device part)
      (among_front pages ubers (IndexWrite device part)
      (among_pages (numbers_below devices) count device part lack_page lacks low (number_below devices device below)))

  pub spread_sign : (device : ℕ) → device < devices → has_device lack_uber device ≡ true
      → Among (spread_of devices count lack_page lack_uber) (UberWrite device)
  spread_sign device below lacks = among_front (pages ++ ubers) (syncs devices (page_sectors count) lack_page lack_uber) (UberWrite device)
      (among_back pages ubers (UberWrite device)
      (among_numbers (numbers_below devices) (λ d. UberWrite d) device lack_uber lacks
      (number_below devices device below)))

  pub spread_seal : (device : ℕ) → device < devices
      → Among (spread_of devices count lack_page lack_uber) (UberSync device)
  spread_seal device below = sync_behind devices (page_sectors count) lack_page lack_uber (pages ++ ubers) device below
