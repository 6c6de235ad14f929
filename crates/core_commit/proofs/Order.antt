-- The order of a commit's calls.
use Rattle.std.proofs.Common.{◌≡◌, ◌⊎◌, ⊎_elim, inl, inr, ℕ, zero, suc, ◌<◌, ◌≤◌, List, [], ◌∷◌, ◌++◌, refl, sym, ◌∙◌}
use Rattle.std.proofs.Common.{ap, subst, arith, append_assoc}
use Rattle.std.specs.Prelude.{map, flat_map}
use Rattle.std.proofs.lemmas.Bool.{cases_lt}
use Rattle.std.proofs.lemmas.List.{map-append, append-nil}
use Rattle.std.proofs.lemmas.Grind.{flat_map-append}
use Rattle.block_record.specs.Page.{page_sectors}
use Rattle.commit_job.specs.declared.call.CommitCall.{CommitCall}
use Rattle.commit_job.specs.declared.call.CommitCall.TheVariants.{IndexWrite, BaseSync, UberWrite, UberSync}
use Rattle.commit_job.specs.Stages.{numbers_below, index_writes, plan_of, signing_of, device_of}
use Rattle.core_state.specs.Committing.{Among}
use Rattle.core_commit.specs.Ran.{IsSigning}
use Rattle.core_commit.specs.Ordered.{Due, Ordered}

-- Each element of a list has this.
abbrev pub Every : (CommitCall → Type 0) → List CommitCall → Type 0
Every P [] = Unit {0}
Every P (call ∷ calls) = P call × Every P calls

pub every_append : (P : CommitCall → Type 0) (front back : List CommitCall) → Every P front → Every P back
    → Every P (front ++ back)
every_append P [] back fronts backs = backs
every_append P (call ∷ front) back (one, fronts) backs = (one, every_append P front back fronts backs)

pub every_among : (P : CommitCall → Type 0) (calls : List CommitCall) (call : CommitCall) → Every P calls
    → Among calls call
    → P call
every_among P [] call every among = absurd among
every_among P (first ∷ calls) call (one, every) (inl same) = subst P (sym same) one
every_among P (first ∷ calls) call (one, every) (inr later) = every_among P calls call every later

pub every_weaker : (P Q : CommitCall → Type 0) (calls : List CommitCall) → ((call : CommitCall) → P call → Q call)
    → Every P calls
    → Every Q calls
every_weaker P Q [] weaker every = every
every_weaker P Q (call ∷ calls) weaker (one, every) = (weaker call one, every_weaker P Q calls weaker every)

pub among_front : (front back : List CommitCall) (call : CommitCall) → Among front call
    → Among (front ++ back) call
among_front [] back call among = absurd among
among_front (first ∷ front) back call (inl same) = inl same
among_front (first ∷ front) back call (inr later) = inr (among_front front back call later)

pub among_back : (front back : List CommitCall) (call : CommitCall) → Among back call
    → Among (front ++ back) call
among_back [] back call among = among
among_back (first ∷ front) back call among = inr (among_back front back call among)

-- A call for each of some devices.
module _ (call_of : ℕ → CommitCall) where
  pub among_each : (devices device : ℕ) → device < devices
      → Among (map call_of (numbers_below devices)) (call_of device)
  among_each zero device below = absurd (omega (arith, below))
  among_each (suc devices) device below = subst (λ (l : List CommitCall). Among l (call_of device))
      (sym (map-append call_of (numbers_below devices) (devices ∷ [])))
      (by_case (⊎_elim
      (λ (less : device < devices). inl (among_each devices device less))
      (λ (same : device ≡ devices). inr same)
      (either device devices below)))
    where
      either : (one other : ℕ) → one < suc other → (one < other) ⊎ (one ≡ other)
      either one other low = ⊎_elim (λ less. inl less)
          (λ above. inr (omega (arith, above, low))) (cases_lt one other)

      by_case : Among (map call_of (numbers_below devices)) (call_of device) ⊎ (device ≡ devices)
          → Among (map call_of (numbers_below devices) ++ map call_of (devices ∷ [])) (call_of device)
      by_case (inl less) = among_front (map call_of (numbers_below devices)) _ (call_of device) less
      by_case (inr same) = among_back (map call_of (numbers_below devices)) _ (call_of device)
          (inl (ap call_of same))

  pub every_each : (P : CommitCall → Type 0) (devices : ℕ) → ((device : ℕ) → device < devices → P (call_of device))
      → Every P (map call_of (numbers_below devices))
  every_each P zero each = tt
  every_each P (suc devices) each = subst (Every P)
      (sym (map-append call_of (numbers_below devices) (devices ∷ [])))
      (every_append P (map call_of (numbers_below devices)) (map call_of (devices ∷ []))
      (every_each P devices (λ device below. each device (omega (arith, below))))
      (each devices (omega arith), tt))

-- Index pages of some devices.
pub every_page : (P : CommitCall → Type 0) (count devices : ℕ)
    → ((device part : ℕ) → device < devices → part < page_sectors count → P (IndexWrite device part))
    → Every P (flat_map (index_writes count) (numbers_below devices))
every_page P count zero each = tt
every_page P count (suc devices) each = subst (Every P)
    (sym (flat_map-append (index_writes count) (numbers_below devices) (devices ∷ [])))
    (every_append P (flat_map (index_writes count) (numbers_below devices))
    (flat_map (index_writes count) (devices ∷ []))
    (every_page P count devices (λ device part below low. each device part (omega (arith, below)) low))
    (every_append P (index_writes count devices) []
    (every_each (λ part. IndexWrite devices part) P (page_sectors count)
    (λ part low. each devices part (omega arith) low)) tt))

among_page : (count devices device part : ℕ) → device < devices → part < page_sectors count
    → Among (flat_map (index_writes count) (numbers_below devices)) (IndexWrite device part)
among_page count zero device part below low = absurd (omega (arith, below))
among_page count (suc devices) device part below low = subst (λ (l : List CommitCall). Among l (IndexWrite device part))
    (sym (flat_map-append (index_writes count) (numbers_below devices) (devices ∷ [])))
    (⊎_elim
    (λ (less : device < devices). among_front (flat_map (index_writes count) (numbers_below devices))
    (flat_map (index_writes count) (devices ∷ [])) (IndexWrite device part)
    (among_page count devices device part less low))
    (λ above. among_back (flat_map (index_writes count) (numbers_below devices))
    (flat_map (index_writes count) (devices ∷ [])) (IndexWrite device part)
    (among_front (index_writes count devices) [] (IndexWrite device part)
    (subst (λ (d : ℕ). Among (index_writes count devices) (IndexWrite d part)) (same above)
    (among_each (λ p. IndexWrite devices p) (page_sectors count) part low))))
    (cases_lt device devices))
  where
    same : devices ≤ device → devices ≡ device
    same above = omega (arith, above, below)

-- The stages of a plan, in their order.
abbrev stage : CommitCall → ℕ
stage (IndexWrite device part) = 0
stage (BaseSync device) = 1
stage (UberWrite device) = 2
stage (UberSync device) = 3

-- A call of this stage, to a device and a sector of the page that are there.
record IsOf (devices parts number : ℕ) (call : CommitCall) : Type 0 where
  at : stage call ≡ number
  device : device_of call < devices
  part : (other sector : ℕ) → call ≡ IndexWrite other sector → sector < parts

-- A call of no earlier stage.
abbrev IsFrom : ℕ → CommitCall → Type 0
IsFrom number call = number ≤ stage call

from_of : (devices parts number least : ℕ) (calls : List CommitCall) → least ≤ number
    → Every (IsOf devices parts number) calls
    → Every (IsFrom least) calls
from_of devices parts number least calls low every =
    every_weaker (IsOf devices parts number) (IsFrom least) calls
    (λ call is. let at = is.at in omega (arith, at, low)) every

-- Calls of one stage, before others that are ordered, are ordered where each has what is due.
ordered_stage : (devices parts number : ℕ) (front back : List CommitCall)
    → Every (IsOf devices parts number) front
    → ((call : CommitCall) (rest : List CommitCall) → IsOf devices parts number call
    → Every (IsOf devices parts number) rest
    → Due devices parts call (rest ++ back))
    → Ordered devices parts back
    → Ordered devices parts (front ++ back)
ordered_stage devices parts number [] back every due ordered = ordered
ordered_stage devices parts number (call ∷ front) back (one, every) due ordered =
    (due call front one every, ordered_stage devices parts number front back every due ordered)

module _ (devices count : ℕ) where
  abbrev parts : ℕ
  parts = page_sectors count

  abbrev pages : List CommitCall
  pages = flat_map (index_writes count) (numbers_below devices)

  abbrev bases : List CommitCall
  bases = map (λ device. BaseSync device) (numbers_below devices)

  abbrev ubers : List CommitCall
  ubers = map (λ device. UberWrite device) (numbers_below devices)

  abbrev ends : List CommitCall
  ends = map (λ device. UberSync device) (numbers_below devices)

  pages_of : Every (IsOf devices parts 0) pages
  pages_of = every_page (IsOf devices parts 0) count devices (λ device part below low. record {
    at = refl;
    device = below;
    part = λ other sector same. same_part device part other sector same low;
  })
    where
      same_part : (device part other sector : ℕ) → IndexWrite device part ≡ IndexWrite other sector
          → part < parts
          → sector < parts
      same_part device part other sector same low =
          let is : part ≡ sector = cc in omega (arith, is, low)

  bases_of : Every (IsOf devices parts 1) bases
  bases_of = every_each (λ device. BaseSync device) (IsOf devices parts 1) devices (λ device below. record {
    at = refl;
    device = below;
    part = λ other sector same. absurd (cc);
  })

  ubers_of : Every (IsOf devices parts 2) ubers
  ubers_of = every_each (λ device. UberWrite device) (IsOf devices parts 2) devices (λ device below. record {
    at = refl;
    device = below;
    part = λ other sector same. absurd (cc);
  })

  ends_of : Every (IsOf devices parts 3) ends
  ends_of = every_each (λ device. UberSync device) (IsOf devices parts 3) devices (λ device below. record {
    at = refl;
    device = below;
    part = λ other sector same. absurd (cc);
  })

  -- A list of later stages has no call of an earlier one.
  none_of : (least : ℕ) (calls : List CommitCall) (call : CommitCall) → Every (IsFrom least) calls
      → stage call < least → Among calls call
      → ⊥
  none_of least calls call every early among =
      let late = every_among (IsFrom least) calls call every among in omega (arith, late, early)

  due_end : (call : CommitCall) (rest : List CommitCall) → IsOf devices parts 3 call
      → Every (IsOf devices parts 3) rest
      → Due devices parts call (rest ++ [])
  due_end (IndexWrite device part) rest is every = absurd (let at = is.at in omega (arith, at))
  due_end (BaseSync device) rest is every = absurd (let at = is.at in omega (arith, at))
  due_end (UberWrite device) rest is every = absurd (let at = is.at in omega (arith, at))
  due_end (UberSync device) rest is every =
      let later : Every (IsFrom 3) (rest ++ []) = every_append (IsFrom 3) rest []
      (from_of devices parts 3 3 rest (omega arith) every) tt in (
        is.device,
        none_of 3 (rest ++ []) (UberWrite device) later (omega arith),
        (λ other part. none_of 3 (rest ++ []) (IndexWrite other part) later (omega arith)),
        (λ other. none_of 3 (rest ++ []) (BaseSync other) later (omega arith)),
      )

  due_uber : (call : CommitCall) (rest : List CommitCall) → IsOf devices parts 2 call
      → Every (IsOf devices parts 2) rest
      → Due devices parts call (rest ++ ends)
  due_uber (IndexWrite device part) rest is every = absurd (let at = is.at in omega (arith, at))
  due_uber (BaseSync device) rest is every = absurd (let at = is.at in omega (arith, at))
  due_uber (UberSync device) rest is every = absurd (let at = is.at in omega (arith, at))
  due_uber (UberWrite device) rest is every =
      let later : Every (IsFrom 2) (rest ++ ends) = every_append (IsFrom 2) rest ends
      (from_of devices parts 2 2 rest (omega arith) every)
      (from_of devices parts 3 2 ends (omega arith) ends_of) in (
        is.device,
        among_back rest ends (UberSync device) (among_each (λ d. UberSync d) devices device is.device),
        (λ other part. none_of 2 (rest ++ ends) (IndexWrite other part) later (omega arith)),
        (λ other. none_of 2 (rest ++ ends) (BaseSync other) later (omega arith)),
      )

  due_base : (call : CommitCall) (rest : List CommitCall) → IsOf devices parts 1 call
      → Every (IsOf devices parts 1) rest
      → Due devices parts call (rest ++ (ubers ++ ends))
  due_base (IndexWrite device part) rest is every = absurd (let at = is.at in omega (arith, at))
  due_base (UberWrite device) rest is every = absurd (let at = is.at in omega (arith, at))
  due_base (UberSync device) rest is every = absurd (let at = is.at in omega (arith, at))
  due_base (BaseSync device) rest is every =
      let later : Every (IsFrom 1) (rest ++ (ubers ++ ends)) = every_append (IsFrom 1) rest (ubers ++ ends)
      (from_of devices parts 1 1 rest (omega arith) every)
      (every_append (IsFrom 1) ubers ends (from_of devices parts 2 1 ubers (omega arith) ubers_of)
      (from_of devices parts 3 1 ends (omega arith) ends_of)) in
      (is.device, (λ part. none_of 1 (rest ++ (ubers ++ ends)) (IndexWrite device part) later (omega arith)))

  due_page : (call : CommitCall) (rest : List CommitCall) → IsOf devices parts 0 call
      → Every (IsOf devices parts 0) rest
      → Due devices parts call (rest ++ (bases ++ (ubers ++ ends)))
  due_page (BaseSync device) rest is every = absurd (let at = is.at in omega (arith, at))
  due_page (UberWrite device) rest is every = absurd (let at = is.at in omega (arith, at))
  due_page (UberSync device) rest is every = absurd (let at = is.at in omega (arith, at))
  due_page (IndexWrite device part) rest is every = (
    is.device,
    is.part device part refl,
    among_back rest (bases ++ (ubers ++ ends)) (BaseSync device)
        (among_front bases (ubers ++ ends) (BaseSync device)
        (among_each (λ d. BaseSync d) devices device is.device)),
  )

  -- The calls of a commit are in order.
  pub plan_ordered : Ordered devices parts (plan_of devices count)
  plan_ordered = subst (Ordered devices parts)
      (sym (append_assoc (pages ++ bases) ubers ends ∙ append_assoc pages bases (ubers ++ ends)))
      (ordered_stage devices parts 0 pages (bases ++ (ubers ++ ends)) pages_of due_page
      (ordered_stage devices parts 1 bases (ubers ++ ends) bases_of due_base
      (ordered_stage devices parts 2 ubers ends ubers_of due_uber
      (subst (Ordered devices parts) (append-nil ends)
      (ordered_stage devices parts 3 ends [] ends_of due_end tt)))))

  -- It has each of them: pages and bases,
  pub plan_lays : (device part : ℕ) → device < devices → part < parts
      → Among (plan_of devices count) (IndexWrite device part)
  plan_lays device part below low = among_front (pages ++ bases ++ ubers) ends (IndexWrite device part)
      (among_front (pages ++ bases) ubers (IndexWrite device part)
      (among_front pages bases (IndexWrite device part) (among_page count devices device part below low)))

  pub plan_settles : (device : ℕ) → device < devices → Among (plan_of devices count) (BaseSync device)
  plan_settles device below = among_front (pages ++ bases ++ ubers) ends (BaseSync device)
      (among_front (pages ++ bases) ubers (BaseSync device)
      (among_back pages bases (BaseSync device) (among_each (λ d. BaseSync d) devices device below)))

  -- uberblocks and their syncs.
  pub plan_signs : (device : ℕ) → device < devices
      → Among (plan_of devices count) (UberWrite device) × Among (plan_of devices count) (UberSync device)
  plan_signs device below = (
    among_front (pages ++ bases ++ ubers) ends (UberWrite device)
        (among_back (pages ++ bases) ubers (UberWrite device) (among_each (λ d. UberWrite d) devices device below)),
    among_back (pages ++ bases ++ ubers) ends (UberSync device) (among_each (λ d. UberSync d) devices device below),
  )

  -- The second half alone is in order, has each uberblock and its sync, and nothing else.
  pub signing_ordered : Ordered devices parts (signing_of devices)
  signing_ordered = ordered_stage devices parts 2 ubers ends ubers_of due_uber
      (subst (Ordered devices parts) (append-nil ends)
      (ordered_stage devices parts 3 ends [] ends_of due_end tt))

  pub signing_signs : (device : ℕ) → device < devices
      → Among (signing_of devices) (UberWrite device) × Among (signing_of devices) (UberSync device)
  signing_signs device below = (
    among_front ubers ends (UberWrite device) (among_each (λ d. UberWrite d) devices device below),
    among_back ubers ends (UberSync device) (among_each (λ d. UberSync d) devices device below),
  )

  pub signing_only : (call : CommitCall) → Among (signing_of devices) call → IsSigning call
  signing_only call among = every_among IsSigning (signing_of devices) call
      (every_append IsSigning ubers ends (every_each (λ d. UberWrite d) IsSigning devices (λ device below. tt))
      (every_each (λ d. UberSync d) IsSigning devices (λ device below. tt))) among
