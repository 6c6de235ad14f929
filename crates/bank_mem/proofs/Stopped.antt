-- What the sectors hold after all calls on record: what the clauses of a stop say.
use Rattle.std.proofs.Common.{◌≡◌, ⊎_elim, ℕ, suc, ◌-◌, ◌<◌, ◌≤◌, List, [], ◌∷◌, length, take, Option, Some, None, refl}
use Rattle.std.proofs.Common.{sym, ◌∙◌, ap, subst, arith}
use Rattle.std.specs.Prelude.{Contains, IsSome, unwrap_or, min}
use Rattle.std.specs.List.{last_or}
use Rattle.std.proofs.lemmas.List.{take_all}
use Rattle.std.proofs.lemmas.Bool.{cases_lt}
use Rattle.std.proofs.lemmas.Option.{slice_get_within}
use Rattle.bank_trait.specs.Disk.{Known, Fits}
use Rattle.bank_mem.specs.declared.record.Call.{Call}
use Rattle.bank_mem.specs.declared.record.Call.TheVariants.{Sync}
use Rattle.bank_mem.specs.declared.crash.Torn.{Torn}
use Rattle.bank_mem.specs.declared.crash.Tear.{Tear}
use Rattle.bank_mem.specs.declared.crash.Tear.TheVariants.{Kept, Filled}
use Rattle.bank_mem.specs.Record.{Shelf, content, Held, held_durably, replay, filled}
use Rattle.bank_mem.specs.Crash.{listed_as, held_at_sync, handed_last, image_of}
use Rattle.bank_mem.specs.CrashSteps.{IsSyncedUpTo}
use Rattle.bank_mem.proofs.Could.{counted}
use Rattle.bank_mem.proofs.Left.{left_of, IsLeft}

-- The sectors hold what a stop after these calls leaves.
pub record IsStopped (torn : List Torn) (first : Known) (calls : List Call) (known : Known) :
    Type 0 where
  pub left : (d x : ℕ)
      → known d x ≡ left_of (listed_as torn d x) ((replay (held_durably first) calls).could d x)

-- As many of the first calls as there are.
take_min : (calls : List Call) (call : ℕ) → take (min call (length calls)) calls ≡ take call calls
take_min calls call = ⊎_elim
    (λ below. let same : min call (length calls) ≡ call = omega (arith, below) in
    ap (λ (n : ℕ). take n calls) same)
    (λ past. take_all (min call (length calls)) calls (omega (arith, past))
    ∙ sym (take_all call calls past))
    (cases_lt call (length calls))

-- After all calls no sync is still to come.
pub left_all : (syncs : ℕ → ℕ) (listed : ℕ → ℕ → Option Tear) (torn : List Torn)
    (first known : Known) (calls made : List Call) (call index : ℕ)
    → made ≡ take (min call (length calls)) calls → length made ≤ index
    → ((d : ℕ) → IsSyncedUpTo made d (syncs d)) → ((d x : ℕ) → listed d x ≡ listed_as torn d x)
    → IsLeft syncs listed index (replay (held_durably first) (take index made)) known
    → IsStopped torn first (take call calls) known
left_all syncs listed torn first known calls made call index is all synced same left = record {
  left = λ d x. left.torn d x (past d)
      ∙ ap (λ (how : Option Tear). left_of how (could_after (take index made) d x)) (same d x)
      ∙ ap (λ (l : List Call). left_of (listed_as torn d x) (could_after l d x))
      (take_all index made all ∙ is ∙ take_min calls call);
}
  where
    could_after : List Call → ℕ → ℕ → List (List ℕ)
    could_after l = (replay (held_durably first) l).could

    past : (d : ℕ) → syncs d ≤ index
    past d = ⊎_elim
        (λ later.
        let sync = (synced d).last (syncs d - 1) (omega (arith, later)) in
        let below = slice_get_within made (syncs d - 1) (Sync sync.0 d) sync.1 in
        absurd (omega (arith, later, below, all)))
        (λ behind. behind)
        (cases_lt index (syncs d))

-- what a sector holds that is not listed
pub left_unlisted : (could : List (List ℕ)) → left_of None could ≡ held_at_sync could
left_unlisted [] = refl
left_unlisted (bytes ∷ []) = refl
left_unlisted (bytes ∷ (next ∷ older)) = refl

-- one whose last bytes are kept
pub left_kept : (could : List (List ℕ)) → left_of (Some Kept) could ≡ handed_last could
left_kept [] = refl
left_kept (bytes ∷ []) = refl
left_kept (bytes ∷ (next ∷ older)) = refl

-- one that is filled
pub left_filled : (byte : ℕ) (could : List (List ℕ)) → 1 < length could
    → left_of (Some (Filled byte)) could ≡ Some (filled byte)
left_filled byte [] many = absurd (omega arith)
left_filled byte (bytes ∷ []) many = absurd (omega arith)
left_filled byte (bytes ∷ (next ∷ older)) many = refl

-- The last of some values is among them.
last_among : (next : List ℕ) (older : List (List ℕ)) (bytes : List ℕ)
    → last_or (Some next) older ≡ Some bytes
    → Contains (next ∷ older) bytes
last_among next [] bytes is = (0, omega arith, cc)
last_among next (other ∷ older) bytes is =
    let among = last_among other older bytes is in
    (suc among.0, omega (arith, among.1), among.2)

-- What a sector holds that is not filled is one of what it could hold.
pub left_among : (how : Option Tear) (could : List (List ℕ)) (bytes : List ℕ)
    → ((byte : ℕ) → how ≡ Some (Filled byte) → ⊥) → left_of how could ≡ Some bytes
    → Contains could bytes
left_among how [] bytes not_filled is = absurd (cc)
left_among how (one ∷ []) bytes not_filled is = (0, omega arith, cc)
left_among None (newest ∷ (next ∷ older)) bytes not_filled is =
    last_among newest (next ∷ older) bytes is
left_among (Some Kept) (newest ∷ (next ∷ older)) bytes not_filled is = (0, omega arith, cc)
left_among (Some (Filled byte)) (newest ∷ (next ∷ older)) bytes not_filled is =
    absurd (not_filled byte refl)

-- The last of some values is one of them.
last_told : (next : List ℕ) (older : List (List ℕ))
    → (bytes : List ℕ) × (last_or (Some next) older ≡ Some bytes)
last_told next [] = (next, refl)
last_told next (other ∷ older) = last_told other older

-- A sector that could hold something holds something.
left_told : (how : Option Tear) (could : List (List ℕ)) → 0 < length could
    → (bytes : List ℕ) × (left_of how could ≡ Some bytes)
left_told how [] some = absurd (omega arith)
left_told how (bytes ∷ []) some = (bytes, refl)
left_told None (bytes ∷ (next ∷ older)) some = last_told next older
left_told (Some Kept) (bytes ∷ (next ∷ older)) some = (bytes, refl)
left_told (Some (Filled byte)) (bytes ∷ (next ∷ older)) some = (filled byte, refl)

module _ (torn : List Torn) (first : Known) (calls : List Call) (shelf : Shelf)
    (stopped : IsStopped torn first calls (content shelf)) where
  abbrev held : Held
  held = replay (held_durably first) calls

  abbrev left_as : ℕ → ℕ → Option Tear → Option (List ℕ)
  left_as d x how = left_of how (held.could d x)

  -- One that is not listed holds what it held at the last sync.
  pub stopped_others : (d x : ℕ) → listed_as torn d x ≡ None
      → content shelf d x ≡ held_at_sync (held.could d x)
  stopped_others d x is =
      stopped.left d x ∙ ap (left_as d x) is ∙ left_unlisted (held.could d x)

  -- One whose last bytes are kept holds these.
  pub stopped_kept : (d x : ℕ) → listed_as torn d x ≡ Some Kept
      → content shelf d x ≡ handed_last (held.could d x)
  stopped_kept d x is = stopped.left d x ∙ ap (left_as d x) is ∙ left_kept (held.could d x)

  -- One that is filled, and uncertain, holds its byte over and over.
  pub stopped_filled : (d x byte : ℕ) → IsSome (first d x)
      → listed_as torn d x ≡ Some (Filled byte) → held.stays d x ≡ None
      → image_of shelf d x ≡ filled byte
  stopped_filled d x byte some is open_ = ap (λ (o : Option (List ℕ)). unwrap_or o [])
      (stopped.left d x ∙ ap (left_as d x) is
      ∙ left_filled byte (held.could d x) ((counted first calls).many d x some open_))

  -- One that is not filled holds one of what it could hold.
  pub stopped_could : (d x : ℕ) → IsSome (first d x)
      → ((byte : ℕ) → listed_as torn d x ≡ Some (Filled byte) → ⊥)
      → Contains (held.could d x) (image_of shelf d x)
  stopped_could d x some not_filled =
      let could = (counted first calls).some d x some in
      let told = left_told (listed_as torn d x) (held.could d x) could in
      let is : image_of shelf d x ≡ told.0 =
      ap (λ (o : Option (List ℕ)). unwrap_or o []) (stopped.left d x ∙ told.1) in
      subst (λ (bytes : List ℕ). Contains (held.could d x) bytes) (sym is)
      (left_among (listed_as torn d x) (held.could d x) told.0 not_filled told.1)

  -- What is certain is there.
  pub stopped_leaves : Fits held.stays (image_of shelf)
  stopped_leaves = record {
    at = λ d x bytes is. ap (λ (o : Option (List ℕ)). unwrap_or o [])
        (stopped.left d x
        ∙ ap (λ (l : List (List ℕ)). left_of (listed_as torn d x) l)
        ((counted first calls).one d x bytes is));
  }
