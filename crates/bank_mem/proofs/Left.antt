-- What a stop leaves in each sector, call by call: before its device's last sync what is read, and
-- after it what its listing says.
use Rattle.std.proofs.Common.{◌≡◌, length, get_or, slice_index, take, ◌≢◌, inl, inr, ⊎_elim, ℕ, ◌+◌, ◌<◌, ◌≤◌, List, []}
use Rattle.std.proofs.Common.{◌∷◌, Option, Some, None, refl, sym, ◌∙◌, ap, subst, arith, slice_get}
use Rattle.std.specs.Prelude.{IsSome, option_to_list}
use Rattle.std.specs.List.{last_or}
use Rattle.std.proofs.lemmas.List.{take_more}
use Rattle.std.proofs.lemmas.Bool.{cases_eq, cases_lt}
use Rattle.std.proofs.lemmas.Bool.Decides.{nat_tests}
use Rattle.std.proofs.lemmas.Option.{slice_get-get_or}
use Rattle.bank_trait.specs.Disk.{Known, Other}
use Rattle.bank_trait.proofs.Moments.{place_cases}
use Rattle.bank_mem.specs.declared.record.Call.{Call}
use Rattle.bank_mem.specs.declared.record.Call.TheVariants.{Write, FailedWrite, Sync, Spoil}
use Rattle.bank_mem.specs.declared.crash.Tear.{Tear}
use Rattle.bank_mem.specs.declared.crash.Tear.TheVariants.{Kept, Filled}
use Rattle.bank_mem.specs.Record.{Held, held_durably, after, replay, put, handed, could_only, filled, called_device}
use Rattle.bank_mem.specs.Record.{called_sector}
use Rattle.bank_mem.specs.CrashSteps.{IsSyncedUpTo, torn_to, torn_after}
use Rattle.bank_mem.proofs.Steps.{replay-append, put-same, put-other, handed-same, handed-other}

-- What a stop leaves of a sector, by how it is listed and by what it could hold, newest first.
abbrev pub left_of : Option Tear → List (List ℕ) → Option (List ℕ)
left_of how [] = None
left_of how (bytes ∷ []) = Some bytes
left_of None (bytes ∷ (next ∷ older)) = last_or (Some next) older
left_of (Some Kept) (bytes ∷ (next ∷ older)) = Some bytes
left_of (Some (Filled byte)) (bytes ∷ (next ∷ older)) = Some (filled byte)

-- A sector that could hold one thing alone holds it.
left_one : (how : Option Tear) (o : Option (List ℕ)) → o ≡ left_of how (option_to_list o)
left_one how None = refl
left_one how (Some bytes) = refl

-- A sector is handed bytes.
left_more : (how : Option Tear) (bytes : List ℕ) (could : List (List ℕ)) (held : Option (List ℕ))
    → held ≡ left_of how could → IsSome held
    → torn_to how bytes held ≡ left_of how (bytes ∷ could)
left_more how bytes [] held is some = absurd (cc)
left_more None bytes (next ∷ []) held is some = is
left_more None bytes (next ∷ (older ∷ oldest)) held is some = is
left_more (Some Kept) bytes (next ∷ older) held is some = refl
left_more (Some (Filled byte)) bytes (next ∷ older) held is some = refl

could_only-same : (could : ℕ → ℕ → List (List ℕ)) (d x : ℕ) (values : List (List ℕ))
    → could_only could d x values d x ≡ values
could_only-same could d x values = grind (arith, nat_tests)

could_only-other : (could : ℕ → ℕ → List (List ℕ)) (d x : ℕ) (values : List (List ℕ)) (e y : ℕ)
    → Other d x e y
    → could_only could d x values e y ≡ could e y
could_only-other could d x values e y (inl other) = grind (arith, nat_tests)
could_only-other could d x values e y (inr other) = grind (arith, nat_tests)

-- What the sectors are to hold before a call: where a sync of the device is still to come what is
-- read, else what a stop leaves.
pub record IsLeft (syncs : ℕ → ℕ) (listed : ℕ → ℕ → Option Tear) (index : ℕ) (held : Held)
    (known : Known) : Type 0 where
  pub settled : (d x : ℕ) → index < syncs d → known d x ≡ held.reads d x
  pub torn : (d x : ℕ) → syncs d ≤ index → known d x ≡ left_of (listed d x) (held.could d x)

-- before the first call
pub left_first : (syncs : ℕ → ℕ) (listed : ℕ → ℕ → Option Tear) (first known : Known)
    → ((d x : ℕ) → known d x ≡ first d x)
    → IsLeft syncs listed 0 (held_durably first) known
left_first syncs listed first known same = record {
  settled = λ d x later. same d x;
  torn = λ d x past. same d x ∙ left_one (listed d x) (first d x);
}

module _ (syncs : ℕ → ℕ) (listed : ℕ → ℕ → Option Tear) (calls : List Call) (index : ℕ)
    (synced : (d : ℕ) → IsSyncedUpTo calls d (syncs d)) (held : Held) (known : Known)
    (before : IsLeft syncs listed index held known) where
  -- A device whose last sync is behind the next call has it behind this one, if this is none.
  behind : (call : Call) → slice_get calls index ≡ Some call → (e : ℕ)
      → ((number : ℕ) → call ≡ Sync number e → ⊥)
      → syncs e ≤ index + 1
      → syncs e ≤ index
  behind call found e other past = ⊎_elim
      (λ here. let sync = (synced e).last index here in
      let same : Some call ≡ Some (Sync sync.0 e) = sym found ∙ sync.1 in
      let is : call ≡ Sync sync.0 e = cc in
      absurd (other sync.0 is))
      (λ elsewhere. omega (arith, past, elsewhere))
      (cases_eq (syncs e) (index + 1))

  -- a call that changes one sector
  one_place : (call : Call) → slice_get calls index ≡ Some call
      → ((number e : ℕ) → call ≡ Sync number e → ⊥) → (d x : ℕ) (now : Held) (new : Known)
      → ((e y : ℕ) → Other d x e y → new e y ≡ known e y)
      → ((e y : ℕ) → Other d x e y → now.reads e y ≡ held.reads e y)
      → ((e y : ℕ) → Other d x e y → now.could e y ≡ held.could e y)
      → (index < syncs d → new d x ≡ now.reads d x)
      → (syncs d ≤ index → new d x ≡ left_of (listed d x) (now.could d x))
      → IsLeft syncs listed (index + 1) now new
  one_place call found no_sync d x now new same reads could here_settled here_torn = record {
    settled = λ e y. place_cases (λ e y. index + 1 < syncs e → new e y ≡ now.reads e y) d x e y
        (λ later. here_settled (omega (arith, later)))
        (λ other later.
        same e y other ∙ before.settled e y (omega (arith, later)) ∙ sym (reads e y other));
    torn = λ e y. place_cases
        (λ e y. syncs e ≤ index + 1 → new e y ≡ left_of (listed e y) (now.could e y)) d x e y
        (λ past. here_torn (behind call found d (λ number. no_sync number d) past))
        (λ other past. same e y other
        ∙ before.torn e y (behind call found e (λ number. no_sync number e) past)
        ∙ ap (λ (l : List (List ℕ)). left_of (listed e y) l) (sym (could e y other)));
  }

  -- a call that a sync of its device covers
  pub settled_step : (call : Call) → slice_get calls index ≡ Some call
      → index < syncs (called_device call) → (new : Known)
      → ((e y : ℕ) → new e y ≡ (after (held_durably known) call).reads e y)
      → IsLeft syncs listed (index + 1) (after held call) new
  settled_step (Write number d x bytes) found later new is =
      one_place (Write number d x bytes) found (λ other e same. absurd (cc)) d x
      (after held (Write number d x bytes)) new
      (λ e y other. is e y ∙ put-other known d x (Some bytes) e y other)
      (λ e y other. put-other held.reads d x (Some bytes) e y other)
      (λ e y other. handed-other held.could d x bytes e y other)
      (λ lt. is d x ∙ put-same known d x (Some bytes) ∙ sym (put-same held.reads d x (Some bytes)))
      (λ past. absurd (omega (arith, later, past)))
  settled_step (FailedWrite number d x bytes) found later new is =
      one_place (FailedWrite number d x bytes) found (λ other e same. absurd (cc)) d x
      (after held (FailedWrite number d x bytes)) new
      (λ e y other. is e y)
      (λ e y other. refl)
      (λ e y other. handed-other held.could d x bytes e y other)
      (λ lt. is d x ∙ before.settled d x lt)
      (λ past. absurd (omega (arith, later, past)))
  settled_step (Spoil number d x bytes) found later new is =
      one_place (Spoil number d x bytes) found (λ other e same. absurd (cc)) d x
      (after held (Spoil number d x bytes)) new
      (λ e y other. is e y ∙ put-other known d x (Some bytes) e y other)
      (λ e y other. put-other held.reads d x (Some bytes) e y other)
      (λ e y other. could_only-other held.could d x (bytes ∷ []) e y other)
      (λ lt. is d x ∙ put-same known d x (Some bytes) ∙ sym (put-same held.reads d x (Some bytes)))
      (λ past. absurd (omega (arith, later, past)))
  settled_step (Sync number d) found later new is = record {
    settled = λ e y lt. is e y ∙ before.settled e y (omega (arith, lt));
    torn = λ e y past. ⊎_elim
        (λ here. subst (λ (f : ℕ). new f y ≡ left_of (listed f y) (now.could f y)) (sym here)
        (is d y ∙ before.settled d y later ∙ left_one (listed d y) (held.reads d y)
        ∙ ap (λ (l : List (List ℕ)). left_of (listed d y) l) (sym (could_here y))))
        (λ ne. is e y
        ∙ before.torn e y
        (behind (Sync number d) found e (λ other same. ne (sym (ap called_device same))) past)
        ∙ ap (λ (l : List (List ℕ)). left_of (listed e y) l) (sym (could_elsewhere e y ne)))
        (cases_eq e d);
  }
    where
      now : Held
      now = after held (Sync number d)

      could_here : (y : ℕ)
          → (after held (Sync number d)).could d y ≡ option_to_list (held.reads d y)
      could_here y = grind (arith, nat_tests)

      could_elsewhere : (e y : ℕ) → e ≢ d → (after held (Sync number d)).could e y ≡ held.could e y
      could_elsewhere e y ne = grind (arith, nat_tests)

  -- a sector that is handed bytes after its device's last sync
  handed_here : (d x : ℕ) (bytes : List ℕ) → syncs d ≤ index → IsSome (known d x)
      → put known d x (torn_to (listed d x) bytes (known d x)) d x
      ≡ left_of (listed d x) (handed held.could d x bytes d x)
  handed_here d x bytes past some = put-same known d x (torn_to (listed d x) bytes (known d x))
      ∙ left_more (listed d x) bytes (held.could d x) (known d x) (before.torn d x past) some
      ∙ ap (λ (l : List (List ℕ)). left_of (listed d x) l) (sym (handed-same held.could d x bytes))

  -- a call that no sync of its device covers
  pub torn_step : (call : Call) → slice_get calls index ≡ Some call → syncs (called_device call) ≤ index
      → ((x : ℕ) → called_sector call ≡ Some x → IsSome (known (called_device call) x)) → (new : Known)
      → ((e y : ℕ) → new e y ≡ torn_after listed known call e y)
      → IsLeft syncs listed (index + 1) (after held call) new
  torn_step (Write number d x bytes) found past some new is =
      one_place (Write number d x bytes) found (λ other e same. absurd (cc)) d x
      (after held (Write number d x bytes)) new
      (λ e y other. is e y ∙ put-other known d x _ e y other)
      (λ e y other. put-other held.reads d x (Some bytes) e y other)
      (λ e y other. handed-other held.could d x bytes e y other)
      (λ later. absurd (omega (arith, later, past)))
      (λ le. is d x ∙ handed_here d x bytes past (some x refl))
  torn_step (FailedWrite number d x bytes) found past some new is =
      one_place (FailedWrite number d x bytes) found (λ other e same. absurd (cc)) d x
      (after held (FailedWrite number d x bytes)) new
      (λ e y other. is e y ∙ put-other known d x _ e y other)
      (λ e y other. refl)
      (λ e y other. handed-other held.could d x bytes e y other)
      (λ later. absurd (omega (arith, later, past)))
      (λ le. is d x ∙ handed_here d x bytes past (some x refl))
  torn_step (Sync number d) found past some new is =
      absurd (omega (arith, (synced d).none_later index number found, past))
  torn_step (Spoil number d x bytes) found past some new is =
      one_place (Spoil number d x bytes) found (λ other e same. absurd (cc)) d x
      (after held (Spoil number d x bytes)) new
      (λ e y other. is e y ∙ put-other known d x (Some bytes) e y other)
      (λ e y other. put-other held.reads d x (Some bytes) e y other)
      (λ e y other. could_only-other held.could d x (bytes ∷ []) e y other)
      (λ later. absurd (omega (arith, later, past)))
      (λ le. is d x ∙ put-same known d x (Some bytes)
      ∙ ap (λ (l : List (List ℕ)). left_of (listed d x) l)
      (sym (could_only-same held.could d x (bytes ∷ []))))

-- The next call on record, covered by a sync or not.
pub left_step : (syncs seen : List ℕ) (listed : ℕ → ℕ → Option Tear) (calls : List Call) (index : ℕ)
    (other : Call) (start : Held) (known new : Known) → index < length calls
    → seen ≡ syncs → ((d : ℕ) → IsSyncedUpTo calls d (slice_index syncs d))
    → ((x : ℕ) → called_sector (get_or calls index other) ≡ Some x
    → IsSome (known (called_device (get_or calls index other)) x))
    → (index < slice_index seen (called_device (get_or calls index other)) → (e y : ℕ)
    → new e y ≡ (after (held_durably known) (get_or calls index other)).reads e y)
    → (slice_index seen (called_device (get_or calls index other)) ≤ index → (e y : ℕ)
    → new e y ≡ torn_after listed known (get_or calls index other) e y)
    → IsLeft (slice_index syncs) listed index (replay start (take index calls)) known
    → IsLeft (slice_index syncs) listed (index + 1) (replay start (take (index + 1) calls)) new
left_step syncs seen listed calls index other start known new below same synced some settled torn before =
    subst (λ (held : Held). IsLeft (slice_index syncs) listed (index + 1) held new) (sym one_more)
    (⊎_elim
    (λ later. settled_step (slice_index syncs) listed calls index synced
    (replay start (take index calls)) known before call found later new
    (settled (omega (arith, later, reached))))
    (λ past. torn_step (slice_index syncs) listed calls index synced
    (replay start (take index calls)) known before call found past some new
    (torn (omega (arith, past, reached))))
    (cases_lt index (slice_index syncs (called_device call))))
  where
    call : Call
    call = get_or calls index other

    reached : slice_index seen (called_device call) ≡ slice_index syncs (called_device call)
    reached = ap (λ (l : List ℕ). slice_index l (called_device call)) same

    found : slice_get calls index ≡ Some call
    found = slice_get-get_or calls index other below

    one_more : replay start (take (index + 1) calls)
        ≡ after (replay start (take index calls)) call
    one_more = ap (replay start) (take_more calls index other below)
        ∙ replay-append (take index calls) start call
