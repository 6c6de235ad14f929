-- What a call does to a file in memory.
use Rattle.std.proofs.Common.{◌≡◌, ◌≢◌, ◌⊎◌, inl, inr, ℕ, zero, suc, get_or, ◌<◌, ◌≤◌, List, [], ◌∷◌, ◌++◌, length}
use Rattle.std.proofs.Common.{Option, Some, None, Bool, refl, sym, ◌∙◌, ap, subst, arith, slice_set, replicate, Ok, Err}
use Rattle.std.specs.Prelude.{if◌then◌else◌, IsSome, Contains, option_to_list, slice_get, nat_lt}
use Rattle.std.proofs.lemmas.Bool.{cases_eq, cases_lt}
use Rattle.std.proofs.lemmas.Bool.Decides.{nat_tests}
use Rattle.std.proofs.lemmas.List.{length-set, length-replicate, get_or-replicate, get_or-set_same, get_or-set_other}
use Rattle.std.proofs.lemmas.Option.{slice_get-get_or, slice_get_past, slice_get_within, get_or_from_slice_get}
use Rattle.bank_trait.specs.Regions.{zero_sector}
use Rattle.bank_trait.specs.declared.Failed.{Failed}
use Rattle.file_bank.specs.declared.record.Call.{Call}
use Rattle.file_bank.specs.declared.record.Call.TheVariants.{Write, Sync}
use Rattle.file_bank.specs.BlockFile.{GoesOn, Written, Settled}
use Rattle.file_bank.specs.Record.{FileHeld, all_certain, after_call, moment_of, replayed_to, AllBy, LeadsToSectors}
use Rattle.file_bank.specs.Record.{contents_of}
use Rattle.file_bank.specs.MemLaws.{not_before, is_before, by_head, by_tail, replay_still, in_list, record_could}

-- A call is replayed from its moment on.
replay_before : (t : ℕ) (held : FileHeld) (calls : List Call) (call : Call) → t < moment_of call
    → replayed_to t held (calls ++ call ∷ []) ≡ replayed_to t held calls
replay_before t held [] call before =
    ap (λ (b : Bool). if b then held else after_call held call) (is_before t (moment_of call) before)
replay_before t held (first ∷ calls) call before =
    replay_before t (if nat_lt t (moment_of first) then held else after_call held first) calls call before

replay_after : (t : ℕ) (held : FileHeld) (calls : List Call) (call : Call) → moment_of call ≤ t
    → replayed_to t held (calls ++ call ∷ []) ≡ after_call (replayed_to t held calls) call
replay_after t held [] call came =
    ap (λ (b : Bool). if b then held else after_call held call) (not_before t (moment_of call) came)
replay_after t held (first ∷ calls) call came =
    replay_after t (if nat_lt t (moment_of first) then held else after_call held first) calls call came

-- No call came later than the last one.
pub by_more : (last moment : ℕ) (calls later : List Call) (call : Call)
    → later ≡ calls ++ call ∷ [] → moment_of call ≡ moment → last < moment → AllBy last calls
    → AllBy moment later
by_more last moment calls later call one_more at above by =
    subst (λ (l : List Call). AllBy moment l) (sym one_more) (all calls by)
  where
    all : (calls : List Call) → AllBy last calls → AllBy moment (calls ++ call ∷ [])
    all [] by zero d below = omega (arith, at)
    all [] by (suc k) d below = absurd (omega (arith, below))
    all (first ∷ calls) by zero d below = omega (arith, by_head last first calls by)
    all (first ∷ calls) by (suc k) d below =
        all calls (by_tail last first calls by) k d (omega (arith, below))

-- The newest of some values, or one of the others.
newest : (bytes : List ℕ) (others : List (List ℕ)) (b : List ℕ) → Contains (bytes ∷ others) b
    → (b ≡ bytes) ⊎ Contains others b
newest bytes others b among = at among.0 among.1 among.2
  where
    at : (k : ℕ) → k < length (bytes ∷ others) → get_or (bytes ∷ others) k b ≡ b
        → (b ≡ bytes) ⊎ Contains others b
    at zero below is = inl (sym is)
    at (suc k) below is = inr (k, omega (arith, below), is)

read_at : (o : Option (List ℕ)) (b : List ℕ) → Contains (option_to_list o) b → o ≡ Some b
read_at None b among = absurd (omega (arith, among.1))
read_at (Some c) b among = at among.0 among.1 among.2
  where
    at : (k : ℕ) → k < 1 → get_or (c ∷ []) k b ≡ b → Some c ≡ Some b
    at zero below is = ap Some is
    at (suc k) below is = absurd (omega (arith, below))

-- What a sector could hold it still could, once it was handed more.
older : (bytes : List ℕ) (others : List (List ℕ)) (b : List ℕ) → Contains others b → Contains (bytes ∷ others) b
older bytes others b among = (suc among.0, omega (arith, among.1), among.2)

-- One call more on record.
module _ (first present new : List (List ℕ)) (calls later : List Call) (last moment : ℕ)
    (call : Call) (one_more : later ≡ calls ++ call ∷ []) (at : moment_of call ≡ moment)
    (above : last < moment) (by : AllBy last calls) where
  abbrev pub was : FileHeld
  was = replayed_to last (all_certain first) calls

  pub now : replayed_to moment (all_certain first) later ≡ after_call was call
  now = ap (replayed_to moment (all_certain first)) one_more
      ∙ replay_after moment (all_certain first) calls call (omega (arith, at))
      ∙ ap (λ (h : FileHeld). after_call h call) (replay_still last moment (all_certain first) calls by (omega arith))

  pub past : (t : ℕ) → t < moment
      → replayed_to t (all_certain first) later ≡ replayed_to t (all_certain first) calls
  past t before = ap (replayed_to t (all_certain first)) one_more
      ∙ replay_before t (all_certain first) calls call (omega (arith, at))

  goes_on : length new ≡ length present
      → ((x : ℕ) → IsSome (slice_get present x) → IsSome (slice_get new x))
      → GoesOn (contents_of first present calls last) (contents_of first new later moment) moment
  goes_on as_long told = record {
    length = omega (arith, as_long);
    last = omega arith;
    told = told;
    past = λ t before x. (
      ap (λ (h : FileHeld). h.stays x) (past t before),
      ap (λ (h : FileHeld). h.could x) (past t before),
    );
  }

  pub leads_on : ((x : ℕ) → (after_call was call).reads x ≡ slice_get new x)
      → LeadsToSectors first moment later new
  leads_on reads x = ap (λ (h : FileHeld). h.reads x) now ∙ reads x

-- What is read after a write.
pub set_here : (present : List (List ℕ)) (x : ℕ) (bytes : List ℕ) → x < length present
    → slice_get (slice_set present x bytes) x ≡ Some bytes
set_here present x bytes below =
    slice_get-get_or (slice_set present x bytes) x bytes (omega (arith, length-set present x bytes))
    ∙ ap Some (get_or-set_same present x bytes bytes below)

pub set_other : (present : List (List ℕ)) (x y : ℕ) (bytes : List ℕ) → y ≢ x
    → slice_get (slice_set present x bytes) y ≡ slice_get present y
set_other present x y bytes other = by_case (cases_lt y (length present))
  where
    by_case : (y < length present) ⊎ (length present ≤ y)
        → slice_get (slice_set present x bytes) y ≡ slice_get present y
    by_case (inl below) =
        slice_get-get_or (slice_set present x bytes) y bytes (omega (arith, length-set present x bytes))
        ∙ ap Some (get_or-set_other present x y bytes bytes other)
        ∙ sym (slice_get-get_or present y bytes below)
    by_case (inr past) =
        slice_get_past (slice_set present x bytes) y (omega (arith, length-set present x bytes))
        ∙ sym (slice_get_past present y past)

some_is : (o : Option (List ℕ)) (bytes : List ℕ) → o ≡ Some bytes → IsSome o
some_is None bytes is = absurd (cc)
some_is (Some b) bytes is = refl

set_told : (present : List (List ℕ)) (x : ℕ) (bytes : List ℕ) → x < length present → (y : ℕ)
    → IsSome (slice_get present y) → IsSome (slice_get (slice_set present x bytes) y)
set_told present x bytes below y is = by_case (cases_eq y x)
  where
    by_case : (y ≡ x) ⊎ (y ≢ x) → IsSome (slice_get (slice_set present x bytes) y)
    by_case (inl here) = some_is (slice_get (slice_set present x bytes) y) bytes
        (ap (slice_get (slice_set present x bytes)) here ∙ set_here present x bytes below)
    by_case (inr other) = subst IsSome (sym (set_other present x y bytes other)) is

-- Each sector still has 512 bytes.
pub set_whole : (present : List (List ℕ)) (x : ℕ) (bytes : List ℕ) → x < length present
    → length bytes ≡ 512
    → ((y : ℕ) (b : List ℕ) → slice_get present y ≡ Some b → length b ≡ 512)
    → (y : ℕ) (b : List ℕ) → slice_get (slice_set present x bytes) y ≡ Some b → length b ≡ 512
set_whole present x bytes below long whole y b is = by_case (cases_eq y x)
  where
    same : (c : List ℕ) → Some bytes ≡ Some c → length c ≡ 512
    same c e = grind (arith, e, long)

    by_case : (y ≡ x) ⊎ (y ≢ x) → length b ≡ 512
    by_case (inl here) = same b (sym (set_here present x bytes below)
        ∙ sym (ap (slice_get (slice_set present x bytes)) here) ∙ is)
    by_case (inr other) = whole y b (sym (set_other present x y bytes other) ∙ is)

-- What a write does at its sector, and at another one.
module _ (held : FileHeld) (moment x : ℕ) (bytes : List ℕ) where
  reads_here : (after_call held (Write moment x bytes)).reads x ≡ Some bytes
  reads_here = grind (arith, nat_tests)

  pub stays_here : (after_call held (Write moment x bytes)).stays x ≡ None
  stays_here = grind (arith, nat_tests)

  pub could_now_here : (after_call held (Write moment x bytes)).could x ≡ bytes ∷ held.could x
  could_now_here = grind (arith, nat_tests)

  reads_other : (y : ℕ) → y ≢ x → (after_call held (Write moment x bytes)).reads y ≡ held.reads y
  reads_other y other = grind (arith, nat_tests)

  pub stays_other : (y : ℕ) → y ≢ x → (after_call held (Write moment x bytes)).stays y ≡ held.stays y
  stays_other y other = grind (arith, nat_tests)

  pub could_now_other : (y : ℕ) → y ≢ x → (after_call held (Write moment x bytes)).could y ≡ held.could y
  could_now_other y other = grind (arith, nat_tests)

-- A write leads on.
pub wrote_leads : (first present : List (List ℕ)) (calls later : List Call) (last moment x : ℕ)
    (bytes : List ℕ) → later ≡ calls ++ Write moment x bytes ∷ [] → last < moment
    → x < length present → AllBy last calls → LeadsToSectors first last calls present
    → LeadsToSectors first moment later (slice_set present x bytes)
wrote_leads first present calls later last moment x bytes one_more above below by leads =
    leads_on first present (slice_set present x bytes) calls later last moment
    (Write moment x bytes) one_more refl above by (λ y. read y (cases_eq y x))
  where
    read : (y : ℕ) → (y ≡ x) ⊎ (y ≢ x)
        → (after_call (replayed_to last (all_certain first) calls) (Write moment x bytes)).reads y
        ≡ slice_get (slice_set present x bytes) y
    read y (inl here) = subst (λ (k : ℕ).
        (after_call (replayed_to last (all_certain first) calls) (Write moment x bytes)).reads k
        ≡ slice_get (slice_set present x bytes) k) (sym here)
        (reads_here (replayed_to last (all_certain first) calls) moment x bytes
        ∙ sym (set_here present x bytes below))
    read y (inr other) =
        reads_other (replayed_to last (all_certain first) calls) moment x bytes y other
        ∙ leads y ∙ sym (set_other present x y bytes other)

pub wrote : (first present : List (List ℕ)) (calls later : List Call) (last moment x : ℕ)
    (bytes : List ℕ) → later ≡ calls ++ Write moment x bytes ∷ [] → last < moment
    → x < length present → AllBy last calls
    → Written (contents_of first present calls last)
    (contents_of first (slice_set present x bytes) later moment) moment x bytes (Ok tt)
wrote first present calls later last moment x bytes one_more above below by =
    let held : FileHeld = replayed_to last (all_certain first) calls in
    let is_now : replayed_to moment (all_certain first) later ≡ after_call held (Write moment x bytes) =
    now first present (slice_set present x bytes) calls later last moment (Write moment x bytes)
    one_more refl above by in
    record {
      goes_on = goes_on first present (slice_set present x bytes) calls later last moment
          (Write moment x bytes) one_more refl above by (length-set present x bytes)
          (set_told present x bytes below);
      told = λ is. set_here present x bytes below;
      torn = ap (λ (h : FileHeld). h.stays x) is_now ∙ stays_here held moment x bytes;
      others_read = λ y other. set_other present x y bytes other;
      others_leave = λ y other.
          ap (λ (h : FileHeld). h.stays y) is_now ∙ stays_other held moment x bytes y other;
      could = λ b among. newest bytes (held.could x) b (subst (λ (l : List (List ℕ)). Contains l b)
          (ap (λ (h : FileHeld). h.could x) is_now ∙ could_now_here held moment x bytes) among);
      handed = λ is. subst (λ (l : List (List ℕ)). Contains l bytes)
          (sym (ap (λ (h : FileHeld). h.could x) is_now ∙ could_now_here held moment x bytes)) (0, omega arith, refl);
      still_could = λ b among. subst (λ (l : List (List ℕ)). Contains l b)
          (sym (ap (λ (h : FileHeld). h.could x) is_now ∙ could_now_here held moment x bytes))
          (older bytes (held.could x) b among);
      others_could = λ y other.
          ap (λ (h : FileHeld). h.could y) is_now ∙ could_now_other held moment x bytes y other;
    }

pub synced_leads : (first present : List (List ℕ)) (calls later : List Call) (last moment : ℕ)
    → later ≡ calls ++ Sync moment ∷ [] → last < moment → AllBy last calls
    → LeadsToSectors first last calls present → LeadsToSectors first moment later present
synced_leads first present calls later last moment one_more above by leads =
    leads_on first present present calls later last moment (Sync moment) one_more refl above by leads

pub synced : (first present : List (List ℕ)) (calls later : List Call) (last moment : ℕ)
    → later ≡ calls ++ Sync moment ∷ [] → last < moment → AllBy last calls
    → LeadsToSectors first last calls present
    → Settled (contents_of first present calls last) (contents_of first present later moment) moment
    (Ok tt)
synced first present calls later last moment one_more above by leads = record {
  goes_on = goes_on first present present calls later last moment (Sync moment) one_more refl above
      by refl (λ x is. is);
  durable = λ x. ap (λ (h : FileHeld). h.stays x) is_now ∙ leads x;
  not_durable = tt;
  reads = λ x. refl;
  reads_certain = λ x bytes certain. refl;
  could = λ x b among.
      let is : slice_get present x ≡ Some b =
      sym (leads x) ∙ read_at ((replayed_to last (all_certain first) calls).reads x) b
      (subst (λ (l : List (List ℕ)). Contains l b) (ap (λ (h : FileHeld). h.could x) is_now) among) in
      (is, record_could first present calls last leads x b is);
  kept = λ x b is among. subst (λ (l : List (List ℕ)). Contains l b) (sym (ap (λ (h : FileHeld). h.could x) is_now))
      (in_list ((replayed_to last (all_certain first) calls).reads x) b (leads x ∙ is));
  still_could = tt;
}
  where
    is_now : replayed_to moment (all_certain first) later ≡ after_call (replayed_to last (all_certain first) calls)
        (Sync moment)
    is_now = now first present present calls later last moment (Sync moment) one_more refl above by

-- A call that fails, and is not on record.
pub write_failed : (first present : List (List ℕ)) (calls later : List Call) (last moment x : ℕ)
    (bytes : List ℕ) (e : Failed) → later ≡ calls → last < moment → AllBy last calls
    → Written (contents_of first present calls last) (contents_of first present later last) moment x
    bytes (Err e)
write_failed first present calls later last moment x bytes e same above by =
    subst (λ (l : List Call). Written (contents_of first present calls last)
    (contents_of first present l last) moment x bytes (Err e)) (sym same) alike
  where
    still : replayed_to moment (all_certain first) calls ≡ replayed_to last (all_certain first) calls
    still = replay_still last moment (all_certain first) calls by (omega arith)

    alike : Written (contents_of first present calls last) (contents_of first present calls last)
        moment x bytes (Err e)
    alike = record {
      goes_on = record { length = refl; last = omega arith; told = λ y is. is; past = λ t before y. (refl, refl) };
      told = tt;
      torn = tt;
      others_read = λ y other. refl;
      others_leave = λ y other. ap (λ (h : FileHeld). h.stays y) still;
      could = λ b among. inr (subst (λ (l : List (List ℕ)). Contains l b)
          (ap (λ (h : FileHeld). h.could x) still) among);
      handed = tt;
      still_could = λ b among. subst (λ (l : List (List ℕ)). Contains l b)
          (sym (ap (λ (h : FileHeld). h.could x) still)) among;
      others_could = λ y other. ap (λ (h : FileHeld). h.could y) still;
    }

pub sync_failed : (first present : List (List ℕ)) (calls later : List Call) (last moment : ℕ)
    (e : Failed) → later ≡ calls → last < moment → AllBy last calls
    → Settled (contents_of first present calls last) (contents_of first present later last) moment
    (Err e)
sync_failed first present calls later last moment e same above by =
    subst (λ (l : List Call). Settled (contents_of first present calls last)
    (contents_of first present l last) moment (Err e)) (sym same) alike
  where
    still : replayed_to moment (all_certain first) calls ≡ replayed_to last (all_certain first) calls
    still = replay_still last moment (all_certain first) calls by (omega arith)

    alike : Settled (contents_of first present calls last) (contents_of first present calls last)
        moment (Err e)
    alike = record {
      goes_on = record { length = refl; last = omega arith; told = λ y is. is; past = λ t before y. (refl, refl) };
      durable = tt;
      not_durable = λ x. ap (λ (h : FileHeld). h.stays x) still;
      reads = tt;
      reads_certain = λ x bytes certain. refl;
      could = tt;
      kept = tt;
      still_could = λ x. ap (λ (h : FileHeld). h.could x) still;
    }

-- Sectors of zeros have 512 bytes each.
zeros_long : length zero_sector ≡ 512
unfolding zero_sector
zeros_long = refl

pub blank_whole : (sectors : ℕ) (all : List (List ℕ)) → all ≡ replicate sectors zero_sector
    → (x : ℕ) (bytes : List ℕ) → slice_get all x ≡ Some bytes → length bytes ≡ 512
blank_whole sectors all blank x bytes is =
    let below : x < length all = slice_get_within all x bytes is in
    let inside : x < sectors = omega (arith, ap length blank, length-replicate sectors zero_sector) in
    let there : get_or all x zero_sector ≡ bytes = get_or_from_slice_get all x bytes zero_sector is in
    let zeros : get_or all x zero_sector ≡ zero_sector =
    ap (λ (l : List (List ℕ)). get_or l x zero_sector) blank
    ∙ get_or-replicate sectors x zero_sector zero_sector inside in
    ap length (sym there ∙ zeros) ∙ zeros_long

-- A new file's record is empty.
pub blank_leads : (first present blank : List (List ℕ)) (calls : List Call) → calls ≡ []
    → first ≡ blank → present ≡ blank → LeadsToSectors first 0 calls present
blank_leads first present blank calls none was is x =
    ap (λ (l : List Call). (replayed_to 0 (all_certain first) l).reads x) none
    ∙ ap (λ (l : List (List ℕ)). slice_get l x) (was ∙ sym is)
