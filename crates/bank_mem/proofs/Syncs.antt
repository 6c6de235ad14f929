-- How many of the calls on record the last sync of each device covers, over one call more.
use Rattle.std.proofs.Common.{◌≡◌, ⊎_elim, ℕ, ◌+◌, ◌<◌, ◌≤◌, List, length, get_or, set, slice_index, replicate, Some}
use Rattle.std.proofs.Common.{sym, ◌∙◌, ap, subst, arith, slice_get}
use Rattle.std.proofs.lemmas.Bool.{cases_lt, cases_eq}
use Rattle.std.proofs.lemmas.List.{get_or-set_same, get_or-set_other, get_or-replicate, length-replicate, get_or_past}
use Rattle.std.proofs.lemmas.Option.{slice_get_within, slice_get-get_or}
use Rattle.bank_mem.specs.declared.record.Call.{Call}
use Rattle.bank_mem.specs.declared.record.Call.TheVariants.{Sync}
use Rattle.bank_mem.specs.Record.{called_device}
use Rattle.bank_mem.specs.CrashSteps.{IsSyncedUpTo}

-- The last sync of device d among the calls before one is the last of the first n calls.
pub record SyncedBelow (calls : List Call) (index d n : ℕ) : Type 0 where
  pub last : (k : ℕ) → n ≡ k + 1 → (number : ℕ) × (slice_get calls k ≡ Some (Sync number d))
  pub none_later : (k number : ℕ) → k < index → slice_get calls k ≡ Some (Sync number d) → k < n

-- before the first call
pub synced_none : (calls : List Call) (devices : ℕ) (syncs : List ℕ)
    → syncs ≡ replicate devices 0
    → (d : ℕ) → SyncedBelow calls 0 d (slice_index syncs d)
synced_none calls devices syncs zeros d = record {
  last = λ k more. absurd (omega (arith, more, zero_at));
  none_later = λ k number below sync. absurd (omega arith);
}
  where
    zero_at : slice_index syncs d ≡ 0
    zero_at = ap (λ (l : List ℕ). slice_index l d) zeros ∙ ⊎_elim
        (λ below. get_or-replicate devices d 0 0 below)
        (λ past. get_or_past (replicate devices 0) d 0 (omega (arith, length-replicate {A = ℕ} devices 0)))
        (cases_lt d devices)

-- after a call that is no sync of this device
synced_past : (calls : List Call) (index d n : ℕ) (call : Call)
    → slice_get calls index ≡ Some call → ((number : ℕ) → call ≡ Sync number d → ⊥)
    → SyncedBelow calls index d n
    → SyncedBelow calls (index + 1) d n
synced_past calls index d n call is other before = record {
  last = before.last;
  none_later = λ k number below sync. ⊎_elim
      (λ earlier. before.none_later k number earlier sync)
      (λ not_earlier.
      let here : k ≡ index = omega (arith, below, not_earlier) in
      let found : Some call ≡ Some (Sync number d) =
      sym is ∙ subst (λ (j : ℕ). slice_get calls j ≡ Some (Sync number d)) here sync in
      let same : call ≡ Sync number d = cc in
      absurd (other number same))
      (cases_lt k index);
}

-- after a sync of this device
synced_here : (calls : List Call) (index d number : ℕ)
    → slice_get calls index ≡ Some (Sync number d)
    → SyncedBelow calls (index + 1) d (index + 1)
synced_here calls index d number is = record {
  last = λ k more. let here : index ≡ k = omega (arith, more) in
      (number, subst (λ (j : ℕ). slice_get calls j ≡ Some (Sync number d)) here is);
  none_later = λ k other below sync. below;
}

-- For all devices, after a sync of one of them.
pub synced_set : (calls : List Call) (index d number devices : ℕ) (syncs more : List ℕ)
    (other : Call)
    → index < length calls → get_or calls index other ≡ Sync number d
    → called_device (get_or calls index other) < devices → length syncs ≡ devices
    → more ≡ set syncs d (index + 1)
    → ((e : ℕ) → SyncedBelow calls index e (slice_index syncs e))
    → (e : ℕ) → SyncedBelow calls (index + 1) e (slice_index more e)
synced_set calls index d number devices syncs more other below is device many counted before e =
    subst (λ (l : List ℕ). SyncedBelow calls (index + 1) e (slice_index l e)) (sym counted) (⊎_elim
    (λ same. subst (λ (f : ℕ). SyncedBelow calls (index + 1) f
    (slice_index (set syncs d (index + 1)) f)) (sym same)
    (subst (λ (n : ℕ). SyncedBelow calls (index + 1) d n)
    (sym (get_or-set_same syncs d (index + 1) 0 there))
    (synced_here calls index d number found)))
    (λ ne. subst (λ (n : ℕ). SyncedBelow calls (index + 1) e n)
    (sym (get_or-set_other syncs d e (index + 1) 0 ne))
    (synced_past calls index e (slice_index syncs e) (Sync number d) found
    (λ k same. ne (sym (ap called_device same))) (before e)))
    (cases_eq e d))
  where
    found : slice_get calls index ≡ Some (Sync number d)
    found = slice_get-get_or calls index other below ∙ ap Some is

    there : d < length syncs
    there = omega (arith, device, ap called_device is, many)

-- For all devices, after a call that is no sync.
pub synced_kept : (calls : List Call) (index : ℕ) (syncs more : List ℕ) (other : Call)
    → index < length calls → ((number d : ℕ) → get_or calls index other ≡ Sync number d → ⊥)
    → more ≡ syncs
    → ((e : ℕ) → SyncedBelow calls index e (slice_index syncs e))
    → (e : ℕ) → SyncedBelow calls (index + 1) e (slice_index more e)
synced_kept calls index syncs more other below no_sync same before e =
    subst (λ (l : List ℕ). SyncedBelow calls (index + 1) e (slice_index l e)) (sym same)
    (synced_past calls index e (slice_index syncs e) (get_or calls index other)
    (slice_get-get_or calls index other below) (λ number is. no_sync number e is) (before e))

-- after all calls
pub synced_all : (calls : List Call) (index d n : ℕ) → length calls ≤ index
    → SyncedBelow calls index d n
    → IsSyncedUpTo calls d n
synced_all calls index d n all before = record {
  last = before.last;
  none_later = λ k number sync.
      before.none_later k number (omega (arith, slice_get_within calls k (Sync number d) sync)) sync;
}
