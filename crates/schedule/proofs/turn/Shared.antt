-- Where no call is under way no hold is in the way of another call, so that none waits.
use Rattle.schedule.proofs.Words.{◌≡◌, inl, inr, ⊎_elim, ℕ, ◌+◌, ◌<◌, List, [], ◌∷◌, length, Option, Some, None, refl}
use Rattle.schedule.proofs.Words.{sym, ◌∙◌, arith, Contains, sum_by-cons, Hold, HoldKind, Shared, Exclusive, IsBusyBy}
use Rattle.schedule.proofs.Words.{exclusive_count, count_none, Kind, ScriptCall, contains_cases, contains_none, Core}
use Rattle.schedule.proofs.Words.{IsCore, HasTooManyOut, IsRoundBusy, below_all, none_below, one_if, shared_count}
use Rattle.schedule.proofs.Words.{TurnState, Turned, Waits}
use Rattle.uberblock_ring.specs.Devices.{count_of}
use Rattle.core_state.specs.declared.answer.Kind.TheVariants as kind
use Rattle.schedule.proofs.turn.Theirs.{none_some}
use Rattle.schedule.proofs.turn.UsingTurns.{is_shared_hold}

-- ---- no call waits

-- No hold is exclusive.
abbrev HasNoneAlone : List Hold → Type 0
HasNoneAlone holds = (hold : Hold) → Contains holds hold → hold.kind ≡ Exclusive → ⊥

-- So it is where none is counted,
none_alone : (holds : List Hold) → exclusive_count holds ≡ 0 → HasNoneAlone holds
none_alone holds none hold listed exclusive =
    let few = below_all (hold.lo + 1) holds in
    let high = none_below (hold.lo + 1) holds (omega arith) hold listed exclusive in
    absurd (omega arith)

-- Nothing is under way in a core: nobody copies, shares, attaches, or, unless too many devices are out, commits.
pub record IsQuiet (core : Core) : Type 0 where
  pub is : IsCore core
  pub copying : core.copying ≡ None
  pub shared : shared_count core.holds ≡ 0
  pub committing : (HasTooManyOut core → ⊥) → (other : ℕ) → core.committing ≡ Some other → ⊥
  pub attaching : (other : ℕ) → core.attaching ≡ Some other → ⊥

-- So no hold is exclusive there, unless too many devices are out.
core_alone : {core : Core} → IsQuiet core → (HasTooManyOut core → ⊥) → HasNoneAlone core.holds
core_alone {core} quiet few = none_alone core.holds (search arith)

-- Nothing shared is in the way of a shared hold.
none_busy : {holds : List Hold} {lo hi by : ℕ} → HasNoneAlone holds → IsBusyBy holds lo hi Shared by → ⊥
none_busy alone busy = ⊎_elim (search) (λ (same : Shared ≡ Exclusive). cc) busy.blocks.exclusive

-- No hold is shared where none is counted,
none_shared : (holds : List Hold) → shared_count holds ≡ 0 → (hold : Hold) → Contains holds hold
    → hold.kind ≡ Shared → ⊥
none_shared [] none hold listed shared = contains_none hold listed
none_shared (first ∷ holds) none hold listed shared =
    let more = sum_by-cons (one_if is_shared_hold) first holds in
    ⊎_elim
    (search arith)
    (λ there. none_shared holds (omega arith) hold there shared) (contains_cases first holds hold listed)

-- and so nothing is in the way of a job where none is held alone either.
none_held : (holds : List Hold) {lo hi by : ℕ} → HasNoneAlone holds → shared_count holds ≡ 0
    → IsBusyBy holds lo hi Exclusive by → ⊥
none_held holds alone none busy = by_kind busy.hold.kind refl
  where
    by_kind : (kind : HoldKind) → busy.hold.kind ≡ kind → ⊥
    by_kind Shared is = search none_shared
    by_kind Exclusive is = alone busy.hold busy.listed is

-- No device is none.
none_counted : count_of 0 ≡ 0
unfolding count_of
none_counted = count_none 64

-- Where no device is out these are not too many.
whole_few : (core : Core) → core.pool.out ≡ 0 → HasTooManyOut core → ⊥
whole_few core whole many = search (none_counted, arith)

-- So no round of a copy waits,
no_round_waits : (core : Core) (by : ℕ) → IsQuiet core → IsRoundBusy core by → ⊥
no_round_waits core by quiet busy = elim busy [
  | inl (expands, whole, inl copies) ↦ none_some (sym quiet.copying ∙ copies)
  | inl (expands, whole, inr (job, due, held)) ↦ search (none_held, core_alone, whole_few)
  | inr (due, commits) ↦ search (whole_few, arith)
]

-- and no other call.
none_waits : (old new : Core) (devices actor : ℕ) (call : ScriptCall) (asked : Kind) (id : Option ℕ) (by : ℕ)
    → IsQuiet old → Waits old new devices actor call asked id by → ⊥
none_waits old new devices actor call kind.Put (Some id) by quiet waits = search (none_busy, core_alone)
none_waits old new devices actor call kind.Get (Some id) by quiet waits = search (none_busy, core_alone)
none_waits old new devices actor call kind.Sum (Some id) by quiet waits = search (none_busy, core_alone, arith)
none_waits old new devices actor call kind.Sync None by quiet waits = quiet.committing waits.0 by waits.1
none_waits old new devices actor call kind.Attach None by quiet waits = search arith
none_waits old new devices actor call kind.Copy None by quiet waits = search no_round_waits
none_waits old new devices actor call asked id by quiet waits = absurd waits

-- Where no call is under way, a client's next call begins.
pub turned_begins : {calls : List ScriptCall} {actor : ℕ} {before after : TurnState}
    → Turned calls actor before after → IsQuiet before.state.core → before.client.under_way ≡ None
    → before.client.begun < length calls → after.client.begun ≡ before.client.begun + 1
turned_begins turned quiet idle low = grind (arith, none_waits)
