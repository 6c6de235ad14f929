-- What a call is answered in a turn, and that what is listed then fits it.
use Rattle.schedule.proofs.Words.{◌≡◌, ◌⊎◌, inl, inr, ℕ, List, [], ◌∷◌, ◌++◌, subst, ⊤, IsWithin, max_group, Answer}
use Rattle.schedule.proofs.Words.{Kind, Entry, Item, Group, CallAt, IsAnswerOf, WhyDropped, new_or_before, Core}
use Rattle.schedule.proofs.Words.{HasTooManyOut, IsReadKind, HasDropCause, FitsSince, IsDeviceCause, IsGroupKind, Turns}
use Rattle.schedule.proofs.Words.{arith}
use Rattle.std.specs.Prelude.{◌≢◌}
use Rattle.core_state.specs.declared.answer.Answer.TheVariants as answer
use Rattle.core_state.specs.declared.answer.Kind.TheVariants as kind
use Rattle.core_state.specs.declared.item.Group.{Group as GroupItem}
use Rattle.core_state.specs.declared.item.Item.TheVariants.{Call as CallItem}
use Rattle.schedule.proofs.turn.RightNext.{IsPlain}
use Rattle.schedule.proofs.turn.Running.{group_apart}

-- Where an answer tells of too many devices, it lists those that are out.
abbrev pub TellsOut : Core → Answer → Type 0
TellsOut core given = (listed : ℕ) → given ≡ answer.TooManyFailed listed
    → HasTooManyOut core × (listed ≡ core.pool.out)

-- what a call of this kind is answered, where the core was this one
pub record Fits (core : Core) (devices : ℕ) (dropped : WhyDropped → Type 0) (asked : Kind)
    (given : Answer) : Type 0 where
  pub of_kind : IsAnswerOf asked given
  pub tells : TellsOut core given
  pub limit : (reached : ℕ) → given ≡ answer.Limit reached → IsGroupKind asked × (reached ≡ max_group)
  pub memory : given ≡ answer.NoMemory → asked ≢ kind.Free
  pub device : IsDeviceCause devices dropped given

-- An answer tells of no limit.
abbrev pub NoLimit : Answer → Type 0
NoLimit given = (reached : ℕ) → given ≡ answer.Limit reached → ⊥

pub plain_no_limit : {given : Answer} → IsPlain given → NoLimit given
plain_no_limit plain reached is = subst IsPlain is plain

-- The call is no free, no attach and no copy.
abbrev pub IsPlainKind : Kind → Type 0
IsPlainKind kind.Free = ⊥
IsPlainKind kind.Attach = ⊥
IsPlainKind kind.Copy = ⊥
IsPlainKind other = ⊤

-- An answer to the call may tell of a device that it lacks.
abbrev pub LacksDevices : Kind → Type 0
LacksDevices kind.Attach = ⊤
LacksDevices kind.Copy = ⊤
LacksDevices other = ⊥

plain_lacks_none : (asked : Kind) → IsPlainKind asked → LacksDevices asked → ⊥
plain_lacks_none asked plain lacks = grind arith

-- No other call has the cause of one that does.
pub no_device_cause : (devices : ℕ) (dropped : WhyDropped → Type 0) (asked : Kind) (given : Answer)
    → (LacksDevices asked → ⊥) → IsAnswerOf asked given → IsDeviceCause devices dropped given
no_device_cause devices dropped asked given none of = grind arith

pub read_plain_kind : (asked : Kind) → IsReadKind asked → IsPlainKind asked
read_plain_kind asked read = grind arith

-- So it is known to fit where no limit is told,
pub fits : {devices : ℕ} {dropped : WhyDropped → Type 0} {core : Core} {asked : Kind} {given : Answer}
    → IsAnswerOf asked given → TellsOut core given → NoLimit given → IsPlainKind asked
    → Fits core devices dropped asked given
fits of tells no_limit plain = grind (arith, no_device_cause, plain_lacks_none)

-- and a call that makes groups with its cause.
pub group_fits : {devices : ℕ} {dropped : WhyDropped → Type 0} (core : Core) (asked : Kind) (given : Answer)
    → IsGroupKind asked → IsAnswerOf asked given → TellsOut core given
    → ((reached : ℕ) → given ≡ answer.Limit reached → reached ≡ max_group) → IsDeviceCause devices dropped given
    → Fits core devices dropped asked given
group_fits core asked given group of tells limit cause = grind arith

-- So it is of an attach.
pub attach_fits : {devices : ℕ} {dropped : WhyDropped → Type 0} {core : Core} {asked : Kind} {given : Answer}
    → asked ≡ kind.Attach → IsAnswerOf kind.Attach given → TellsOut core given
    → ((reached : ℕ) → given ≡ answer.Limit reached → reached ≡ max_group) → IsDeviceCause devices dropped given
    → Fits core devices dropped asked given
attach_fits is of = grind (arith, group_fits)

-- Its cause stands for whoever has come further.
pub device_cause_on : (devices : ℕ) (dropped further : WhyDropped → Type 0) (given : Answer)
    → ((cause : WhyDropped) → dropped cause → further cause) → IsDeviceCause devices dropped given
    → IsDeviceCause devices further given
device_cause_on devices dropped further given on is = grind arith

-- What is listed in a turn is what was listed before, or fits its call.
abbrev pub FitSince : Turns → Turns → Type 0
FitSince before after = (index : ℕ) (entry : Entry) → CallAt after.items index entry
    → CallAt before.items index entry ⊎ FitsSince before after entry

-- So it is where nothing was listed,
pub fit_same : (before after : Turns) → after.items ≡ before.items → FitSince before after
fit_same before after items index entry there = inl (search)

-- or a group alone, which answers no call,
pub fit_group : (before after : Turns) (group : GroupItem) → after.items ≡ before.items ++ Group group ∷ []
    → FitSince before after
fit_group before after group items index entry there = grind (arith, group_apart)

module _ (before after : Turns) (last : Entry)
    (fit : Fits before.state.core before.state.disk.devices (HasDropCause before after) last.kind last.answer)
    (still : IsWithin before.state.core.pool.out after.state.core.pool.out) where
  its : FitsSince before after last
  its = grind (arith, fit, still)

  with_last : (items : List Item) (index : ℕ) (entry : Entry) → CallAt (items ++ CallItem last ∷ []) index entry
      → CallAt items index entry ⊎ FitsSince before after entry
  with_last items index entry there = elim (new_or_before items (CallItem last) index (CallItem entry) there) [
    | inl new ↦ grind (arith, its)
    | inr earlier ↦ inl earlier.1
  ]

  -- where an entry was,
  pub fit_entry : after.items ≡ before.items ++ CallItem last ∷ [] → FitSince before after
  fit_entry items index entry there = grind (arith, with_last)

  -- and where a group was before it.
  pub fit_both : (group : GroupItem) → after.items ≡ (before.items ++ Group group ∷ []) ++ CallItem last ∷ []
      → FitSince before after
  fit_both group items index entry there = grind (arith, with_last, group_apart)
