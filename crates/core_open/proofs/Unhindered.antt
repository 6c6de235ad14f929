-- An opening that nothing hinders, and a look, are refused for want of memory alone.
use Rattle.std.proofs.Common.{◌≡◌, ◌≢◌, inl, inr, ⊎_elim, ℕ, ◌+◌, ◌^◌, ◌<◌, List, Bool, true, false, Result, Ok, Err}
use Rattle.std.proofs.Common.{refl, sym, ◌∙◌, ap, subst, arith}
use Rattle.std.specs.Prelude.{◌≤◌, ◌∷◌, Contains, IfErr}
use Rattle.std.specs.Int.{bit_at}
use Rattle.std.proofs.lemmas.Nat.Bits.{bit_at-lt, same_from_bits}
use Rattle.bank_trait.specs.Disk.{Image, Disk, Lawful}
use Rattle.uberblock_ring.specs.Devices.{has_device, count_of}
use Rattle.uberblock_ring.proofs.DeviceSets.{bit_has}
use Rattle.core_state.specs.Shown.{Shape}
use Rattle.core_state.specs.Choosing.{IsChosen, IsNotPool, IsOutAtOpening}
use Rattle.core_state.specs.Keeps.{Kept, Setting, Keeps}
use Rattle.core_state.specs.Collision.{MightStand}
use Rattle.core_state.specs.Certain.{Knows}
use Rattle.core_state.proofs.Calls.{true_false}
use Rattle.core_state.proofs.Chosen.{chosen_held, chosen_group}
use Rattle.core_state.proofs.Finding.{keeps_know}
use Rattle.core_state.proofs.Fresh.{none_in}
use Rattle.core_state.proofs.Keeping.{knows_keep}
use Rattle.core_state.proofs.Knowing.{present}
use Rattle.core_state.proofs.PoolChosen.{pool_there}
use Rattle.core_open.specs.declared.opening.Opened.{Opened}
use Rattle.core_open.specs.declared.why.OpenWhy.{OpenWhy}
use Rattle.core_open.specs.declared.why.OpenWhy.TheVariants as reason
use Rattle.core_open.specs.Causes.{IsShownChoice, AreOutFor, AreTooMany, IsOpenCause}
use Rattle.core_open.specs.Failing.{HaveFailed}
use Rattle.core_open.specs.Finding.{IsFindCause}
use Rattle.core_open.specs.Holds.{HoldsImage, shape_of}
use Rattle.core_open.specs.Looking.{IsLookForMemory}
use Rattle.core_open.specs.Opens.{IsInSight, IsForMemory}
use Rattle.core_open.proofs.Present.{may_stand, present_held}
use Rattle.core_open.proofs.Written.{none_listed}

-- A set without devices is empty.
pub none_empty : (devices : ℕ) → ((device : ℕ) → has_device devices device ≡ true → ⊥) → devices ≡ 0
none_empty devices none = same_from_bits devices 0 (λ device.
    let not_one : bit_at devices device ≢ 1 = λ one. none device (bit_has devices device one) in
    let not_there : bit_at 0 device ≢ 1 = λ one. true_false (sym (bit_has 0 device one) ∙ none_in device) in
    omega (arith, bit_at-lt devices device, bit_at-lt 0 device, not_one, not_there))

-- Whether a refusal is for the number of a group.
abbrev is_limit : OpenWhy → Bool
is_limit reason.NotPool = false
is_limit (reason.TooManyFailed out) = false
is_limit (reason.Limit group) = true
is_limit reason.NoMemory = false

-- One for anything else names no group.
pub limit_apart : (why : OpenWhy) → is_limit why ≡ false → (group : ℕ) → why ≢ reason.Limit group
limit_apart why other group is = true_false (sym (ap is_limit is) ∙ other)

module _ (setting : Setting) (first : Kept) (later : List Kept) (old new : Disk) (lawful : Lawful old)
    (free : IsInSight setting first later old new) where
  abbrev image : Image
  image = present old

  holds : HoldsImage old image
  holds = present_held old free.may.tells

  stands : MightStand setting.shape old old.clock image
  stands = may_stand setting first later old free.may lawful

  knows : Knows setting first later old
  knows = keeps_know setting first later old lawful stands free.may.keeps

  keeps : Keeps setting first later image
  keeps = knows_keep setting first later old knows image stands

  none_failed : (devices : ℕ) → HaveFailed old new devices → (device : ℕ) → has_device devices device ≡ true → ⊥
  none_failed devices failed device has = free.works device (failed device has).1

  -- There is a pool.
  is_pool : IsNotPool setting.shape 0 image → ⊥
  is_pool none = pool_there setting first later image keeps 0
      (λ device below gone. absurd (true_false (sym gone ∙ none_in device)))
      (λ chosen. none.none setting.pool keeps.there.device keeps.there.shown.0 first.entries chosen
      (none_in keeps.there.device) keeps.there.shown.2)

  -- A group can be numbered two more than the chosen one.
  is_within : ((kept : Kept) → Contains (first ∷ later) kept → kept.uber.group + 2 ≤ 2 ^ 62)
      → (shown : IsShownChoice old new image) → 2 ^ 62 < shown.choice.uber.group + 2 → ⊥
  is_within limits shown high =
      let choice = shown.choice in
      let chosen = subst (λ (s : Shape). IsChosen s shown.silent image choice.device choice.uber choice.entries)
      (sym free.may.shape) choice.chosen in
      let within : (device : ℕ) → device < first.uber.reflow.to → has_device shown.silent device ≡ true
      → has_device setting.failed device ≡ true =
      λ device below gone. absurd (none_failed shown.silent shown.failed device gone) in
      let held = (chosen_held setting first later old knows stands shown.silent within (free.may.no_other.pages image holds)
      choice.device choice.uber choice.entries chosen).0 in
      let group : choice.uber.group ≡ held.kept.uber.group =
      chosen_group setting first later old knows stands shown.silent within (free.may.no_other.pages image holds)
      choice.device choice.uber choice.entries chosen in
      let limit = limits held.kept held.listed in
      omega (arith, high, group, limit)

  silent_none : (shown : IsShownChoice old new image) → shown.silent ≡ 0
  silent_none shown = none_empty shown.silent (none_failed shown.silent shown.failed)

  -- No device is out.
  none_out : (listed : ℕ) → AreTooMany old new image listed → (device : ℕ) → has_device listed device ≡ true → ⊥
  none_out listed many device has = by many.shown many.each
    where
      by : (shown : IsShownChoice old new image) → AreOutFor old new shown.choice listed → ⊥
      by shown each = ⊎_elim
          (λ out. free.in_use image shown.choice.device shown.choice.uber shown.choice.entries device holds
          (subst (λ (n : ℕ). IsChosen (shape_of old) n image shown.choice.device shown.choice.uber
          shown.choice.entries) (silent_none shown) shown.choice.chosen)
          (subst (λ (n : ℕ). IsOutAtOpening (shape_of old) n image shown.choice.uber device) (silent_none shown) out))
          (λ rose. free.works device rose)
          (each device has)

  is_few : (listed : ℕ) → AreTooMany old new image listed → ⊥
  is_few listed many =
      let more = many.many in
      let none = none_listed 0 in
      let counted : count_of listed ≡ count_of 0 = ap count_of (none_empty listed (none_out listed many)) in
      omega (arith, more, none, counted)

  for_memory : (why : OpenWhy) → ((group : ℕ) → why ≢ reason.Limit group) → IsOpenCause old new why
      → why ≡ reason.NoMemory
  for_memory reason.NotPool unlimited cause = absurd (is_pool
      (subst (λ (s : Shape). IsNotPool s 0 image) (sym free.may.shape) (cause image holds)))
  for_memory (reason.TooManyFailed out) unlimited (inl found) =
      absurd (found.0 (none_empty out (none_failed out found.1)))
  for_memory (reason.TooManyFailed out) unlimited (inr many) = absurd (is_few out (many image holds))
  for_memory (reason.Limit group) unlimited cause = absurd (unlimited group refl)
  for_memory reason.NoMemory unlimited cause = refl

  -- None of the groups is too near the greatest number.
  not_limited : ((kept : Kept) → Contains (first ∷ later) kept → kept.uber.group + 2 ≤ 2 ^ 62)
      → (why : OpenWhy) → IsOpenCause old new why → (group : ℕ) → why ≢ reason.Limit group
  not_limited limits reason.NotPool cause group is = limit_apart _ refl group is
  not_limited limits (reason.TooManyFailed out) cause group is = limit_apart _ refl group is
  not_limited limits (reason.Limit number) cause group is =
      is_within limits (cause image holds).0 (cause image holds).1
  not_limited limits reason.NoMemory cause group is = limit_apart _ refl group is

-- Whatever the cause of a refusal is, it is not that where nothing hinders.
pub caused : (old new : Disk) (why : OpenWhy) → Lawful old → IsOpenCause old new why → IsForMemory old new why
caused old new why lawful cause setting first later free =
    let sight : IsInSight setting first later old new = record { may = free.may; works = free.works; in_use = free.in_use } in
    for_memory setting first later old new lawful sight why
    (not_limited setting first later old new lawful sight free.limit why cause) cause

-- The same of a look, which is refused for the number of no group.
pub look_caused : (old new : Disk) (why : OpenWhy) → Lawful old → ((group : ℕ) → why ≢ reason.Limit group)
    → IsOpenCause old new why
    → IsLookForMemory old new why
look_caused old new why lawful unlimited cause setting first later sight =
    for_memory setting first later old new lawful sight why unlimited cause

-- The same where nothing was found.
pub find_caused : (old new : Disk) (why : OpenWhy) → IsFindCause old new why → IsOpenCause old new why
find_caused old new reason.NotPool cause = cause
find_caused old new (reason.TooManyFailed out) cause = inl cause
find_caused old new (reason.Limit group) cause = absurd cause
find_caused old new reason.NoMemory cause = tt

pub find_memory : (result : Result Opened OpenWhy) (old new : Disk) → Lawful old
    → IfErr result (IsFindCause old new)
    → IfErr result (IsForMemory old new)
find_memory (Ok opened) old new lawful cause = tt
find_memory (Err why) old new lawful cause = caused old new why lawful (find_caused old new why cause)
