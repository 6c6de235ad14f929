-- What the next run or replay reads back of one that was stopped.
use Rattle.std.proofs.Common.{inl, inr}
use Rattle.std.specs.Prelude.{◌≡◌, ◌⊎◌, ℕ, ◌+◌, ◌≤◌, List, ◌∷◌, ◌++◌, length, Contains, ⊤}
use Rattle.bank_trait.specs.Disk.{Image, Disk, Unchanged}
use Rattle.bank_trait.specs.Regions.{Tells}
use Rattle.uberblock_ring.specs.Devices.{IsWithin}
use Rattle.core_state.specs.declared.item.Item.{Item}
use Rattle.core_state.specs.Map.{Map, PutBytes}
use Rattle.core_state.specs.Journal.{Calls, IsLegalJournal}
use Rattle.core_state.specs.Keeps.{Kept, Setting, ReachesNoFurther}
use Rattle.core_state.specs.Moment.{Groups}
use Rattle.core_state.specs.Collision.{MightStand, HasNoOtherPage}
use Rattle.core_open.specs.Adding.{MayBeAdded, setting_on}
use Rattle.core_open.specs.Holds.{HoldsNoOther, shape_of}
use Rattle.core_open.specs.Opens.{AddsOne, IsWithinBelow}
use Rattle.client_script.specs.Script.{Script, asked_by, handed_by}
use Rattle.core_open.specs.Opening.{CutsOpening, MayBegin}
use Rattle.core_open.specs.Stopped.{IsImageOf, HoldsAlone}
use Rattle.journal_law.specs.Moments.{KeepsLast, KeepsUntil}
use Rattle.schedule.specs.Moments.{KeepsTurnByTurn}
use Rattle.schedule.specs.Recorded.{NoneIsDamaged}
use Rattle.schedule.specs.WholeRun.{HasRun}

-- A crash at this moment might have left the image on the bank, and no uberblock in it is valid by chance.
pub record IsLeft (setting : Setting) (disk : Disk) (moment : ℕ) (image : Image) : Type 0 where
  pub might : MightStand setting.shape disk moment image
  pub only : IsImageOf setting.shape image

-- The bank has the setting's shape and holds the image alone, and no page in that is by chance one of these
-- groups'.
pub record IsLeftOn (setting : Setting) (groups : List Kept) (image : Image) (disk : Disk) : Type 0 where
  pub shape : setting.shape ≡ shape_of disk
  pub alone : HoldsAlone disk image
  pub pages : HasNoOtherPage setting groups image

-- The bank tells what it holds, and no uberblock or page in that is another's by chance.
pub record IsToldOn (setting : Setting) (groups : List Kept) (disk : Disk) : Type 0 where
  pub tells : Tells disk
  pub no_other : HoldsNoOther setting groups disk

-- A run that may begin on the bank may begin on one that begins with its devices, and has further ones or more sectors.
abbrev pub MayAdd : Disk → Type 0
MayAdd disk = (setting : Setting) (first : Kept) (later : List Kept) (wider : Disk)
    → MayBegin setting first later disk → MayBeAdded setting (first ∷ later) disk wider
    → MayBegin (setting_on setting wider) first later wider

-- The bank keeps some of these groups, with which a pool may be opened.
pub record MayBeginAmong (setting : Setting) (groups : List Kept) (disk : Disk) : Type 0 where
  pub first : Kept
  pub later : List Kept
  pub among : (kept : Kept) → Contains (first ∷ later) kept → Contains groups kept
  pub may : MayBegin setting first later disk

-- The journal goes on from one of these groups: it is legal for its script from that group's map on, and no read is
-- told as damaged.
pub record ReadsBack (groups : List Kept) (script : Script) (items : List Item) : Type 0 where
  pub chosen : Kept
  pub known : Contains groups chosen
  pub legal : IsLegalJournal (asked_by script) (handed_by script) chosen.map items
  pub sound : NoneIsDamaged items

-- A bank that holds the image alone may be opened with some of these groups, and each script that is carried out on
-- it reads back one of them, where the silent devices of the pool, which reached so far when the image was left and no
-- further than one of the groups, and those that have to be borne may fail.
pub record IsReadBack (setting : Setting) (groups : List Kept) (image : Image) : Type 0 where
  pub reach : ℕ
  pub no_further : ReachesNoFurther groups reach
  pub opened : (disk : Disk) → IsLeftOn setting groups image disk
      → MayBeginAmong (record setting { reach = reach }) groups disk
  pub each : (script : Script) (old new : Disk) (items : List Item) (out : ℕ) → (run : HasRun script old new items out)
      → IsLeftOn setting groups image old → IsWithinBelow reach run.silent setting.failed
      → IsWithin run.borne setting.failed → ReadsBack groups script items

-- what is kept from one item of a journal to the next: the last group listed, and at most one begun after it
abbrev pub last_groups : {setting : Setting} → {calls : Calls} → {handed : PutBytes} → {opening : Map}
    → {known : List Kept} → {items : List Item} → {now next : Disk}
    → KeepsUntil setting calls handed opening known items now next → List Kept
last_groups until = until.kept.last ∷ until.onward

-- What a stop leaves at any moment is read back as one of the run's groups: those known before, the journal's, and at
-- most one that was begun and not answered.
pub record SurvivesAnyStop (setting : Setting) (known : List Kept) (script : Script) (opening : Map) (old new : Disk)
    (items : List Item) : Type 0 where
  pub groups : Groups (asked_by script) (handed_by script) opening known items
  pub any_moment : (moment : ℕ) (image : Image) → old.clock ≤ moment → moment ≤ new.clock
      → IsLeft setting new moment image
      → IsReadBack setting (known ++ groups.answered ++ groups.begun) image

-- Once an item was listed, by the turn that left its bank, that is the last group listed by then, or one begun after
-- it.
pub record SurvivesByTurn (setting : Setting) (known : List Kept) (script : Script) (opening : Map) (old new : Disk)
    (items : List Item) (banks : ℕ → Disk) : Type 0 where
  pub no_older : KeepsTurnByTurn setting (asked_by script) (handed_by script) opening known items
      (record { origin = old; banks = banks }) new
  pub by_then : (count : ℕ) (some : 1 ≤ count) (all : count ≤ length items) (moment : ℕ) (image : Image)
      → (banks count).clock ≤ moment → moment ≤ (banks (count + 1)).clock
      → IsLeft setting (banks (count + 1)) moment image
      → IsReadBack setting (last_groups (no_older.each count some all)) image

-- At the end it is the journal's last group, or one begun after it. With these a run may begin at once on the bank that
-- is given back, without a stop between.
pub record SurvivesItsEnd (setting : Setting) (script : Script) (opening : Map) (new : Disk) (items : List Item)
    : Type 0 where
  pub kept : KeepsLast setting (asked_by script) (handed_by script) opening items new
  pub at_end : (image : Image) → IsLeft setting new new.clock image
      → IsReadBack setting (kept.last ∷ kept.begun) image
  pub goes_on : IsToldOn (record setting { reach = kept.reach }) (kept.last ∷ kept.begun) new
      → MayBegin (record setting { reach = kept.reach }) kept.last kept.begun new

-- A stop of a script that was carried out loses no group that was answered, at any moment of it.
pub record SurvivesStops (setting : Setting) (first : Kept) (later : List Kept) (script : Script) (old new : Disk)
    (items : List Item) (banks : ℕ → Disk) : Type 0 where
  pub opening : Map
  pub legal : IsLegalJournal (asked_by script) (handed_by script) opening items
  pub ever : SurvivesAnyStop setting (first ∷ later) script opening old new items
  pub by_turn : SurvivesByTurn setting (first ∷ later) script opening old new items banks
  pub finally : SurvivesItsEnd setting script opening new items

-- The silent devices of so many of the pool may fail, and those that have to be borne, where an opening was cut short.
abbrev pub BearsCut : Setting → ℕ → {old new : Disk} → Unchanged old new ⊎ CutsOpening old new → Type 0
BearsCut setting width (inl same) = ⊤
BearsCut setting width (inr cuts) = IsWithinBelow width cuts.silent setting.failed × IsWithin cuts.borne setting.failed

-- A stop of a call that opened no pool loses nothing either. What it leaves at any moment is read back as one of the
-- groups kept before, or as one that was begun in place of one of these. A run may begin with these at once on the bank
-- that is given back.
pub record SurvivesOpening (setting : Setting) (first : Kept) (later : List Kept) (old new : Disk) : Type 0 where
  pub joined : List Kept
  pub adds : AddsOne (first ∷ later) joined
  pub any_moment : (moment : ℕ) (image : Image) → old.clock ≤ moment → moment ≤ new.clock
      → IsLeft setting new moment image
      → IsReadBack setting ((first ∷ later) ++ joined) image
  pub reach : ℕ
  pub no_further : ReachesNoFurther ((first ∷ later) ++ joined) reach
  pub goes_on : IsToldOn setting ((first ∷ later) ++ joined) new
      → MayBeginAmong (record setting { reach = reach }) ((first ∷ later) ++ joined) new
