-- What the reading of the rings and the choice after it say of the bank as it was found.
use Rattle.std.proofs.Common.{◌≡◌, ⊎_elim, ℕ, List, false, sym, ◌∙◌, subst}
use Rattle.std.proofs.lemmas.Bool.{cases_Bool, false≢true}
use Rattle.bank_trait.specs.Disk.{Image, Disk, Unchanged}
use Rattle.block_record.specs.declared.entry.IndexEntry.{IndexEntry}
use Rattle.uberblock_ring.specs.Devices.{has_device, IsWithin}
use Rattle.core_state.specs.Shown.{Shape, read_devices}
use Rattle.core_state.specs.Choosing.{IsNotPool}
use Rattle.core_open.specs.declared.ring_uber.RingUber.{RingUber}
use Rattle.core_open.specs.declared.why.OpenWhy.{OpenWhy}
use Rattle.core_open.specs.declared.why.OpenWhy.TheVariants.{NotPool, TooManyFailed, Limit, NoMemory}
use Rattle.core_open.specs.Candidates.{AreChosen}
use Rattle.core_open.specs.RingUbers.{AreShown}
use Rattle.core_open.specs.Failing.{HaveFailed}
use Rattle.core_open.specs.Finding.{IsFindCause, IsNothingFound}
use Rattle.core_open.specs.Holds.{HoldsImage, shape_of}
use Rattle.core_open.proofs.Unchanged.{holds_then, shape_then}

-- With more devices silent all is listed that the others show.
pub shown_within : (shape : Shape) (before after : ℕ) (image : Image) (devices : ℕ) (ubers : List RingUber)
    → IsWithin before after → AreShown shape before image devices ubers
    → AreShown shape after image devices ubers
shown_within shape before after image devices ubers within shown = record {
  each = shown.each;
  every = λ device uber low works shows. shown.every device uber low (still device works) shows;
}
  where
    still : (device : ℕ) → has_device after device ≡ false → has_device before device ≡ false
    still device works = ⊎_elim
        (λ quiet. absurd (false≢true (sym works ∙ within device quiet)))
        (λ open_device. open_device)
        (cases_Bool (has_device before device))

module _ (old mid : Disk) (same : Unchanged old mid) (before after : ℕ) (within : IsWithin before after)
    (ubers : List RingUber)
    (shown : (image : Image) → HoldsImage old image
    → AreShown (shape_of old) before image (read_devices (shape_of old)) ubers) where
  pub shown_after : (now : List RingUber) → now ≡ ubers → (image : Image) → HoldsImage old image
      → AreShown (shape_of old) after image (read_devices (shape_of old)) now
  shown_after now is image holds = subst
      (λ (list : List RingUber). AreShown (shape_of old) after image (read_devices (shape_of old)) list) (sym is)
      (shown_within (shape_of old) before after image (read_devices (shape_of old)) ubers within (shown image holds))

  pub chosen_after : (candidates : List RingUber) (entries : List IndexEntry)
      → ((image : Image) → HoldsImage mid image
      → AreShown (shape_of mid) after image (read_devices (shape_of mid)) ubers
      → AreChosen (shape_of mid) after image candidates entries)
      → (image : Image) → HoldsImage old image
      → AreChosen (shape_of old) after image candidates entries
  chosen_after candidates entries chosen image holds =
      subst (λ (shape : Shape). AreChosen shape after image candidates entries) (shape_then same)
      (chosen image (holds_then same holds)
      (subst (λ (shape : Shape). AreShown shape after image (read_devices shape) ubers) (sym (shape_then same))
      (shown_within (shape_of old) before after image (read_devices (shape_of old)) ubers within (shown image holds))))

-- Nothing was found: why.
pub find_cause : (old new : Disk) (silent : ℕ) (why : OpenWhy) → IsNothingFound silent why → HaveFailed old new silent
    → ((image : Image) → HoldsImage old image → IsNotPool (shape_of old) silent image)
    → IsFindCause old new why
find_cause old new silent NotPool none failed nothing = λ image holds.
    subst (λ devices. IsNotPool (shape_of old) devices image) none (nothing image holds)
find_cause old new silent (TooManyFailed out) some failed nothing = (
  (λ none. some.1 (sym some.0 ∙ none)),
  subst (λ devices. HaveFailed old new devices) (sym some.0) failed,
  λ image holds. subst (λ devices. IsNotPool (shape_of old) devices image) (sym some.0) (nothing image holds),
)
find_cause old new silent (Limit group) never failed nothing = never
find_cause old new silent NoMemory never failed nothing = absurd never
