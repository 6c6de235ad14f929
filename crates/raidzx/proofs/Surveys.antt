-- What a survey says of the pool is what is found after the rings were read.
use Rattle.std.proofs.Common.{◌≡◌, ℕ, ◌<◌, Bool, sym, ◌∙◌, ap, subst, inl, inr}
use Rattle.bank_trait.specs.Disk.{Disk, Image, Unchanged}
use Rattle.uberblock_ring.specs.Devices.{count_of}
use Rattle.core_state.specs.Shown.{Shape}
use Rattle.core_open.specs.declared.finding.Found.{Found}
use Rattle.core_open.specs.declared.why.OpenWhy.{OpenWhy}
use Rattle.core_open.specs.declared.why.OpenWhy.TheVariants.{NoMemory}
use Rattle.core_open.specs.Failing.{HaveFailed}
use Rattle.core_open.specs.Finding.{IsFindCause, IsFoundIn}
use Rattle.core_open.specs.Holds.{HoldsImage, shape_of}
use Rattle.core_open.proofs.Unchanged.{holds_then, shape_then}
use Rattle.raidzx.specs.declared.door.Pool.{Pool}
use Rattle.raidzx.specs.declared.door.Pool.TheVariants.{Chosen, Likely, Untold}
use Rattle.raidzx.specs.declared.door.Survey.{Survey}
use Rattle.raidzx.specs.declared.standing.Known.{Known}
use Rattle.raidzx.specs.declared.sightings.Sightings.{Sightings}
use Rattle.raidzx.specs.Seeing.{AreSeen}
use Rattle.raidzx.specs.Surveyed.{FindsNone, FindsPool, IsPoolOf, ToldAsNone}
use Rattle.raidzx.proofs.Listed.{failed_before, none_before}
use Rattle.raidzx.proofs.Seeing.{seen_still}

-- what is known of a pool, or this where it is not told
known_in : Known → Pool → Known
known_in other (Chosen known) = known
known_in other (Likely known) = known
known_in other Untold = other

-- What was made of the pool that was found is all that is told as chosen.
pub made_chosen : (found : Found) (named : ℕ) (survey : Survey) (made known : Known) → survey.pool ≡ Chosen made
    → IsPoolOf found named survey made → survey.pool ≡ Chosen known → IsPoolOf found named survey known
unfolding known_in
made_chosen found named survey made known is all told =
    subst (λ (one : Known). IsPoolOf found named survey one) (ap (known_in made) (sym is ∙ told)) all

module _ (old mid new : Disk) (same : Unchanged old mid) (survey : Survey) where
  found_then : (found : Found) (image : Image) → HoldsImage old image
      → ((held : Image) → HoldsImage mid held → IsFoundIn (shape_of mid) held found)
      → IsFoundIn (shape_of old) image found
  found_then found image holds chosen = subst (λ (shape : Shape). IsFoundIn shape image found)
      (shape_then same) (chosen image (holds_then same holds))

  -- The pool that is told as chosen is the one that was found,
  pub chosen_found : (found : Found) (named : ℕ) → named ≡ old.devices
      → ((known : Known) → survey.pool ≡ Chosen known → IsPoolOf found named survey known)
      → HaveFailed mid new found.silent
      → ((held : Image) → HoldsImage mid held → IsFoundIn (shape_of mid) held found)
      → FindsPool old new survey
  chosen_found found named all is failed chosen = λ known told. record {
    found = found;
    is = subst (λ (devices : ℕ). IsPoolOf found devices survey known) all (is known told);
    silent = failed_before old mid new same found.silent failed;
    chosen = λ image holds. found_then found image holds chosen;
  }

  -- one that was found and is told as none has too many devices out,
  pub none_chosen : (asks_all : Bool) (found : Found)
      → (ToldAsNone survey.pool → found.uber.parity < count_of found.out)
      → HaveFailed mid new found.silent
      → ((held : Image) → HoldsImage mid held → IsFoundIn (shape_of mid) held found)
      → FindsNone old new asks_all survey
  none_chosen asks_all found many failed chosen = λ told. inr (λ image holds. inr (record {
    found = found;
    silent = failed_before old mid new same found.silent failed;
    chosen = found_then found image holds chosen;
    many = many told;
  }))

  -- or none was found.
  pub none_found : (asks_all : Bool) (why : OpenWhy) → (why ≡ NoMemory → ⊥) → IsFindCause mid new why
      → FindsNone old new asks_all survey
  none_found asks_all why memory cause = λ told. inr (λ image holds.
      inl (none_before old mid new same image why holds memory cause))

-- What was seen is what a survey tells, which was made after more reads.
pub seen_then : (old mid new : Disk) → Unchanged mid new → (sightings : Sightings) → AreSeen old mid sightings
    → (survey : Survey) → survey.sightings ≡ sightings → AreSeen old new survey.sightings
seen_then old mid new same sightings seen survey is =
    subst (λ (told : Sightings). AreSeen old new told) (sym is) (seen_still old mid new sightings same seen)
