-- The first device that gives an index page, seen before and after some reads.
use Rattle.std.proofs.Common.{◌≡◌, ◌≢◌, ⊎_elim, ℕ, ◌<◌, ◌≤◌, List, true, false, sym, ◌∙◌, subst, arith, eq-eqb, ne_eqb}
use Rattle.std.proofs.lemmas.Bool.{cases_Bool, cases_eq, true≢false}
use Rattle.std.specs.Prelude.{◌==◌}
use Rattle.bank_trait.specs.Disk.{Disk, Unchanged}
use Rattle.block_record.specs.declared.entry.IndexEntry.{IndexEntry}
use Rattle.uberblock_ring.specs.Devices.{has_device}
use Rattle.uberblock_ring.specs.Uberblock.{Uber}
use Rattle.core_state.specs.Index.{IsFitting}
use Rattle.core_state.specs.Shown.{Shape, Gives}
use Rattle.core_open.specs.declared.ring_uber.RingUber.{RingUber}
use Rattle.core_open.specs.Candidates.{FirstIsGiven}
use Rattle.core_open.specs.Lacking.{GivesOrLacks, IsFirstGiver}
use Rattle.core_open.specs.Pages.{IsGivenPage}
use Rattle.core_open.proofs.Asking.{AreAsked}
use Rattle.core_open.proofs.Lacking.{given_before, lacked_before}
use Rattle.core_open.proofs.Unchanged.{held_before, shape_then}

-- A device that gave an index which fits is the first: those before it gave none that fits.
pub first_giver : (silent device : ℕ) (uber : Uber) (old mid : Disk) (entries : List IndexEntry)
    → AreAsked silent device uber old mid → IsFitting uber entries
    → IsGivenPage mid uber device entries
    → IsFirstGiver old silent uber entries device
first_giver silent device uber old mid entries asked fitting given = record {
  gives = given_before old mid uber device entries asked.unchanged given;
  before = λ other low used works. record {
    none = λ image holds gives.
        (asked.none image holds).none other entries low works gives fitting;
  };
}

-- What it gives it gave before some reads,
pub giver_before : (old mid : Disk) (silent : ℕ) (uber : Uber) (entries : List IndexEntry) (giver : ℕ)
    → Unchanged old mid → IsFirstGiver mid silent uber entries giver
    → IsFirstGiver old silent uber entries giver
giver_before old mid silent uber entries giver same first = record {
  gives = given_before old mid uber giver entries same first.gives;
  before = λ device low used works. lacked_before old mid uber device entries same (first.before device low used works);
}

-- and gives after them.
pub giver_after : (old mid : Disk) (silent : ℕ) (uber : Uber) (entries : List IndexEntry) (giver : ℕ)
    → Unchanged old mid → IsFirstGiver old silent uber entries giver
    → IsFirstGiver mid silent uber entries giver
giver_after old mid silent uber entries giver same first = record {
  gives = record {
    index = first.gives.index;
    counted = first.gives.counted;
    parts = λ part bytes low is. first.gives.parts part bytes low (sym (same.reads giver _) ∙ is);
    each = λ image holds. subst (λ (shape : Shape). Gives shape image uber entries giver)
        (sym (shape_then same)) (first.gives.each image (held_before same holds));
  };
  before = λ device low used works. record {
    none = λ image holds gives. (first.before device low used works).none image (held_before same holds)
        (subst (λ (shape : Shape). Gives shape image uber entries device) (shape_then same) gives);
  };
}

-- It is the first of those that aren't out too, where the silent ones are out.
pub giver_outs : (disk : Disk) (silent out : ℕ) (uber : Uber) (entries : List IndexEntry) (giver : ℕ)
    → ((device : ℕ) → device < uber.reflow.to → has_device silent device ≡ true
    → has_device out device ≡ true)
    → IsFirstGiver disk silent uber entries giver → IsFirstGiver disk out uber entries giver
giver_outs disk silent out uber entries giver gone first = record {
  gives = first.gives;
  before = λ device low below used. first.before device low below (⊎_elim
      (λ quiet. absurd (true≢false (sym (gone device below quiet) ∙ used)))
      (λ works. works)
      (cases_Bool (has_device silent device)));
}

-- Up to the giver nothing has to be read again.
pub asked_first : (disk : Disk) (out : ℕ) (uber : Uber) (entries : List IndexEntry) (giver device : ℕ)
    → IsFirstGiver disk out uber entries giver → device < uber.reflow.to
    → has_device out device ≡ false → device ≤ giver
    → GivesOrLacks disk uber device entries (device == giver)
asked_first disk out uber entries giver device first below used low = ⊎_elim
    (λ (same : device ≡ giver). subst (GivesOrLacks disk uber device entries) (sym (eq-eqb device giver same))
    (subst (λ (d : ℕ). IsGivenPage disk uber d entries) (sym same) first.gives))
    (λ (apart : device ≢ giver). subst (GivesOrLacks disk uber device entries) (sym (ne_eqb device giver apart))
    (first.before device (omega (arith, low, apart)) below used))
    (cases_eq device giver)

-- The same of the first uberblock.
pub first_given_before : (old mid : Disk) (silent : ℕ) (ubers : List RingUber) (entries : List IndexEntry)
    (giver : ℕ) → Unchanged old mid → FirstIsGiven mid silent ubers entries giver
    → FirstIsGiven old silent ubers entries giver
first_given_before old mid silent ubers entries giver same given =
    λ first is. giver_before old mid silent first.uber entries giver same (given first is)

pub first_given_after : (old mid : Disk) (silent : ℕ) (ubers : List RingUber) (entries : List IndexEntry)
    (giver : ℕ) → Unchanged old mid → FirstIsGiven old silent ubers entries giver
    → FirstIsGiven mid silent ubers entries giver
first_given_after old mid silent ubers entries giver same given =
    λ first is. giver_after old mid silent first.uber entries giver same (given first is)
