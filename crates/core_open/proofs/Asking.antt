-- Asking the devices for the index of an uberblock.
use Rattle.std.proofs.Common.{◌≡◌, ⊎_elim, ℕ, ◌+◌, ◌<◌, ◌≤◌, List, None, Some, true, false, sym, ◌∙◌, subst, arith}
use Rattle.std.specs.Prelude.{min}
use Rattle.std.proofs.lemmas.Bool.{cases_lt, false≢true}
use Rattle.bank_trait.specs.Disk.{Image, Disk, Unchanged}
use Rattle.block_record.specs.declared.entry.IndexEntry.{IndexEntry}
use Rattle.block_record.proofs.Pages.{page_same}
use Rattle.uberblock_ring.specs.Devices.{has_device}
use Rattle.uberblock_ring.specs.Uberblock.{Uber}
use Rattle.core_state.specs.Index.{IsFitting}
use Rattle.core_state.specs.Shown.{Shape, Gives}
use Rattle.core_open.specs.declared.candidates.GivenIndex.{GivenIndex}
use Rattle.core_open.specs.Candidates.{IsGivenIndex, IsIndexChoice}
use Rattle.core_open.specs.Holds.{HoldsImage, shape_of}
use Rattle.core_open.proofs.Unchanged.{holds_then, shape_then, unchanged_none, unchanged_then}

-- A device gives one index.
pub given_once : (shape : Shape) (image : Image) (uber : Uber) (device : ℕ) (one other : List IndexEntry)
    → Gives shape image uber one device → Gives shape image uber other device
    → one ≡ other
given_once shape image uber device one other gives also = page_same _ _ one other gives.page also.page

-- No device below this one that isn't silent gives an index that fits.
pub record NoneGive (shape : Shape) (silent : ℕ) (image : Image) (uber : Uber) (device : ℕ) : Type 0 where
  pub none : (giver : ℕ) (entries : List IndexEntry) → giver < device → has_device silent giver ≡ false
      → Gives shape image uber entries giver → IsFitting uber entries
      → ⊥

-- So it is for the devices that were asked so far, and the data rows are on the devices.
pub record AreAsked (silent device : ℕ) (uber : Uber) (old new : Disk) : Type 0 where
  pub unchanged : Unchanged old new
  pub room : 192 + uber.reflow.rows ≤ old.sectors
  pub none : (image : Image) → HoldsImage old image → NoneGive (shape_of old) silent image uber device

-- None was asked yet.
pub asked_none : (silent : ℕ) (uber : Uber) (disk : Disk) → 192 + uber.reflow.rows ≤ disk.sectors
    → AreAsked silent 0 uber disk disk
asked_none silent uber disk room = record {
  unchanged = unchanged_none disk;
  room = room;
  none = λ image holds. record { none = λ giver entries low. absurd (omega (arith, low)) };
}

module _ (silent device : ℕ) (uber : Uber) (old mid : Disk) (so_far : AreAsked silent device uber old mid) where
  -- A silent device is passed over,
  pub asked_past : has_device silent device ≡ true → AreAsked silent (device + 1) uber old mid
  asked_past quiet = record {
    unchanged = so_far.unchanged;
    room = so_far.room;
    none = λ image holds. record {
      none = λ giver entries low works gives fitting. ⊎_elim
          (λ (less : giver < device). (so_far.none image holds).none giver entries less works gives fitting)
          (λ (above : device ≤ giver). let here : giver ≡ device = omega (arith, low, above) in
          absurd (false≢true (sym works ∙ subst (λ d. has_device silent d ≡ true) (sym here) quiet)))
          (cases_lt giver device);
    };
  }

  -- and one that was asked gave none that fits,
  pub asked_more : (new : Disk) → Unchanged mid new
      → ((image : Image) → HoldsImage mid image → IsGivenIndex (shape_of mid) image uber device None)
      → AreAsked silent (device + 1) uber old new
  asked_more new same gave = record {
    unchanged = unchanged_then so_far.unchanged same;
    room = so_far.room;
    none = λ image holds. record {
      none = λ giver entries low works gives fitting. ⊎_elim
          (λ (less : giver < device). (so_far.none image holds).none giver entries less works gives fitting)
          (λ (above : device ≤ giver). let here : giver ≡ device = omega (arith, low, above) in
          gave image (holds_then so_far.unchanged holds) entries
          (subst (λ d. Gives (shape_of mid) image uber entries d) here
          (subst (λ (shape : Shape). Gives shape image uber entries giver) (sym (shape_then so_far.unchanged)) gives)) fitting)
          (cases_lt giver device);
    };
  }

  -- or this one.
  pub index_given : (index : GivenIndex) → has_device silent device ≡ false → IsFitting uber index.entries.items
      → ((image : Image) → HoldsImage mid image
      → IsGivenIndex (shape_of mid) image uber device (Some index.entries))
      → (image : Image) → HoldsImage old image
      → IsIndexChoice (shape_of old) silent image uber (Some index)
  index_given index works fitting gave image holds = record {
    room = so_far.room;
    giver = device;
    giver_reads = works;
    gives = subst (λ (shape : Shape). Gives shape image uber index.entries.items device) (shape_then so_far.unchanged)
        (gave image (holds_then so_far.unchanged holds));
    fitting = fitting;
  }

-- All were asked.
pub none_given : (silent device : ℕ) (uber : Uber) (old new : Disk) → AreAsked silent device uber old new
    → min old.devices 16 ≤ device → (image : Image) → HoldsImage old image
    → IsIndexChoice (shape_of old) silent image uber None
none_given silent device uber old new asked whole image holds entries has =
    (asked.none image holds).none has.giver entries (omega (arith, whole, has.gives.device_in)) has.giver_reads has.gives
    has.fitting

-- There is no room for the data rows.
pub no_room : (shape : Shape) (silent : ℕ) (image : Image) (uber : Uber) → shape.sectors < 192 + uber.reflow.rows
    → IsIndexChoice shape silent image uber None
no_room shape silent image uber small entries has = omega (arith, small, has.room)
