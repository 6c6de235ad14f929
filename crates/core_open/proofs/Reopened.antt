-- A bank that holds what a stop left may be opened again.
use Rattle.std.proofs.Common.{◌≡◌, ℕ, ◌<◌, List, ◌∷◌, Option, Some, refl, sym, ◌∙◌, ap, subst, arith}
use Rattle.std.specs.Prelude.{Contains, IsSome}
use Rattle.bank_trait.specs.Disk.{Image, Disk}
use Rattle.bank_trait.specs.Regions.{Tells}
use Rattle.reconstruct.specs.Lost.{AreBytes}
use Rattle.std.proofs.lemmas.Bool.Decides.{nat_tests}
use Rattle.uberblock_ring.specs.Uberblock.{slot_of}
use Rattle.core_state.specs.Shown.{Shape}
use Rattle.core_state.specs.Keeps.{HaveParity, Kept, NoneExcepted, Setting, Keeps}
use Rattle.core_state.specs.Collision.{BankKeeps, HasNoOtherPage, HasNoOtherUber}
use Rattle.core_open.specs.Holds.{HoldsImage, shape_of}
use Rattle.core_open.specs.Opening.{MayBegin}
use Rattle.core_open.specs.Stopped.{SameOn, IsImageOf, HoldsAlone}
use Rattle.core_open.proofs.Framing.{same_back, keeps_same, pages_same}

-- A bank that holds an image tells what it holds.
alone_tells : (disk : Disk) (image : Image) → HoldsAlone disk image → Tells disk
alone_tells disk image alone = λ device device_sector inside below.
    subst (λ (o : Option (List ℕ)). IsSome o) (sym (alone.holds.each device device_sector inside below)) refl

-- Two images that a bank holds are the same on its sectors.
held_same : (disk : Disk) (one other : Image) → HoldsImage disk one → HoldsImage disk other
    → SameOn (shape_of disk) one other
held_same disk one other first second = record {
  at = λ device device_sector inside below. given (sym (first.each device device_sector inside below)
      ∙ second.each device device_sector inside below);
}
  where
    given : {b c : List ℕ} → Some b ≡ Some c → b ≡ c
    given is = cc

-- What a bank holds alone it could hold, and so each uberblock in that.
alone_handed : (shape : Shape) (disk : Disk) (image held : Image) → shape ≡ shape_of disk → HoldsAlone disk image
    → HoldsImage disk held → HasNoOtherUber shape disk disk.clock held
alone_handed shape disk image held is alone holds = record {
  ring = λ device uber shows.
      let inside : device < disk.devices =
      (let low = shows.device_in in let devices = ap (λ (s : Shape). s.devices) is in grind (arith, nat_tests, low, devices)) in
      let below : slot_of uber.group < disk.sectors =
      (let low = shows.slot_in in let sectors = ap (λ (s : Shape). s.sectors) is in omega (arith, low, sectors)) in
      subst (λ (b : List ℕ). Contains (disk.could disk.clock device (slot_of uber.group)) b)
      ((held_same disk image held alone.holds holds).at device (slot_of uber.group) inside below
      ∙ shows.valid.bytes_are)
      (alone.could device (slot_of uber.group) inside below);
}

-- Where a bank holds an image of its own alone, it keeps what the image keeps.
pub alone_keeps : (setting : Setting) (first : Kept) (later : List Kept) (disk : Disk) (image : Image)
    → setting.shape ≡ shape_of disk → HoldsAlone disk image → IsImageOf setting.shape image
    → Keeps setting first later image → BankKeeps setting first later disk
alone_keeps setting first later disk image shape alone only keeps left might =
    keeps_same setting first later image left
    (same_back (subst (λ (s : Shape). SameOn s left image) (sym shape) (alone.leaves left might.fits))) only keeps

-- A bank that holds alone what a stop left, where that keeps groups of one parity with bytes in their maps, may be
-- opened again.
pub stopped_begins : (setting : Setting) (first : Kept) (later : List Kept) (disk : Disk) (image : Image)
    → setting.shape ≡ shape_of disk → NoneExcepted (first ∷ later) → HoldsAlone disk image → IsImageOf setting.shape image
    → Keeps setting first later image
    → HasNoOtherPage setting (first ∷ later) image
    → HaveParity first.uber.parity (first ∷ later)
    → ((kept : Kept) (id : ℕ) (content : List ℕ) → Contains (first ∷ later) kept → kept.map id ≡ Some content
    → AreBytes content)
    → MayBegin setting first later disk
stopped_begins setting first later disk image shape excepted alone only keeps pages parity bytes = record {
  may = record {
    keeps = alone_keeps setting first later disk image shape alone only keeps;
    shape = shape;
    tells = alone_tells disk image alone;
    no_other = record {
      ubers = λ held holds. alone_handed setting.shape disk image held shape alone holds;
      pages = λ held holds. pages_same setting first later image held
          (subst (λ (s : Shape). SameOn s image held) (sym shape) (held_same disk image held alone.holds holds))
          only keeps (first ∷ later) pages;
    };
    parity = parity;
  };
  excepted = excepted;
  bytes = bytes;
}
