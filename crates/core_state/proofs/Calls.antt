-- A device call between two points of a commit.
use Rattle.std.proofs.Common.{◌≡◌, ℕ, zero, suc, ◌+◌, ◌*◌, ◌<◌, List, [], ◌∷◌, ◌++◌, length, take, drop, Bool, true}
use Rattle.std.proofs.Common.{false, Some, Result, Ok, Err, refl, sym, ◌∙◌, ap, arith}
use Rattle.std.specs.Prelude.{IsSome, OnOk, ◌==◌, ◌&&◌, ◌||◌, slice_get}
use Rattle.std.proofs.lemmas.Bool.Decides.{nat_tests}
use Rattle.std.proofs.lemmas.Option.{slice_get_within}
use Rattle.std.proofs.lemmas.List.{length-drop, drop-drop, take-append-drop}
use Rattle.bank_trait.specs.declared.Failed.{Failed}
use Rattle.bank_trait.specs.Disk.{Known, Wrote, Synced, Lawful}
use Rattle.block_record.specs.Page.{page_sectors, index_page}
use Rattle.uberblock_ring.specs.Devices.{has_device}
use Rattle.uberblock_ring.specs.Uberblock.{area_sector}
use Rattle.core_state.specs.Keeps.{Kept}
use Rattle.core_state.specs.Certain.{joined, PageOn, certain}
use Rattle.core_state.specs.Committing.{Point, Called, lost_by, page_part}
use Rattle.core_state.proofs.Frames.{Frames, IsPlace, Nowhere, none_lost, wrote_frames, synced_frames}

pub true_false : true ≡ false → ⊥
true_false same = cc

pub both_false : (a b c : Bool) → c ≡ (a || b) → c ≡ false → (a ≡ false) × (b ≡ false)
both_false true b c is none = absurd (cc)
both_false false true c is none = absurd (cc)
both_false false false c is none = (refl, refl)

-- What a call leaves, at the level of points: a device still in use was in use, and didn't fail.
pub record Moves (here : ℕ → ℕ → Type 0) (before after : Point) : Type 0 where
  pub lost : ℕ → Bool
  pub frames : Frames here lost before.disk after.disk
  pub used : (device : ℕ) → has_device after.out device ≡ false
      → (has_device before.out device ≡ false) × (lost device ≡ false)
  pub told : (device device_sector : ℕ) → IsSome (before.disk.reads device device_sector)
      → IsSome (after.disk.reads device device_sector)
  pub lawful : Lawful after.disk

pub write_moves : (device device_sector : ℕ) (bytes : List ℕ) (result : Result (Unit {0}) Failed)
    (before after : Point) → Called device result before after
    → Wrote before.disk after.disk device device_sector bytes result
    → Moves (IsPlace device device_sector) before after
write_moves device device_sector bytes result before after called wrote = record {
  lost = none_lost;
  frames = wrote_frames wrote;
  used = λ e is. (
    (both_false (has_device before.out e) (lost_by device result e)
        (has_device after.out e) (called.out e) is).0,
    refl,
  );
  told = λ e y is. wrote.goes_on.later.told e y is;
  lawful = called.lawful;
}

pub sync_moves : (device : ℕ) (result : Result (Unit {0}) Failed) (before after : Point)
    → Lawful before.disk → Called device result before after
    → Synced before.disk after.disk device result
    → Moves Nowhere before after
sync_moves device result before after lawful called synced = record {
  lost = lost_by device result;
  frames = synced_frames result lawful synced;
  used = λ e is. both_false (has_device before.out e) (lost_by device result e)
      (has_device after.out e) (called.out e) is;
  told = λ e y is. synced.goes_on.later.told e y is;
  lawful = called.lawful;
}

-- Where the device is still in use, its call was carried out.
carried_out : (P : Result (Unit {0}) Failed → Type 0) (device : ℕ)
    (result : Result (Unit {0}) Failed) (before after : Point) → Called device result before after
    → has_device after.out device ≡ false → ((v : Unit {0}) → P (Ok v))
    → P result
carried_out P device (Ok v) before after called in_use ok = ok v
carried_out P device (Err f) before after called in_use ok =
    absurd (failed (both_false (has_device before.out device) ((device == device) && true)
    (has_device after.out device) (called.out device) in_use).1)
  where
    failed : ((device == device) && true) ≡ false → ⊥
    failed is = grind (arith, nat_tests, is)

-- What was written is read.
pub written_read : (device device_sector : ℕ) (bytes : List ℕ) (result : Result (Unit {0}) Failed)
    (before after : Point) → Called device result before after
    → Wrote before.disk after.disk device device_sector bytes result
    → has_device after.out device ≡ false → IsSome (before.disk.reads device device_sector)
    → after.disk.reads device device_sector ≡ Some bytes
written_read device device_sector bytes result before after called wrote in_use told =
    carried_out (λ r. OnOk r (IsSome (before.disk.reads device device_sector)
    → after.disk.reads device device_sector ≡ Some bytes)
    → after.disk.reads device device_sector ≡ Some bytes)
    device result before after called in_use (λ v ok. ok told) wrote.told

-- What was read is certain after a sync.
pub synced_certain : (device : ℕ) (result : Result (Unit {0}) Failed) (before after : Point)
    → Called device result before after → Synced before.disk after.disk device result
    → has_device after.out device ≡ false
    → (device_sector : ℕ)
    → certain after.disk device device_sector ≡ before.disk.reads device device_sector
synced_certain device result before after called synced in_use =
    carried_out (λ r. OnOk r ((x : ℕ) → certain after.disk device x ≡ before.disk.reads device x)
    → (x : ℕ) → certain after.disk device x ≡ before.disk.reads device x)
    device result before after called in_use (λ v ok. ok) synced.durable

-- a page in pieces of a sector
abbrev pieces_of : List ℕ → ℕ → List (List ℕ)
pieces_of bytes zero = []
pieces_of bytes (suc count) = take 512 bytes ∷ pieces_of (drop 512 bytes) count

length-pieces : (bytes : List ℕ) (count : ℕ) → length (pieces_of bytes count) ≡ count
length-pieces bytes zero = refl
length-pieces bytes (suc count) = omega (arith, length-pieces (drop 512 bytes) count)

piece_at : (bytes : List ℕ) (count part : ℕ) (piece : List ℕ)
    → slice_get (pieces_of bytes count) part ≡ Some piece
    → piece ≡ take 512 (drop (512 * part) bytes)
piece_at bytes zero part piece is = absurd (cc)
piece_at bytes (suc count) zero piece is = let same : take 512 bytes ≡ piece = cc in sym same
piece_at bytes (suc count) (suc part) piece is =
    piece_at (drop 512 bytes) count part piece is
    ∙ ap (λ (l : List ℕ). take 512 l) (drop_more part)
  where
    drop_more : (part : ℕ) → drop (512 * part) (drop 512 bytes) ≡ drop (512 * suc part) bytes
    drop_more part = drop-drop (512 * part) 512 bytes ∙ ap (λ (n : ℕ). drop n bytes) (omega arith)

empty : (bytes : List ℕ) → length bytes ≡ 0 → bytes ≡ []
empty [] none = refl
empty (byte ∷ bytes) none = absurd (omega arith)

joined-pieces : (bytes : List ℕ) (count : ℕ) → length bytes ≡ 512 * count
    → joined (pieces_of bytes count) ≡ bytes
joined-pieces bytes zero wide = sym (empty bytes (omega (arith, wide)))
joined-pieces bytes (suc count) wide =
    ap (λ (l : List ℕ). take 512 bytes ++ l)
    (joined-pieces (drop 512 bytes) count (omega (arith, wide, length-drop 512 bytes)))
    ∙ take-append-drop 512 bytes

-- A page that is known sector by sector is known.
pub page_known : (known : Known) (kept : Kept) (device : ℕ)
    → length (index_page kept.entries) ≡ 512 * page_sectors kept.uber.count
    → ((part : ℕ) → part < page_sectors kept.uber.count
    → known device (area_sector kept.uber.area + part) ≡ Some (page_part kept part))
    → PageOn known kept device
page_known known kept device wide each = record {
  parts = pieces_of (index_page kept.entries) (page_sectors kept.uber.count);
  counted = length-pieces (index_page kept.entries) (page_sectors kept.uber.count);
  each = λ part bytes is. each part
      (let within = slice_get_within (pieces_of (index_page kept.entries) (page_sectors kept.uber.count)) part bytes is in
      omega (arith, within, length-pieces (index_page kept.entries) (page_sectors kept.uber.count)))
      ∙ ap (λ (b : List ℕ). Some b) (sym (piece_at (index_page kept.entries)
      (page_sectors kept.uber.count) part bytes is));
  page = joined-pieces (index_page kept.entries) (page_sectors kept.uber.count) wide;
}
