-- What images that a crash may leave keep of the votes is kept by each image that shows what was handed: what else is
-- certain is no uberblock where what is read is none by chance.
use Rattle.std.proofs.Common.{◌≡◌, ℕ, List, Option, Some, None, refl, sym, ◌∙◌, ap}
use Rattle.std.specs.Prelude.{Contains, unwrap_or}
use Rattle.bank_trait.specs.Disk.{Image, Disk, Lawful}
use Rattle.uberblock_ring.specs.Uberblock.{Uber, encoded, slot_of}
use Rattle.core_state.specs.Shown.{Shows}
use Rattle.core_state.specs.Keeps.{Setting, IsNotOutvoted}
use Rattle.core_state.specs.Collision.{MightStand, MightShow}
use Rattle.core_state.specs.Certain.{certain, able}
use Rattle.core_state.proofs.Knowing.{present, vote_moves}

module _ (setting : Setting) (disk : Disk) (lawful : Lawful disk)
    (here : MightStand setting.shape disk disk.clock (present disk)) (image : Image)
    (might : MightShow setting.shape disk disk.clock image) where
  -- the image with all that is certain
  unfoldable pub completed : Image
  completed d x = unwrap_or (certain disk d x) (image d x)

  -- It shows what the image shows,
  shown_too : (d : ℕ) (uber : Uber) → Shows setting.shape image d uber → Shows setting.shape completed d uber
  unfolding completed
  shown_too d uber shows = record {
    device_in = shows.device_in;
    slot_in = shows.slot_in;
    valid = record {
      right = shows.valid.right;
      slot_is = shows.valid.slot_is;
      bytes_are = by (certain disk d (slot_of uber.group)) refl;
    };
  }
    where
      by : (o : Option (List ℕ)) → certain disk d (slot_of uber.group) ≡ o
          → unwrap_or o (image d (slot_of uber.group)) ≡ encoded uber d
      by (Some b) known = sym (lawful.stays_could d (slot_of uber.group) b (encoded uber d) known
          (might.written.ring d uber shows))
      by None known = shows.valid.bytes_are

  -- and nothing else.
  shown_before : (d : ℕ) (uber : Uber) → Shows setting.shape completed d uber → Shows setting.shape image d uber
  unfolding completed
  shown_before d uber shows = record {
    device_in = shows.device_in;
    slot_in = shows.slot_in;
    valid = record {
      right = shows.valid.right;
      slot_is = shows.valid.slot_is;
      bytes_are = by (certain disk d (slot_of uber.group)) refl shows.valid.bytes_are;
    };
  }
    where
      handed : certain disk d (slot_of uber.group) ≡ Some (encoded uber d)
          → Contains (able disk d (slot_of uber.group)) (encoded uber d)
      handed known = here.written.ring d uber (record {
        device_in = shows.device_in;
        slot_in = shows.slot_in;
        valid = record {
          right = shows.valid.right;
          slot_is = shows.valid.slot_is;
          bytes_are = here.fits.at d (slot_of uber.group) (encoded uber d) known;
        };
      })

      by : (o : Option (List ℕ)) → certain disk d (slot_of uber.group) ≡ o
          → unwrap_or o (image d (slot_of uber.group)) ≡ encoded uber d
          → image d (slot_of uber.group) ≡ encoded uber d
      by (Some b) known is =
          let whole : certain disk d (slot_of uber.group) ≡ Some (encoded uber d) =
          known ∙ ap (λ (k : List ℕ). Some k) is in
          might.handed d (slot_of uber.group) (encoded uber d) whole (handed whole)
      by None known is = is

  pub completed_might : MightStand setting.shape disk disk.clock completed
  unfolding completed
  completed_might = record {
    fits = record { at = λ d x b known. ap (λ o. unwrap_or o (image d x)) known };
    written = record { ring = λ d uber shows. might.written.ring d uber (shown_before d uber shows) };
  }

  pub shown_votes : IsNotOutvoted setting completed → IsNotOutvoted setting image
  shown_votes votes other others differs distinct each = votes other others differs distinct
      (λ k d low. vote_moves setting image completed other _
      (λ uber same shows. shown_too _ uber shows) (λ uber outside shows. shown_before _ uber shows) (each k d low))
