-- What each image since a moment keeps, over one call more.
use Rattle.std.proofs.Common.{◌≡◌, ⊎_elim, ℕ, List, ◌∙◌, ap, subst, arith}
use Rattle.std.specs.Prelude.{Contains}
use Rattle.std.proofs.lemmas.Bool.{cases_lt}
use Rattle.bank_trait.specs.Disk.{Image, Disk, Continues}
use Rattle.uberblock_ring.specs.Uberblock.{encoded, slot_of}
use Rattle.core_state.specs.Shown.{Shape}
use Rattle.core_state.specs.Keeps.{Kept, Setting}
use Rattle.core_state.specs.Collision.{MightStand}
use Rattle.core_state.specs.Certain.{Knows}
use Rattle.core_state.specs.Moment.{IsRowOf, KeepsRow, KeepsSince}
use Rattle.core_state.proofs.Keeping.{knows_keep}
use Rattle.core_state.proofs.Reaching.{widest_reach, reaches_no_further, keeps_to_reach}

-- An image that might stand at a moment might stand at another one that leaves the same.
pub might_at : (shape : Shape) (disk other : Disk) (moment time : ℕ) (image : Image)
    → ((d x : ℕ) → (disk.leaves moment d x ≡ other.leaves time d x)
    × (disk.could moment d x ≡ other.could time d x))
    → MightStand shape disk moment image
    → MightStand shape other time image
might_at shape disk other moment time image same might = record {
  fits = record { at = λ d x bytes is. might.fits.at d x bytes ((same d x).0 ∙ is) };
  written = record {
    ring = λ device uber shows.
        subst (λ (l : List (List ℕ)). Contains l (encoded uber device))
        (same device (slot_of uber.group)).1 (might.written.ring device uber shows);
  };
}

-- The images of a moment that leaves the same as another one keep its row.
pub row_at : (setting : Setting) (groups : List Kept) (disk other : Disk) (moment time : ℕ)
    → ((d x : ℕ) → (disk.leaves moment d x ≡ other.leaves time d x)
    × (disk.could moment d x ≡ other.could time d x))
    → KeepsRow setting groups other time
    → KeepsRow setting groups disk moment
row_at setting groups disk other moment time same kept = record {
  before = kept.before;
  first = kept.first;
  later = kept.later;
  after = kept.after;
  row = kept.row;
  reach = kept.reach;
  no_further = kept.no_further;
  keeps = λ image might. kept.keeps image (might_at setting.shape disk other moment time image same might);
}

-- What is certain now says what the images of this moment keep.
pub row_now : (setting : Setting) (groups : List Kept) (first : Kept) (later : List Kept) (disk : Disk)
    → IsRowOf groups first later → Knows setting first later disk
    → KeepsRow setting groups disk disk.clock
row_now setting groups first later disk row knows = record {
  before = row.before;
  first = first;
  later = later;
  after = row.after;
  row = row.row;
  reach = widest_reach first later;
  no_further = reaches_no_further first later;
  keeps = λ image might.
      keeps_to_reach setting first later image (knows_keep setting first later disk knows image might);
}

-- From now on.
pub since_now : (setting : Setting) (groups : List Kept) (first : Kept) (later : List Kept) (disk : Disk)
    → IsRowOf groups first later → Knows setting first later disk
    → KeepsSince setting groups disk.clock disk
since_now setting groups first later disk row knows = record {
  each = λ moment since until. row_at setting groups disk disk moment disk.clock
      (same moment (omega (arith, since, until))) (row_now setting groups first later disk row knows);
}
  where
    same : (moment : ℕ) → moment ≡ disk.clock → (d x : ℕ)
        → (disk.leaves moment d x ≡ disk.leaves disk.clock d x)
        × (disk.could moment d x ≡ disk.could disk.clock d x)
    same moment is d x = (ap (λ t. disk.leaves t d x) is, ap (λ t. disk.could t d x) is)

-- One call more: earlier moments leave what they left, and the new ones what is certain now.
pub since_more : (setting : Setting) (groups : List Kept) (since : ℕ) (first : Kept) (later : List Kept)
    (old new : Disk) → IsRowOf groups first later → Continues old new → Knows setting first later new
    → KeepsSince setting groups since old
    → KeepsSince setting groups since new
since_more setting groups since first later old new row goes_on knows kept = record {
  each = λ moment from until. ⊎_elim
      (λ late. row_at setting groups new new moment new.clock (λ d x. goes_on.present moment late until d x)
      (row_now setting groups first later new row knows))
      (λ early. row_at setting groups new old moment moment (λ d x. goes_on.later.past moment early d x)
      (kept.each moment from early))
      (cases_lt old.clock moment);
}
