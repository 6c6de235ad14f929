-- How far a pool reaches. A device joins it: first the pool may reach to it, and once each group of the row has it the
-- pool has it at least. A pool that reaches no further than its groups do is known as well where it was said to.
use Rattle.std.proofs.Common.{◌≡◌, inl, inr, ⊎_elim, ℕ, ◌+◌, ◌<◌, ◌≤◌, List, ◌∷◌, false}
use Rattle.std.proofs.Common.{subst, arith, All}
use Rattle.std.specs.Prelude.{Contains}
use Rattle.std.proofs.lemmas.Bool.{cases_lt}
use Rattle.bank_trait.specs.Disk.{Image, Disk}
use Rattle.uberblock_ring.specs.Devices.{has_device}
use Rattle.uberblock_ring.specs.Uberblock.{Uber, encoded, slot_of}
use Rattle.core_state.specs.Shown.{Shape, Shows, read_devices}
use Rattle.core_state.specs.Keeps.{Kept, Setting, IsNotOutvoted, MayVoteFor}
use Rattle.core_state.specs.Collision.{MightShow}
use Rattle.core_state.specs.Rings.{IsRingSettled, ReadsNoUber}
use Rattle.core_state.specs.Certain.{Knows, IsAble, IsSuccession, able}
use Rattle.core_state.proofs.Left.{outvotes_more}
use Rattle.core_state.proofs.Reaching.{votes_less}

module _ (setting : Setting) (base reach : ℕ) (first : Kept) (later : List Kept) (disk : Disk) where
  abbrev other : Setting
  other = record setting { base = base; reach = reach }

  -- What is certain does not depend on how many devices the pool has at least and at most, but for the row, the
  -- devices' own pool and the votes.
  knows_in : IsSuccession other first later
      → ((device : ℕ) (uber : Uber) → IsAble setting.shape disk device uber → device < reach
      → has_device setting.failed device ≡ false → uber.pool ≡ setting.pool)
      → ((image : Image) → MightShow setting.shape disk disk.clock image → IsNotOutvoted other image)
      → Knows setting first later disk
      → Knows other first later disk
  knows_in row own votes knows = record {
    row = row;
    sound = record {
      uber = knows.sound.uber;
      alike = knows.sound.alike;
      right = knows.sound.right;
      pool_is = knows.sound.pool_is;
      room = knows.sound.room;
      index = knows.sound.index;
      counted = knows.sound.counted;
      digest = knows.sound.digest;
      none_else = knows.sound.none_else;
      fitting = knows.sound.fitting;
      indexes = knows.sound.indexes;
    };
    slots = knows.slots;
    pages = knows.pages;
    only = λ device uber is pool_is above. let was = knows.only device uber is pool_is above in record {
      kept = was.kept;
      listed = was.listed;
      alike = was.alike;
      listing = was.listing;
      indexes = was.indexes;
      cells = was.cells;
      out = was.out;
    };
    own = own;
    votes = votes;
  }

-- What an image that might stand shows is able to stand.
able_shown : (shape : Shape) (disk : Disk) (image : Image) (device : ℕ) (uber : Uber)
    → MightShow shape disk disk.clock image → Shows shape image device uber → IsAble shape disk device uber
able_shown shape disk image device uber might shows = record {
  device_in = shows.device_in;
  slot_in = shows.slot_in;
  right = shows.valid.right;
  could = might.written.ring device uber shows;
}

-- Law: A pool may reach to one device more, whose ring is settled and shows no uberblock.
pub reach_more : (setting : Setting) (first : Kept) (later : List Kept) (disk : Disk)
    → IsRingSettled disk setting.reach → ReadsNoUber disk setting.reach → setting.reach < read_devices setting.shape
    → Knows setting first later disk
    → Knows (record setting { reach = setting.reach + 1 }) first later disk
reach_more setting first later disk settled blank there knows =
    knows_in setting setting.base (setting.reach + 1) first later disk
    (record {
      few = knows.row.few;
      wide = knows.row.wide;
      ascending = knows.row.ascending;
      further = knows.row.further;
      widths = λ place kept low. let width = knows.row.widths place kept low in
          record { least = width.least; most = (let most = width.most in omega (arith, most)) };
      inside = λ device below works. ⊎_elim (λ (old : device < setting.reach). knows.row.inside device old works)
          (λ (new : setting.reach ≤ device). omega (arith, below, new, there)) (cases_lt device setting.reach);
      device = knows.row.device;
      below = knows.row.below;
      works = knows.row.works;
    })
    (λ device uber is below works. ⊎_elim (λ (old : device < setting.reach). knows.own device uber is old works)
    (λ (new : setting.reach ≤ device). absurd (none device uber is (omega (arith, below, new))))
    (cases_lt device setting.reach))
    (λ image might pool devices differs distinct each. knows.votes image might pool devices differs distinct
    (λ place default low. voted image might pool (each place default low)))
    knows
  where
    none : (device : ℕ) (uber : Uber) → IsAble setting.shape disk device uber → device ≡ setting.reach → ⊥
    none device uber is same = blank.none uber is.right
        (settled.only (slot_of uber.group) (encoded uber setting.reach) (omega arith)
        (subst (λ d. Contains (able disk d (slot_of uber.group)) (encoded uber d)) same is.could))

    voted : (image : Image) → MightShow setting.shape disk disk.clock image → (pool : ℕ) {device : ℕ}
        → MayVoteFor (record setting { reach = setting.reach + 1 }) image pool device
        → MayVoteFor setting image pool device
    voted image might pool (inl out) =
        inl (record { outside = (let outside = out.outside in omega (arith, outside)); names = out.names })
    voted image might pool {device} (inr gone) = ⊎_elim
        (λ (old : device < setting.reach).
        inr (record {
          within = old;
          failed = gone.failed;
          uber = gone.uber;
          shows = gone.shows;
          pool_is = gone.pool_is;
        }))
        (λ (new : setting.reach ≤ device). let within = gone.within in
        absurd (none device gone.uber (able_shown setting.shape disk image device gone.uber might gone.shows)
        (omega (arith, within, new))))
        (cases_lt device setting.reach)

-- Law: A pool that was said to reach further than its groups do reaches as far as they do.
pub reach_less : (setting : Setting) (first : Kept) (later : List Kept) (disk : Disk) (reach : ℕ)
    → reach ≤ setting.reach → All (λ (kept : Kept). kept.uber.reflow.to ≤ reach) (first ∷ later)
    → Knows setting first later disk
    → Knows (record setting { reach = reach }) first later disk
reach_less setting first later disk reach less widths knows =
    knows_in setting setting.base reach first later disk
    (record {
      few = knows.row.few;
      wide = knows.row.wide;
      ascending = knows.row.ascending;
      further = knows.row.further;
      widths = λ place kept low.
          record { least = (knows.row.widths place kept low).least; most = widths place kept low };
      inside = λ device below works. knows.row.inside device (omega (arith, below, less)) works;
      device = knows.row.device;
      below = knows.row.below;
      works = knows.row.works;
    })
    (λ device uber is below works. knows.own device uber is (omega (arith, below, less)) works)
    (λ image might. votes_less setting reach less image
    (λ device uber below works shows.
    knows.own device uber (able_shown setting.shape disk image device uber might shows) below works)
    (knows.votes image might))
    knows

-- Law: Once each group of the row has a device, the pool has it at least.
pub base_more : (setting : Setting) (first : Kept) (later : List Kept) (disk : Disk) (base : ℕ)
    → setting.base ≤ base → All (λ (kept : Kept). base ≤ kept.uber.reflow.to) (first ∷ later)
    → Knows setting first later disk
    → Knows (record setting { base = base }) first later disk
base_more setting first later disk base more widths knows =
    knows_in setting base setting.reach first later disk
    (record {
      few = knows.row.few;
      wide = (let wide = knows.row.wide in omega (arith, wide, more));
      ascending = knows.row.ascending;
      further = knows.row.further;
      widths = λ place kept low.
          record { least = widths place kept low; most = (knows.row.widths place kept low).most };
      inside = knows.row.inside;
      device = knows.row.device;
      below = (let below = knows.row.below in omega (arith, below, more));
      works = knows.row.works;
    })
    knows.own
    (λ image might pool devices differs distinct each.
    outvotes_more setting.failed setting.base base devices more
    (knows.votes image might pool devices differs distinct
    (λ place default low. voted image pool (each place default low))))
    knows
  where
    voted : (image : Image) (pool : ℕ) {device : ℕ} → MayVoteFor (record setting { base = base }) image pool device
        → MayVoteFor setting image pool device
    voted image pool (inl out) = inl (record { outside = out.outside; names = out.names })
    voted image pool (inr gone) = inr (record {
      within = gone.within;
      failed = gone.failed;
      uber = gone.uber;
      shows = gone.shows;
      pool_is = gone.pool_is;
    })
