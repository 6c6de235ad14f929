-- Each image of a new pool keeps its first group.
use Rattle.std.proofs.Common.{◌≡◌, ◌≢◌, ℕ, zero, suc, ◌+◌, ◌-◌, ◌/◌, ◌%◌, ◌^◌, ◌<◌, ◌≤◌, Bool, true, false, List, []}
use Rattle.std.proofs.Common.{◌∷◌, Some, None, refl, sym, ◌∙◌, ap, subst, arith, inl, inr, ⊎_elim, mod-lt}
use Rattle.std.specs.Prelude.{min, slice_index, ◌==◌, if◌then◌else◌}
use Rattle.std.proofs.Math.Nat.{zero-div, one-le-pow}
use Rattle.std.proofs.lemmas.Bool.{cases_lt, cases_eq}
use Rattle.std.proofs.lemmas.Bool.Decides.{nat_tests}
use Rattle.bank_trait.specs.Disk.{Image}
use Rattle.bank_trait.specs.Regions.{zero_sector}
use Rattle.block_record.specs.Page.{index_page}
use Rattle.uberblock_ring.specs.Devices.{has_device, count_below}
use Rattle.uberblock_ring.specs.Uberblock.{Uber, magic, encoded, head_bytes, slot_of, first_uber}
use Rattle.uberblock_ring.specs.Valid.{IsRightUber}
use Rattle.uberblock_ring.proofs.Digest.{sha256_is_digest}
use Rattle.uberblock_ring.proofs.OneSpelling.{encoded_tells}
use Rattle.core_state.specs.Map.{no_blocks}
use Rattle.core_state.specs.Index.{IsFitting}
use Rattle.core_state.specs.Shown.{Shape, Shows, Gives, page_on}
use Rattle.block_record.specs.declared.entry.IndexEntry.{IndexEntry}
use Rattle.core_state.specs.Whole.{IsWhole, KeepsBlock}
use Rattle.core_state.specs.Keeps.{Setting, Keeps, IsKept, ShowsOnly, StandsThere, ShowsCandidate, IsNotOutvoted}
use Rattle.core_state.specs.Keeps.{HasDevices, Kept, MayVoteFor}
use Rattle.core_state.specs.Create.{IsNew, new_ring, rows_for, first_kept}
use Rattle.core_state.proofs.Left.{left_has}
use Rattle.core_state.proofs.Widths.{only_width}

-- The empty set has no device.
pub none_in : (device : ℕ) → has_device 0 device ≡ false
none_in device = ap (λ (n : ℕ). n % 2 == 1) (zero_over (2 ^ device))
  where
    zero_over : (n : ℕ) → 0 / n ≡ 0
    zero_over n = zero-div n

none_is_in : (device : ℕ) → has_device 0 device ≡ true → ⊥
none_is_in device is = true_false (sym is ∙ none_in device)
  where
    true_false : true ≡ false → ⊥
    true_false same = cc

-- A set that has fewer than so many of the devices lacks one of them.
pub lacks_one : (devices count : ℕ) → count_below devices count < count → (device : ℕ) × (device < count) × (has_device devices device ≡ false)
lacks_one devices zero few = absurd (omega (arith, few))
lacks_one devices (suc count) few = by_case (has_device devices count) refl (λ less. lacks_one devices count less)
  where
    by_case : (has : Bool) → has_device devices count ≡ has
        → (count_below devices count < count → (device : ℕ) × (device < count) × (has_device devices device ≡ false))
        → (device : ℕ) × (device < suc count) × (has_device devices device ≡ false)
    by_case false is lower = (count, omega arith, is)
    by_case true is lower =
        let more : count_below devices (suc count) ≡ count_below devices count + 1 = ap (λ (b : Bool). count_below devices count + (if b then 1 else 0)) is in
        let less : (device : ℕ) × (device < count) × (has_device devices device ≡ false) = lower (omega (arith, few, more)) in
        (less.0, omega (arith, less.1), less.2)

pub count_grows : (devices count more : ℕ) → count_below devices count ≤ count_below devices (count + more)
count_grows devices count zero =
    let same : count_below devices (count + 0) ≡ count_below devices count = ap (count_below devices) (plus_zero count) in omega (arith, same)
  where
    plus_zero : (n : ℕ) → n + 0 ≡ n
    plus_zero n = omega arith
count_grows devices count (suc more) =
    let same : count_below devices (count + suc more) ≡ count_below devices (suc (count + more)) = ap (count_below devices) (plus_suc count more) in
    let next : count_below devices (suc (count + more)) ≡ count_below devices (count + more) + (if has_device devices (count + more) then 1 else 0) = refl in
    omega (arith, same, next, count_grows devices count more)
  where
    plus_suc : (n m : ℕ) → n + suc m ≡ suc (n + m)
    plus_suc n m = omega arith

none_below : (count : ℕ) → count_below 0 count ≡ 0
none_below zero = refl
none_below (suc count) =
    let next : count_below 0 (suc count) ≡ count_below 0 count + 0 = ap (λ (b : Bool). count_below 0 count + (if b then 1 else 0)) (none_in count) in
    omega (arith, none_below count, next)

-- The first byte of an uberblock is no zero.
pub first_byte : (uber : Uber) (device : ℕ) → slice_index (encoded uber device) 0 ≡ 0x52
unfolding encoded head_bytes magic
first_byte uber device = refl

zero_byte : slice_index zero_sector 0 ≡ 0
unfolding zero_sector
zero_byte = refl

zeros_are_none : (uber : Uber) (device : ℕ) → zero_sector ≡ encoded uber device → ⊥
zeros_are_none uber device same =
    let bytes : slice_index zero_sector 0 ≡ slice_index (encoded uber device) 0 = ap (λ (xs : List ℕ). slice_index xs 0) same in
    omega (arith, bytes, zero_byte, first_byte uber device)

-- what a new pool is made of
pub record IsSized (shape : Shape) (pool parity width : ℕ) : Type 0 where
  pub pool_fits : pool < 2 ^ 64
  pub parity_in : (1 ≤ parity) × (parity ≤ 3)
  pub width_in : (parity + 1 ≤ width) × (width ≤ 16)
  pub devices : width ≤ shape.devices
  pub sectors : 256 ≤ shape.sectors

module _ (setting : Setting) (parity width : ℕ) (image : Image) (sized : IsSized setting.shape setting.pool parity width)
    (wide : parity < setting.base) (least : setting.base ≤ width) (most : width ≤ setting.reach) (inside : HasDevices setting)
    (few : count_below setting.failed 16 ≤ parity)
    (new : IsNew setting.shape (first_uber setting.pool parity width (rows_for setting.shape.sectors)) image) where
  abbrev uber_0 : Uber
  uber_0 = first_uber setting.pool parity width (rows_for setting.shape.sectors)

  abbrev group_0 : Kept
  group_0 = first_kept setting.pool parity width setting.shape.sectors

  right_0 : IsRightUber uber_0
  right_0 = record {
    pool = sized.pool_fits;
    group = (omega arith, omega arith);
    parity = sized.parity_in;
    widths = (omega (arith, sized.width_in), omega (arith, sized.width_in));
    rows = (omega (arith, sized.sectors), omega arith);
    reflow = inl (refl, refl, refl);
    area = omega arith;
    out = (one-le-pow width 2 (omega arith), omega (arith, none_below width));
    count = omega arith;
    digest = sha256_is_digest [];
    births = record { growing = (refl, tt); few = omega arith; wide = omega (arith, sized.width_in); last = refl; begun = (omega arith, tt) };
  }

  shows_0 : (device : ℕ) → device < width → Shows setting.shape image device uber_0
  shows_0 device below = record {
    device_in = omega (arith, below, sized.devices, sized.width_in);
    slot_in = omega (arith, sized.sectors);
    valid = record { right = right_0; slot_is = refl; bytes_are = new.ring device 1 below (omega arith) };
  }

  -- Nothing else is shown.
  is_0 : (device : ℕ) (uber : Uber) → Shows setting.shape image device uber → uber ≡ uber_0
  is_0 device uber shows = ⊎_elim (λ below. here below) (λ above. absurd (new.others device uber above shows)) (cases_lt device width)
    where
      elsewhere : (n : ℕ) → n ≢ 1 → new_ring uber_0 device n ≡ zero_sector
      elsewhere n other = grind (arith, nat_tests, other)

      slot_low : slot_of uber.group < 32
      slot_low = mod-lt uber.group (omega arith)

      here : device < width → uber ≡ uber_0
      here below = ⊎_elim
          (λ first. let ring : image device (slot_of uber.group) ≡ encoded uber_0 device =
          new.ring device (slot_of uber.group) below slot_low ∙ ap (λ (n : ℕ). new_ring uber_0 device n) first in
          (encoded_tells uber uber_0 device device shows.valid.right right_0 (omega (arith, below, sized.width_in)) (omega (arith, below, sized.width_in))
          (sym shows.valid.bytes_are ∙ ring)).0)
          (λ other. let ring : image device (slot_of uber.group) ≡ zero_sector =
          new.ring device (slot_of uber.group) below slot_low ∙ elsewhere (slot_of uber.group) other in
          absurd (zeros_are_none uber device (sym ring ∙ shows.valid.bytes_are)))
          (cases_eq (slot_of uber.group) 1)

  -- The empty index is all that an image gives.
  gives_0 : (device : ℕ) → device < min setting.shape.devices 16 → Gives setting.shape image uber_0 [] device
  unfolding page_on index_page
  gives_0 device below = record {
    device_in = below;
    digest = refl;
    page = record {
      index = record { each = λ k d low. absurd (omega (arith, low)); ascending = λ i j d low high. absurd (omega (arith, high)) };
      counted = refl;
      page = refl;
    };
  }

  fits_0 : IsFitting uber_0 []
  fits_0 = record {
    births = λ k d low. absurd (omega (arith, low));
    below = λ k d low. absurd (omega (arith, low));
    apart = λ i j d low high. absurd (omega (arith, high));
  }

  candidate_0 : (device : ℕ) → device < width → ShowsCandidate setting image device uber_0 []
  candidate_0 device below = record {
    shows = shows_0 device below;
    pool_is = refl;
    room = omega (arith, sized.sectors);
    giver = device;
    giver_reads = none_in device;
    gives = gives_0 device (omega (arith, below, sized.devices, sized.width_in));
    fitting = fits_0;
  }

  whole_0 : IsWhole setting.shape.devices [] image uber_0 [] [] no_blocks
  whole_0 = record {
    index = record { listed = λ entry listed. absurd (omega (arith, listed.1)); every = λ id bytes held. absurd (none_some bytes held) };
    right = λ cell device of. absurd (no_block of.keeps);
  }
    where
      no_block : {entry : IndexEntry} → {content : List ℕ} → KeepsBlock [] [] no_blocks entry content → ⊥
      no_block (inl of) = omega (arith, of.0.1)
      no_block (inr of) = omega (arith, of.1)

      none_some : (bytes : List ℕ) → None ≡ Some bytes → ⊥
      none_some bytes same = cc

  kept_0 : IsKept setting image (group_0 ∷ []) uber_0
  kept_0 = record {
    kept = group_0;
    listed = (0, omega arith, refl);
    alike = refl;
    listing = record {
      index = record {
        each = λ k default low. absurd (omega (arith, low));
        ascending = λ one two default less low. absurd (omega (arith, less, low));
      };
      counted = refl;
      none_else = refl;
    };
    whole = whole_0;
    out = λ device is. absurd (none_is_in device is);
  }

  shown_only : ShowsOnly setting group_0 [] image
  shown_only device uber above shows pool_is =
      subst (λ (u : Uber). IsKept setting image (group_0 ∷ []) u) (sym (is_0 device uber shows)) kept_0

  -- Some device of the least width works.
  works : (device : ℕ) × (device < setting.base) × (has_device setting.failed device ≡ false)
  works =
      let rest : setting.base + (16 - setting.base) ≡ 16 = omega (arith, least, sized.width_in) in
      let all : count_below setting.failed (setting.base + (16 - setting.base)) ≡ count_below setting.failed 16 =
      ap (count_below setting.failed) rest in
      lacks_one setting.failed setting.base
      (omega (arith, all, few, wide, count_grows setting.failed setting.base (16 - setting.base)))

  there_0 : StandsThere setting group_0 image
  there_0 = record {
    device = works.0;
    works = works.2;
    shown = (uber_0, refl, candidate_0 works.0 (omega (arith, works.1, least)));
    each = λ other below fine. (uber_0, refl, candidate_0 other below);
    pages = λ other below fine. gives_0 other (omega (arith, below, sized.devices, sized.width_in));
  }

  -- No device votes for another pool.
  votes_0 : IsNotOutvoted setting image
  votes_0 other [] differs distinct each =
      let left = left_has setting.failed setting.base works.0 works.1 works.2 in inl (omega (arith, left.1))
  votes_0 other (device ∷ others) differs distinct each = absurd (none (each 0 device (omega arith)))
    where
      none : MayVoteFor setting image other device → ⊥
      none (inl out) =
          let same : out.names.uber.pool ≡ setting.pool =
          ap (λ (u : Uber). u.pool) (is_0 device out.names.uber out.names.shows) in
          differs (sym out.names.pool_is ∙ same)
      none (inr lost) =
          let same : lost.uber.pool ≡ setting.pool = ap (λ (u : Uber). u.pool) (is_0 device lost.uber lost.shows) in
          differs (sym lost.pool_is ∙ same)

  -- Each image of a new pool keeps its first group, whichever devices fail, at most as many as there is parity.
  pub fresh_keeps : Keeps setting group_0 [] image
  fresh_keeps = record {
    few = few;
    wide = wide;
    only = shown_only;
    there = there_0;
    ascending = λ i j d low high. absurd (omega (arith, low, high));
    further = λ k d low. absurd (omega (arith, low));
    widths = only_width setting group_0 (record { least = least; most = most });
    inside = inside;
    own = λ device uber below left shows. ap (λ (u : Uber). u.pool) (is_0 device uber shows);
    votes = votes_0;
  }
