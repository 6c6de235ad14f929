-- What a device call leaves of what is certain of the groups.
use Rattle.std.proofs.Common.{◌≡◌, ◌≢◌, ◌⊎◌, inl, inr, ⊎_elim, ℕ, ◌+◌, ◌<◌, ◌≤◌, List, [], ◌∷◌, Bool, true, false}
use Rattle.std.proofs.Common.{Option, Some, None, Result, refl, sym, ◌∙◌, ap, subst, arith}
use Rattle.std.specs.Prelude.{Contains, slice_index, unwrap_or, if◌then◌else◌, bytes_eq}
use Rattle.std.specs.List.{list_any}
use Rattle.std.specs.Cmp.Lexicographic.{same_text}
use Rattle.std.proofs.lemmas.Bool.{cases_eq}
use Rattle.std.proofs.lemmas.Cmp.{nat_list_eq_equiv}
use Rattle.std.proofs.lemmas.Map.Views.{Contains-from_any, list_any-from_Contains}
use Rattle.std.proofs.lemmas.Option.{slice_get_within}
use Rattle.bank_trait.specs.declared.Failed.{Failed}
use Rattle.bank_trait.specs.Disk.{Image, Disk, Wrote, Lawful}
use Rattle.block_record.specs.Page.{page_sectors}
use Rattle.uberblock_ring.specs.Devices.{has_device}
use Rattle.uberblock_ring.specs.Uberblock.{Uber, encoded, slot_of, area_sector}
use Rattle.uberblock_ring.specs.Valid.{IsRightUber}
use Rattle.uberblock_ring.proofs.OneSpelling.{encoded_tells}
use Rattle.core_state.specs.Shown.{Shape, Shows}
use Rattle.core_state.specs.Keeps.{Kept, Setting, IsNotOutvoted, MayVoteFor}
use Rattle.core_state.specs.Collision.{HasNoOtherUber, MightStand, MightShow}
use Rattle.core_state.specs.Certain.{Asks, CellsOn, PageOn, SlotOn, IsAble, IsCertain, Knows, certain, able}
use Rattle.core_state.specs.Free.{IsSpare}
use Rattle.core_state.proofs.Fresh.{first_byte}
use Rattle.core_state.proofs.Places.{asks_sector, data_is_no_slot, slot_low}
use Rattle.core_state.proofs.Frames.{Frames, IsPlace, none_lost, wrote_frames}

-- the devices as they are read
abbrev pub present : Disk → Image
present disk device device_sector = unwrap_or (disk.reads device device_sector) []

-- An uberblock has some bytes.
pub encoded_some : (uber : Uber) (device : ℕ) → encoded uber device ≡ [] → ⊥
encoded_some uber device none =
    let byte : slice_index (encoded uber device) 0 ≡ slice_index [] 0 =
    ap (λ (bytes : List ℕ). slice_index bytes 0) none in
    omega (arith, byte, first_byte uber device)

-- What is read is an image that a crash may leave.
pub present_might : (shape : Shape) (disk : Disk) → Lawful disk → HasNoOtherUber shape disk disk.clock (present disk)
    → MightStand shape disk disk.clock (present disk)
present_might shape disk lawful written = record {
  fits = record { at = λ d x b is. ap (λ o. unwrap_or o []) (lawful.stays_read d x b is) };
  written = written;
}

-- An image that a crash may leave shows what was handed.
pub might_show : (shape : Shape) (disk : Disk) (moment : ℕ) (image : Image) → MightStand shape disk moment image
    → MightShow shape disk moment image
might_show shape disk moment image might = record {
  handed = λ d x b is has. might.fits.at d x b is;
  written = might.written;
}

-- A device shows the same uberblock in two images in which it has the same ring.
pub shows_same : (shape : Shape) (image other : Image) (device : ℕ) (uber : Uber)
    → ((slot : ℕ) → slot < 32 → image device slot ≡ other device slot)
    → Shows shape image device uber
    → Shows shape other device uber
shows_same shape image other device uber same shows = record {
  device_in = shows.device_in;
  slot_in = shows.slot_in;
  valid = record {
    right = shows.valid.right;
    slot_is = shows.valid.slot_is;
    bytes_are = sym (same (slot_of uber.group) (slot_low uber.group)) ∙ shows.valid.bytes_are;
  };
}

-- the bytes where they are among these, else none
abbrev if_among : List (List ℕ) → List ℕ → List ℕ
if_among held bytes = if list_any (bytes_eq bytes) held then bytes else []

among_same : (held : List (List ℕ)) (bytes : List ℕ) → Contains held bytes → if_among held bytes ≡ bytes
among_same held bytes has =
    ap (λ (b : Bool). if b then bytes else []) (list_any-from_Contains nat_list_eq_equiv bytes held has)

among_some : (held : List (List ℕ)) (bytes : List ℕ) → (if_among held bytes ≡ [] → ⊥)
    → Contains held bytes × (if_among held bytes ≡ bytes)
among_some held bytes some = by (list_any (bytes_eq bytes) held) refl some
  where
    by : (b : Bool) → list_any (bytes_eq bytes) held ≡ b → ((if b then bytes else []) ≡ [] → ⊥)
        → Contains held bytes × ((if b then bytes else []) ≡ bytes)
    by true is some = (Contains-from_any (λ one other same. same_text one other (sym same)) bytes held is, refl)
    by false is some = absurd (some refl)

-- An image from before a call for one from after it: what was certain, and else what this one has, where that could
-- stand there before.
unfoldable earlier : Disk → Image → Image
earlier old image d x = if_among (able old d x) (unwrap_or (certain old d x) (image d x))

-- It has an uberblock where that could stand, and was certain or stands in the image after the call.
earlier_has : (old : Disk) (image : Image) (d x : ℕ) (uber : Uber) → earlier old image d x ≡ encoded uber d
    → Contains (able old d x) (encoded uber d)
    × ((certain old d x ≡ Some (encoded uber d)) ⊎ (image d x ≡ encoded uber d))
unfolding earlier
earlier_has old image d x uber is =
    let among = among_some (able old d x) (unwrap_or (certain old d x) (image d x))
    (λ none. encoded_some uber d (sym is ∙ none)) in
    let same : unwrap_or (certain old d x) (image d x) ≡ encoded uber d = sym among.1 ∙ is in
    (subst (λ (k : List ℕ). Contains (able old d x) k) same among.0, by (certain old d x) refl same)
  where
    by : (o : Option (List ℕ)) → certain old d x ≡ o → unwrap_or o (image d x) ≡ encoded uber d
        → (certain old d x ≡ Some (encoded uber d)) ⊎ (image d x ≡ encoded uber d)
    by (Some b) known is = inl (known ∙ ap (λ (k : List ℕ). Some k) is)
    by None known is = inr is

-- It keeps what could stand there before.
earlier_keeps : (old : Disk) → Lawful old → (image : Image) (d x : ℕ) → Contains (able old d x) (image d x)
    → earlier old image d x ≡ image d x
unfolding earlier
earlier_keeps old lawful image d x could =
    ap (if_among (able old d x)) (by (certain old d x) refl) ∙ among_same (able old d x) (image d x) could
  where
    by : (o : Option (List ℕ)) → certain old d x ≡ o → unwrap_or o (image d x) ≡ image d x
    by (Some b) known = sym (lawful.stays_could d x b (image d x) known could)
    by None known = refl

earlier_might : (shape : Shape) (old : Disk) (image : Image) → MightShow shape old old.clock (earlier old image)
unfolding earlier
earlier_might shape old image = record {
  handed = λ d x b known has. ap (λ o. if_among (able old d x) (unwrap_or o (image d x))) known
      ∙ among_same (able old d x) b has;
  written = record {
    ring = λ d uber shows. (earlier_has old image d (slot_of uber.group) uber shows.valid.bytes_are).0;
  };
}

-- A device that may vote for a pool may do so in another image that shows that pool's uberblocks on it, and outside no
-- others that the first one doesn't.
pub vote_moves : (setting : Setting) (one other : Image) (pool device : ℕ)
    → ((uber : Uber) → uber.pool ≡ pool → Shows setting.shape one device uber → Shows setting.shape other device uber)
    → ((uber : Uber) → setting.reach ≤ device → Shows setting.shape other device uber
    → Shows setting.shape one device uber)
    → MayVoteFor setting one pool device
    → MayVoteFor setting other pool device
vote_moves setting one other pool device there back (inl out) = inl (record {
  outside = out.outside;
  names = record {
    reads = out.names.reads;
    uber = out.names.uber;
    shows = there out.names.uber out.names.pool_is out.names.shows;
    greatest = λ later shows. out.names.greatest later (back later out.outside shows);
    pool_is = out.names.pool_is;
  };
})
vote_moves setting one other pool device there back (inr gone) = inr (record {
  within = gone.within;
  failed = gone.failed;
  uber = gone.uber;
  shows = there gone.uber gone.pool_is gone.shows;
  pool_is = gone.pool_is;
})

-- A call that writes rings of the pool's own devices alone, and no uberblock of another pool, changes no vote for
-- another.
module _ (setting : Setting) (here : ℕ → ℕ → Type 0) (lost : ℕ → Bool)
    (old new : Disk) (lawful : Lawful old) (frames : Frames here lost old new)
    (inside : (d x : ℕ) → here d x → x < 32 → d < setting.reach)
    (own : (d : ℕ) (uber : Uber) → IsAble setting.shape new d uber
    → (uber.pool ≡ setting.pool) ⊎ IsAble setting.shape old d uber) where
  -- An uberblock of another pool is shown before,
  shown_before : (image : Image) → MightShow setting.shape new new.clock image → (d : ℕ) (uber : Uber)
      → uber.pool ≢ setting.pool → Shows setting.shape image d uber → Shows setting.shape (earlier old image) d uber
  shown_before image might d uber other shows = ⊎_elim
      (λ (same : uber.pool ≡ setting.pool). absurd (other same))
      (λ was. record {
        device_in = shows.device_in;
        slot_in = shows.slot_in;
        valid = record {
          right = shows.valid.right;
          slot_is = shows.valid.slot_is;
          bytes_are = earlier_keeps old lawful image d (slot_of uber.group)
              (subst (λ (k : List ℕ). Contains (able old d (slot_of uber.group)) k) (sym shows.valid.bytes_are)
              was.could)
              ∙ shows.valid.bytes_are;
        };
      })
      (own d uber (record {
        device_in = shows.device_in;
        slot_in = shows.slot_in;
        right = shows.valid.right;
        could = might.written.ring d uber shows;
      }))

  -- and outside nothing is that is not shown after.
  shown_after : (image : Image) → MightShow setting.shape new new.clock image → (d : ℕ) (uber : Uber)
      → setting.reach ≤ d → Shows setting.shape (earlier old image) d uber → Shows setting.shape image d uber
  shown_after image might d uber outside shows = record {
    device_in = shows.device_in;
    slot_in = shows.slot_in;
    valid = record {
      right = shows.valid.right;
      slot_is = shows.valid.slot_is;
      bytes_are = ⊎_elim
          (λ known. might.handed d (slot_of uber.group) (encoded uber d)
          (frames.stays d (slot_of uber.group) (encoded uber d) away known)
          (frames.held d (slot_of uber.group) (encoded uber d) away known has.0))
          (λ same. same) has.1;
    };
  }
    where
      has : Contains (able old d (slot_of uber.group)) (encoded uber d)
          × ((certain old d (slot_of uber.group) ≡ Some (encoded uber d))
          ⊎ (image d (slot_of uber.group) ≡ encoded uber d))
      has = earlier_has old image d (slot_of uber.group) uber shows.valid.bytes_are

      away : here d (slot_of uber.group) → ⊥
      away h = omega (arith, inside d (slot_of uber.group) h (slot_low uber.group), outside)

  votes_before : (image : Image) → MightShow setting.shape new new.clock image → (other d : ℕ)
      → other ≢ setting.pool → MayVoteFor setting image other d → MayVoteFor setting (earlier old image) other d
  votes_before image might other d differs = vote_moves setting image (earlier old image) other d
      (λ uber pool_is shows. shown_before image might d uber (λ same. differs (sym pool_is ∙ same)) shows)
      (λ uber outside shows. shown_after image might d uber outside shows)

  pub votes_frame : ((image : Image) → MightShow setting.shape old old.clock image
      → IsNotOutvoted setting image)
      → (image : Image) → MightShow setting.shape new new.clock image
      → IsNotOutvoted setting image
  votes_frame votes image might other others differs distinct each =
      votes (earlier old image) (earlier_might setting.shape old image) other others differs distinct
      (λ k d low. votes_before image might other _ differs (each k d low))

-- A page, a slot and blocks that a call doesn't touch.
pub page_frame : (here : ℕ → ℕ → Type 0) (lost : ℕ → Bool) (old new : Disk) (kept : Kept)
    (device : ℕ) → Frames here lost old new
    → ((part : ℕ) → part < page_sectors kept.uber.count
    → here device (area_sector kept.uber.area + part) → ⊥)
    → PageOn (certain old) kept device
    → PageOn (certain new) kept device
page_frame here lost old new kept device frames away page = record {
  parts = page.parts;
  counted = page.counted;
  each = λ part bytes is. frames.stays device (area_sector kept.uber.area + part) bytes
      (away part (let within = slice_get_within page.parts part bytes is in
      omega (arith, within, page.counted)))
      (page.each part bytes is);
  page = page.page;
}

pub cells_frame : (here : ℕ → ℕ → Type 0) (lost : ℕ → Bool) (old new : Disk) (kept : Kept) (device : ℕ) → Frames here lost old new
    → ((x : ℕ) (bytes : List ℕ) (asks : Asks kept device x bytes) → here device x
    → Contains kept.excepted (asks.cell.sector, (device, x)))
    → CellsOn (certain old) kept device
    → CellsOn (certain new) kept device
cells_frame here lost old new kept device frames away cells = record {
  at = λ x bytes asks not_odd. frames.stays device x bytes
      (λ h. not_odd (away x bytes asks h)) (cells.at x bytes asks not_odd);
}

pub cells_read : (here : ℕ → ℕ → Type 0) (lost : ℕ → Bool) (old new : Disk) (kept : Kept) (device : ℕ) → Frames here lost old new → lost device ≡ false
    → ((x : ℕ) (bytes : List ℕ) (asks : Asks kept device x bytes) → here device x
    → Contains kept.excepted (asks.cell.sector, (device, x)))
    → CellsOn old.reads kept device
    → CellsOn new.reads kept device
cells_read here lost old new kept device frames works away cells = record {
  at = λ x bytes asks not_odd. frames.reads device x bytes
      (λ h. not_odd (away x bytes asks h)) works (cells.at x bytes asks not_odd);
}

slot_frame : (here : ℕ → ℕ → Type 0) (lost : ℕ → Bool) (old new : Disk) (kept : Kept)
    (device : ℕ) → Frames here lost old new
    → (here device (slot_of kept.uber.group) → ⊥)
    → SlotOn (certain old) kept device
    → SlotOn (certain new) kept device
slot_frame here lost old new kept device frames away slot = record {
  uber = slot.uber;
  right = slot.right;
  alike = slot.alike;
  shown = frames.stays device (slot_of kept.uber.group) (encoded slot.uber device) away slot.shown;
}

-- What an uberblock asks for stays certain over a call that doesn't touch it.
pub certain_frame : (here : ℕ → ℕ → Type 0) (lost : ℕ → Bool) (setting : Setting) (old new : Disk)
    (groups : List Kept) (uber : Uber) → Frames here lost old new
    → ((kept : Kept) (d x : ℕ) (bytes : List ℕ) → Contains groups kept → (asks : Asks kept d x bytes)
    → here d x → Contains kept.excepted (asks.cell.sector, (d, x)))
    → IsCertain setting old groups uber
    → IsCertain setting new groups uber
certain_frame here lost setting old new groups uber frames away is = record {
  kept = is.kept;
  listed = is.listed;
  alike = is.alike;
  listing = is.listing;
  indexes = is.indexes;
  cells = λ device inside in_use. cells_frame here lost old new is.kept device frames
      (λ x bytes asks h. away is.kept device x bytes is.listed asks h)
      (is.cells device inside in_use);
  out = is.out;
}

-- A call that touches spare sectors alone leaves all that is certain.
pub knows_frame : (here : ℕ → ℕ → Type 0) (lost : ℕ → Bool) (setting : Setting) (first : Kept)
    (later : List Kept) (old new : Disk) → Lawful old → Frames here lost old new
    → ((d x : ℕ) → here d x → IsSpare setting first later d x)
    → Knows setting first later old
    → Knows setting first later new
knows_frame here lost setting first later old new lawful frames spare knows = record {
  row = knows.row;
  sound = knows.sound;
  slots = λ device below works. slot_frame here lost old new first device frames
      (λ h. let ring = (spare device (slot_of first.uber.group) h).ring in
      omega (arith, ring, slot_low first.uber.group))
      (knows.slots device below works);
  pages = λ device below works. page_frame here lost old new first device frames
      (λ part low h. (spare device (area_sector first.uber.area + part) h).page below works part low
      refl)
      (knows.pages device below works);
  only = λ device uber able_new pool_is above. certain_frame here lost setting old new
      (first ∷ later) uber frames
      (λ kept d x bytes listed asks h. (spare d x h).cells kept bytes listed asks)
      (knows.only device uber (back device uber able_new) pool_is above);
  own = λ device uber able_new. knows.own device uber (back device uber able_new);
  votes = votes_frame setting here lost old new lawful frames
      (λ d x h low. absurd (let ring = (spare d x h).ring in omega (arith, ring, low)))
      (λ d uber is. inr (back d uber is)) knows.votes;
}
  where
    back : (device : ℕ) (uber : Uber) → IsAble setting.shape new device uber
        → IsAble setting.shape old device uber
    back device uber is = record {
      device_in = is.device_in;
      slot_in = is.slot_in;
      right = is.right;
      could = frames.could device (slot_of uber.group) (encoded uber device)
          (λ h. let ring = (spare device (slot_of uber.group) h).ring in
          omega (arith, ring, slot_low uber.group)) is.could;
    }

-- Writing one more copy of a group's uberblock into a slot of the pool. What the uberblock asks for is
-- certain; the first group's own slot is not touched where it is relied on.
pub knows_one_more : (setting : Setting) (first : Kept) (later : List Kept) (old new : Disk)
    (device : ℕ) (uber : Uber) (result : Result (Unit {0}) Failed) → Lawful old
    → Wrote old new device (slot_of uber.group) (encoded uber device) result
    → device < setting.reach → device < 16 → IsRightUber uber
    → uber.pool ≡ setting.pool
    → IsCertain setting old (first ∷ later) uber
    → (slot_of uber.group ≢ slot_of first.uber.group) ⊎ (has_device setting.failed device ≡ true)
    → Knows setting first later old
    → Knows setting first later new
knows_one_more setting first later old new device uber result lawful wrote below few right pool_is
    known spared knows = record {
      row = knows.row;
      sound = knows.sound;
      slots = λ e below_e works. slot_frame (IsPlace device slot) none_lost old new first e frames
          (λ h. ⊎_elim (λ ne. ne (sym h.1))
          (λ bad. true_false (sym (subst (λ k. has_device setting.failed k ≡ true) (sym h.0) bad) ∙ works))
          spared)
          (knows.slots e below_e works);
      pages = λ e below_e works. page_frame (IsPlace device slot) none_lost old new first e frames
          (λ part low h. let apart = h.1 in omega (arith, apart, slot_low uber.group))
          (knows.pages e below_e works);
      only = λ e other is pool_other above. ⊎_elim
          (λ same. subst (λ (u : Uber). IsCertain setting new (first ∷ later) u) (sym same)
          (framed uber known))
          (λ was. framed other (knows.only e other was pool_other above))
          (was_or e other is);
      own = λ e other is below_e works. ⊎_elim
          (λ same. ap (λ (u : Uber). u.pool) same ∙ pool_is)
          (λ was. knows.own e other was below_e works) (was_or e other is);
      votes = votes_frame setting (IsPlace device slot) none_lost old new lawful frames
          (λ d x h low. subst (λ k. k < setting.reach) (sym h.0) below)
          (λ e other is. ⊎_elim (λ same. inl (ap (λ (u : Uber). u.pool) same ∙ pool_is)) (λ was. inr was)
          (was_or e other is)) knows.votes;
    }
  where
    slot : ℕ
    slot = slot_of uber.group

    true_false : true ≡ false → ⊥
    true_false same = cc

    frames : Frames (IsPlace device (slot_of uber.group)) none_lost old new
    frames = wrote_frames wrote

    framed : (other : Uber) → IsCertain setting old (first ∷ later) other
        → IsCertain setting new (first ∷ later) other
    framed other is = certain_frame (IsPlace device (slot_of uber.group)) none_lost setting old new
        (first ∷ later) other frames
        (λ kept d x bytes listed asks h. absurd (data_is_no_slot x (asks_sector kept d x bytes asks)
        (let here = h.1 in omega (arith, here, slot_low uber.group)))) is

    was_or : (e : ℕ) (other : Uber) → IsAble setting.shape new e other
        → (other ≡ uber) ⊎ IsAble setting.shape old e other
    was_or e other is = ⊎_elim
        (λ same_d. ⊎_elim
        (λ same_x. ⊎_elim
        (λ bytes. inl (encoded_tells other uber device device is.right right
        (omega (arith, few)) (omega (arith, few))
        (subst (λ k. encoded other k ≡ encoded uber device) same_d bytes)).0)
        (λ was. inr (able_old e other is
        (subst (λ y. Contains (able old e y) (encoded other e)) (sym same_x)
        (subst (λ k. Contains (able old k (slot_of uber.group)) (encoded other e)) (sym same_d)
        was))))
        (wrote.could (encoded other e)
        (subst (λ k. Contains (able new k (slot_of uber.group)) (encoded other e)) same_d
        (subst (λ y. Contains (able new e y) (encoded other e)) same_x is.could))))
        (λ ne. inr (able_old e other is
        (subst (λ (l : List (List ℕ)). Contains l (encoded other e))
        (wrote.others_could e (slot_of other.group) (inr ne)) is.could)))
        (cases_eq (slot_of other.group) (slot_of uber.group)))
        (λ ne. inr (able_old e other is
        (subst (λ (l : List (List ℕ)). Contains l (encoded other e))
        (wrote.others_could e (slot_of other.group) (inl ne)) is.could)))
        (cases_eq e device)
      where
        able_old : (e : ℕ) (other : Uber) → IsAble setting.shape new e other
            → Contains (able old e (slot_of other.group)) (encoded other e)
            → IsAble setting.shape old e other
        able_old e other is could = record {
          device_in = is.device_in;
          slot_in = is.slot_in;
          right = is.right;
          could = could;
        }
