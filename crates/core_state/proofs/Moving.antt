-- How the row of groups that images may show grows and moves on.
use Rattle.std.proofs.Common.{◌≡◌, inl, inr, ⊎_elim, ℕ, ◌<◌, ◌≤◌, List, [], ◌∷◌, Bool, true, false, refl, sym, ◌∙◌, ap}
use Rattle.std.proofs.Common.{subst, arith}
use Rattle.std.specs.Prelude.{Contains}
use Rattle.bank_trait.specs.Disk.{Disk, Known}
use Rattle.width_map.specs.declared.birth.Birth.{Birth}
use Rattle.reflow_mark.specs.declared.reflow.Reflow.{Reflow}
use Rattle.shadow_write.specs.Required.{IsRequiredPlace, front_after_stop}
use Rattle.block_record.specs.declared.entry.IndexEntry.{IndexEntry}
use Rattle.uberblock_ring.specs.Devices.{has_device, IsWithin}
use Rattle.uberblock_ring.specs.Uberblock.{Uber}
use Rattle.uberblock_ring.specs.Valid.{AreAlike}
use Rattle.commit_job.specs.declared.call.CommitCall.{CommitCall}
use Rattle.commit_job.specs.declared.call.CommitCall.TheVariants.{IndexWrite, BaseSync, UberWrite, UberSync}
use Rattle.core_state.specs.Index.{IsIndexOf, IsListing, KeptBlock}
use Rattle.core_state.specs.Whole.{Excepted, Cell, IsCellOf, KeepsBlock}
use Rattle.core_state.specs.Keeps.{Kept, Setting, SameGroup}
use Rattle.core_state.specs.Certain.{Asks, CellsOn, IsSound, IsCertain, IsSuccession, Knows, certain}
use Rattle.core_state.specs.Committing.{Among, Point, HasBase, IsSealed, Unsigned, Signed}
use Rattle.core_state.proofs.Places.{asks_device}
use Rattle.core_state.proofs.Calls.{true_false}

-- More groups join the row, or the same ones stand in another order.
certain_widen : (setting : Setting) (disk : Disk) (groups more : List Kept) (uber : Uber)
    → ((kept : Kept) → Contains groups kept → Contains more kept)
    → IsCertain setting disk groups uber
    → IsCertain setting disk more uber
certain_widen setting disk groups more uber wider is = record {
  kept = is.kept;
  listed = wider is.kept is.listed;
  alike = is.alike;
  listing = is.listing;
  indexes = is.indexes;
  cells = is.cells;
  out = is.out;
}

pub knows_widen : (setting : Setting) (first : Kept) (later more : List Kept) (disk : Disk)
    → IsSuccession setting first more
    → ((kept : Kept) → Contains (first ∷ later) kept → Contains (first ∷ more) kept)
    → Knows setting first later disk
    → Knows setting first more disk
knows_widen setting first later more disk row wider knows = record {
  row = row;
  sound = knows.sound;
  slots = knows.slots;
  pages = knows.pages;
  only = λ device uber able pool_is above.
      certain_widen setting disk (first ∷ later) (first ∷ more) uber wider
      (knows.only device uber able pool_is above);
  own = knows.own;
  votes = knows.votes;
}

-- The row begins at a later group, whose slots and pages are certain.
pub knows_move : (setting : Setting) (first : Kept) (later : List Kept) (next : Kept)
    (more : List Kept) (disk : Disk) → IsSuccession setting next more → IsSound setting next
    → first.uber.group ≤ next.uber.group
    → ((device : ℕ) → device < next.uber.reflow.to → has_device setting.failed device ≡ false
    → IsSealed (certain disk) next device)
    → ((kept : Kept) → Contains (first ∷ later) kept → next.uber.group ≤ kept.uber.group
    → Contains (next ∷ more) kept)
    → Knows setting first later disk
    → Knows setting next more disk
knows_move setting first later next more disk row sound above sealed from_later knows =
    record {
      row = row;
      sound = sound;
      slots = λ device below works. (sealed device below works).1;
      pages = λ device below works. (sealed device below works).0;
      only = λ device uber able pool_is high.
          let is = knows.only device uber able pool_is (omega (arith, above, high)) in
          let group : uber.group ≡ is.kept.uber.group = ap (λ (u : Uber). u.group) is.alike in
          record {
            kept = is.kept;
            listed = from_later is.kept is.listed (omega (arith, high, group));
            alike = is.alike;
            listing = is.listing;
            indexes = is.indexes;
            cells = is.cells;
            out = is.out;
          };
      own = knows.own;
      votes = knows.votes;
    }

keeps_same : (one other : Kept) (entry : IndexEntry) (content : List ℕ) → SameGroup one other
    → KeepsBlock one.entries one.others one.map entry content
    → KeepsBlock other.entries other.others other.map entry content
keeps_same one other entry content same (inl of) = inl (
  subst (λ (es : List IndexEntry). Contains es entry) same.entries of.0,
  sym (same.map entry.id) ∙ of.1,
)
keeps_same one other entry content same (inr of) =
    inr (subst (λ (bs : List KeptBlock). Contains bs (record { entry = entry; content = content })) same.others of)

cell_same : (parity : ℕ) (births : List Birth) (one other : Kept) (cell : Cell)
    → SameGroup one other
    → IsCellOf parity births one.entries one.others one.map cell
    → IsCellOf parity births other.entries other.others other.map cell
cell_same parity births one other cell same of = record {
  entry = of.entry;
  content = of.content;
  keeps = keeps_same one other of.entry of.content same of.keeps;
  cell_is = of.cell_is;
}

-- Then they ask for the same.
pub asks_same : (one other : Kept) (device device_sector : ℕ) (bytes : List ℕ)
    → SameGroup one other
    → Asks one device device_sector bytes
    → Asks other device device_sector bytes
asks_same one other device device_sector bytes same asks =
    let parity : one.uber.parity ≡ other.uber.parity = ap (λ (u : Uber). u.parity) same.alike in
    let births : one.uber.births ≡ other.uber.births = ap (λ (u : Uber). u.births) same.alike in
    let reflow : one.uber.reflow ≡ other.uber.reflow = ap (λ (u : Uber). u.reflow) same.alike in
    record {
      cell = asks.cell;
      cell_is = cell_same other.uber.parity other.uber.births one other asks.cell same
          (subst (λ (n : ℕ). IsCellOf n other.uber.births one.entries one.others one.map asks.cell) parity
          (subst (λ (bs : List Birth). IsCellOf one.uber.parity bs one.entries one.others one.map asks.cell)
          births asks.cell_is));
      place = subst
          (λ (r : Reflow). IsRequiredPlace r (front_after_stop r) asks.cell.row_end asks.cell.sector
          device device_sector) reflow asks.place;
      bytes_are = asks.bytes_are;
    }

-- and where what the one asks for is known, so it is of the other.
pub cells_same : (one other : Kept) (known : Known) (device : ℕ) → SameGroup one other
    → ((device_sector : ℕ) (bytes : List ℕ) → Asks other device device_sector bytes
    → CellsOn known other device)
    → CellsOn known one device
unfolding asks_same
cells_same one other known device same cells = record {
  at = λ device_sector bytes asks none.
      let asked = asks_same one other device device_sector bytes same asks in
      (cells device_sector bytes asked).at device_sector bytes asked
      (λ listed. none (subst (λ (o : Excepted). Contains o (asks.cell.sector, (device, device_sector)))
      (sym same.excepted) listed));
}

-- What makes an uberblock that images may show from now on: it is that of a group of the row, the one
-- that is being committed, and lists exactly the devices that are out.
pub record MaySign (setting : Setting) (first : Kept) (more : List Kept) (next : Kept) (uber : Uber)
    (out : ℕ) : Type 0 where
  pub row : IsSuccession setting first more
  pub kept : Kept
  pub listed : Contains (first ∷ more) kept
  pub same : SameGroup kept next
  pub alike : AreAlike uber kept.uber
  pub listing : IsListing kept.entries kept.others uber.count
  pub widths : (0 < next.uber.reflow.from) × (next.uber.reflow.from ≤ next.uber.reflow.to)
  pub indexes : IsIndexOf next.entries next.map
  pub lists : (device : ℕ) → has_device uber.out device ≡ has_device out device
  pub within : IsWithin out setting.failed

-- The first half of a commit is done: each base is certain, and an uberblock may be written.
pub signs_begin : (setting : Setting) (first : Kept) (later more : List Kept) (next : Kept)
    (uber : Uber) (plan late : List CommitCall) (point : Point)
    → MaySign setting first more next uber point.out
    → ((kept : Kept) → Contains (first ∷ later) kept → Contains (first ∷ more) kept)
    → ((device part : ℕ) → has_device point.out device ≡ false
    → Among plan (IndexWrite device part) → ⊥)
    → ((device : ℕ) → has_device point.out device ≡ false → Among plan (BaseSync device) → ⊥)
    → ((device : ℕ) → device < next.uber.reflow.to
    → Among late (UberWrite device) × Among late (UberSync device))
    → Unsigned setting first later next plan point
    → Signed setting first more next uber late point
signs_begin setting first later more next uber plan late point may wider no_lay no_settle due u =
    record {
      knows = knows_widen setting first later more point.disk may.row wider u.knows;
      known = record {
        kept = may.kept;
        listed = may.listed;
        alike = may.alike;
        listing = may.listing;
        indexes = record {
          listed = λ entry listed.
              let is = u_indexes.listed entry
              (subst (λ (es : List IndexEntry). Contains es entry) may.same.entries listed) in
              (is.0, may.same.map entry.id ∙ is.1, is.2);
          every = λ id bytes held.
              let is = u_indexes.every id bytes (sym (may.same.map id) ∙ held) in
              (is.0, subst (λ (es : List IndexEntry). Contains es is.0) (sym may.same.entries) is.1, is.2);
        };
        cells = λ device inside in_use. cells_same may.kept next (certain point.disk) device may.same
            (λ x bytes asks. (base device (asks_device next device x bytes may.widths asks)
            (sym (may.lists device) ∙ in_use)).1);
        out = λ device is. may.within device (sym (may.lists device) ∙ is);
      };
      lawful = u.lawful;
      told = u.told;
      laid = λ device part below in_use low. inr (⊎_elim
          (λ left. absurd (no_lay device part in_use left)) (λ read. read) (u.laid device part below in_use low));
      signed = λ device below in_use. inl (due device below).0;
      sealed = λ device below in_use. inl (due device below).1;
    }
  where
    u_indexes : IsIndexOf next.entries next.map
    u_indexes = may.indexes

    base : (device : ℕ) → device < next.uber.reflow.to → has_device point.out device ≡ false
        → HasBase setting (certain point.disk) next device
    base device below in_use = ⊎_elim (λ left. absurd (no_settle device in_use left)) (λ known. known)
        (u.settled device below in_use)

-- A commit is done: nothing is left to be called, and only devices that may fail are out. Then the row
-- begins with its group.
pub commit_ends : (setting : Setting) (first : Kept) (later : List Kept) (next : Kept)
    (more : List Kept) (uber : Uber) (point : Point) → IsSuccession setting next more
    → IsSound setting next
    → first.uber.group ≤ next.uber.group
    → ((kept : Kept) → Contains (first ∷ later) kept → next.uber.group ≤ kept.uber.group
    → Contains (next ∷ more) kept)
    → IsWithin point.out setting.failed → Signed setting first later next uber [] point
    → Knows setting next more point.disk
commit_ends setting first later next more uber point row sound above from_later within s =
    knows_move setting first later next more point.disk row sound above
    (λ device below works. ⊎_elim (λ none. absurd none) (λ known. known)
    (s.sealed device below (in_use device works (has_device point.out device) refl)))
    from_later s.knows
  where
    in_use : (device : ℕ) → has_device setting.failed device ≡ false → (b : Bool)
        → has_device point.out device ≡ b
        → has_device point.out device ≡ false
    in_use device works false is = is
    in_use device works true is = absurd (true_false (sym (within device is) ∙ works))
