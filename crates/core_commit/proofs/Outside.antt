-- Calls on devices beyond the pool leave what is known of its commit.
use Rattle.std.proofs.Common.{◌≡◌, ◌≢◌, ◌⊎◌, inl, inr, ⊎_elim, ℕ, ◌+◌, ◌<◌, ◌≤◌, List, [], ◌∷◌, Bool, false, Some}
use Rattle.std.proofs.Common.{Result, refl, ap, arith}
use Rattle.std.specs.Prelude.{IsSome, ◌==◌, ◌&&◌, not, is_ok}
use Rattle.std.proofs.lemmas.Bool.Decides.{nat_tests}
use Rattle.bank_trait.specs.declared.Failed.{Failed}
use Rattle.bank_trait.specs.Disk.{Disk, Continues, Lawful, Synced, Wrote}
use Rattle.uberblock_ring.specs.Uberblock.{Uber, encoded, slot_of, area_sector}
use Rattle.commit_job.specs.declared.call.CommitCall.{CommitCall}
use Rattle.core_state.specs.Keeps.{Kept, Setting}
use Rattle.core_state.specs.Certain.{Asks, Knows}
use Rattle.core_state.specs.Committing.{Unsigned, Signed, lost_by, page_part, point_of}
use Rattle.core_state.specs.Free.{IsSpare}
use Rattle.core_state.specs.Moment.{IsRowOf, KeepsSince}
use Rattle.core_state.proofs.Places.{asks_sector, data_is_no_page}
use Rattle.core_state.proofs.Frames.{Frames, Nowhere, IsPlace, none_lost, wrote_frames, synced_frames}
use Rattle.core_state.proofs.Knowing.{knows_frame, certain_frame, page_frame, cells_frame, cells_read}
use Rattle.core_state.proofs.Since.{since_more}
use Rattle.core_commit.specs.declared.commit_run.Stage.{Stage}
use Rattle.core_commit.specs.declared.commit_run.Stage.TheVariants.{Lays, Signs}
use Rattle.core_commit.specs.CommitTurns.{CommitRun, CommitsSoFar, IsCommitting}
use Rattle.core_commit.specs.Widening.{HasCalledOutside}

-- What a call leaves of which the places are in index areas of devices beyond the pool.
record LeavesPool (reach : ℕ) (old new : Disk) : Type 0 where
  device : ℕ
  device_sector : ℕ
  outside : reach ≤ device
  region : (64 ≤ device_sector) × (device_sector < 192)
  lost : ℕ → Bool
  works : (other : ℕ) → other < reach → lost other ≡ false
  frames : Frames (IsPlace device device_sector) lost old new
  told : (d x : ℕ) → IsSome (old.reads d x) → IsSome (new.reads d x)
  goes_on : Continues old new

lost_beyond : (device other : ℕ) (result : Result (Unit {0}) Failed) → other ≢ device
    → lost_by device result other ≡ false
lost_beyond device other result apart = ap (λ (b : Bool). b && not (is_ok result)) (differs device other apart)
  where
    differs : (device other : ℕ) → other ≢ device → (other == device) ≡ false
    differs device other apart = grind (arith, nat_tests)

frames_wider : (device device_sector : ℕ) (lost : ℕ → Bool) (old new : Disk) → Frames Nowhere lost old new
    → Frames (IsPlace device device_sector) lost old new
frames_wider device device_sector lost old new frames = record {
  stays = λ d x bytes away is. frames.stays d x bytes (λ none. none) is;
  held = λ d x bytes away is has. frames.held d x bytes (λ none. none) is has;
  could = λ d x bytes away has. frames.could d x bytes (λ none. none) has;
  reads = λ d x bytes away kept is. frames.reads d x bytes (λ none. none) kept is;
}

leaves_pool : (reach : ℕ) (old new : Disk) → Lawful old → HasCalledOutside reach old new → LeavesPool reach old new
leaves_pool reach old new lawful called = by called.made
  where
    by : Synced old new called.device called.result
        ⊎ ((device_sector : ℕ) × (bytes : List ℕ) × (64 ≤ device_sector) × (device_sector < 192)
        × Wrote old new called.device device_sector bytes called.result)
        → LeavesPool reach old new
    by (inl synced) = record {
      device = called.device;
      device_sector = 64;
      outside = called.outside;
      region = (omega arith, omega arith);
      lost = lost_by called.device called.result;
      works = λ other below. lost_beyond called.device other called.result
          (λ same. let outside = called.outside in omega (arith, same, below, outside));
      frames = frames_wider called.device 64 (lost_by called.device called.result) old new
          (synced_frames called.result lawful synced);
      told = λ d x is. synced.goes_on.later.told d x is;
      goes_on = synced.goes_on;
    }
    by (inr (device_sector, bytes, low, high, wrote)) = record {
      device = called.device;
      device_sector = device_sector;
      outside = called.outside;
      region = (low, high);
      lost = none_lost;
      works = λ other below. refl;
      frames = wrote_frames wrote;
      told = λ d x is. wrote.goes_on.later.told d x is;
      goes_on = wrote.goes_on;
    }

module _ (setting : Setting) (old new : Disk) (lawful : Lawful old) (leaves : LeavesPool setting.reach old new) where
  abbrev here : ℕ → ℕ → Type 0
  here = IsPlace leaves.device leaves.device_sector

  -- It touches no device of a group that the pool may have, and no sector that one asks for.
  apart : (width device device_sector : ℕ) → width ≤ setting.reach → device < width → here device device_sector → ⊥
  apart width device device_sector within below is =
      let outside = leaves.outside in let same = is.0 in omega (arith, within, below, outside, same)

  unasked : (kept : Kept) (device device_sector : ℕ) (bytes : List ℕ) → Asks kept device device_sector bytes
      → here device device_sector → ⊥
  unasked kept device device_sector bytes asks is =
      let region = leaves.region in
      let same = is.1 in
      data_is_no_page device_sector (asks_sector kept device device_sector bytes asks) (omega (arith, region.0, same))
      (omega (arith, region.1, same))

  spare : (first : Kept) (later : List Kept) → first.uber.reflow.to ≤ setting.reach → (device device_sector : ℕ)
      → here device device_sector → IsSpare setting first later device device_sector
  spare first later within device device_sector is = record {
    ring = (let region = leaves.region in let same = is.1 in omega (arith, region.0, same));
    page = λ below works part low same. apart first.uber.reflow.to device device_sector within below is;
    cells = λ kept bytes listed asks. absurd (unasked kept device device_sector bytes asks is);
  }

  knows_beyond : (first : Kept) (later : List Kept) → Knows setting first later old → Knows setting first later new
  knows_beyond first later knows = knows_frame here leaves.lost setting first later old new lawful leaves.frames
      (spare first later (knows.row.widths 0 first (omega arith)).most) knows

  module _ (first next : Kept) (within : next.uber.reflow.to ≤ setting.reach) (now_lawful : Lawful new) (out : ℕ) where
    used_works : (device : ℕ) → device < next.uber.reflow.to → leaves.lost device ≡ false
    used_works device below = leaves.works device (omega (arith, below, within))

    away : (device device_sector : ℕ) → device < next.uber.reflow.to → here device device_sector → ⊥
    away device device_sector below = apart next.uber.reflow.to device device_sector within below

    page_read : (device part : ℕ) → device < next.uber.reflow.to
        → old.reads device (area_sector next.uber.area + part) ≡ Some (page_part next part)
        → new.reads device (area_sector next.uber.area + part) ≡ Some (page_part next part)
    page_read device part below read = leaves.frames.reads device (area_sector next.uber.area + part)
        (page_part next part) (away device (area_sector next.uber.area + part) below) (used_works device below) read

    unsigned_beyond : (later : List Kept) (plan : List CommitCall)
        → Unsigned setting first later next plan (point_of out old)
        → Unsigned setting first later next plan (point_of out new)
    unsigned_beyond later plan u = record {
      knows = knows_beyond first later u.knows;
      lawful = now_lawful;
      told = λ d x below used low. leaves.told d x (u.told d x below used low);
      cells = λ d below used. cells_read here leaves.lost old new next d leaves.frames
          (used_works d below) (λ x bytes asks h. absurd (unasked next d x bytes asks h)) (u.cells d below used);
      laid = λ d part below used low. ⊎_elim (λ left. inl left) (λ read. inr (page_read d part below read))
          (u.laid d part below used low);
      settled = λ d below used. ⊎_elim (λ left. inl left)
          (λ was. inr (
            page_frame here leaves.lost old new next d leaves.frames
                (λ part low. away d (area_sector next.uber.area + part) below) was.0,
            cells_frame here leaves.lost old new next d leaves.frames
                (λ x bytes asks h. absurd (unasked next d x bytes asks h)) was.1,
          )) (u.settled d below used);
    }

    signed_beyond : (later : List Kept) (uber : Uber) (plan : List CommitCall)
        → Signed setting first later next uber plan (point_of out old)
        → Signed setting first later next uber plan (point_of out new)
    signed_beyond later uber plan s = record {
      knows = knows_beyond first later s.knows;
      known = certain_frame here leaves.lost setting old new (first ∷ later) uber leaves.frames
          (λ kept d x bytes has asks h. absurd (unasked kept d x bytes asks h)) s.known;
      lawful = now_lawful;
      told = λ d x below used low. leaves.told d x (s.told d x below used low);
      laid = λ d part below used low. ⊎_elim (λ left. inl left) (λ read. inr (page_read d part below read))
          (s.laid d part below used low);
      signed = λ d below used. ⊎_elim (λ left. inl left)
          (λ was. inr (record {
            uber = was.uber;
            right = was.right;
            alike = was.alike;
            shown = leaves.frames.reads d (slot_of next.uber.group) (encoded was.uber d)
                (away d (slot_of next.uber.group) below) (used_works d below) was.shown;
          })) (s.signed d below used);
      sealed = λ d below used. ⊎_elim (λ left. inl left)
          (λ was. inr (
            page_frame here leaves.lost old new next d leaves.frames
                (λ part low. away d (area_sector next.uber.area + part) below) was.0,
            record {
              uber = was.1.uber;
              right = was.1.right;
              alike = was.1.alike;
              shown = leaves.frames.stays d (slot_of next.uber.group) (encoded was.1.uber d)
                  (away d (slot_of next.uber.group) below) was.1.shown;
            },
          )) (s.sealed d below used);
    }

    come_beyond : (stage : Stage) (uber : Uber) (calls : List CommitCall)
        → CommitsSoFar setting first next stage uber calls (point_of out old)
        → CommitsSoFar setting first next stage uber calls (point_of out new)
    come_beyond Lays uber calls come = record {
      unsigned = unsigned_beyond [] calls come.unsigned;
      unsaid = come.unsaid;
    }
    come_beyond Signs uber calls come = record {
      signed = signed_beyond (next ∷ []) uber calls come.signed;
      spent = come.spent;
    }

-- Law: A commit under way stays one over a sync of a device that no group has, or a write of a page there.
pub committing_beyond : (setting : Setting) (first next : Kept) (run : CommitRun) (out : ℕ) (old new : Disk)
    → Lawful old → Lawful new → HasCalledOutside setting.reach old new
    → IsCommitting setting first next run (point_of out old)
    → IsCommitting setting first next run (point_of out new)
committing_beyond setting first next run out old new lawful now_lawful called is = record {
  row = is.row;
  sound_first = is.sound_first;
  sound = is.sound;
  right = is.right;
  alike = is.alike;
  entries_are = is.entries_are;
  parity_is = is.parity_is;
  area = is.area;
  near = is.near;
  ordered = is.ordered;
  so_far = come_beyond setting old new lawful (leaves_pool setting.reach old new lawful called) first next
      (is.row.widths 1 next (omega arith)).most now_lawful out run.stage run.uber run.calls is.so_far;
}

-- Law: Such a call leaves what is known of the pool, whether it comes off or not.
pub known_beyond : (setting : Setting) (first : Kept) (later : List Kept) (old new : Disk) → Lawful old
    → HasCalledOutside setting.reach old new → Knows setting first later old
    → Knows setting first later new
known_beyond setting first later old new lawful called =
    knows_beyond setting old new lawful (leaves_pool setting.reach old new lawful called) first later

-- Law: Such a call leaves what each image since a moment keeps.
pub since_beyond : (setting : Setting) (groups : List Kept) (since : ℕ) (first : Kept) (later : List Kept)
    (old new : Disk) → Lawful old → HasCalledOutside setting.reach old new → IsRowOf groups first later
    → Knows setting first later old → KeepsSince setting groups since old
    → KeepsSince setting groups since new
since_beyond setting groups since first later old new lawful called row knows kept =
    since_more setting groups since first later old new row (leaves_pool setting.reach old new lawful called).goes_on
    (known_beyond setting first later old new lawful called knows) kept
