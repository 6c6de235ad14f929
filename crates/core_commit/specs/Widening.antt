-- A device that joins the pool at the first uberblock write of a commit.
use Rattle.std.specs.Prelude.{◌≡◌, ◌⊎◌, ℕ, ◌+◌, ◌<◌, ◌≤◌, List, Some, IsSome, Result}
use Rattle.bank_trait.specs.declared.Failed.{Failed}
use Rattle.bank_trait.specs.Disk.{Disk, Synced, Wrote}
use Rattle.block_record.specs.Page.{page_sectors}
use Rattle.uberblock_ring.specs.Uberblock.{Uber, area_sector}
use Rattle.commit_job.specs.Stages.{signing_of}
use Rattle.core_state.specs.Shown.{read_devices}
use Rattle.core_state.specs.Keeps.{Kept, Setting}
use Rattle.core_state.specs.Committing.{Point, page_part}
use Rattle.core_state.specs.Rings.{IsRingSettled, ReadsNoUber}
use Rattle.core_commit.specs.declared.commit_run.Stage.TheVariants.{Signs}
use Rattle.core_commit.specs.CommitTurns.{CommitRun}

-- the group with one device more, to which nothing is moved yet; it lists no device as out
abbrev pub widened_uber : Uber → Uber
widened_uber uber = record uber { reflow = record uber.reflow { to = uber.reflow.to + 1 }; out = 0 }

abbrev pub widened_kept : Kept → Kept
widened_kept kept = record kept { uber = widened_uber kept.uber }

-- the second half of the same group with one device more, from its first call on
abbrev pub widened_run : CommitRun → CommitRun
widened_run run = record {
  uber = widened_uber run.uber;
  entries = run.entries;
  calls = signing_of (run.uber.reflow.to + 1);
  stage = Signs;
}

-- A device may join the pool of a group: its ring can hold nothing but what is read of it and shows no uberblock, and
-- it reads the group's index page.
pub record MayJoin (disk : Disk) (next : Kept) (device : ℕ) : Type 0 where
  pub settled : IsRingSettled disk device
  pub blank : ReadsNoUber disk device
  pub told : (device_sector : ℕ) → device_sector < 192 → IsSome (disk.reads device device_sector)
  pub page : (part : ℕ) → part < page_sectors next.uber.count
      → disk.reads device (area_sector next.uber.area + part) ≡ Some (page_part next part)

-- A group can be made with one device more: it comes right after the first one, both are as wide as the pool may be, it
-- is at rest, and the device behind the pool's is there.
pub record IsWidenable (setting : Setting) (first next : Kept) : Type 0 where
  pub rest : next.uber.reflow.to ≡ next.uber.reflow.from
  pub width : next.uber.reflow.to ≡ setting.reach
  pub first_width : first.uber.reflow.to ≡ setting.reach
  pub follows : next.uber.group ≡ first.uber.group + 1
  pub there : setting.reach < read_devices setting.shape

-- A commit may be widened: no device is out, and the one behind the pool's may join.
pub record MayWiden (setting : Setting) (first next : Kept) (point : Point) : Type 0 where
  pub whole : point.out ≡ 0
  pub pool : IsWidenable setting first next
  pub joins : MayJoin point.disk next setting.reach

-- A call was made on a device beyond all that the pool may have: a sync, or a write of an index area.
pub record HasCalledOutside (reach : ℕ) (old new : Disk) : Type 0 where
  pub device : ℕ
  pub outside : reach ≤ device
  pub result : Result (Unit {0}) Failed
  pub made : Synced old new device result
      ⊎ ((device_sector : ℕ) × (bytes : List ℕ) × (64 ≤ device_sector) × (device_sector < 192)
      × Wrote old new device device_sector bytes result)
