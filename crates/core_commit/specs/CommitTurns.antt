-- A commit that makes one call a step: what a step does, and how far a commit has come between two.
use Rattle.std.specs.Prelude.{◌≡◌, ◌≢◌, ◌⊎◌, ℕ, ◌+◌, ◌<◌, ◌≤◌, List, [], ◌∷◌, Some, true, All, Contains, slice_get}
use Rattle.std.specs.Prelude.{length}
use Rattle.block_record.specs.declared.entry.IndexEntry.{IndexEntry}
use Rattle.block_record.specs.Page.{page_sectors, IsIndex}
use Rattle.uberblock_ring.specs.Devices.{has_device}
use Rattle.uberblock_ring.specs.Uberblock.{Uber}
use Rattle.uberblock_ring.specs.Valid.{IsRightUber, AreAlike}
use Rattle.commit_job.specs.declared.call.CommitCall.{CommitCall}
use Rattle.commit_job.specs.declared.call.CommitCall.TheVariants.{UberWrite, UberSync}
use Rattle.commit_job.specs.Stages.{device_of, calls_left, after_next}
use Rattle.core_state.specs.Keeps.{Kept, Setting}
use Rattle.core_state.specs.Certain.{Asks, IsSuccession, IsSound}
use Rattle.core_state.specs.Committing.{Among, Point, Unsigned, Signed}
use Rattle.core_commit.specs.declared.commit_run.Stage.{Stage}
use Rattle.core_commit.specs.declared.commit_run.Stage.TheVariants.{Lays, Signs}
use Rattle.core_commit.specs.declared.commit_run.CommitStep.{CommitStep}
use Rattle.core_commit.specs.declared.commit_run.CommitStep.TheVariants.{Called, Ended}
use Rattle.core_commit.specs.Ran.{MadeOne, IsSigning, IsLaying, IsCallInPool}
use Rattle.core_commit.specs.Ordered.{Ordered}

-- a commit under way: the group that is made, its index, the calls that are still to be made, and the
-- half that it is in
pub record CommitRun : Type 0 where
  pub uber : Uber
  pub entries : List IndexEntry
  pub calls : List CommitCall
  pub stage : Stage

-- The group is right, and the calls are to devices and sectors that are there.
pub record IsCommitRun (run : CommitRun) : Type 0 where
  pub right : IsRightUber run.uber
  pub index : IsIndex run.entries
  pub counted : length run.entries ≡ run.uber.count
  pub inside : All (IsCallInPool run.uber) run.calls

-- the second half as it begins: its uberblock lists the devices that are out by then
abbrev pub signing_run : ℕ → CommitRun → CommitRun
signing_run out run = record {
  uber = record run.uber { out = out };
  entries = run.entries;
  calls = run.calls;
  stage = Signs;
}

-- A half goes on: the second one to the end, the first while the next call is one of it.
abbrev pub HalfGoesOn : ℕ → CommitRun → Type 0
HalfGoesOn out run = (run.stage ≡ Signs)
    ⊎ ((call : CommitCall) × (slice_get (calls_left out run.calls) 0 ≡ Some call) × IsLaying call)

-- The first half is done: no call of it is left for the devices in use.
abbrev pub IsLaidDown : ℕ → CommitRun → Type 0
IsLaidDown out run = (run.stage ≡ Lays)
    × ((call : CommitCall) → slice_get (calls_left out run.calls) 0 ≡ Some call → IsSigning call)

-- A run is made ready for its next call: where the first half is done, the second one begins.
abbrev pub IsMadeReady : ℕ → CommitRun → CommitRun → Type 0
IsMadeReady out run ready =
    (HalfGoesOn out run × (ready ≡ run)) ⊎ (IsLaidDown out run × (ready ≡ signing_run out run))

-- The next call was made; what is left are the calls behind it.
pub record HasCalled (run : CommitRun) (before : Point) (stepped : CommitRun) (after : Point) : Type 0
  where
    pub ready : CommitRun
    pub call : CommitCall
    pub is_ready : IsMadeReady before.out run ready
    pub right : IsRightUber ready.uber
    pub is_next : slice_get (calls_left before.out run.calls) 0 ≡ Some call
    pub inside : IsCallInPool ready.uber call
    pub made : MadeOne ready.uber ready.entries call before after
    pub left : stepped ≡ record {
      uber = ready.uber;
      entries = ready.entries;
      calls = after_next before.out run.calls;
      stage = ready.stage;
    }

-- No call is left for the devices in use, and none was made.
pub record HasEnded (run : CommitRun) (before : Point) (stepped : CommitRun) (after : Point) : Type 0
  where
    pub none : calls_left before.out run.calls ≡ []
    pub is_ready : IsMadeReady before.out run stepped
    pub right : IsRightUber stepped.uber
    pub same : after ≡ before

-- what a step does to the run and to the devices
abbrev pub CommitSteps : CommitRun → Point → CommitRun → Point → CommitStep → Type 0
CommitSteps run before stepped after Called = HasCalled run before stepped after
CommitSteps run before stepped after Ended = HasEnded run before stepped after

-- The first half has come so far: each uberblock is still to be written, and then synced.
pub record LaysSoFar (setting : Setting) (first next : Kept) (calls : List CommitCall) (point : Point) :
    Type 0 where
  pub unsigned : Unsigned setting first [] next calls point
  pub unsaid : (device : ℕ) → device < next.uber.reflow.to
      → Among calls (UberWrite device) × Among calls (UberSync device)

-- The second half has come so far: what is left of the first is to devices that are out.
pub record SignsSoFar (setting : Setting) (first next : Kept) (uber : Uber) (calls : List CommitCall)
    (point : Point) : Type 0 where
  pub signed : Signed setting first (next ∷ []) next uber calls point
  pub spent : (call : CommitCall) → Among calls call → IsLaying call
      → has_device point.out (device_of call) ≡ true

abbrev pub CommitsSoFar : Setting → Kept → Kept → Stage → Uber → List CommitCall → Point → Type 0
CommitsSoFar setting first next Lays uber calls point = LaysSoFar setting first next calls point
CommitsSoFar setting first next Signs uber calls point = SignsSoFar setting first next uber calls point

-- The commit of this group, begun after the first one, has come so far. The group goes to the other
-- index area and another slot than the first one's.
pub record IsCommitting (setting : Setting) (first next : Kept) (run : CommitRun) (point : Point) :
    Type 0 where
  pub row : IsSuccession setting first (next ∷ [])
  pub sound_first : IsSound setting first
  pub sound : IsSound setting next
  pub right : IsRightUber run.uber
  pub alike : AreAlike run.uber next.uber
  pub entries_are : run.entries ≡ next.entries
  pub parity_is : next.uber.parity ≡ first.uber.parity
  pub area : first.uber.area ≢ next.uber.area
  pub near : (next.uber.group ≡ first.uber.group + 1) ⊎ (next.uber.group ≡ first.uber.group + 2)
  pub ordered : Ordered next.uber.reflow.to (page_sectors next.uber.count) run.calls
  pub so_far : CommitsSoFar setting first next run.stage run.uber run.calls point

-- Another call between two steps touches data sectors alone, and none that either group asks for.
pub record IsBeside (setting : Setting) (first next : Kept) (here : ℕ → ℕ → Type 0) : Type 0 where
  pub region : (device device_sector : ℕ) → here device device_sector
      → ((32 ≤ device_sector) × (device_sector < 64)) ⊎ (192 ≤ device_sector)
  pub not_first : (device device_sector : ℕ) (bytes : List ℕ) → here device device_sector
      → (asks : Asks first device device_sector bytes)
      → Contains first.excepted (asks.cell.sector, (device, device_sector))
  pub not_next : (device device_sector : ℕ) (bytes : List ℕ) → here device device_sector
      → (asks : Asks next device device_sector bytes)
      → Contains next.excepted (asks.cell.sector, (device, device_sector))

-- what images may show beside the first group: nothing in the first half, the group itself in the second
abbrev pub shown_at : Kept → Stage → List Kept
shown_at next Lays = []
shown_at next Signs = next ∷ []

abbrev pub shown_by : Kept → CommitRun → List Kept
shown_by next run = shown_at next run.stage
