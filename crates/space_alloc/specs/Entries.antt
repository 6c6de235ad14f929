-- The runs in use: those that are taken, by their start and with dead entries between, and those that are held back.
use Rattle.std.specs.Prelude.{◌≡◌, ◌⊎◌, ◌^◌, ℕ, ◌+◌, ◌<◌, ◌≤◌, List, ◌++◌, All, AllPairs, Bool, nat_lt, filter, get_or}
use Rattle.std.specs.Prelude.{length, map}
use Rattle.space_alloc.specs.declared.entry.Entry.{Entry}
use Rattle.space_alloc.specs.declared.gap.Gap.{Gap}
use Rattle.space_alloc.specs.declared.gap.Gap.TheVariants.{Dead, Between}
use Rattle.space_alloc.specs.declared.held.HeldEntry.{HeldEntry}
use Rattle.space_alloc.specs.Space.{Run, HeldRun, Space}

abbrev pub run_of_entry : Entry → Run
run_of_entry entry = record { start = entry.start; len = entry.len }

abbrev pub held_run_of : HeldEntry → HeldRun
held_run_of run = record { start = run.entry.start; len = run.entry.len; group = run.until }

-- a space with these runs in use
abbrev pub space_of : ℕ → List Entry → List HeldEntry → Space
space_of capacity taken held =
    record { capacity = capacity; taken = map run_of_entry taken; held = map held_run_of held }

-- the sectors of the runs that are held back
abbrev pub entries_held : List HeldEntry → List Entry
entries_held held = map (λ run. run.entry) held

-- all runs in use
abbrev pub in_use : List Entry → List HeldEntry → List Entry
in_use taken held = taken ++ entries_held held

-- the sector after the run
abbrev pub entry_end : Entry → ℕ
entry_end entry = entry.start + entry.len

-- The run has a sector of the range.
pub record Meets (entry : Entry) (start end : ℕ) : Type 0 where
  pub begins : entry.start < end
  pub ends : start < entry_end entry

-- The run has sectors, whose numbers fit.
pub record IsEntry (entry : Entry) : Type 0 where
  pub some : 0 < entry.len
  pub fits : entry_end entry < 2 ^ 64

-- One run ends before another begins.
abbrev pub IsBefore : Entry → Entry → Type 0
IsBefore entry later = entry_end entry ≤ later.start

-- One run ends before the other begins.
abbrev pub IsApartFrom : Entry → Entry → Type 0
IsApartFrom entry other = IsBefore entry other ⊎ IsBefore other entry

-- No two of the runs have a sector in common, in whatever order they are.
pub record AreEntriesApart (entries : List Entry) : Type 0 where
  pub each : All IsEntry entries
  pub apart : AllPairs IsApartFrom entries

-- whether a run is still in use when a group is answered
abbrev pub is_left : ℕ → HeldEntry → Bool
is_left group run = nat_lt group run.until

-- An entry without sectors is dead: its run was given back, and another may be put in its place.
abbrev pub is_live : Entry → Bool
is_live entry = nat_lt 0 entry.len

-- the runs of a list in which there are dead entries too
abbrev pub live_of : List Entry → List Entry
live_of entries = filter is_live entries

-- Each entry begins before all later ones.
abbrev pub BeginInOrder : List Entry → Type 0
BeginInOrder entries = AllPairs (λ entry later. entry.start < later.start) entries

-- how a list of runs is kept: in order, and with a count of the dead entries, which are at most 64 more than the live
pub record AreRuns (entries : List Entry) (dead : ℕ) : Type 0 where
  pub in_order : BeginInOrder entries
  pub count : dead + length (live_of entries) ≡ length entries
  pub few : dead ≤ 64 + length (live_of entries)

-- The entries below the place `low` begin before one sector, and those from `high` on at another or behind it.
pub record IsPartitionedAt (entries : List Entry) (start from low high : ℕ) : Type 0 where
  pub order : low ≤ high
  pub within : high ≤ length entries
  pub before : (k : ℕ) (default : Entry) → k < low → (get_or entries k default).start < start
  pub behind : (k : ℕ) (default : Entry) → high ≤ k → k < length entries → from ≤ (get_or entries k default).start

-- A dead entry stands here.
pub record IsDeadAt (entries : List Entry) (at : ℕ) : Type 0 where
  pub within : at < length entries
  pub dead : (default : Entry) → (get_or entries at default).len ≡ 0

-- Where a run is put: those before it begin before it, and those behind it behind it.
abbrev pub IsGapFor : List Entry → ℕ → Gap → Type 0
IsGapFor entries start (Dead at) = IsDeadAt entries at × IsPartitionedAt entries start (start + 1) at (at + 1)
IsGapFor entries start (Between at) = IsPartitionedAt entries start (start + 1) at at
