-- The sectors at which runs in use begin and end.
use Rattle.std.specs.Prelude.{◌≡◌, ℕ, ◌+◌, ◌*◌, ◌%◌, ◌<◌, ◌≤◌, List, [], ◌∷◌, AllPairs, count_by, nat_le, length}
use Rattle.std.specs.Prelude.{vec_len, Vec}
use Rattle.std.specs.Vec.{vec_capacity}
use Rattle.std.specs.declared.alloc.Global.{Global}
use Rattle.space_alloc.specs.declared.entry.Entry.{Entry}
use Rattle.space_alloc.specs.declared.held.HeldEntry.{HeldEntry}
use Rattle.space_alloc.specs.Entries.{entry_end, in_use, AreEntriesApart}

-- how many of them stand at or below a sector
abbrev pub edges_to : List ℕ → ℕ → ℕ
edges_to edges sector = count_by (λ edge. nat_le edge sector) edges

-- No run in use has the sector: they begin and end in turn, so an even number of edges stands at or below it.
abbrev pub IsUnused : List ℕ → ℕ → Type 0
IsUnused edges sector = edges_to edges sector % 2 ≡ 0

-- Each stands below all later ones, so runs that meet are one.
abbrev pub IsRising : List ℕ → Type 0
IsRising edges = AllPairs (λ edge later. edge < later) edges

-- At each of these sectors what was unused is in use from there on, and the other way round.
abbrev pub IsFlipped : List ℕ → List ℕ → List ℕ → Type 0
IsFlipped old new sectors = (sector : ℕ) → (edges_to new sector + edges_to old sector + edges_to sectors sector) % 2 ≡ 0

-- where each run begins and where it ends
abbrev pub ends_of : List Entry → List ℕ
ends_of [] = []
ends_of (entry ∷ entries) = entry.start ∷ entry_end entry ∷ ends_of entries

-- They are the edges of these runs: the same sectors are unused.
pub record AreEdgesOf (entries : List Entry) (edges : List ℕ) : Type 0 where
  pub rising : IsRising edges
  pub same : (sector : ℕ) → (edges_to edges sector + edges_to (ends_of entries) sector) % 2 ≡ 0

-- Of the runs that were held back only these are left: whatever is taken beside them, the edges of the runs in
-- use are those of the ones still in use, and what was room for the edges of all runs is that for those left.
pub record HasReleased (held left : List HeldEntry) (old new : Vec ℕ Global) : Type 0 where
  pub rising : IsRising new.items
  pub edges_of : (taken : List Entry)
      → AreEdgesOf (in_use taken held) old.items → AreEdgesOf (in_use taken left) new.items
  pub room : vec_len new + 2 * length left ≤ vec_len old + 2 * length held
  pub capacity : vec_capacity new ≡ vec_capacity old

-- how a space keeps its runs: no two in use meet, and their edges stand beside them. There is room for the edges of
-- each run that is given back, and for each taken run among those held back.
pub record AreKept (taken : List Entry) (held : Vec HeldEntry Global) (edges : Vec ℕ Global) : Type 0 where
  pub apart : AreEntriesApart (in_use taken held.items)
  pub edges_of : AreEdgesOf (in_use taken held.items) edges.items
  pub room : vec_len edges + 2 * (length taken + vec_len held) ≤ vec_capacity edges
  pub held_room : length taken + vec_len held ≤ vec_capacity held
