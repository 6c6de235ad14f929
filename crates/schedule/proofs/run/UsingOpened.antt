-- What a pool that was opened uses is what its index tells, before the first turn.
use Rattle.schedule.proofs.Words.{◌≡◌, eq-eqb, ℕ, List, [], ◌∷◌, refl, ap, subst, arith, length-append, map}
use Rattle.schedule.proofs.Words.{sum_by-append, Disk, Image, NoneAbove, IndexEntry, Uber, IsRightUber, Shape, Group}
use Rattle.schedule.proofs.Words.{UsesAtMost, none_listed, uses_larger, uses_loaded, RenewsChoice, none_above_more}
use Rattle.schedule.proofs.Words.{Script, AreLoaded, Pool, largest_size, first_item, largest, no_space_alone}
use Rattle.schedule.proofs.Words.{blank_clients, AreAtMost, HasUsedRuns, sizes_left, sizes_of}
use Rattle.schedule.proofs.run.Opened.{blank_is, resting}
use Rattle.schedule.proofs.turn.Using.{sizes_split}
use Rattle.schedule.proofs.turn.Numbered.{first_numbered}

-- No birth of a pool that was opened is of a later group than its opening's: an uberblock has none later than two
-- groups on, and an opening renews one two groups on.
pub births_opened : {shape : Shape} {silent : ℕ} {image : Image} (uber : Uber) {entries : List IndexEntry}
    → RenewsChoice shape silent image uber entries → NoneAbove uber.group uber.births
births_opened uber renews = search arith

-- The sizes of an index by the lengths of its blocks.
index_sizes : (uber : Uber) (entries : List IndexEntry)
    → map (λ (entry : IndexEntry). largest_size uber entry.len) entries
    ≡ map (largest_size uber) (map (λ (entry : IndexEntry). entry.len) entries)
index_sizes uber [] = refl
index_sizes uber (entry ∷ entries) = ap (λ (l : List ℕ). largest_size uber entry.len ∷ l) (index_sizes uber entries)

module _ (script : Script) (pool : Pool) (disk : Disk) (right : IsRightUber pool.uber)
    (born : NoneAbove pool.uber.group pool.uber.births)
    (loaded : AreLoaded pool.uber pool.blocks.table.entries pool.blocks) where
  abbrev entries : List IndexEntry
  entries = pool.blocks.table.entries

  abbrev sizes : List ℕ
  sizes = map (largest_size pool.uber) (map (λ (entry : IndexEntry). entry.len) entries)

  -- The taken runs are no more than the blocks of the index.
  uses : UsesAtMost pool.blocks.space sizes
  uses = subst (UsesAtMost pool.blocks.space) (index_sizes pool.uber entries)
      (search (uses_larger, largest, uses_loaded))

  most : AreAtMost pool.blocks.space.taken (sizes_left pool.uber script.calls) (sizes_of pool.uber entries script.calls)
  most =
      let split = sizes_split pool.uber entries script.calls in
      let few = uses.runs in
      let small = uses.sectors in
      search (length-append, sum_by-append, arith)

  -- A run of turns begins with that.
  pub uses_first : HasUsedRuns script pool.uber entries (resting pool) (Group (first_item pool) ∷ [])
      (blank_clients script.clients)
  uses_first = grind (arith, blank_is, none_listed, most, first_numbered, eq-eqb, none_above_more, no_space_alone)
