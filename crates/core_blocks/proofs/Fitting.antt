-- Blocks that are in step fit each uberblock of the pool that isn't older than they.
use Rattle.std.proofs.Common.{◌≡◌, ℕ, ◌<◌, ◌≤◌, List, get_or, length, sym, subst, arith}
use Rattle.std.specs.Prelude.{All}
use Rattle.std.proofs.lemmas.List.Elements.{Contains-get_or}
use Rattle.width_map.specs.declared.birth.Birth.{Birth}
use Rattle.reflow_mark.specs.Reflow.{sectors_of}
use Rattle.uberblock_ring.specs.Uberblock.{Uber}
use Rattle.block_record.specs.declared.entry.IndexEntry.{IndexEntry}
use Rattle.block_record.specs.Page.{IsIndex}
use Rattle.core_state.specs.Index.{AreApart, IsFitting, block_end}
use Rattle.core_blocks.specs.Runs.{IsInside}
use Rattle.core_blocks.specs.Blocks.{Blocks, AreInStep, IsListed, run_of}
use Rattle.core_blocks.proofs.Listed.{among_listed}
use Rattle.core_blocks.proofs.Runs.{in_order}

module _ (blocks : Blocks) (step : AreInStep blocks) (index : IsIndex blocks.table.entries) where
  listed_at : (k : ℕ) (d : IndexEntry) → k < length blocks.table.entries
      → IsListed blocks.table.entries (get_or blocks.table.entries k d)
  listed_at k d within = among_listed blocks.table.entries (get_or blocks.table.entries k d) index
      (Contains-get_or blocks.table.entries k d within)

  inside_at : (entry : IndexEntry) → IsListed blocks.table.entries entry
      → IsInside blocks.space.capacity (run_of blocks.parity blocks.births entry)
  inside_at entry listed =
      step.spread.inside (run_of blocks.parity blocks.births entry) (step.each entry listed).taken

  all_below : All (λ entry. block_end blocks.parity blocks.births entry ≤ blocks.space.capacity)
      blocks.table.entries
  all_below k d within =
      (inside_at (get_or blocks.table.entries k d) (listed_at k d within)).below

  are_apart : AreApart blocks.parity blocks.births blocks.table.entries
  are_apart i j d before within =
      let one : IndexEntry = get_or blocks.table.entries i d in
      let other : IndexEntry = get_or blocks.table.entries j d in
      let here : IsListed blocks.table.entries one =
      listed_at i d (omega (arith, before, within)) in
      let there : IsListed blocks.table.entries other = listed_at j d within in
      let lower : one.id < other.id = index.ascending i j d before within in
      in_order (run_of blocks.parity blocks.births one) (run_of blocks.parity blocks.births other)
      (inside_at one here).some (inside_at other there).some
      (step.apart one other here there (λ same. omega (arith, lower, same)))

  pub fits : (uber : Uber) → uber.parity ≡ blocks.parity → uber.births ≡ blocks.births
      → sectors_of uber.reflow ≡ blocks.space.capacity
      → All (λ entry. entry.birth ≤ uber.group) blocks.table.entries
      → IsFitting uber blocks.table.entries
  fits uber parity births sectors young = record {
    births = young;
    below = λ k d within. subst
        (λ (most : ℕ). block_end uber.parity uber.births (get_or blocks.table.entries k d) ≤ most)
        (sym sectors)
        (subst (λ (b : List Birth). block_end uber.parity b (get_or blocks.table.entries k d)
        ≤ blocks.space.capacity) (sym births)
        (subst (λ (p : ℕ). block_end p blocks.births (get_or blocks.table.entries k d)
        ≤ blocks.space.capacity) (sym parity) (all_below k d within)));
    apart = subst (λ (b : List Birth). AreApart uber.parity b blocks.table.entries) (sym births)
        (subst (λ (p : ℕ). AreApart p blocks.births blocks.table.entries) (sym parity) are_apart);
  }
