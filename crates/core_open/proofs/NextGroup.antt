-- The open group may be written with the index of the table, at a reflow that it may record.
use Rattle.std.proofs.Common.{get_or, ◌≡◌, ⊎_elim, ℕ, ◌+◌, ◌*◌, ◌^◌, ◌<◌, ◌≤◌, List, refl, sym, ◌∙◌, ap, subst, arith}
use Rattle.std.specs.Prelude.{length, All}
use Rattle.std.proofs.lemmas.List.Elements.{Contains-get_or}
use Rattle.sha2.specs.Sha256.{sha256}
use Rattle.width_map.specs.declared.birth.Birth.{Birth}
use Rattle.width_map.specs.Births.{births_after}
use Rattle.reflow_mark.specs.declared.reflow.Reflow.{Reflow}
use Rattle.reflow_mark.specs.Reflow.{Expands, IsRightReflow, at_rest, sectors_of}
use Rattle.shadow_write.specs.Band.{IsWidening}
use Rattle.block_record.specs.declared.entry.IndexEntry.{IndexEntry}
use Rattle.block_record.specs.Page.{index_page, IsIndex}
use Rattle.block_table.specs.Table.{IsTable}
use Rattle.block_table.proofs.Tables.{few_entries}
use Rattle.uberblock_ring.specs.Devices.{count_of}
use Rattle.uberblock_ring.specs.Uberblock.{Uber}
use Rattle.uberblock_ring.specs.Valid.{IsRightUber}
use Rattle.uberblock_ring.proofs.Digest.{sha256_is_digest}
use Rattle.mark_choice.specs.CommitChoice.{KeepsOrEnds}
use Rattle.core_state.specs.Index.{IsFitting}
use Rattle.core_blocks.specs.Blocks.{AreInStep}
use Rattle.core_blocks.specs.Growing.{grown_by}
use Rattle.core_blocks.proofs.Fitting.{fits}
use Rattle.core_blocks.proofs.Growing.{grown_step}
use Rattle.core_blocks.proofs.Listed.{among_listed}
use Rattle.core_open.specs.Pool.{Pool, IsPool}
use Rattle.core_open.specs.NextGroup.{uber_for}
use Rattle.core_open.proofs.Growing.{may_grow}
use Rattle.core_commit.proofs.NewBirth.{births_added, births_kept, one_more}
use Rattle.core_commit.proofs.NextUber.{few_below, right_next}

-- An expansion of a right uberblock is by one device, of 15 at most.
expansion : (uber : Uber) → IsRightUber uber → Expands uber.reflow → IsWidening uber.reflow
expansion uber right grows = record {
  expands = grows;
  some = (let wide = right.widths.0 in omega (arith, wide));
  narrow = (let narrow = right.widths.1 in omega (arith, narrow, grows));
  mark = ⊎_elim (λ rests. absurd (let same = rests.0 in omega (arith, same, grows))) (λ expands. expands.1) right.reflow;
}

-- The open group of a pool may be written with the index of its table, at a chosen reflow.
pub record IsReady (pool : Pool) (chosen : Reflow) : Type 0 where
  pub index : IsIndex pool.blocks.table.entries
  pub few : length pool.blocks.table.entries ≤ 512
  pub right : IsRightUber (uber_for pool chosen)
  pub fitting : IsFitting (uber_for pool chosen) pool.blocks.table.entries

module _ (pool : Pool) (chosen : Reflow) (is : IsPool pool) (step : AreInStep pool.blocks) (table : IsTable pool.blocks.table) where
  -- No block was born later than the open group.
  young : All (λ (entry : IndexEntry). entry.birth ≤ pool.uber.group + 1) pool.blocks.table.entries
  young k d within = is.born (get_or pool.blocks.table.entries k d)
      (among_listed pool.blocks.table.entries (get_or pool.blocks.table.entries k d) table.index
      (Contains-get_or pool.blocks.table.entries k d within))

  -- Where the widths stay the blocks fit as they stand.
  kept_fitting : chosen.from ≡ pool.uber.reflow.from → chosen.rows ≡ pool.uber.reflow.rows
      → IsFitting (uber_for pool chosen) pool.blocks.table.entries
  kept_fitting from rows = fits pool.blocks step table.index (uber_for pool chosen) (sym is.parity)
      (births_kept pool.uber.reflow chosen pool.uber.births (pool.uber.group + 1) from ∙ sym is.births)
      (sectors ∙ sym is.capacity) young
    where
      sectors : sectors_of chosen ≡ sectors_of pool.uber.reflow
      sectors = λ i. rows i * from i

  -- Where an expansion has ended they fit as those of a pool with one device more.
  ended_fitting : Expands pool.uber.reflow → chosen ≡ at_rest pool.uber.reflow.to pool.uber.reflow.rows
      → IsFitting (uber_for pool chosen) pool.blocks.table.entries
  ended_fitting grows ended = fits (grown_by pool.blocks (pool.uber.group + 1) (sectors_of chosen)) grown table.index
      (uber_for pool chosen) (sym is.parity) births refl young
    where
      births : (uber_for pool chosen).births ≡ (grown_by pool.blocks (pool.uber.group + 1) (sectors_of chosen)).births
      births = births_added pool.uber.reflow chosen pool.uber.births (pool.uber.group + 1)
          (one_more pool.uber.reflow chosen grows (ap (λ (r : Reflow). r.from) ended))
          ∙ ap (λ (b : List Birth). births_after b (pool.uber.group + 1)) (sym is.births)

      grown : AreInStep (grown_by pool.blocks (pool.uber.group + 1) (sectors_of chosen))
      grown =
          let may = may_grow pool is (expansion pool.uber is.right grows) in
          subst (λ (n : ℕ). AreInStep (grown_by pool.blocks (pool.uber.group + 1) n))
          (sym (ap (λ (r : Reflow). sectors_of r) ended))
          (grown_step pool.blocks (pool.uber.group + 1) (pool.uber.reflow.rows * pool.uber.reflow.to) may.born may.wide
          may.narrow may.larger may.small step)

-- It may, where it has a number and no more devices are out than there are parities.
pub ready : (pool : Pool) (chosen : Reflow) → IsPool pool → AreInStep pool.blocks → IsTable pool.blocks.table
    → IsRightReflow chosen → KeepsOrEnds pool.uber.reflow chosen
    → pool.uber.group + 1 ≤ 2 ^ 62 → pool.out < 2 ^ pool.uber.reflow.to → count_of pool.out ≤ pool.uber.parity
    → IsReady pool chosen
ready pool chosen is step table reflow widths limit below few = record {
  index = table.index;
  few = listed;
  right = right_next pool.uber chosen (length pool.blocks.table.entries) (sha256 (index_page pool.blocks.table.entries)) pool.out
      is.right reflow widths limit listed (sha256_is_digest (index_page pool.blocks.table.entries))
      (few_below pool.uber pool.out is.right below few);
  fitting = ⊎_elim
      (λ keeps. kept_fitting pool chosen is step table keeps.0 keeps.2)
      (λ ends. ended_fitting pool chosen is step table ends.0 ends.1)
      widths;
}
  where
    listed : length pool.blocks.table.entries ≤ 512
    listed = few_entries pool.blocks.table.entries pool.blocks.table.reserved table
