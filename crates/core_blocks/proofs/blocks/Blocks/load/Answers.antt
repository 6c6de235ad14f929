use Rattle.std.proofs.Common.{◌≤◌, List, sym, ◌∙◌, subst}
use Rattle.std.specs.Prelude.{All}
use Rattle.block_record.specs.declared.entry.IndexEntry.{IndexEntry}
use Rattle.core_state.specs.Index.{AreApart, block_end}
use Rattle.core_blocks.specs.Loading.{IsTakenBy}
use Rattle.core_blocks.proofs.Loaded.{same_index}
use Rattle.core_blocks.proofs.Opened.{loaded_step}
use Rattle.core_blocks.proofs.UnderWay.{none_under_way}
use Rattle.core_blocks.proofs.blocks.Blocks.load.Goals as goal

pub space_of-requires-clause-below : goal.space_of-requires-clause-below
space_of-requires-clause-below c =
    let same = c.entries.ensures.value ∙ same_index c.in_ok-table.table.entries
    c.args.entries.now c.entries.ensures.table.index c.requires.index
    c.in_ok-table.ensures.entries in
    subst (λ (l : List IndexEntry).
    All (λ entry. block_end c.args.parity c.args.births entry ≤ c.args.capacity) l) (sym same)
    c.requires.below

pub space_of-requires-clause-apart : goal.space_of-requires-clause-apart
space_of-requires-clause-apart c =
    let same = c.entries.ensures.value ∙ same_index c.in_ok-table.table.entries
    c.args.entries.now c.entries.ensures.table.index c.requires.index
    c.in_ok-table.ensures.entries in
    subst (λ (l : List IndexEntry). AreApart c.args.parity c.args.births l) (sym same)
    c.requires.apart

pub invariant_of-result : goal.invariant_of-result
invariant_of-result c =
    let same = same_index c.in_ok-table.table.entries c.args.entries.now
    c.entries.ensures.table.index c.requires.index c.in_ok-table.ensures.entries in (
      loaded_step c.args.parity c.args.births c.args.capacity c.in_ok-table.table
          c.in_ok-space.space c.requires.layouts c.requires.small c.entries.ensures.table.index
          (subst (λ (l : List IndexEntry). AreApart c.args.parity c.args.births l) (sym same)
          c.requires.apart)
          (subst (λ (l : List IndexEntry).
          IsTakenBy c.args.parity c.args.births c.args.capacity l c.in_ok-space.space)
          c.entries.ensures.value c.in_ok-space.ensures.value),
      tt,
    )

pub returns-clause-table : goal.returns-clause-table
returns-clause-table c =
    let same = same_index c.in_ok-table.table.entries c.args.entries.now
    c.entries.ensures.table.index c.requires.index c.in_ok-table.ensures.entries in
    λ i. record { entries = same i; reserved = c.in_ok-table.ensures.reserved i }

pub returns-clause-space : goal.returns-clause-space
returns-clause-space c =
    let same = c.entries.ensures.value ∙ same_index c.in_ok-table.table.entries
    c.args.entries.now c.entries.ensures.table.index c.requires.index
    c.in_ok-table.ensures.entries in
    subst (λ (l : List IndexEntry).
    IsTakenBy c.args.parity c.args.births c.args.capacity l c.in_ok-space.space) same
    c.in_ok-space.ensures.value

pub returns-clause-under : goal.returns-clause-under
returns-clause-under c =
    none_under_way c.args.parity c.args.births c.args.capacity c.in_ok-table.table
    c.in_ok-space.space c.entries.ensures.table.index c.in_ok-table.ensures.reserved
    (subst (λ (l : List IndexEntry).
    IsTakenBy c.args.parity c.args.births c.args.capacity l c.in_ok-space.space)
    c.entries.ensures.value c.in_ok-space.ensures.value)
