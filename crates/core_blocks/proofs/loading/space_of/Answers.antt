use Rattle.std.proofs.Common.{◌≡◌, ℕ, ◌<◌, [], sym, ◌∙◌, ap, subst, get_or, rules}
use Rattle.row_layout.specs.Layout.{Layout, allocated_of}
use Rattle.space_alloc.specs.Space.{IsFreeRun, IsTaking}
use Rattle.block_record.specs.declared.entry.IndexEntry.{IndexEntry}
use Rattle.core_state.specs.Index.{layout_of}
use Rattle.core_blocks.proofs.Claimed.{next_free, claimed_more}
use Rattle.core_blocks.proofs.loading.space_of.Goals as goal

abbrev blank : IndexEntry
blank = record { id = 0; start = 0; len = 0; birth = 0; digest = [] }

pub claim-requires-clause-free : goal.claim-requires-clause-free
claim-requires-clause-free c =
    let sectors : c.alloc_size-sectors.result ≡ allocated_of (layout_of c.args.parity
    c.args.births.now (get_or c.args.entries.now c.loop-entry.entry-index blank)) =
    c.alloc_size-sectors.ensures.value
    ∙ ap (λ (l : Layout). allocated_of l) c.layout_of.ensures.value in
    subst (λ (len : ℕ). IsFreeRun c.loop-entry.space []
    (get_or c.args.entries.now c.loop-entry.entry-index blank).start len) (sym sectors)
    (next_free c.args.parity c.args.births.now c.args.capacity c.args.entries.now
    c.loop-entry.space c.loop-entry.entry-index blank c.loop-entry-test.true c.requires.below
    c.requires.apart c.loop-entry.invariant)

pub loop-entry-preserved : goal.loop-entry-preserved
loop-entry-preserved c =
    let sectors : c.alloc_size-sectors.result ≡ allocated_of (layout_of c.args.parity
    c.args.births.now (get_or c.args.entries.now c.loop-entry.entry-index blank)) =
    c.alloc_size-sectors.ensures.value
    ∙ ap (λ (l : Layout). allocated_of l) c.layout_of.ensures.value in
    let some : 0 < c.alloc_size-sectors.result = search rules in
    claimed_more c.args.parity c.args.births.now c.args.capacity c.args.entries.now
    c.loop-entry.space c.loop-entry.entry-index blank c.loop-entry-test.true c.requires.below
    c.requires.apart c.loop-entry.invariant c.claim.new.self (
      subst (λ (len : ℕ). 0 < len) sectors some,
      subst (λ (len : ℕ). IsTaking c.loop-entry.space c.claim.new.self
          (get_or c.args.entries.now c.loop-entry.entry-index blank).start len) sectors
          c.in_ok-claim.ensures.ok,
    )
