use Rattle.std.proofs.Common.{◌∙◌, sym, arith}
use Rattle.std.proofs.lemmas.Bool.{leb-false, leb-true}
use Rattle.space_alloc.specs.declared.entry.Entry.{Entry}
use Rattle.space_alloc.proofs.Places.{place_here}
use Rattle.space_alloc.proofs.gap.is_place.Goals.{then-at-gt0, else-at-gt0}
use Rattle.space_alloc.proofs.gap.is_place.Goals as goal

pub returns-then-at-entries-2 : goal.returns-then-at-entries-2
returns-then-at-entries-2 c last =
    let none : Entry = record { start = 0; len = 0 } in
    place_here c.args.entries.now c.requires c.args.start c.args.at none none (omega (arith, c.if-at-entries.false))
    (λ some. elim c.if-at-gt0.branch [
      | then-at-gt0 w ↦ leb-false _ _ (sym w.value-is ∙ c.if-entries-at.false)
      | else-at-gt0 w ↦ absurd (omega (arith, some, w.if-at-gt0.false))
    ]) (λ inside. absurd (omega (arith, inside, c.if-at-entries-2.true)))

pub returns-else-at-entries-2 : goal.returns-else-at-entries-2
returns-else-at-entries-2 c up =
    let none : Entry = record { start = 0; len = 0 } in
    place_here c.args.entries.now c.requires c.args.start c.args.at none none (omega (arith, c.if-at-entries.false))
    (λ some. elim c.if-at-gt0.branch [
      | then-at-gt0 w ↦ leb-false _ _ (sym w.value-is ∙ c.if-entries-at.false)
      | else-at-gt0 w ↦ absurd (omega (arith, some, w.if-at-gt0.false))
    ]) (λ inside. leb-true _ _ up)
