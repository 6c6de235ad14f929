use Rattle.std.proofs.Common.{[], ◌∙◌, sym, arith}
use Rattle.std.proofs.lemmas.Bool.{leb-false, leb-true}
use Rattle.block_record.specs.declared.entry.IndexEntry.{IndexEntry}
use Rattle.block_table.proofs.Orders.{parted_here, place_found}
use Rattle.block_table.proofs.places.is_place.Goals.{then-place-gt0, else-place-gt0}
use Rattle.block_table.proofs.places.is_place.Goals as goal

pub returns-else-place-entries-2-clause-place : goal.returns-else-place-entries-2-clause-place
returns-else-place-entries-2-clause-place c up =
    let none : IndexEntry = record { id = 0; start = 0; len = 0; birth = 0; digest = [] } in
    place_found c.args.entries.now c.args.id c.args.place
    (parted_here c.args.entries.now c.args.id c.args.place none c.requires.index (omega (arith, c.if-place-entries.false))
    (λ some. elim c.if-place-gt0.branch [
      | then-place-gt0 w ↦ leb-false _ _ (sym w.value-is ∙ c.if-entries-place.false)
      | else-place-gt0 w ↦ absurd (omega (arith, some, w.if-place-gt0.false))
    ]) (λ inside. leb-true _ _ up))
