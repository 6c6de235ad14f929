use Rattle.std.proofs.Common.{◌∙◌, ◌++◌, ◌*◌, ◌-◌, ap, arith, drop, List, refl, take, ℕ}
use Rattle.std.specs.Prelude.{flat_map}
use Rattle.block_record.specs.Page.{entry_bytes}
use Rattle.block_record.proofs.Sectors.{eight_sliced, sector_written}
use Rattle.block_record.proofs.encode.index_sector.Goals as goal

pub returns : goal.returns
returns c = record {
  value =
      let entries = c.args.entries.now in
      let piece = take (c.min-end.result - 8 * c.args.part) (drop (8 * c.args.part) entries) in
      sector_written entries piece c.args.part c.put_entries.new.sector c.finish.result c.requires.index.each c.requires.part
      (eight_sliced entries (8 * c.args.part) c.min-end.result c.args.part refl c.min-end.ensures (omega (arith, c.requires.part)))
      (c.put_entries.ensures.bytes ∙ ap (λ (xs : List ℕ). xs ++ flat_map entry_bytes piece) c.new-sector.ensures) c.finish.ensures;
}
