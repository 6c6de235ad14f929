use Rattle.std.proofs.Common.{◌∙◌, arith}
use Rattle.std.proofs.lemmas.List.{take_all}
use Rattle.block_record.specs.Page.{index_page}
use Rattle.block_record.proofs.Sectors.{length-index_page, page_more}
use Rattle.block_record.proofs.encode.encode_index.Goals as goal

pub loop-part-preserved : goal.loop-part-preserved
loop-part-preserved c =
    page_more (index_page c.args.entries.now) _ _ c.index_sector.result c.loop-part.part c.loop-part.invariant c.index_sector.ensures.value
    c.in_ok-extend_from_slice.ensures.items

pub returns : goal.returns
returns c = record {
  value = c.loop-part.invariant
      ∙ take_all _ (index_page c.args.entries.now) (omega (arith, length-index_page c.args.entries.now c.requires.index.each));
}
