use Rattle.std.proofs.Common.{◌≡◌, ◌∙◌, arith, sym}
use Rattle.std.specs.Prelude.{string_bytes, true, false}
use Rattle.raidzx_top.specs.Images.{IsMemoryOf}
use Rattle.raidzx_top.proofs.WordTexts.{text_at, each_more}
use Rattle.raidzx_top.proofs.images.are_memory.Goals as goal

true_false : true ≡ false → ⊥
true_false same = cc

pub returns-then-not-is_memory_of : goal.returns-then-not-is_memory_of
returns-then-not-is_memory_of c = (
  λ never. absurd (true_false (sym never)),
  λ each. absurd (true_false (sym (c.is_memory_of.ensures.1
      (each c.loop-index.index (string_bytes c.index-words-index.result) (omega arith) (omega arith)
      (text_at c.args.words.now c.loop-index.index c.index-words-index.result (omega arith) c.index-words-index.is)))
      ∙ c.if-not-is_memory_of.true)),
)

pub loop-index-preserved : goal.loop-index-preserved
loop-index-preserved c = each_more (λ word. IsMemoryOf word c.args.sectors) c.args.words.now c.loop-index.index
    c.index-words-index.result (omega arith) c.index-words-index.is c.loop-index.invariant
    (c.is_memory_of.ensures.0 c.if-not-is_memory_of.false)
