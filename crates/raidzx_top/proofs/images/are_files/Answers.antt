use Rattle.std.proofs.Common.{◌≡◌, ◌∙◌, arith, sym}
use Rattle.std.specs.Prelude.{string_bytes, true, false}
use Rattle.raidzx_top.specs.Images.{IsMemoryWord}
use Rattle.raidzx_top.proofs.WordTexts.{text_at, each_more}
use Rattle.raidzx_top.proofs.images.are_files.Goals as goal

true_false : true ≡ false → ⊥
true_false same = cc

pub returns-then-is_memory_word : goal.returns-then-is_memory_word
returns-then-is_memory_word c = (
  λ never. absurd (true_false (sym never)),
  λ each. absurd (each c.loop-index.index (string_bytes c.index-words-index.result) (omega arith) (omega arith)
      (text_at c.args.words.now c.loop-index.index c.index-words-index.result (omega arith) c.index-words-index.is)
      (c.is_memory_word.ensures.0 c.if-is_memory_word.true)),
)

pub loop-index-preserved : goal.loop-index-preserved
loop-index-preserved c = each_more (λ word. IsMemoryWord word → ⊥) c.args.words.now c.loop-index.index
    c.index-words-index.result (omega arith) c.index-words-index.is c.loop-index.invariant
    (λ is. true_false (sym (c.is_memory_word.ensures.1 is) ∙ c.if-is_memory_word.false))
