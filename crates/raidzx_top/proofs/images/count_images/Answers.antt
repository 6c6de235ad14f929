use Rattle.std.proofs.Common.{◌≡◌, ◌∙◌, ◌+◌, Some, arith, sym, subst, refl}
use Rattle.std.specs.Prelude.{slice_get, codes, map, string_bytes, true, false}
use Rattle.raidzx_top.proofs.WordTexts.{text_at, each_more, word_at}
use Rattle.raidzx_top.proofs.images.count_images.Goals as goal

true_false : true ≡ false → ⊥
true_false same = cc

pub returns-else-index-gt1-clause-none : goal.returns-else-index-gt1-clause-none
returns-else-index-gt1-clause-none c = λ memory count are.
    let one : c.loop-index.index ≡ 1 = omega (arith, c.loop-index.auto.index, c.if-index-gt1.false) in
    let here = text_at c.args.words.now c.loop-index.index c.index-words-index.result (omega arith) c.index-words-index.is in
    are.first 1 (string_bytes c.index-words-index.result) (omega arith) are.some
    (subst (λ k. slice_get (map string_bytes c.args.words.now) k ≡ Some (string_bytes c.index-words-index.result)) one here)
    (c.is_word.ensures.0 c.if-is_word.true)

pub loop-index-preserved : goal.loop-index-preserved
loop-index-preserved c = each_more (λ word. word ≡ codes "--" → ⊥) c.args.words.now c.loop-index.index
    c.index-words-index.result (omega arith) c.index-words-index.is c.loop-index.invariant
    (λ it. true_false (sym (c.is_word.ensures.1 it) ∙ c.if-is_word.false))

pub returns-clause-none : goal.returns-clause-none
returns-clause-none c = λ memory count are.
    let within = word_at c.args.words.now (count + 1) (codes "--") are.dashes in
    c.loop-index.invariant (count + 1) (codes "--") (omega arith)
    (omega (arith, within, c.loop-index-test.false)) are.dashes refl
