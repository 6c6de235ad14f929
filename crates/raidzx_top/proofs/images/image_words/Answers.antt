use Rattle.std.proofs.Common.{◌≡◌, ◌∙◌, Some, arith, sym, subst}
use Rattle.std.specs.Prelude.{map, string_bytes, true, false}
use Rattle.raidzx_top.specs.Images.{EachImage, IsImageWord, IsMemoryOf}
use Rattle.raidzx_top.proofs.WordTexts.{text_at, no_images, one_size}
use Rattle.raidzx_top.proofs.images.image_words.Goals as goal

true_false : true ≡ false → ⊥
true_false same = cc

pub returns-in_default-clause-none : goal.returns-in_default-clause-none
returns-in_default-clause-none c =
    let found = c.in_ok-count.ensures.some in
    let first = text_at c.args.words.now 1 c.index-words-1.result (omega arith) c.index-words-1.is in
    no_images (map string_bytes c.args.words.now) c.in_ok-count.count found.0 found.2 found.3
    (λ files. true_false (sym (c.are_files.ensures.1 files) ∙ c.if-are_files.false))
    (λ sectors each. c.in_default.ensures.none sectors
    (subst (λ text. IsMemoryOf text sectors) (sym c.as_str.ensures.value)
    (each 1 (string_bytes c.index-words-1.result) (omega arith) found.0 first)))

pub returns-else-are_memory-clause-none : goal.returns-else-are_memory-clause-none
returns-else-are_memory-clause-none c =
    let found = c.in_ok-count.ensures.some in
    let first = text_at c.args.words.now 1 c.index-words-1.result (omega arith) c.index-words-1.is in
    no_images (map string_bytes c.args.words.now) c.in_ok-count.count found.0 found.2 found.3
    (λ files. true_false (sym (c.are_files.ensures.1 files) ∙ c.if-are_files.false))
    (λ sectors each.
    let same = one_size (string_bytes c.index-words-1.result) c.in-Some.sectors sectors
    (subst (λ text. IsMemoryOf text c.in-Some.sectors) c.as_str.ensures.value c.in-Some.ensures.some)
    (each 1 (string_bytes c.index-words-1.result) (omega arith) found.0 first) in
    true_false (sym (c.are_memory.ensures.1
    (subst (λ n. EachImage (map string_bytes c.args.words.now) c.in_ok-count.count (IsImageWord (Some n))) (sym same) each))
    ∙ c.if-are_memory.false))
