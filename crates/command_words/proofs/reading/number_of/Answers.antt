use Rattle.std.proofs.Common.{◌≡◌, Some, None, List, ℕ, sym, ◌∙◌}
use Rattle.clap.specs.Matches.{found_of}
use Rattle.command_words.proofs.Texts.{no_number, none_because, none_read, number_read, text_read}
use Rattle.command_words.proofs.reading.number_of.Goals as goal

pub returns-in-Some-clause-some : goal.returns-in-Some-clause-some
returns-in-Some-clause-some c = number_read _ c.args.option.now c.in-Some.text.now c.number.result
    (text_read (found_of c.args.own.now) c.args.option.now c.get_str.result c.get_str.ensures c.in-Some.text c.in-Some.is)
    c.number.ensures.some

pub returns-in-Some-clause-none : goal.returns-in-Some-clause-none
returns-in-Some-clause-none c = none_because c.number.result c.number.ensures.none (λ none n fits.
    no_number _ c.args.option.now c.in-Some.text.now n
    (text_read (found_of c.args.own.now) c.args.option.now c.get_str.result c.get_str.ensures c.in-Some.text c.in-Some.is)
    (none n fits))

pub returns-in-None-clause-none : goal.returns-in-None-clause-none
returns-in-None-clause-none c = λ n fits is. clash _ (sym
    (none_read (found_of c.args.own.now) c.args.option.now c.get_str.result c.get_str.ensures c.in-None.is) ∙ is)
  where
    clash : (text : List ℕ) → None ≡ Some text → ⊥
    clash text same = cc
