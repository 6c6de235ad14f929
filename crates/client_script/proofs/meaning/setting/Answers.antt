use Rattle.std.proofs.Common.{ℕ, List, subst}
use Rattle.client_script.specs.Lines.{IsLineText}
use Rattle.client_script.proofs.LineWords.{count_of}
use Rattle.client_script.proofs.meaning.setting.Goals as goal

pub returns-in-None : goal.returns-in-None
returns-in-None c line is =
    let found = count_of c.in-Some.word.now line (subst (λ (l : List ℕ). IsLineText l line) c.in-Some.ensures is) in
    c.in-None.ensures.none found.0 found.1
