use Rattle.std.proofs.Common.{◌≡◌, Ok, rules, sym, ◌∙◌, ap}
use Rattle.std.specs.Prelude.{decimal}
use Rattle.std.proofs.lemmas.Fmt.{parse-decimal}
use Rattle.command_words.proofs.numbers.number.Goals as goal

pub returns-in_default-clause-none : goal.returns-in_default-clause-none
returns-in_default-clause-none c n fits is =
    let parsed : c.parse.result ≡ Ok n = parse-decimal 64 n c.args.word.now c.parse.result fits fits is c.parse.ensures.value.0 in
    absurd (cc (parsed, c.in_default.is))

pub returns-else-eq-clause-none : goal.returns-else-eq-clause-none
returns-else-eq-clause-none c n fits is =
    let parsed : c.parse.result ≡ Ok n = parse-decimal 64 n c.args.word.now c.parse.result fits fits is c.parse.ensures.value.0 in
    let same : c.in-Ok.n ≡ n = cc (parsed, c.in-Ok.is) in
    let text : c.format.result.now ≡ c.args.word.now = c.format.ensures.text ∙ ap decimal same ∙ sym is in
    search (rules, c.if-eq.false)
