use Rattle.std.proofs.Common.{ℕ, ◌<◌, ◌-◌, List, ◌++◌, length, ap, arith}
use Rattle.std.specs.Prelude.{codes}
use Rattle.std.proofs.lemmas.List.{length-map}
use Rattle.std.proofs.lemmas.Bool.Decides.{nat_tests}
use Rattle.client_script.proofs.LineWords.{letters_of_actors, turns_of}
use Rattle.client_script.proofs.meaning.order.Goals as goal

pub returns-then-are_letters : goal.returns-then-are_letters
returns-then-are_letters c =
    let some : 0 < length c.args.letters.now = grind (arith, nat_tests, c.is_empty.ensures, c.if-is_empty.false) in
    let each = c.are_letters.ensures.0 c.if-are_letters.true in (
      each,
      (
        omega (arith, some, length-map c.args.letters.now (λ letter. letter - 97)),
        ap (λ (l : List ℕ). codes "order " ++ l) (letters_of_actors c.args.letters.now each),
      ),
    )

pub returns-else-are_letters : goal.returns-else-are_letters
returns-else-are_letters c line is =
    let turns = turns_of c.args.letters.now line is in
    let passed = c.are_letters.ensures.1 turns.1 in
    absurd (cc (passed, c.if-are_letters.false))
