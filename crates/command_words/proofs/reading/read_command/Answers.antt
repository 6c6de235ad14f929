use Rattle.std.proofs.Common.{◌≡◌, ◌∙◌, sym, [], ◌∷◌}
use Rattle.clap.specs.declared.error.kind.ErrorKind.{ErrorKind}
use Rattle.command_words.proofs.Served.{read_served, refused_explains, served_read, spelled_read, spelled_refused}
use Rattle.command_words.proofs.Spelling.{spelled_served}
use Rattle.command_words.proofs.reading.read_command.Goals as goal

pub returns-in-Ok-clause-err : goal.returns-in-Ok-clause-err
returns-in-Ok-clause-err c = (
  λ served. c.in-None.ensures.none served.0 (served_read _ _ served.0 c.in-Ok.ensures.rows served.1),
  λ answer is. absurd (clash answer (sym c.in-Ok.ensures.kinds ∙ is)),
)
  where
    clash : (answer : ErrorKind) → [] ≡ answer ∷ [] → ⊥
    clash answer same = cc

pub returns-in-Some-clause-spelled : goal.returns-in-Some-clause-spelled
returns-in-Some-clause-spelled c = λ given spelled. spelled_read _ _ given
    (read_served _ _ _ c.in-Ok.ensures.rows c.in-Ok.ensures.kinds c.in-Some.ensures.some) spelled

pub returns-in-Ok-clause-spelled : goal.returns-in-Ok-clause-spelled
returns-in-Ok-clause-spelled c = λ given spelled. c.in-None.ensures.none given
    (served_read _ _ given c.in-Ok.ensures.rows (spelled_served _ given spelled))

pub returns-clause-spelled : goal.returns-clause-spelled
returns-clause-spelled c = λ given spelled. spelled_refused _ c.refusal.result given
    (refused_explains _ c.in-Err.error c.refusal.result c.in-Err.ensures.kinds c.refusal.ensures) spelled
