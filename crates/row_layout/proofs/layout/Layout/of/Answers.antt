use Rattle.row_layout.proofs.Laws.{stands_once}
use Rattle.row_layout.proofs.layout.Layout.of.Goals as goal

pub returns-clause-once : goal.returns-clause-once
returns-clause-once c = λ content below. stands_once _ content (record { content = c.requires.content; parity = c.requires.parity; width = c.requires.width }) below
