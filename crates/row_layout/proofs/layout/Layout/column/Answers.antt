use Rattle.row_layout.proofs.Laws.{inside_named, columns_apart}
use Rattle.row_layout.proofs.layout.Layout.column.Goals as goal

pub returns-clause-inside : goal.returns-clause-inside
returns-clause-inside c = λ there. inside_named c.args.self.now c.args.row c.args.column c.sector_of.result c.part.result c.part.ensures.within.is c.requires.row c.sector_of.ensures.value c.part.ensures.missing there

pub returns-clause-apart : goal.returns-clause-apart
returns-clause-apart c = λ width other room other_in differ. rw c.sector_of.ensures.value (columns_apart c.args.self.now width c.args.row c.args.column other room c.requires.column other_in differ)
