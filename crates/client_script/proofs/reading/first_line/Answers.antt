use Rattle.std.proofs.Common.{◌∙◌, ap}
use Rattle.client_script.specs.Lines.{split_lines}
use Rattle.client_script.proofs.SplitLines.{split_front, split_last}
use Rattle.client_script.proofs.reading.first_line.Goals as goal

pub returns-in-Some-clause-split : goal.returns-in-Some-clause-split
returns-in-Some-clause-split c = ap split_lines c.in-Some.ensures.some.whole ∙ split_front _ _ c.in-Some.ensures.some.first

pub returns-in-None-clause-split : goal.returns-in-None-clause-split
returns-in-None-clause-split c = split_last _ c.in-None.ensures.none c.requires
