use Rattle.std.proofs.Common.{rules}
use Rattle.std.proofs.lemmas.Fn.{filter_same}
use Rattle.space_alloc.specs.Entries.{is_live}
use Rattle.space_alloc.proofs.runs.compact.Goals as goal

pub returns : goal.returns
returns c = filter_same _ is_live _ (λ entry left closure called. search rules) _ _ c.retain.ensures.filtered
