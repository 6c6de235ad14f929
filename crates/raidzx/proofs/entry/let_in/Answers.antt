use Rattle.std.proofs.Common.{refl}
use Rattle.raidzx.proofs.Refusing.{refused_by_empty}
use Rattle.raidzx.proofs.entry.let_in.Goals as goal

pub returns-clause-ok : goal.returns-clause-ok
returns-clause-ok g c = refused_by_empty c.args.survey.now c.refused_places-refused.result
    c.refused_places-refused.ensures (c.if-not-is_empty.ensures.value.0 refl)
