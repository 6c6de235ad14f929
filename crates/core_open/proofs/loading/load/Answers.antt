use Rattle.core_open.proofs.Begins.{layouts_of, apart_of}
use Rattle.core_open.proofs.loading.load.Goals as goal

pub load-requires-clause-layouts : goal.load-requires-clause-layouts
load-requires-clause-layouts c = layouts_of c.args.uber.now c.parity.result c.births.result.now c.requires.right
    c.parity.ensures.value c.births.ensures.value

pub load-requires-clause-apart : goal.load-requires-clause-apart
load-requires-clause-apart c = apart_of c.args.uber.now c.parity.result c.births.result.now c.args.entries.now
    c.requires.index c.parity.ensures.value c.births.ensures.value
