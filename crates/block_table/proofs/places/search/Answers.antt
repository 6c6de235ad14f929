use Rattle.std.proofs.Common.{arith}
use Rattle.block_table.proofs.Lookups.{search_found, search_past}
use Rattle.block_table.proofs.places.search.Goals as goal

pub returns-then-entries-place-clause-missing : goal.returns-then-entries-place-clause-missing
returns-then-entries-place-clause-missing c =
    search_past c.args.entries.now c.place_of-place.result c.args.id _ c.requires.index c.place_of-place.ensures.place c.place_of-place.ensures.inside
    (λ inside. c.if-entries-place.true)

pub returns-clause-found : goal.returns-clause-found
returns-clause-found c =
    search_found c.args.entries.now c.place_of-place.result c.args.id _ c.requires.index c.place_of-place.ensures.place (omega arith)
    c.if-entries-place.false
