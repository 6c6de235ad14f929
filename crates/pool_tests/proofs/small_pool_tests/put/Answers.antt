use Rattle.std.proofs.Common.{◌<◌, refl, arith}
use Rattle.std.proofs.lemmas.List.Elements.{All-replicate}
use Rattle.pool_tests.proofs.small_pool_tests.put.Goals as goal

pub into_entry-entry-requires-clause-digest : goal.into_entry-entry-requires-clause-digest
into_entry-entry-requires-clause-digest c =
    record { wide = refl; each = All-replicate (λ byte. byte < 256) 32 0 (omega arith) }
