use Rattle.std.proofs.Common.{◌<◌, refl, arith}
use Rattle.std.proofs.lemmas.List.Elements.{All-replicate}
use Rattle.block_table.proofs.Orders.{index_one}
use Rattle.pool_tests.proofs.small_pool_tests.pool_of_one.Goals as goal

pub load-requires-clause-index : goal.load-requires-clause-index
load-requires-clause-index c = index_one _ (record {
  id = omega arith;
  start = omega arith;
  len = (omega arith, omega arith);
  birth = (omega arith, omega arith);
  digest = record { wide = refl; each = All-replicate (λ byte. byte < 256) 32 0 (omega arith) };
})
