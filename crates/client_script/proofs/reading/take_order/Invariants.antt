use Rattle.std.proofs.Common.{◌≡◌, ◌<◌, ◌++◌, take}
use Rattle.std.specs.Prelude.{All}
use Rattle.client_script.specs.Meanings.{actors_of}
use Rattle.client_script.proofs.reading.take_order.Given as goal

abbrev pub invariant-loop-letter : goal.invariant-loop-letter
invariant-loop-letter l = record {
  below : All (λ actor. actor < l.initial.script.clients) (actors_of (take l.letter-index l.letters));
  so_far : l.script ≡ record l.initial.script { order = l.initial.script.order ++ actors_of (take l.letter-index l.letters) };
}
