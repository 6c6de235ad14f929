use Rattle.std.proofs.Common.{ℕ, rules}
use Rattle.std.specs.declared.cmp.Reverse.{Reverse}
use Rattle.std.proofs.lemmas.List.Sorted.{answers_always}
use Rattle.std.proofs.lemmas.Result.{on_ok_weaker}
use Rattle.core_open.specs.declared.ring_uber.RingUber.{RingUber}
use Rattle.core_open.proofs.Sorting.{sorted_by_group}
use Rattle.core_open.proofs.reading.sort_by_group.Goals as goal

abbrev key : RingUber → Reverse ℕ
key ring_uber = record { 0 = ring_uber.uber.group }

pub returns-clause-order : goal.returns-clause-order
returns-clause-order c = on_ok_weaker c.sort_by_key.result
    (λ sorted. sorted_by_group c.args.ubers.now.items c.sort_by_key.new.self.items c.requires.order
    (sorted key (answers_always _ _ _ (λ f a r g h. search rules)))
    (c.sort_by_key.ensures.stable key (answers_always _ _ _ (λ f a r g h. search rules))))
    c.sort_by_key.ensures.sorted
