use Rattle.std.proofs.Common.{sym, subst, rules}
use Rattle.std.specs.Prelude.{All}
use Rattle.std.specs.List.Sorted.{IsPermutation}
use Rattle.std.proofs.lemmas.List.Sorted.{All-permutation, IsNonDecreasingBy-from_sort_by_key}
use Rattle.core_open.specs.declared.fitting.Span.{Span}
use Rattle.core_open.specs.Spans.{AreByStart, IsFilled}
use Rattle.core_open.proofs.SpanOrder.{clear_by}
use Rattle.core_open.proofs.fitting.are_clear.Goals as goal

pub follow_each_other-requires-clause-filled : goal.follow_each_other-requires-clause-filled
follow_each_other-requires-clause-filled c =
    subst (All IsFilled) (sym c.deref.ensures.value)
    (All-permutation IsFilled c.args.spans.items c.sort_unstable_by_key.new.self.items
    c.sort_unstable_by_key.ensures.permutation c.requires.filled)

pub follow_each_other-requires-clause-sorted : goal.follow_each_other-requires-clause-sorted
follow_each_other-requires-clause-sorted c =
    subst AreByStart (sym c.deref.ensures.value)
    (IsNonDecreasingBy-from_sort_by_key (λ (span : Span). span.start) _
    c.sort_unstable_by_key.ensures.sorted (λ a r q k. search rules))

pub returns : goal.returns
returns c =
    let spans = c.args.spans.items in
    let moves = subst (IsPermutation spans) (sym c.deref.ensures.value)
    c.sort_unstable_by_key.ensures.permutation in
    record {
      value = clear_by spans c.deref.result.now c.follow_each_other.result moves
          c.follow_each_other.ensures.value;
    }
