use Rattle.core_turns.proofs.Words.{ap, IndexEntry}
use Rattle.core_turns.proofs.state.Cores.{few_out}
use Rattle.core_turns.proofs.put.Ends.{put_digest, put_end_core, put_stores}
use Rattle.core_turns.proofs.open_core.Core.put_end.Goals as goal

pub into_entry-requires-clause-digest : goal.into_entry-requires-clause-digest
into_entry-requires-clause-digest c = put_digest c.requires.of c.in-Some.is

pub end_put-requires-clause-under_way : goal.end_put-requires-clause-under_way
end_put-requires-clause-under_way c =
    let of = rw (← c.self.view_is) at c.requires.of in
    c.into_entry.ensures.under_way c.self.inside.blocks (rw (← c.self.view_is) at c.requires.under_way) of.range

pub invariant_of-self : goal.invariant_of-self
invariant_of-self c = put_end_core _ c.self.invariant (rw (← c.self.view_is) at c.requires.of)
    (ap (λ (e : IndexEntry). e.birth) c.into_entry.ensures.value) c.end_put.ensures.change c.end_put.ensures.held
    c.end_put.ensures.parity c.end_put.ensures.births c.end_put.ensures.stays c.end.ensures.ends

pub returns : goal.returns
returns c = record {
  ends = rw (← c.self.view_is) (put_stores (rw (← c.self.view_is) at c.requires.of)
      (few_out c.self.view_is c.has_too_many_out.ensures.many.1 c.if-has_too_many_out.false) c.in-Some.is
      c.into_entry.ensures.value c.end.ensures.ends c.end_put.ensures.change c.end_put.ensures.reserved
      (rw (← c.end_put.ensures.was) c.end_put.ensures.held)
      c.end_put.ensures.parity c.end_put.ensures.births c.end_put.ensures.under c.end_put.ensures.kept);
}
