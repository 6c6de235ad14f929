use Rattle.core_turns.proofs.Words.{refl, sym, ◌∙◌, true≢false}
use Rattle.core_turns.proofs.read.Turns.{read_ended}
use Rattle.core_turns.proofs.open_core.Core.release_and_tell.Goals as goal
use Rattle.core_turns.proofs.open_core.Core.release_and_tell.Goals.{in-NotYet, in-Damaged, in-Bytes}

pub invariant_of-self : goal.invariant_of-self
invariant_of-self c = read_ended c.self.invariant (rw (← c.self.view_is) at c.requires.of) c.end.ensures.ends

pub invariant_of-self-then-has_too_many_out : goal.invariant_of-self-then-has_too_many_out
invariant_of-self-then-has_too_many_out c =
    read_ended c.self.invariant (rw (← c.self.view_is) at c.requires.of) c.end.ensures.ends

pub invariant_of-self-2 : goal.invariant_of-self-2
invariant_of-self-2 c = read_ended c.self.invariant (rw (← c.self.view_is) at c.requires.of) c.end.ensures.ends

pub returns : goal.returns
returns c = rw (← c.self.view_is) (record {
  rest = refl;
  ends = c.end.ensures.ends;
  too_many = λ many. absurd (true≢false (sym (c.has_too_many_out.ensures.many.1 many) ∙ c.if-has_too_many_out.false));
  solved = λ _. elim c.match-replace.branch [
    | in-NotYet w ↦ rw (sym c.replace.ensures.value ∙ w.in-NotYet.is) w.result-is
    | in-Damaged w ↦ rw (sym c.replace.ensures.value ∙ w.in-Damaged.is) w.result-is
    | in-Bytes w ↦ rw (sym c.replace.ensures.value ∙ w.in-Bytes.is) (w.result-is ∙ w.answer_of.ensures)
  ];
})
