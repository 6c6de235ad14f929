use Rattle.core_turns.proofs.Words.{refl, sym, ◌∙◌, ap, subst, Reflow, sectors_of, Uber, MayGrow, pool_of}
use Rattle.core_turns.proofs.sync.Answered.{answer_grows, answers_core, held_where}
use Rattle.core_turns.proofs.open_core.Core.answer_group.Goals as goal

pub answer_blocks-requires-clause-grows : goal.answer_blocks-requires-clause-grows
answer_blocks-requires-clause-grows c = λ ends.
    let at = c.self.inside in
    let of = c.requires.of in
    subst (λ (u : Uber). MayGrow at.blocks u.group (sectors_of u.reflow)) of.1
    (answer_grows _ of.0 c.self.invariant (rw (← c.self.view_is) at of.2)
    (λ same. ends (ap (λ (u : Uber). u.reflow.from) (sym of.1) ∙ same
    ∙ ap (λ (r : Reflow). r.from) (sym c.reflow-before.ensures.value))))

pub invariant_of-self : goal.invariant_of-self
invariant_of-self c =
    let at = c.self.inside in
    let of = c.requires.of in
    answers_core _ of.0 c.args.uber.now c.reflow-before.result c.reflow-chosen.result c.answer_blocks.new.blocks
    c.front_behind-self-inside.result c.args.actor c.end_change.new.locks c.self.invariant
    (rw (← c.self.view_is) at of.2) of.1 (rw (← c.self.view_is) at c.requires.actor)
    c.reflow-before.ensures.value c.reflow-chosen.ensures.value c.end_change.ensures
    (c.answer_blocks.ensures (pool_of at.uber at.blocks at.out at.done) refl (sym c.reflow-before.ensures.value))
    c.front_behind-self-inside.ensures

pub end_change-requires-clause-held : goal.end_change-requires-clause-held
end_change-requires-clause-held c = let of = c.requires.of in
    rw (c.reflow-before.ensures.value, c.reflow-chosen.ensures.value ∙ sym (ap (λ (u : Uber). u.reflow) of.1))
    (held_where _ of.0 c.args.actor (rw (← c.self.view_is) at of.2) (rw (← c.self.view_is) at c.requires.actor))
