use Rattle.std.proofs.Common.{◌<◌, ap, arith, refl, subst}
use Rattle.std.specs.Prelude.{Option, All}
use Rattle.client_script.specs.Lines.{Order}
use Rattle.client_script.specs.Script.{Script}
use Rattle.client_script.specs.Meanings.{actors_of}
use Rattle.client_script.specs.Reading.{MayFollow}
use Rattle.client_script.proofs.Steps.{wrong_turns, turns_of_none, turn_is_below, below_push, turn_push, turns_step}
use Rattle.client_script.proofs.reading.take_order.Goals as goal

pub returns-then-actor-clients : goal.returns-then-actor-clients
returns-then-actor-clients c text is =
    let one_is_none : All (λ actor. actor < c.in-Some.script.clients) (actors_of c.args.letters.now) → ⊥ = λ all.
    let below = turn_is_below c.args.letters.now c.loop-letter.letter-index c.in-Some.script.clients c.loop-letter-test.true all in
    omega (arith, below, c.if-actor-clients.true, c.clients.ensures, ap (λ (s : Script). s.clients) c.loop-letter.invariant.so_far) in (
      refl,
      wrong_turns c.args.script.now text (actors_of c.args.letters.now) is
          (λ may. one_is_none (subst (λ (o : Option Script). MayFollow o (Order (actors_of c.args.letters.now))) c.in-Some.is may)),
      turns_of_none c.args.script.now c.in-Some.script text (actors_of c.args.letters.now) c.in-Some.is is one_is_none,
    )

pub loop-letter-preserved : goal.loop-letter-preserved
loop-letter-preserved c = record {
  below = below_push c.args.letters.now c.loop-letter.letter-index c.in-Some.script.clients c.loop-letter-test.true c.loop-letter.invariant.below
      (omega (arith, c.if-actor-clients.false, c.clients.ensures, ap (λ (s : Script). s.clients) c.loop-letter.invariant.so_far));
  so_far = turn_push c.in-Some.script c.loop-letter.script c.push_turn.new.self c.args.letters.now c.loop-letter.letter-index c.loop-letter-test.true c.loop-letter.invariant.so_far c.in_ok-push_turn.ensures.ok;
}

pub returns : goal.returns
returns c text is =
    turns_step c.args.script.now c.in-Some.script c.loop-letter.script c.args.number c.loop-letter.letter-index c.args.letters.now text c.in-Some.is c.loop-letter-test.false is
    c.loop-letter.invariant.below c.loop-letter.invariant.so_far
