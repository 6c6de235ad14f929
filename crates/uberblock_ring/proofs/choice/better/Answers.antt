use Rattle.std.proofs.Common.{◌∙◌, ◌++◌, ◌∷◌, [], ap, Option, subst, sym}
use Rattle.std.specs.Option.{option_copied}
use Rattle.uberblock_ring.specs.Choice.{IsChosenOf, Shown}
use Rattle.uberblock_ring.proofs.Choosing.{chosen_first, chosen_kept, chosen_new, chosen_past}
use Rattle.uberblock_ring.proofs.choice.better.Goals as goal

pub returns-then-not-is_whole : goal.returns-then-not-is_whole
returns-then-not-is_whole c = record {
  chosen = λ seen chosen. chosen_past seen (option_copied c.args.choice) c.args.other.now chosen
      (sym c.is_whole.ensures.value ∙ c.if-not-is_whole.true);
}

pub returns-in-None : goal.returns-in-None
returns-in-None c = record {
  chosen = λ seen chosen. chosen_first seen c.args.other.now
      (subst (λ (choice : Option Shown). IsChosenOf seen choice) (ap option_copied c.in-None.is) chosen)
      (sym c.is_whole.ensures.value ∙ c.if-not-is_whole.false);
}

pub returns-then-precedes : goal.returns-then-precedes
returns-then-precedes c = record {
  chosen = λ seen chosen. subst (λ (choice : Option Shown). IsChosenOf (seen ++ c.args.other.now ∷ []) choice)
      (ap option_copied (sym c.in-Some.is))
      (chosen_kept seen c.in-Some.best.now c.args.other.now
      (subst (λ (choice : Option Shown). IsChosenOf seen choice) (ap option_copied c.in-Some.is) chosen) c.if-precedes.ensures.order);
}

pub returns-else-precedes : goal.returns-else-precedes
returns-else-precedes c = record {
  chosen = λ seen chosen. chosen_new seen c.in-Some.best.now c.args.other.now
      (subst (λ (choice : Option Shown). IsChosenOf seen choice) (ap option_copied c.in-Some.is) chosen) c.if-precedes.ensures.order
      (sym c.is_whole.ensures.value ∙ c.if-not-is_whole.false);
}
