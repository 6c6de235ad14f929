use Rattle.std.proofs.Common.{◌≡◌, ◌∙◌, ◌+◌, ◌++◌, ◌∷◌, [], ap, arith, List, subst, sym, take}
use Rattle.std.specs.Option.{option_copied}
use Rattle.std.proofs.lemmas.List.{take_all, take_more}
use Rattle.uberblock_ring.specs.Choice.{IsChosenOf, Shown}
use Rattle.uberblock_ring.proofs.choice.choose.Goals as goal

pub loop-other-preserved : goal.loop-other-preserved
loop-other-preserved c =
    let i = c.loop-other.other-index in
    let other = c.other-item.result in
    let longer : take (i + 1) c.args.shown.now ≡ take i c.args.shown.now ++ other ∷ [] =
    take_more c.args.shown.now i other c.loop-other-test.true
    ∙ ap (λ (s : Shown). take i c.args.shown.now ++ s ∷ []) (sym c.other-item.is) in
    subst (λ (seen : List Shown). IsChosenOf seen (option_copied c.better-choice.result)) (sym longer)
    (c.better-choice.ensures.chosen (take i c.args.shown.now) c.loop-other.invariant)

pub returns : goal.returns
returns c = record {
  chosen = subst (λ (seen : List Shown). IsChosenOf seen (option_copied c.loop-other.choice))
      (take_all c.loop-other.other-index c.args.shown.now (omega arith)) c.loop-other.invariant;
}
