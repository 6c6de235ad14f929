use Rattle.std.proofs.Common.{◌+◌, refl}
use Rattle.std.proofs.lemmas.Bool.{false≢true}
use Rattle.uberblock_ring.proofs.BirthRules.{all_from_none, births_right}
use Rattle.uberblock_ring.proofs.births.are_births_of.Goals as goal

pub returns-then-not-are_begun : goal.returns-then-not-are_begun
returns-then-not-are_begun c = record {
  value = (
    λ wrong. absurd (false≢true wrong),
    λ right. c.if-not-are_begun.ensures.value.1 (all_from_none (c.args.group + 2) c.args.births.now right.begun),
  );
}

pub returns : goal.returns
returns c = record {
  value = (
    λ grow. births_right c.args.births.now c.args.parity c.args.width c.args.group c.requires.few
        (c.if-not-have_ends.ensures.value.0 refl) (c.if-not-are_begun.ensures.value.0 refl) (c.are_growing.ensures.value.0 grow),
    λ right. c.are_growing.ensures.value.1 right.growing,
  );
}
