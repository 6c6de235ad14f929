use Rattle.std.proofs.Common.{arith, refl}
use Rattle.std.proofs.lemmas.Bool.{false≢true}
use Rattle.std.proofs.lemmas.List.{take_rest}
use Rattle.width_map.specs.declared.birth.Birth.{Birth}
use Rattle.uberblock_ring.proofs.BirthRules.{grow_more, grow_none, growing_first, growing_starts}
use Rattle.uberblock_ring.proofs.births.are_growing.Goals as goal

-- what a place has that is not there
abbrev nothing : Birth
nothing = record { group = 0; width = 0 }

pub loop-next-init : goal.loop-next-init
loop-next-init c =
    let starts = growing_starts c.args.births.now _ nothing c.requires.some c.if-before-ne0.false (take_rest c.args.births.now 1) in
    record { enough = starts.0; needed = starts.1 }

pub loop-next-preserved : goal.loop-next-preserved
loop-next-preserved c =
    let more = grow_more c.loop-next.before _ c.loop-next.next-index nothing c.loop-next-test.true in
    record {
      enough = λ grow. c.loop-next.invariant.enough (more.1 (c.if-not-grows.ensures.value.0 refl) grow);
      needed = λ growing. (more.0 (c.loop-next.invariant.needed growing)).1;
    }

pub returns-then-before-ne0 : goal.returns-then-before-ne0
returns-then-before-ne0 c = record {
  value = (
    λ wrong. absurd (false≢true wrong),
    λ growing. absurd (c.if-before-ne0.true (growing_first c.args.births.now nothing c.requires.some growing)),
  );
}

pub returns-then-not-grows : goal.returns-then-not-grows
returns-then-not-grows c =
    let more = grow_more c.loop-next.before _ c.loop-next.next-index nothing c.loop-next-test.true in
    record {
      value = (
        λ wrong. absurd (false≢true wrong),
        λ growing. c.if-not-grows.ensures.value.1 (more.0 (c.loop-next.invariant.needed growing)).0,
      );
    }

pub returns : goal.returns
returns c = record {
  value = (λ yes. c.loop-next.invariant.enough (grow_none c.loop-next.before _ c.loop-next.next-index (omega arith)), λ growing. refl);
}
