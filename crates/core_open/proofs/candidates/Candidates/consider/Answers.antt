use Rattle.std.proofs.Common.{◌≡◌, ◌++◌, ◌∷◌, [], inl, ℕ, List, Some, Option, refl, sym, subst}
use Rattle.std.specs.Prelude.{IfSome, slice_get}
use Rattle.block_record.specs.declared.entry.IndexEntry.{IndexEntry}
use Rattle.core_open.specs.declared.candidates.GivenIndex.{GivenIndex}
use Rattle.core_open.specs.declared.ring_uber.RingUber.{RingUber}
use Rattle.core_open.specs.Candidates.{HasIndex, IsIndexChoice, IsIndexFor}
use Rattle.core_open.specs.Holds.{shape_of}
use Rattle.core_open.specs.Lacking.{IsFirstGiver}
use Rattle.core_open.proofs.Considering.{alike_index, first_kept, first_more}
use Rattle.core_open.proofs.candidates.Candidates.consider.Goals as goal

pub returns-then-first_is_alike-clause-considered : goal.returns-then-first_is_alike-clause-considered
returns-then-first_is_alike-clause-considered g c = λ image holds has.
    let shape = shape_of (g.B.Bank.disk c.args.bank.now) in
    let ubers = c.args.self.now.ubers.items in
    let entries = c.args.self.now.entries.items in
    let there = c.if-first_is_alike.ensures.0 refl in
    let pushed : c.push.new.self.items ≡ ubers ++ c.args.ring_uber.now ∷ [] = c.in_ok-push.ensures.items in (
      inl (pushed, (entries, alike_index shape c.args.silent image there.0.uber c.args.ring_uber.now.uber entries there.2 (has there.0 there.1))),
      subst (λ (list : List RingUber). (first : RingUber) → slice_get list 0 ≡ Some first → HasIndex shape c.args.silent image first.uber entries)
          (sym pushed) (first_kept (λ (first : RingUber). HasIndex shape c.args.silent image first.uber entries) ubers c.args.ring_uber.now there.0 there.1 has),
    )

pub returns-in_ok-add-clause-first : goal.returns-in_ok-add-clause-first
returns-in_ok-add-clause-first g c =
    let fits : IsIndexFor c.args.ring_uber.now.uber c.in-Some.index.entries.items =
    subst (λ (found : Option GivenIndex). IfSome found (λ i. IsIndexFor c.args.ring_uber.now.uber i.entries.items)) c.in-Some.is
    c.in_ok-index.ensures.fits in
    subst (λ (list : List RingUber). (first : RingUber) → slice_get list 0 ≡ Some first → IsIndexFor first.uber c.add.new.self.entries.items)
    (sym c.in_ok-add.ensures.ubers)
    (first_more (λ first entries. IsIndexFor first.uber entries) c.args.self.now.ubers.items c.args.ring_uber.now c.args.self.now.entries.items
    c.in-Some.index.entries.items c.add.new.self.entries.items c.requires.first c.add.ensures.first c.add.ensures.others fits)

pub returns-in_ok-add-clause-considered : goal.returns-in_ok-add-clause-considered
returns-in_ok-add-clause-considered g c = λ image holds has.
    let shape = shape_of (g.B.Bank.disk c.args.bank.now) in
    let index : HasIndex shape c.args.silent image c.args.ring_uber.now.uber c.in-Some.index.entries.items =
    subst (λ (found : Option GivenIndex). IsIndexChoice shape c.args.silent image c.args.ring_uber.now.uber found) c.in-Some.is
    (c.in_ok-index.ensures.found image holds) in (
      inl (c.in_ok-add.ensures.ubers, (c.in-Some.index.entries.items, index)),
      subst (λ (list : List RingUber). (first : RingUber) → slice_get list 0 ≡ Some first
          → HasIndex shape c.args.silent image first.uber c.add.new.self.entries.items) (sym c.in_ok-add.ensures.ubers)
          (first_more (λ first entries. HasIndex shape c.args.silent image first.uber entries) c.args.self.now.ubers.items c.args.ring_uber.now
          c.args.self.now.entries.items c.in-Some.index.entries.items c.add.new.self.entries.items has c.add.ensures.first c.add.ensures.others index),
    )

pub returns-then-first_is_alike-clause-given : goal.returns-then-first_is_alike-clause-given
returns-then-first_is_alike-clause-given g c =
    let disk = g.B.Bank.disk c.args.bank.now in
    let ubers = c.args.self.now.ubers.items in
    let there = c.if-first_is_alike.ensures.0 refl in
    subst (λ (list : List RingUber). (first : RingUber) → slice_get list 0 ≡ Some first
    → IsFirstGiver disk c.args.silent first.uber c.args.self.now.entries.items c.args.self.now.giver) (sym c.in_ok-push.ensures.items)
    (first_kept (λ (first : RingUber). IsFirstGiver disk c.args.silent first.uber c.args.self.now.entries.items c.args.self.now.giver)
    ubers c.args.ring_uber.now there.0 there.1 c.requires.given)

pub returns-in_ok-add-clause-given : goal.returns-in_ok-add-clause-given
returns-in_ok-add-clause-given g c =
    let disk = g.B.Bank.disk c.args.bank.now in
    let given : IsFirstGiver disk c.args.silent c.args.ring_uber.now.uber c.in-Some.index.entries.items c.in-Some.index.device =
    subst (λ (found : Option GivenIndex). IfSome found
    (λ i. IsFirstGiver disk c.args.silent c.args.ring_uber.now.uber i.entries.items i.device)) c.in-Some.is
    c.in_ok-index.ensures.given in
    subst (λ (list : List RingUber). (first : RingUber) → slice_get list 0 ≡ Some first
    → IsFirstGiver disk c.args.silent first.uber c.add.new.self.entries.items c.add.new.self.giver) (sym c.in_ok-add.ensures.ubers)
    (first_more (λ first (index : List IndexEntry × ℕ). IsFirstGiver disk c.args.silent first.uber index.0 index.1)
    c.args.self.now.ubers.items c.args.ring_uber.now (c.args.self.now.entries.items, c.args.self.now.giver)
    (c.in-Some.index.entries.items, c.in-Some.index.device) (c.add.new.self.entries.items, c.add.new.self.giver)
    c.requires.given (λ none i. (c.add.ensures.first none i, c.add.ensures.giver none i))
    (λ some i. (c.add.ensures.others some i, c.add.ensures.same some i)) given)
