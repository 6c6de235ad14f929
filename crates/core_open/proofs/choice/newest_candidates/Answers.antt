use Rattle.std.proofs.Common.{◌≡◌, ◌<◌, ◌+◌, ◌++◌, ◌∷◌, [], ⊎_elim, List, get_or, length, refl, sym, subst, arith}
use Rattle.std.proofs.lemmas.Bool.{false≢true}
use Rattle.core_state.specs.Shown.{Shape}
use Rattle.core_open.specs.declared.ring_uber.RingUber.{RingUber}
use Rattle.core_open.specs.Candidates.{FirstHas, IsConsidered}
use Rattle.core_open.specs.Holds.{shape_of}
use Rattle.core_open.proofs.Givers.{first_given_after, first_given_before}
use Rattle.core_open.proofs.Newest.{AreFrom, from_more, from_past, group_ends, newest_more, newest_past, newest_whole}
use Rattle.core_open.proofs.Unchanged.{holds_then, room_then, shape_then, unchanged_then}
use Rattle.core_open.proofs.choice.newest_candidates.Goals as goal

pub returns-then-are_of_another_group-clause-listed : goal.returns-then-are_of_another_group-clause-listed
returns-then-are_of_another_group-clause-listed g c = λ k d low.
    let there = c.loop-ring_uber.invariant.from.listed k d low in (there.0, there.2, there.3)

pub returns-clause-listed : goal.returns-clause-listed
returns-clause-listed g c = λ k d low.
    let there = c.loop-ring_uber.invariant.from.listed k d low in (there.0, there.2, there.3)

pub returns-then-are_of_another_group-clause-newest : goal.returns-then-are_of_another_group-clause-newest
returns-then-are_of_another_group-clause-newest g c = λ image holds shown.
    let all = c.args.rings.now.ubers.items in
    let seen = c.loop-ring_uber.ring_uber-index in
    let ring_uber = c.ring_uber-item.result in
    let ubers = c.loop-ring_uber.candidates.ubers.items in
    let below : seen < length all = omega (arith, c.deref-ring_uber-items.ensures.len) in
    let is : ring_uber ≡ get_or all seen ring_uber =
    subst (λ (list : List RingUber). ring_uber ≡ get_or list seen ring_uber) c.deref-ring_uber-items.ensures.value c.ring_uber-item.is in
    let other = c.if-are_of_another_group.ensures.0 refl in
    newest_whole (shape_of (g.B.Bank.disk c.args.bank.now)) c.args.rings.now.silent image c.args.pool all shown seen ubers
    c.loop-ring_uber.candidates.entries.items c.loop-ring_uber.invariant.from (c.loop-ring_uber.invariant.newest image holds)
    (λ k d late low. (
      other.0,
      other.1,
      group_ends all c.requires.order seen ring_uber below is ubers other.0 c.loop-ring_uber.invariant.from other.1 other.2 k d late low,
    ))

pub returns-clause-newest : goal.returns-clause-newest
returns-clause-newest g c = λ image holds shown.
    newest_whole (shape_of (g.B.Bank.disk c.args.bank.now)) c.args.rings.now.silent image c.args.pool c.args.rings.now.ubers.items shown
    c.loop-ring_uber.ring_uber-index c.loop-ring_uber.candidates.ubers.items c.loop-ring_uber.candidates.entries.items c.loop-ring_uber.invariant.from
    (c.loop-ring_uber.invariant.newest image holds)
    (λ k d late low. absurd (omega (arith, late, low, c.loop-ring_uber-test.false, c.deref-ring_uber-items.ensures.len)))

pub loop-ring_uber-preserved-then-not-is_open : goal.loop-ring_uber-preserved-then-not-is_open
loop-ring_uber-preserved-then-not-is_open g c =
    let all = c.args.rings.now.ubers.items in
    let seen = c.loop-ring_uber.ring_uber-index in
    let ring_uber = c.ring_uber-item.result in
    let below : seen < length all = omega (arith, c.deref-ring_uber-items.ensures.len) in
    let is : ring_uber ≡ get_or all seen ring_uber =
    subst (λ (list : List RingUber). ring_uber ≡ get_or list seen ring_uber) c.deref-ring_uber-items.ensures.value c.ring_uber-item.is in
    record {
      unchanged = c.loop-ring_uber.invariant.unchanged;
      from = from_past all seen c.loop-ring_uber.candidates.ubers.items c.loop-ring_uber.invariant.from;
      fits = c.loop-ring_uber.invariant.fits;
      room = c.loop-ring_uber.invariant.room;
      given = c.loop-ring_uber.invariant.given;
      newest = λ image holds. newest_past (shape_of (g.B.Bank.disk c.args.bank.now)) c.args.rings.now.silent image c.args.pool all
          seen ring_uber below is c.loop-ring_uber.candidates.ubers.items c.loop-ring_uber.candidates.entries.items
          (λ opens. false≢true (c.if-not-is_open.ensures.1 opens)) (c.loop-ring_uber.invariant.newest image holds);
    }

pub loop-ring_uber-preserved : goal.loop-ring_uber-preserved
loop-ring_uber-preserved g c =
    let all = c.args.rings.now.ubers.items in
    let seen = c.loop-ring_uber.ring_uber-index in
    let ring_uber = c.ring_uber-item.result in
    let silent = c.args.rings.now.silent in
    let old = g.B.Bank.disk c.args.bank.now in
    let so_far = c.loop-ring_uber.invariant in
    let before = c.loop-ring_uber.candidates.ubers.items in
    let after = c.consider.new.self.ubers.items in
    let entries = c.loop-ring_uber.candidates.entries.items in
    let later = c.consider.new.self.entries.items in
    let one = c.in_ok-consider.ensures in
    let below : seen < length all = omega (arith, c.deref-ring_uber-items.ensures.len) in
    let is : ring_uber ≡ get_or all seen ring_uber =
    subst (λ (list : List RingUber). ring_uber ≡ get_or list seen ring_uber) c.deref-ring_uber-items.ensures.value c.ring_uber-item.is in
    record {
      unchanged = unchanged_then so_far.unchanged one.unchanged;
      from = ⊎_elim
          (λ (same : after ≡ before). subst (λ (list : List RingUber). AreFrom all (seen + 1) list) (sym same)
          (from_past all seen before so_far.from))
          (λ (more : after ≡ before ++ ring_uber ∷ []). subst (λ (list : List RingUber). AreFrom all (seen + 1) list) (sym more)
          (from_more all c.requires.order seen ring_uber below is before
          (λ other. false≢true (c.if-are_of_another_group.ensures.1 other)) so_far.from))
          one.ubers;
      fits = one.first;
      room = room_then after so_far.unchanged one.room;
      given = first_given_before old (g.B.Bank.disk c.loop-ring_uber.bank) silent after later c.consider.new.self.giver
          so_far.unchanged one.given;
      newest = λ image holds.
          let found = so_far.newest image holds in
          let considered = subst (λ (shape : Shape). IsConsidered shape silent image ring_uber before after × FirstHas shape silent image after later)
          (shape_then so_far.unchanged)
          (one.considered image (holds_then so_far.unchanged holds)
          (subst (λ (shape : Shape). FirstHas shape silent image before entries) (sym (shape_then so_far.unchanged)) found.first)) in
          newest_more (shape_of old) silent image c.args.pool all seen ring_uber below is before after entries later
          (c.if-not-is_open.ensures.0 refl) found considered.0 considered.1;
    }

pub consider-requires-clause-given : goal.consider-requires-clause-given
consider-requires-clause-given g c = first_given_after (g.B.Bank.disk c.args.bank.now) (g.B.Bank.disk c.loop-ring_uber.bank)
    c.args.rings.now.silent c.loop-ring_uber.candidates.ubers.items c.loop-ring_uber.candidates.entries.items c.loop-ring_uber.candidates.giver
    c.loop-ring_uber.invariant.unchanged c.loop-ring_uber.invariant.given
