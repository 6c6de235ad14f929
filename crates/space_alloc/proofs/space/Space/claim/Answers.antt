use Rattle.std.proofs.Common.{◌+◌, ◌<◌, ◌≤◌, ◌^◌, List, length, [], rules, ap, sym, ◌∙◌, subst, arith}
use Rattle.std.specs.Prelude.{vec_len}
use Rattle.std.proofs.lemmas.List.{length-map}
use Rattle.range_locks.proofs.Lists.{gains_item}
use Rattle.space_alloc.specs.declared.held.HeldEntry.{HeldEntry}
use Rattle.space_alloc.specs.Space.{Space}
use Rattle.space_alloc.specs.Entries.{held_run_of, in_use, run_of_entry, space_of}
use Rattle.space_alloc.proofs.Beside.{kept_put, kept_room}
use Rattle.space_alloc.proofs.Kept.{begins_elsewhere, IsApart}
use Rattle.space_alloc.proofs.Steps.{is_apart, takes}
use Rattle.space_alloc.proofs.space.Space.claim.Goals as goal

pub insert-requires-clause-elsewhere : goal.insert-requires-clause-elsewhere
insert-requires-clause-elsewhere c =
    let small : c.self.inside.capacity < 2 ^ 64 = search rules in
    let new = is_apart _ _ _ _ [] _ _ c.self.view_is small c.requires.len c.self.invariant.apart c.requires.free in
    begins_elsewhere _ _ _ c.self.invariant.apart new.0 new.1

pub invariant_of-self-2 : goal.invariant_of-self-2
invariant_of-self-2 c =
    let small : c.self.inside.capacity < 2 ^ 64 = search rules in
    let kept = kept_room _ _ c.reserve.new.self _ c.reserve-2.new.self c.self.invariant c.reserve.ensures.items c.reserve.ensures.len c.reserve.ensures.capacity
    c.reserve-2.ensures.items c.reserve-2.ensures.len c.reserve-2.ensures.capacity in
    let new = is_apart _ _ _ _ [] _ _ c.self.view_is small c.requires.len c.self.invariant.apart c.requires.free in
    let taken = length-map c.self.inside.taken run_of_entry in
    let held = length-map c.self.inside.held.items held_run_of in
    let same = c.self.inside.held.ok.0 in
    let most = subst (λ (s : Space). length s.taken + length s.held ≤ c.places-places.result) (sym c.self.view_is) c.places-places.ensures.enough in
    let enough : length c.self.inside.taken + vec_len c.self.inside.held ≤ c.places-places.result = omega (arith, taken, held, same, most) in
    kept_put _ _ _ _ _ _ kept c.flip_run.ensures.rising c.flip_run.ensures.flipped c.flip_run.ensures.len c.flip_run.ensures.capacity
    c.in_ok-insert.ensures.ok new.0
    (subst (λ (l : List HeldEntry). IsApart (in_use c.self.inside.taken l) (record { start = c.args.start; len = c.args.len }))
    (sym c.reserve.ensures.items) new.1)
    (omega (arith, c.in_ok-reserve-2.ensures.ok, enough, c.reserve.ensures.len))
    (omega (arith, c.in_ok-reserve.ensures.ok, c.places.ensures.enough))

pub returns-clause-ok : goal.returns-clause-ok
returns-clause-ok c = takes _ _ _ _ _ _ _
    (ap (λ (l : List HeldEntry). space_of c.self.inside.capacity c.self.inside.taken l) c.reserve.ensures.items ∙ c.self.view_is)
    c.in_ok-insert.ensures.ok

pub returns-clause-listed : goal.returns-clause-listed
returns-clause-listed c = gains_item _ _ _ (returns-clause-ok c).taken
