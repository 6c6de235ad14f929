use Rattle.std.proofs.Common.{◌+◌, ◌-◌, ℕ, List, sym, subst, arith}
use Rattle.std.proofs.lemmas.Option.{IfSome_then}
use Rattle.reconstruct.specs.Solved.{question_with}
use Rattle.reconstruct.specs.Tried.{IsFirstTold, NoneTold}
use Rattle.reconstruct.proofs.Choices.{first_of_none, none_of_none, first_here, none_here, none_left, ok_both}
use Rattle.reconstruct.proofs.Choices.{some_both, none_also, some_at, none_at}
use Rattle.reconstruct.proofs.choosing.+try_choices.Goals as goal

pub returns-then-more-eq0-clause-some : goal.returns-then-more-eq0-clause-some
returns-then-more-eq0-clause-some t c =
    let search = c.args.search.now in
    ok_both c.decode_matching.result
    (λ found within both. IfSome_then found both
    (λ bytes told. subst (λ (k : ℕ). IsFirstTold (question_with search.layout.now search.rows.now c.args.lost.now
    search.len search.digest.now search.suspects.now) search.reach c.args.from k bytes.items) (sym c.if-more-eq0.true)
    (first_of_none search.layout.now search.rows.now c.args.lost.now search.len search.digest.now search.suspects.now
    search.reach c.args.from bytes.items within.is told.0 told.1)))
    c.decode_matching.ensures.within
    (ok_both c.decode_matching.result (λ found told alone. some_both _ _ found told alone)
    c.decode_matching.ensures.some c.decode_matching.ensures.alone)

pub returns-then-more-eq0-clause-none : goal.returns-then-more-eq0-clause-none
returns-then-more-eq0-clause-none t c =
    let search = c.args.search.now in
    ok_both c.decode_matching.result
    (λ found within none. none_also found
    (λ untold. subst (λ (k : ℕ). NoneTold (question_with search.layout.now search.rows.now c.args.lost.now search.len
    search.digest.now search.suspects.now) search.reach c.args.from k) (sym c.if-more-eq0.true)
    (none_of_none search.layout.now search.rows.now c.args.lost.now search.len search.digest.now search.suspects.now
    search.reach c.args.from within.is untold)) none)
    c.decode_matching.ensures.within c.decode_matching.ensures.none

pub loop-place-preserved : goal.loop-place-preserved
loop-place-preserved t c =
    let search = c.args.search.now in
    none_here search.layout.now search.rows.now c.args.lost.now search.len search.digest.now search.suspects.now
    search.reach c.args.from c.args.more c.loop-place.place (omega arith) (omega arith) (omega arith) c.requires.reach
    c.in_ok-fewer.fewer.items _ c.in_ok-fewer.ensures.within.is c.in_ok-fewer.ensures.value c.loop-place.invariant
    (subst (λ (k : List ℕ). NoneTold (question_with search.layout.now search.rows.now k search.len search.digest.now
    search.suspects.now) search.reach (c.loop-place.place + 1) (c.args.more - 1)) c.deref.ensures.value
    (none_at _ c.in_ok-bytes.field-0 c.in_default.is c.in_ok-bytes.ensures.none))

pub returns-in-Some-clause-some : goal.returns-in-Some-clause-some
returns-in-Some-clause-some t c =
    let search = c.args.search.now in
    first_here search.layout.now search.rows.now c.args.lost.now search.len search.digest.now search.suspects.now
    search.reach c.args.from c.args.more c.loop-place.place (omega arith) (omega arith) (omega arith) c.requires.reach
    c.in_ok-fewer.fewer.items _ c.in_ok-fewer.ensures.within.is c.in_ok-fewer.ensures.value c.loop-place.invariant
    c.in-Some.bytes.items
    (subst (λ (k : List ℕ). IsFirstTold (question_with search.layout.now search.rows.now k search.len search.digest.now
    search.suspects.now) search.reach (c.loop-place.place + 1) (c.args.more - 1) c.in-Some.bytes.items)
    c.deref.ensures.value (some_at _ c.in_ok-bytes.field-0 c.in-Some.bytes c.in-Some.is c.in_ok-bytes.ensures.some))

pub returns-clause-none : goal.returns-clause-none
returns-clause-none t c =
    let search = c.args.search.now in
    none_left search.layout.now search.rows.now c.args.lost.now search.len search.digest.now search.suspects.now
    search.reach c.args.from c.args.more c.loop-place.place (omega arith) (omega arith) c.loop-place.invariant
