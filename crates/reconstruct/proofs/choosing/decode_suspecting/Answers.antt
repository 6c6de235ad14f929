use Rattle.std.proofs.Common.{◌≡◌, ℕ, length, subst, arith, ⊎_elim}
use Rattle.std.proofs.lemmas.Bool.{cases_lt}
use Rattle.reconstruct.specs.Suspects.{choice_reach}
use Rattle.reconstruct.specs.Solved.{question_with}
use Rattle.reconstruct.specs.Tried.{IsFirstTold, NoneTold}
use Rattle.reconstruct.proofs.Choices.{decoded_first, damaged_all, none_of_none, some_at, none_at}
use Rattle.reconstruct.proofs.choosing.decode_suspecting.Goals as goal

pub loop-size-init : goal.loop-size-init
loop-size-init c = λ size low.
    let question = question_with c.args.layout.now c.args.rows.now c.args.lost.now c.args.len c.args.digest.now
    c.args.suspects.now in
    let none : 0 ≡ size = omega (arith, low) in
    subst (λ (k : ℕ). NoneTold question (choice_reach (length c.args.suspects.now) k) 0 k) none
    (none_of_none c.args.layout.now c.args.rows.now c.args.lost.now c.args.len c.args.digest.now c.args.suspects.now
    (length c.args.suspects.now) 0 c.parity-size-end.ensures.within.is c.requires.untold)

pub loop-size-preserved : goal.loop-size-preserved
loop-size-preserved c = λ size low.
    let question = question_with c.args.layout.now c.args.rows.now c.args.lost.now c.args.len c.args.digest.now
    c.args.suspects.now in
    ⊎_elim (λ smaller. c.loop-size.invariant size smaller)
    (λ last. let here : c.loop-size.size ≡ size = omega (arith, last, low) in
    subst (λ (k : ℕ). NoneTold question (choice_reach (length c.args.suspects.now) k) 0 k) here
    (subst (λ (k : ℕ). NoneTold question k 0 c.loop-size.size) c.reach.ensures.value
    (none_at _ c.in_ok-bytes.field-0 c.in_default.is c.in_ok-bytes.ensures.none)))
    (cases_lt size c.loop-size.size)

pub returns-in-Some-clause-ok : goal.returns-in-Some-clause-ok
returns-in-Some-clause-ok c =
    let question = question_with c.args.layout.now c.args.rows.now c.args.lost.now c.args.len c.args.digest.now
    c.args.suspects.now in
    decoded_first question c.loop-size.size c.in-Some.bytes.items (omega arith)
    (subst (λ (k : ℕ). IsFirstTold question k 0 c.loop-size.size c.in-Some.bytes.items) c.reach.ensures.value
    (some_at _ c.in_ok-bytes.field-0 c.in-Some.bytes c.in-Some.is c.in_ok-bytes.ensures.some)) c.loop-size.invariant

pub returns-clause-cause_damaged : goal.returns-clause-cause_damaged
returns-clause-cause_damaged c = λ is.
    damaged_all (question_with c.args.layout.now c.args.rows.now c.args.lost.now c.args.len c.args.digest.now
    c.args.suspects.now)
    (λ size low. c.loop-size.invariant size (omega (arith, low)))
