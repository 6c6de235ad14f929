use Rattle.std.proofs.Common.{◌≡◌, ◌∙◌, ℕ, List, Bool, true, false, IsTrue, sym, subst, rules}
use Rattle.reconstruct.specs.declared.pair.Pair.{Pair}
use Rattle.reconstruct.specs.Suspects.{suspects_of}
use Rattle.reconstruct.specs.Solved.{columns_with, is_masked_lost, question_with, IsDecoded, IsDamaged, TellsBytes}
use Rattle.reconstruct.proofs.Choices.{decoded_by_none, none_at, some_at}
use Rattle.core_client.proofs.Decoded.{many_damaged}
use Rattle.core_client.proofs.fetching.checked_bytes.Goals as goal

not_both : (test : Bool) → IsTrue test → test ≡ false → ⊥
not_both true is isnt = absurd cc
not_both false is isnt = absurd cc

pub returns-then-not-has_lost_few-clause-cause_damaged : goal.returns-then-not-has_lost_few-clause-cause_damaged
returns-then-not-has_lost_few-clause-cause_damaged c = λ is.
    many_damaged c.args.layout.now c.args.read.now c.args.len c.args.digest.now c.args.widths.now c.requires.len
    (λ few. not_both c.has_lost_few.result (c.has_lost_few.ensures.1 few) c.if-not-has_lost_few.true)

pub decode_suspecting-requires-clause-untold : goal.decode_suspecting-requires-clause-untold
decode_suspecting-requires-clause-untold c =
    subst (λ (masks : List ℕ). (bytes : List ℕ) → TellsBytes c.args.layout.now
    (columns_with c.args.read.now.rows masks) (is_masked_lost masks) c.args.len c.args.digest.now bytes → ⊥)
    (c.deref.ensures ∙ sym c.deref-2.ensures)
    (none_at _ c.in_ok-bytes.field-0 c.in_default.is c.in_ok-bytes.ensures.none)

pub returns-in-Some-clause-decoded : goal.returns-in-Some-clause-decoded
returns-in-Some-clause-decoded c =
    let pairs : List Pair = suspects_of c.args.widths.now.births c.args.widths.now.to c.args.widths.now.mark in
    subst (λ (masks : List ℕ). IsDecoded (question_with c.args.layout.now c.args.read.now.rows masks c.args.len
    c.args.digest.now pairs) c.in-Some.bytes.items) c.deref.ensures
    (decoded_by_none c.args.layout.now c.args.read.now.rows c.deref.result.now c.args.len c.args.digest.now pairs
    c.in-Some.bytes.items c.in_ok-bytes.ensures.within.is
    (some_at _ c.in_ok-bytes.field-0 c.in-Some.bytes c.in-Some.is c.in_ok-bytes.ensures.some)
    (some_at _ c.in_ok-bytes.field-0 c.in-Some.bytes c.in-Some.is c.in_ok-bytes.ensures.alone))

pub returns-in-Err-Damaged-clause-cause_damaged : goal.returns-in-Err-Damaged-clause-cause_damaged
returns-in-Err-Damaged-clause-cause_damaged c = λ is.
    let pairs : List Pair = suspects_of c.args.widths.now.births c.args.widths.now.to c.args.widths.now.mark in
    subst (λ (masks : List ℕ). IsDamaged (question_with c.args.layout.now c.args.read.now.rows masks c.args.len
    c.args.digest.now pairs)) c.deref-2.ensures
    (subst (λ (k : List Pair). IsDamaged (question_with c.args.layout.now c.args.read.now.rows c.deref-2.result.now
    c.args.len c.args.digest.now k)) (c.deref-3.ensures.value ∙ c.in_ok-pairs.ensures.value)
    (c.in-Err-Damaged.ensures.cause_damaged (search rules)))
