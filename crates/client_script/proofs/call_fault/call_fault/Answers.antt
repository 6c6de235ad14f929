use Rattle.std.proofs.Common.{ℕ, List, sym, subst}
use Rattle.std.specs.Prelude.{codes}
use Rattle.client_script.specs.Words.{HasNoCall}
use Rattle.client_script.specs.Faults.{IsCallFault}
use Rattle.client_script.proofs.Faults.{named_words, not_pattern, not_hex, not_id, more_than_name, unknown_name}
use Rattle.client_script.proofs.call_fault.call_fault.Goals as goal

pub put_fault-requires : goal.put_fault-requires
put_fault-requires c = not_pattern _ (subst HasNoCall (named_words _ _ (codes "put") _ c.in-Some.ensures.some (c.is_word.ensures.0 c.if-is_word.true)) c.requires)

pub puthex_fault-requires : goal.puthex_fault-requires
puthex_fault-requires c = not_hex _ (subst HasNoCall (named_words _ _ (codes "puthex") _ c.in-Some.ensures.some (c.is_word-else-is_word.ensures.0 c.if-is_word-2.true)) c.requires)

pub id_fault-requires-clause-no_id : goal.id_fault-requires-clause-no_id
id_fault-requires-clause-no_id c = not_id _ _ (c.is_id_name.ensures.0 c.if-is_id_name.true) (subst HasNoCall c.in-Some.ensures.some.whole c.requires)

pub returns-then-is_word : goal.returns-then-is_word
returns-then-is_word c =
    subst (λ (words : List ℕ). IsCallFault words c.put_fault.result) (sym (named_words _ _ (codes "put") _ c.in-Some.ensures.some (c.is_word.ensures.0 c.if-is_word.true))) c.put_fault.ensures

pub returns-then-is_word-2 : goal.returns-then-is_word-2
returns-then-is_word-2 c =
    subst (λ (words : List ℕ). IsCallFault words c.puthex_fault.result) (sym (named_words _ _ (codes "puthex") _ c.in-Some.ensures.some (c.is_word-else-is_word.ensures.0 c.if-is_word-2.true))) c.puthex_fault.ensures

pub returns-then-is_bare_name : goal.returns-then-is_bare_name
returns-then-is_bare_name c = more_than_name _ _ _ c.in-Some.ensures.some (c.is_bare_name.ensures.0 c.if-is_bare_name.true)

pub returns-then-is_id_name : goal.returns-then-is_id_name
returns-then-is_id_name c = subst (λ (words : List ℕ). IsCallFault words c.id_fault.result) (sym c.in-Some.ensures.some.whole) c.id_fault.ensures

pub returns-else-is_id_name : goal.returns-else-is_id_name
returns-else-is_id_name c =
    unknown_name _ _ _ c.in-Some.ensures.some
    (λ put. let passed = c.is_word.ensures.1 put in absurd (cc (passed, c.if-is_word.false)))
    (λ puthex. let passed = c.is_word-else-is_word.ensures.1 puthex in absurd (cc (passed, c.if-is_word-2.false)))
    (λ bare. let passed = c.is_bare_name.ensures.1 bare in absurd (cc (passed, c.if-is_bare_name.false)))
    (λ id. let passed = c.is_id_name.ensures.1 id in absurd (cc (passed, c.if-is_id_name.false)))
