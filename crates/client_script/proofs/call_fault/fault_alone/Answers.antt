use Rattle.client_script.proofs.Faults.{put_alone, name_alone, unknown_alone}
use Rattle.client_script.proofs.call_fault.fault_alone.Goals as goal

pub returns-then-is_put_name : goal.returns-then-is_put_name
returns-then-is_put_name c = put_alone _ (c.is_put_name.ensures.0 c.if-is_put_name.true)

pub returns-then-is_id_name : goal.returns-then-is_id_name
returns-then-is_id_name c = name_alone _ (c.is_id_name.ensures.0 c.if-is_id_name.true)

pub returns-else-is_id_name : goal.returns-else-is_id_name
returns-else-is_id_name c =
    unknown_alone _ c.requires.no_space c.requires.no_call
    (λ put. let passed = c.is_put_name.ensures.1 put in absurd (cc (passed, c.if-is_put_name.false)))
    (λ id. let passed = c.is_id_name.ensures.1 id in absurd (cc (passed, c.if-is_id_name.false)))
