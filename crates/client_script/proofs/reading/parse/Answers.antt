use Rattle.std.proofs.lemmas.Result.{IfOk-weaker}
use Rattle.client_script.proofs.Allowed.{allowed_calls, actors_of_clients}
use Rattle.client_script.proofs.OneAnswer.{each_script, each_fault, each_limit}
use Rattle.client_script.proofs.reading.parse.Goals as goal

pub returns-clause-allowed : goal.returns-clause-allowed
returns-clause-allowed c = IfOk-weaker c.read_all.result _ _ (λ script is. allowed_calls c.args.bytes.now script is) c.read_all.ensures.ok

pub returns-clause-actors : goal.returns-clause-actors
returns-clause-actors c = IfOk-weaker c.read_all.result _ _ (λ script is. actors_of_clients c.args.bytes.now script is) c.read_all.ensures.ok

pub returns-clause-every_script : goal.returns-clause-every_script
returns-clause-every_script c = each_script c.args.bytes.now c.read_all.result c.read_all.ensures.ok c.read_all.ensures.err

pub returns-clause-every_fault : goal.returns-clause-every_fault
returns-clause-every_fault c = each_fault c.args.bytes.now c.read_all.result c.read_all.ensures.ok c.read_all.ensures.err

pub returns-clause-every_limit : goal.returns-clause-every_limit
returns-clause-every_limit c = each_limit c.args.bytes.now c.read_all.result c.read_all.ensures.ok c.read_all.ensures.err
