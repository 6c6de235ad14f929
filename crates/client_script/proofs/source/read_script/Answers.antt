use Rattle.client_script.proofs.FromSource.{each_script, each_fault, each_limit}
use Rattle.client_script.proofs.source.read_script.Goals as goal

pub returns-clause-every_script : goal.returns-clause-every_script
returns-clause-every_script g c = λ bytes script well.
    each_script _ _ _ bytes well c.read_and_parse.result c.read_and_parse.ensures.ok c.read_and_parse.ensures.err script

pub returns-clause-every_fault : goal.returns-clause-every_fault
returns-clause-every_fault g c = λ bytes line well.
    each_fault _ _ _ bytes well c.read_and_parse.result c.read_and_parse.ensures.ok c.read_and_parse.ensures.err line

pub returns-clause-every_limit : goal.returns-clause-every_limit
returns-clause-every_limit g c = λ bytes well.
    each_limit _ _ _ bytes well c.read_and_parse.result c.read_and_parse.ensures.ok c.read_and_parse.ensures.err
