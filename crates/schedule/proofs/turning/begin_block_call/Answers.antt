use Rattle.schedule.proofs.Words.{rules}
use Rattle.schedule.proofs.order.CallTurns.{read_begins}
use Rattle.schedule.proofs.turning.begin_block_call.Goals as goal

pub returns-in-Get-clause-begins : goal.returns-in-Get-clause-begins
returns-in-Get-clause-begins g c = read_begins c.args.core.now c.get_begin.new.self
    (g.B.Bank.disk c.args.bank.now).devices c.args.actor c.args.call.now
    c.get_begin.result _ (search rules) c.requires.id c.map-in-Get.ensures c.get_begin.ensures.begins
