use Rattle.core_state.specs.declared.answer.Kind.TheVariants.{Get}
use Rattle.copy_tests.proofs.UnderWay.{job_at_begin}
use Rattle.copy_tests.proofs.pool_on_bank.PoolOnBank.begin_get.Goals as goal

pub returns-in-More-clause-jobs : goal.returns-in-More-clause-jobs
returns-in-More-clause-jobs c = λ job of. job_at_begin c.args.self.now.core c.get_begin.new.self 0 c.args.id Get
    c.get_begin.result job c.get_begin.ensures.begins of
