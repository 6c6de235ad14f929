use Rattle.std.proofs.lemmas.Result.{IfOk-weaker}
use Rattle.command_words.specs.Grammar.{create_words, program_words, replay_words, run_words, status_words}
use Rattle.command_words.proofs.Subcommands.{subcommand_added}
use Rattle.command_words.proofs.grammar.program.Goals as goal

pub returns : goal.returns
returns c =
    let with_create = subcommand_added program_words create_words _ _ _ c.program_alone.ensures c.in_ok-create.ensures c.in_ok-subcommand.ensures in
    let with_run = subcommand_added _ run_words _ _ _ with_create c.in_ok-run.ensures c.in_ok-subcommand-2.ensures in
    let with_replay = subcommand_added _ replay_words _ _ _ with_run c.replay.ensures c.in_ok-subcommand-3.ensures in
    IfOk-weaker c.subcommand-4.result _ _ (λ now added. subcommand_added _ status_words _ _ now with_replay c.status.ensures added) c.subcommand-4.ensures
