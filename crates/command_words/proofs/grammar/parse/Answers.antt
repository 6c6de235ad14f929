use Rattle.std.proofs.Common.{◌≡◌, ◌∙◌, ap, subst}
use Rattle.std.specs.Prelude.{map, string_bytes}
use Rattle.std.proofs.lemmas.Result.{IfOk-weaker}
use Rattle.clap.specs.Simple.{App, app_of, is_simple, subcommand_of}
use Rattle.clap.specs.Faults.{fault_of, is_simple_and_free}
use Rattle.clap.specs.Kinds.{FailsBy}
use Rattle.command_words.specs.Grammar.{command_words}
use Rattle.command_words.proofs.Simple.{grammar_is_free, grammar_is_simple}
use Rattle.command_words.proofs.grammar.parse.Goals as goal

pub returns : goal.returns
returns c =
    let is : app_of c.in_ok-program.program ≡ command_words = c.in_ok-program.ensures.app_is in
    let words = map string_bytes c.args.words.now in
    let parse = c.try_get_matches_from in
    record {
      rows = IfOk-weaker parse.result _ _
          (λ matches has. (has (ap is_simple is ∙ grammar_is_simple)).1
          ∙ ap (λ (app : App). subcommand_of app words) is) parse.ensures.matches;
      kinds = subst (λ (app : App). FailsBy (fault_of app words) parse.result) is
          (parse.ensures.kinds (ap is_simple_and_free is ∙ grammar_is_free));
    }
