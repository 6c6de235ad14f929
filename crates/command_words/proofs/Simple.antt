-- The grammar is one of those that `clap` states whole.
use Rattle.std.proofs.Common.{◌≡◌, true, refl}
use Rattle.clap.specs.Simple.{is_simple}
use Rattle.clap.specs.Faults.{is_simple_and_free}
use Rattle.clap.proofs.OnLiterals.{clap_on_literals}
use Rattle.command_words.specs.Grammar.{command_words}

pub grammar_is_simple : is_simple command_words ≡ true
unfolding clap_on_literals
grammar_is_simple = refl

pub grammar_is_free : is_simple_and_free command_words ≡ true
unfolding clap_on_literals
grammar_is_free = refl
