-- What is read of the words is the command that they are.
use Rattle.std.proofs.Common.{◌≡◌, ◌∙◌, inl, inr, List, ℕ, [], ◌∷◌, Option, Some, true, false, refl, sym, ap, subst}
use Rattle.std.specs.Prelude.{Err}
use Rattle.clap.specs.Walk.{Row}
use Rattle.clap.specs.Simple.{subcommand_of}
use Rattle.clap.specs.Values.{kind_of}
use Rattle.clap.specs.Kinds.{HasKind, IsAmong, Kinds}
use Rattle.clap.specs.Faults.{fault_of}
use Rattle.clap.specs.declared.error.Error.{Error}
use Rattle.clap.specs.declared.error.kind.ErrorKind.{ErrorKind}
use Rattle.command_words.specs.Words.{IsCommand}
use Rattle.command_words.specs.Grammar.{command_words}
use Rattle.command_words.specs.Served.{Explains, IsServed, IsServedAs, command_of, is_help, name_of}
use Rattle.command_words.specs.Reading.{IsReadAs, IsReadIn, Refuses}
use Rattle.command_words.specs.declared.command.NoCommand.{NoCommand}
use Rattle.command_words.specs.declared.command.NoCommand.TheVariants as no_command
use Rattle.command_words.specs.declared.command.ServedCommand.{ServedCommand}
use Rattle.command_words.proofs.Spelling.{spelled_served}
use Rattle.command_words.proofs.Uniqueness.{one_command}

pub read_served : (words : List (List ℕ)) (below : Option (List ℕ × List Row)) (given : ServedCommand)
    → below ≡ subcommand_of command_words words → fault_of command_words words ≡ [] → IsReadIn below given
    → IsServedAs words given
read_served words below given is faultless read = record {
  rows = read.rows;
  taken = record {
    faultless = faultless;
    subcommand = sym is ∙ read.below_is ∙ ap (λ (name : List ℕ). Some (name, read.rows)) read.is.name_is;
  };
  read = read.is.read;
  in_range = read.is.in_range;
}

pub served_read : (words : List (List ℕ)) (below : Option (List ℕ × List Row)) (given : ServedCommand)
    → below ≡ subcommand_of command_words words → IsServedAs words given → IsReadIn below given
served_read words below given is served = record {
  name = name_of given;
  rows = served.rows;
  below_is = is ∙ served.taken.subcommand;
  is = record { name_is = refl; read = served.read; in_range = served.in_range };
}

-- No other command is read than the one that is spelled,
pub spelled_read : (words : List (List ℕ)) (read given : ServedCommand) → IsServedAs words read
    → IsCommand words (command_of given) → read ≡ given
spelled_read words read given is spelled = one_command words read given is (spelled_served words given spelled)

-- and it is refused for want of memory alone.
pub spelled_refused : (words : List (List ℕ)) (why : NoCommand) (given : ServedCommand) → Explains words why
    → IsCommand words (command_of given) → IsReadAs given (Err why)
spelled_refused words no_command.NoMemory given why spelled = tt
spelled_refused words no_command.Misspelled given why spelled =
    absurd (why.0 (given, spelled_served words given spelled))
spelled_refused words (no_command.Asked error) given why spelled =
    absurd (why.0 (given, spelled_served words given spelled))

-- ---- refusals

none_among : (words : List (List ℕ)) (kind : ErrorKind) → IsAmong kind (fault_of command_words words)
    → IsServed words → ⊥
none_among words kind among served = subst (λ (kinds : Kinds). IsAmong kind kinds) served.1.taken.faultless among

among_one : (kind answer : ErrorKind) → IsAmong kind (answer ∷ []) → kind ≡ answer
among_one kind answer (inl same) = same
among_one kind answer (inr none) = absurd none

-- An error of `clap` explains why the words are no command.
pub refused_explains : (words : List (List ℕ)) (error : Error) (why : NoCommand)
    → HasKind (fault_of command_words words) error → Refuses error why → Explains words why
refused_explains words error no_command.NoMemory kinds refuses = tt
refused_explains words error no_command.Misspelled (inl memory) refuses = absurd (refuses.0 memory)
refused_explains words error no_command.Misspelled (inr among) refuses = (
  none_among words (kind_of error) among,
  λ answer is. ap is_help (sym (among_one (kind_of error) answer
      (subst (λ (kinds : Kinds). IsAmong (kind_of error) kinds) is among))) ∙ refuses.1,
)
refused_explains words error (no_command.Asked told) (inl memory) refuses =
    absurd (clash (sym refuses.1 ∙ ap is_help memory))
  where
    clash : true ≡ false → ⊥
    clash same = cc
refused_explains words error (no_command.Asked told) (inr among) refuses =
    let among_told = subst (λ (kind : ErrorKind). IsAmong kind (fault_of command_words words)) (sym refuses.0) among in
    (none_among words (kind_of told) among_told, ap is_help refuses.0 ∙ refuses.1, among_told)
