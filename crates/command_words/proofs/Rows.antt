-- Words that are written out, and what they are taken for.
use Rattle.std.proofs.Common.{◌≡◌, ℕ, List, Option, [], ◌∷◌, Some, refl, codes}
use Rattle.std.specs.Prelude.{option_map}
use Rattle.clap.specs.Walk.{first_of}
use Rattle.clap.specs.Simple.{subcommand_of}
use Rattle.clap.specs.Kinds.{Kinds}
use Rattle.clap.specs.Faults.{fault_of}
use Rattle.clap.specs.declared.error.kind.ErrorKind.TheVariants as kind
use Rattle.clap.proofs.OnLiterals.{clap_on_literals}
use Rattle.command_words.specs.Grammar.{command_words}

-- the faults of words behind the first one
abbrev faults : List (List ℕ) → Kinds
faults words = fault_of command_words (codes "--" ∷ words)

-- the value of an option
abbrev value : List ℕ → List (List ℕ) → Option (Option (List ℕ))
value option words = option_map (λ read. first_of option read.1) (subcommand_of command_words (codes "--" ∷ words))

-- Options stand in any order, also with their value in one word.
abbrev turned : List (List ℕ)
turned = codes "create" ∷ codes "--id=9" ∷ codes "--width" ∷ codes "3" ∷ codes "--parity=1" ∷ []

turned_taken : faults turned ≡ []
unfolding clap_on_literals
turned_taken = refl

turned_id : value (codes "id") turned ≡ Some (Some (codes "9"))
unfolding clap_on_literals
turned_id = refl

-- An option that is there twice is refused, and so is a flag;
option_twice : faults (codes "create" ∷ codes "--id" ∷ codes "9" ∷ codes "--id" ∷ codes "9" ∷ [])
    ≡ kind.ArgumentConflict ∷ []
unfolding clap_on_literals
option_twice = refl

flag_twice : faults (codes "run" ∷ codes "--attach" ∷ codes "--attach" ∷ []) ≡ kind.ArgumentConflict ∷ []
unfolding clap_on_literals
flag_twice = refl

-- a value that is not there, an option or a command that there is not, and words behind second dashes too.
no_value : faults (codes "create" ∷ codes "--id" ∷ []) ≡ kind.InvalidValue ∷ []
unfolding clap_on_literals
no_value = refl

unknown_option : faults (codes "run" ∷ codes "--fast" ∷ []) ≡ kind.UnknownArgument ∷ []
unfolding clap_on_literals
unknown_option = refl

unknown_command : faults (codes "resize" ∷ []) ≡ kind.UnknownArgument ∷ kind.InvalidSubcommand ∷ []
unfolding clap_on_literals
unknown_command = refl

behind_dashes : faults (codes "run" ∷ codes "--" ∷ codes "--attach" ∷ []) ≡ kind.UnknownArgument ∷ []
unfolding clap_on_literals
behind_dashes = refl

no_words : faults [] ≡ kind.MissingSubcommand ∷ []
unfolding clap_on_literals
no_words = refl

-- Help and the version are answers of their own.
help : faults (codes "--help" ∷ []) ≡ kind.DisplayHelp ∷ []
unfolding clap_on_literals
help = refl

help_of_command : faults (codes "create" ∷ codes "-h" ∷ []) ≡ kind.DisplayHelp ∷ []
unfolding clap_on_literals
help_of_command = refl

version : faults (codes "--version" ∷ []) ≡ kind.DisplayVersion ∷ []
unfolding clap_on_literals
version = refl
