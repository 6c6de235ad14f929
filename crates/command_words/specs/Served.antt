-- Which command the words are, by what `clap` reads of them.
use Rattle.std.specs.Prelude.{◌≡◌, ℕ, List, [], ◌∷◌, Some, Bool, true, false, ⊤, codes, decimal}
use Rattle.std.specs.Option.{option_map_or}
use Rattle.std.specs.Str.{bytes_eq}
use Rattle.clap.specs.Walk.{Row, first_of}
use Rattle.clap.specs.Simple.{subcommand_of}
use Rattle.clap.specs.Kinds.{IsAmong}
use Rattle.clap.specs.Faults.{fault_of}
use Rattle.clap.specs.Values.{kind_of}
use Rattle.clap.specs.declared.error.kind.ErrorKind.{ErrorKind}
use Rattle.clap.specs.declared.error.kind.ErrorKind.TheVariants as kind
use Rattle.command_words.specs.Words.{Command, Create, Run, Replay, Status, IsInRange}
use Rattle.command_words.specs.Grammar.{command_words}
use Rattle.command_words.specs.declared.command.NewPool.{NewPool}
use Rattle.command_words.specs.declared.command.ServedCommand.{ServedCommand}
use Rattle.command_words.specs.declared.command.ServedCommand.TheVariants as served
use Rattle.command_words.specs.declared.command.NoCommand.{NoCommand}
use Rattle.command_words.specs.declared.command.NoCommand.TheVariants as no_command

-- `clap` finds no fault in the words, and reads these rows of what stands behind this subcommand.
pub record IsTaken (words : List (List ℕ)) (name : List ℕ) (rows : List Row) : Type 0 where
  pub faultless : fault_of command_words words ≡ []
  pub subcommand : subcommand_of command_words words ≡ Some (name, rows)

-- The value of this option is this number, as numbers are spelled.
abbrev pub HasNumber : List Row → List ℕ → ℕ → Type 0
HasNumber rows option value = first_of option rows ≡ Some (decimal value)

-- whether this flag is there
abbrev pub has_flag : List Row → List ℕ → Bool
has_flag rows flag = option_map_or (λ text. bytes_eq text (codes "true")) (first_of flag rows) false

-- what is read behind `create`
pub record IsCreateRead (rows : List Row) (made : NewPool) : Type 0 where
  pub parity : HasNumber rows (codes "parity") made.parity
  pub width : HasNumber rows (codes "width") made.width
  pub id : HasNumber rows (codes "id") made.id

-- the subcommand's name
abbrev pub name_of : ServedCommand → List ℕ
name_of (served.Create made) = codes "create"
name_of (served.Run attaches) = codes "run"
name_of served.Replay = codes "replay"
name_of served.Status = codes "status"

-- What is read behind the name is this command's.
abbrev pub IsRead : List Row → ServedCommand → Type 0
IsRead rows (served.Create made) = IsCreateRead rows made
IsRead rows (served.Run attaches) = attaches ≡ has_flag rows (codes "attach")
IsRead rows served.Replay = ⊤
IsRead rows served.Status = ⊤

-- the command that is carried out; a run has no scrubber yet
abbrev pub command_of : ServedCommand → Command
command_of (served.Create made) = Create made.parity made.width made.id
command_of (served.Run attaches) = Run attaches false
command_of served.Replay = Replay
command_of served.Status = Status

-- The words are this command: `clap` takes them, each number is spelled as it has to be, and is in its range.
pub record IsServedAs (words : List (List ℕ)) (given : ServedCommand) : Type 0 where
  pub rows : List Row
  pub taken : IsTaken words (name_of given) rows
  pub read : IsRead rows given
  pub in_range : IsInRange (command_of given)

-- The words are a command that is carried out. (Others come with later work, and are none till then.)
abbrev pub IsServed : List (List ℕ) → Type 0
IsServed words = (given : ServedCommand) × IsServedAs words given

-- the kinds of answer that are help or a version
abbrev pub is_help : ErrorKind → Bool
is_help kind.DisplayHelp = true
is_help kind.DisplayVersion = true
is_help _ = false

-- If one kind of answer alone is possible, it is no help and no version.
abbrev pub AsksNothing : List (List ℕ) → Type 0
AsksNothing words = (answer : ErrorKind) → fault_of command_words words ≡ answer ∷ [] → is_help answer ≡ false

-- why the words are no command
abbrev pub Explains : List (List ℕ) → NoCommand → Type 0
Explains words (no_command.Asked error) = (IsServed words → ⊥)
    × (is_help (kind_of error) ≡ true) × IsAmong (kind_of error) (fault_of command_words words)
Explains words no_command.Misspelled = (IsServed words → ⊥) × AsksNothing words
Explains words no_command.NoMemory = ⊤
