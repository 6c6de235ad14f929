-- What is read of the words, step by step.
use Rattle.std.specs.Prelude.{◌≡◌, ◌≢◌, ◌^◌, ◌<◌, ℕ, List, Option, Some, Result, Ok, Err, true, false, ⊤}
use Rattle.clap.specs.Values.{kind_of}
use Rattle.clap.specs.declared.error.Error.{Error}
use Rattle.clap.specs.declared.error.kind.ErrorKind.TheVariants as kind
use Rattle.clap.specs.Walk.{Row}
use Rattle.command_words.specs.Words.{IsInRange, IsSize}
use Rattle.command_words.specs.Served.{IsCreateRead, IsRead, command_of, is_help, name_of}
use Rattle.command_words.specs.declared.command.NewPool.{NewPool}
use Rattle.command_words.specs.declared.command.ServedCommand.{ServedCommand}
use Rattle.command_words.specs.declared.command.NoCommand.{NoCommand}
use Rattle.command_words.specs.declared.command.NoCommand.TheVariants as no_command

-- These rows make this pool.
pub record IsCreateOf (rows : List Row) (made : NewPool) : Type 0 where
  pub read : IsCreateRead rows made
  pub size : IsSize made.parity made.width
  pub id : made.id < 2 ^ 64

-- A subcommand of this name, with these rows, is this command, whose numbers are in their ranges.
pub record IsReadOf (name : List ℕ) (rows : List Row) (given : ServedCommand) : Type 0 where
  pub name_is : name ≡ name_of given
  pub read : IsRead rows given
  pub in_range : IsInRange (command_of given)

-- What was read below the program is this command.
pub record IsReadIn (below : Option (List ℕ × List Row)) (given : ServedCommand) : Type 0 where
  pub name : List ℕ
  pub rows : List Row
  pub below_is : below ≡ Some (name, rows)
  pub is : IsReadOf name rows given

-- what an error of `clap` comes to
abbrev pub Refuses : Error → NoCommand → Type 0
Refuses error (no_command.Asked told) = (kind_of told ≡ kind_of error) × (is_help (kind_of error) ≡ true)
Refuses error no_command.Misspelled = (kind_of error ≢ kind.OutOfMemory) × (is_help (kind_of error) ≡ false)
Refuses error no_command.NoMemory = kind_of error ≡ kind.OutOfMemory

-- The command was read, unless there was no memory.
abbrev pub IsReadAs : ServedCommand → Result ServedCommand NoCommand → Type 0
IsReadAs given (Ok read) = read ≡ given
IsReadAs given (Err no_command.NoMemory) = ⊤
IsReadAs given (Err other) = ⊥
