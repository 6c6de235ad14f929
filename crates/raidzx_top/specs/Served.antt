-- The commands that are carried out, of which some read a script.
use Rattle.std.specs.Prelude.{ℕ, List}
pub use Rattle.command_words.specs.Served.{IsServed, IsServedAs, command_of}
use Rattle.command_words.specs.declared.command.ServedCommand.{ServedCommand}
use Rattle.raidzx_top.specs.Call.{ReadsScript}

-- No command that is carried out by these words reads a script.
abbrev pub AsksNoScript : List (List ℕ) → Type 0
AsksNoScript words = (given : ServedCommand) → IsServedAs words given → ReadsScript (command_of given) → ⊥
