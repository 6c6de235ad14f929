-- In which order the calls of a script are carried out.
use Rattle.std.specs.Prelude.{◌≡◌, ℕ, List, [], ⊤}
use Rattle.core_state.specs.declared.item.Group.{Group as GroupItem}
use Rattle.client_script.specs.Script.{Script}
use Rattle.pool_live.specs.Widening.{IsAlone, IsScriptWith}
use Rattle.raidzx_top.specs.declared.order.Order.{Order}
use Rattle.raidzx_top.specs.declared.order.Order.TheVariants.{AsTheyCome, AsListed}
use Rattle.command_words.specs.declared.command.ServedCommand.{ServedCommand}
use Rattle.command_words.specs.declared.command.ServedCommand.TheVariants as served

-- the command that carries a script out in this order
abbrev pub served_by : Order → ServedCommand
served_by (AsTheyCome attaches) = served.Run attaches
served_by AsListed = served.Replay

-- What is carried out of a script, on a pool that was opened so: in a run also the calls of the client that widens the
-- pool, where a device is to be attached or an expansion runs.
abbrev pub IsCarriedBy : Order → Script → GroupItem → Script → Type 0
IsCarriedBy (AsTheyCome attaches) script opened carried = IsScriptWith script attaches opened carried
IsCarriedBy AsListed script opened carried = carried ≡ script

-- It is said whose turn each is: in a replay, and in the run of an only client, beside which none widens the pool. The
-- clients of another run take theirs as they come.
abbrev pub IsInTurn : Order → Script → GroupItem → Type 0
IsInTurn (AsTheyCome attaches) script opened = IsAlone script attaches opened
IsInTurn AsListed script opened = ⊤

-- the clients whose turns come first: none where each call is carried out whole, in the order of the lines
abbrev pub listed_by : Order → Script → List ℕ
listed_by (AsTheyCome attaches) script = []
listed_by AsListed script = script.order
