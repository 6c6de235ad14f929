-- The numbers of the exit statuses, and which status a refusal of a part gets.
use Rattle.std.specs.Prelude.{ℕ}
use Rattle.client_script.specs.declared.refused.ReadRefused.{ReadRefused}
use Rattle.client_script.specs.declared.refused.ReadRefused.TheVariants as read
use Rattle.core_open.specs.declared.why.OpenWhy.{OpenWhy}
use Rattle.core_open.specs.declared.why.OpenWhy.TheVariants as why
use Rattle.raidzx_top.specs.declared.status.Status.{Status}
use Rattle.raidzx_top.specs.declared.status.Status.TheVariants as status

abbrev pub exit_code : Status → ℕ
exit_code status.Done = 0
exit_code status.Usage = 1
exit_code (status.ScriptFault line why) = 2
exit_code status.NotPool = 3
exit_code (status.TooManyFailed out) = 4
exit_code status.TooSmall = 5
exit_code status.SourceFault = 6
exit_code status.SinkFault = 7
exit_code status.NoMemory = 8
exit_code status.Limit = 9

-- the status for why there is no script
abbrev pub read_status : ReadRefused → Status
read_status read.SourceFault = status.SourceFault
read_status (read.ScriptFault line why) = status.ScriptFault line why
read_status (read.Limit reached) = status.Limit
read_status read.NoMemory = status.NoMemory

-- the status for why a pool couldn't be made or opened
abbrev pub why_status : OpenWhy → Status
why_status why.NotPool = status.NotPool
why_status (why.TooManyFailed out) = status.TooManyFailed out
why_status (why.Limit group) = status.Limit
why_status why.NoMemory = status.NoMemory
