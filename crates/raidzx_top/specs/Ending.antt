-- How a call ends.
use Rattle.std.specs.Prelude.{◌≡◌}
use Rattle.raidzx_top.specs.declared.order.Order.{Order}
use Rattle.raidzx_top.specs.declared.status.Status.{Status}
use Rattle.raidzx_top.specs.declared.status.Status.TheVariants as status
use Rattle.command_words.specs.declared.command.NoCommand.{NoCommand}
use Rattle.command_words.specs.declared.command.NoCommand.TheVariants as no_command
use Rattle.command_words.specs.declared.command.NewPool.{NewPool}
use Rattle.command_words.specs.declared.command.ServedCommand.TheVariants as served
use Rattle.raidzx_top.specs.Call.{TopCall, IsQuiet}
use Rattle.raidzx_top.specs.Order.{served_by}
use Rattle.raidzx_top.specs.Looking.{EndsStatus}
use Rattle.raidzx_top.specs.Making.{EndsCreate, IsSaid}
use Rattle.raidzx_top.specs.Running.{EndsRun}
use Rattle.raidzx_top.specs.RunText.{status_line}
use Rattle.raidzx_top.specs.Served.{IsServed, IsServedAs}

-- The words were no command.
pub record EndsUsage (call : TopCall) : Type 0 where
  pub quiet : IsQuiet call
  pub none : IsServed call.words → ⊥
  pub status_is : call.status ≡ status.Usage
  pub same : call.new ≡ call.old
  pub said : IsSaid call.sink.bytes call.sink_after.bytes call.sink.faults
      call.sink_after.faults (status_line status.Usage)

-- There was no memory to read the words.
pub record EndsUnread (call : TopCall) : Type 0 where
  pub quiet : IsQuiet call
  pub status_is : call.status ≡ status.NoMemory
  pub same : call.new ≡ call.old
  pub said : IsSaid call.sink.bytes call.sink_after.bytes call.sink.faults
      call.sink_after.faults (status_line status.NoMemory)

-- They asked for a new pool.
pub record EndsAsCreate (call : TopCall) : Type 0 where
  pub quiet : IsQuiet call
  pub made : NewPool
  pub served_as : IsServedAs call.words (served.Create made)
  pub ends : EndsCreate made call.old call.new call.sink.bytes call.sink_after.bytes
      call.sink.faults call.sink_after.faults call.status

-- They asked for a run or a replay.
pub record EndsAsRun (call : TopCall) : Type 0 where
  pub order : Order
  pub served_as : IsServedAs call.words (served_by order)
  pub ends : EndsRun order call.source call.source_after call.sink call.sink_after call.old
      call.new call.journal call.status call.turns

-- They asked what the devices show.
pub record EndsAsStatus (call : TopCall) : Type 0 where
  pub quiet : IsQuiet call
  pub served_as : IsServedAs call.words served.Status
  pub ends : EndsStatus call.old call.new call.sink call.sink_after call.status

-- how a call ends
pub data Ends (call : TopCall) : Type 0 where
  AsUsage : EndsUsage call → Ends call
  AsUnread : EndsUnread call → Ends call
  AsCreate : EndsAsCreate call → Ends call
  AsRun : EndsAsRun call → Ends call
  AsStatus : EndsAsStatus call → Ends call

-- the status of words that are no command
abbrev pub IsStatusOfWords : NoCommand → Status → Type 0
IsStatusOfWords no_command.NoMemory given = given ≡ status.NoMemory
IsStatusOfWords other given = given ≡ status.Usage
