-- Words of other commands ask for no status.
use Rattle.command_words.specs.declared.command.ServedCommand.TheVariants as served
use Rattle.raidzx_top.specs.Call.{TopCall}
use Rattle.raidzx_top.specs.Served.{IsServedAs}
use Rattle.raidzx_top.specs.StatusCall.{StatusIsTold}

pub not_told : (call : TopCall) → (IsServedAs call.words served.Status → ⊥) → StatusIsTold call
not_told call none = record {
  unchanged = λ is. absurd (none is);
  quiet = λ is. absurd (none is);
  look = λ is. absurd (none is);
  complete = λ unhindered. absurd (none unhindered.served);
}
